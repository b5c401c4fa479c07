-- What is known where a function has read a field of a profile p: `c.p.inside` has the fields that hold the numbers
-- `c.args.p`, and these are accepted.
use mathlib.Core.Path.{◌≡◌, ap, subst}
use Rattle.document.specs.declared.Profile.TheInside.{Inside}
use Rattle.document.specs.Accepted.{Profile, Accepted}
use Rattle.document.specs.Fields.{numbers_in, fields_of}

-- of `c.p.view_is`
module _ {x : Inside} {p : Profile} (e : numbers_in x ≡ p) where
  pub fields : x ≡ fields_of p
  fields = ap fields_of e

  -- of `c.p.invariant`
  pub is_accepted : Accepted (numbers_in x) → Accepted p
  is_accepted = subst Accepted e
