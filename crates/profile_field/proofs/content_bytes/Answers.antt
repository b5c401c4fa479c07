-- `profile_field::content_bytes` meets its contract: the edition is written, and is part of the content from edition 2
-- on.
use mathlib.Core.Path.{◌≡◌, refl}
use mathlib.Core.Bool.{Bool, true, false, cond}
use mathlib.Core.List.{[], ◌∷◌}
use Prim.Native.Nat.{ℕ}
use lib.Dec.{eqb}
use lib.ListN.{length, take}
use Rattle.fields.specs.Fields.{two_bytes}
use Rattle.document.specs.Message.{edition_bytes, profile_content}
use Rattle.document.proofs.Fields.{fields}
use Rattle.profile_field.proofs.content_bytes.Goals as goal

last : (first : Bool) (e : ℕ) → take (length (cond first [] (e ∷ []))) (e ∷ []) ≡ cond first [] (e ∷ [])
last true e = refl
last false e = refl

pub returns : goal.returns
unfolding profile_content two_bytes edition_bytes
returns c =
    let e = c.args.p.edition in
    rw (c.two_bytes.ensures, fields c.p.view_is, last (eqb e 1) e)
