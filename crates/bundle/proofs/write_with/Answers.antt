-- `bundle::write_with` meets its contract: each return is the answer of the tests that led there.
use mathlib.Core.Path.{◌≡◌, sym, ap, ◌∙◌}
use Prim.Native.Nat.{◌*◌, ◌<◌}
use native.Mathlib.Omega.{arith}
use lib.ListN.{length}
use Rattle.document.specs.Profile.{Accepted}
use Rattle.document.specs.Message.{message_length}
use Rattle.document.specs.Bundle.{lost_content_length, bundle_length}
use Rattle.document.proofs.Fields.{fields, is_accepted}
use Rattle.document.proofs.Price.{planned_price}
use Rattle.bundle.proofs.Answers.{node_refused, array_refused, bundle_refused, done}
use Rattle.bundle.proofs.write_with.Goals.{After-bundle_length-length, Else-f-p}
use Rattle.bundle.proofs.write_with.Goals as goal

-- past the test of the lost node
module _ (c : Else-f-p) where
  known : c.args.f.0 < c.args.p.n
  known = let below : c.args.f.0 < c.p.inside.n = omega (arith, c.if-f-p.false) in rw (fields c.p.view_is) at below

-- past that of the array
module _ (c : After-bundle_length-length) where
  accepted : Accepted c.args.p
  accepted = is_accepted c.p.view_is c.p.invariant

  whole : length c.args.array.now ≡ c.args.p.n * c.args.p.a * c.args.p.s
  whole = rw (fields c.p.view_is) at c.if-array-p.false

  -- the length that was worked out is the bundle's
  size : c.args.f.0 < c.args.p.n → c.bundle_length-length.result ≡ bundle_length c.args.p c.args.f
  size below =
      c.bundle_length-length.ensures
      ∙ sym (ap (message_length c.args.p lost_content_length) (planned_price _ accepted _ below))

pub returns-then-f-p : goal.returns-then-f-p
returns-then-f-p c = node_refused _ _ _ _ _ (rw (fields c.p.view_is) at c.if-f-p.true)

pub returns-then-array-p : goal.returns-then-array-p
returns-then-array-p c =
    array_refused _ _ _ _ _ (known (goal.at.returns-then-array-p c).Else-f-p)
    (rw (fields c.p.view_is) at c.if-array-p.true)

pub returns-then-bundle-length : goal.returns-then-bundle-length
returns-then-bundle-length c =
    let below = known (goal.at.returns-then-bundle-length c).Else-f-p in
    let past = (goal.at.returns-then-bundle-length c).After-bundle_length-length in
    bundle_refused _ _ _ _ _ below (whole past) (λ e. c.if-bundle-length.true (e ∙ sym (size past below)))

pub put_bundle-requires-clause-room : goal.put_bundle-requires-clause-room
put_bundle-requires-clause-room c =
    let at = goal.at.put_bundle-requires-clause-room c in
    c.if-bundle-length.false ∙ size at.After-bundle_length-length (known at.Else-f-p)

pub returns : goal.returns
returns c =
    let below = known (goal.at.returns c).Else-f-p in
    let past = (goal.at.returns c).After-bundle_length-length in
    done _ _ _ _ _ below (whole past) (accepted past) (c.if-bundle-length.false ∙ size past below) (size past below)
    c.put_bundle.ensures
