-- What the code cuts from the array is the strip.
use mathlib.Core.Path.{◌≡◌, ap}
use Prim.Native.Nat.{◌+◌, ◌-◌}
use native.Mathlib.Omega.{arith}
use Rattle.lists.specs.Put.{slice}
use Rattle.document.specs.Encoding.{strip_of}
use Rattle.message.specs.declared.Message.{Message}
use Rattle.message.proofs.Message.put_strip_of.Goals as goal

pub returns : goal.returns
unfolding strip_of slice
returns c =
    let from = c.start-from.result in
    let read = c.self.inside.0.0.s in
    let cut : from + read - from ≡ c.args.self.now.profile.s =
    omega (arith, ap (λ (m : Message). m.profile.s) c.self.view_is) in
    rw (cut, c.start-from.ensures) at c.put_strip.ensures
