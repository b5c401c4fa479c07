-- `ksets::share` meets its contract: k of n of the sets have the first node.
use mathlib.Core.Path.{ap, ◌∙◌}
use Prim.Native.Nat.{ℕ, ◌*◌, ◌/◌}
use native.Mathlib.Omega.{arith}
use Rattle.ksets.proofs.Pascal.{share_fits, share_is}
use Rattle.ksets.proofs.share.Goals as goal

pub overflow_mul-result : goal.overflow_mul-result
overflow_mul-result c =
    let p = c.requires in
    let e = ap (λ (t : ℕ). t * c.args.k) p.all in
    omega (arith, e, share_fits c.args.n c.args.k p.few p.node p.chosen)

pub returns : goal.returns
returns c =
    ap (λ (t : ℕ). t * c.args.k / c.args.n) c.requires.all
    ∙ share_is c.args.n c.args.k c.requires.node c.requires.chosen
