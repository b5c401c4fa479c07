-- `gf256::inverse` meets its contract: each return is one case of the answer.
use mathlib.Core.Path.{sym, ap, ◌∙◌}
use native.Mathlib.Omega.{arith}
use Rattle.std.specs.Prelude.{Some}
use Rattle.gf256.proofs.Inverses.{inverted_zero, inverted_above}
use Rattle.gf256.proofs.inverse.Goals as goal

pub returns-then-a-eq0 : goal.returns-then-a-eq0
returns-then-a-eq0 c = sym (inverted_zero c.if-a-eq0.true)

pub returns : goal.returns
returns c = ap Some c.inverse_of.ensures ∙ sym (inverted_above (omega arith))
