-- `Profile::constant` meets its contract: t is a byte.
use mathlib.Core.Path.{sym}
use native.Mathlib.Omega.{arith}
use Rattle.document.proofs.ByteField.{number_byte}
use Rattle.document.specs.Encoding.{constant_of}
use Rattle.document.proofs.Profile.constant.Goals as goal

pub returns : goal.returns
unfolding constant_of
returns c = rw (← c.self.view_is) (sym (number_byte c.self.inside.t (omega (arith, c.self.invariant))))
