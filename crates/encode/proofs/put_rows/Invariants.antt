-- `encode::put_rows` meets its contract. The invariant: the columns before node j are those of the base symbols.
use mathlib.Core.Path.{◌≡◌}
use Prim.Native.Nat.{◌*◌}
use lib.ListN.{length, take}
use Rattle.document.specs.Encoding.{base_at, laid_out}
use Rattle.encode.proofs.put_rows.Given as goal

abbrev pub invariant-loop-j : goal.invariant-loop-j
invariant-loop-j l = record {
  size : length l.array ≡ l.p.n * l.p.a * l.p.s;
  columns : take (l.j * (l.p.a * l.p.s)) l.array ≡ laid_out l.p l.j (base_at l.p l.input);
}
