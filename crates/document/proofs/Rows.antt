-- The rows of base symbols: each is a word of the row code, with the data at the first k nodes.
use mathlib.Core.Path.{◌≡◌}
use mathlib.Core.List.{List}
use Prim.Native.Nat.{ℕ, ◌<◌}
use native.Mathlib.Omega.{arith}
use Rattle.algebra.specs.RowCode.{Codeword}
use Rattle.algebra.specs.Encoding.{symbols}
use Rattle.algebra.proofs.Encoding.{symbols_data, symbols_word}
use Rattle.document.specs.declared.Profile.{Profile}
use Rattle.document.specs.Profile.{Accepted}
use Rattle.document.specs.Places.{place}
use Rattle.document.specs.ByteField.{bytes, byte}
use Rattle.document.specs.Encoding.{byte_at, base_at}
use Rattle.document.proofs.ByteField.{points_distinct}

module _ (p : Profile) (d : List ℕ) (b i : ℕ) where
  open p use {n, k}

  pub row_word : Codeword bytes n byte k (λ j. base_at p d b (place j i))
  unfolding base_at symbols
  row_word = symbols_word bytes k byte n (λ i q. byte_at p d b (place q i)) i

  pub row_data : Accepted p → (j : ℕ) → j < k → base_at p d b (place j i) ≡ byte_at p d b (place j i)
  unfolding base_at symbols
  row_data acc =
      symbols_data bytes k byte (points_distinct k (omega (arith, acc.shape.some_parity, acc.shape.few_nodes)))
      (λ i q. byte_at p d b (place q i)) i
