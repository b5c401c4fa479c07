-- A list whose front of k entries was lent and written: e is what stands there now, before the rest.
use mathlib.Core.Path.{◌≡◌, sym, ap, ◌∙◌}
use mathlib.Core.List.{List, ◌++◌}
use Prim.Native.Nat.{ℕ, ◌≤◌}
use native.Mathlib.Nat.{zero-add}
use native.Mathlib.Omega.{arith}
use lib.ListN.{length, length-append, take, drop}
use lib.Seq.{take_at}
use Rattle.lists.specs.Put.{put, Wrote}

module _ {k : ℕ} (e rest : List ℕ) (h : length e ≡ k) where
  pub front_fits : k ≤ length (e ++ rest)
  front_fits = rw length-append (omega arith)

  pub front : take k (e ++ rest) ≡ e
  front = take_at e rest k h

-- the rest stays as it was
pub front_wrote : (d e : List ℕ) {k : ℕ} → length e ≡ k → Wrote d 0 e k (e ++ drop k d)
unfolding put
front_wrote d e h =
    let ends = sym h ∙ sym (zero-add (length e)) in
    record { ends = ends; holds = ap (λ (m : ℕ). e ++ drop m d) ends }
