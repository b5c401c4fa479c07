-- The partners of the half pairs: how long their strips are, where those of a row lie, how they are completed, and that they
-- are no more than all strips.
use mathlib.Core.Path.{◌≡◌, refl, sym, ap, ◌∙◌}
use mathlib.Core.Bool.{not}
use mathlib.Core.List.{List}
use Prim.Native.Nat.{ℕ, ◌+◌, ◌*◌, ◌≤◌, ◌<◌}
use native.Mathlib.Nat.{add-mul, mul_assoc, mul-le-mul_right}
use native.Mathlib.Numerals.{add-one}
use native.Mathlib.Omega.{arith}
use lib.Arith.{digits_lt}
use lib.ListN.{length, get_or}
use lib.Seq.{get_or-take}
use Rattle.lists.proofs.Listed.{listed_length}
use Rattle.lists.proofs.Rising.{rising_length}
use Rattle.ksets.specs.Sets.{Rising}
use Rattle.strips.specs.Strips.{combination_of}
use Rattle.square.specs.declared.Line.{Line}
use Rattle.square.specs.Steps.{line_at}
use Rattle.document.specs.declared.Profile.{Profile}
use Rattle.document.specs.Profile.{Accepted}
use Rattle.document.proofs.Bounds.{room}
use Rattle.half_pairs.specs.declared.HalfPairs.{HalfPairs}
use Rattle.half_pairs.specs.HalfPairs.{is_named, partner_at, half_pairs, half_pair_at, HalfPairsOf}
use Rattle.half_pairs.proofs.System.{halves_front}
use Rattle.half_pairs.proofs.Symbols.{U, half_each}
use Rattle.reading.specs.Steps.{partner_strip, completed_strip, completed}

pub partner_length : (p : Profile) (nodes line r : List ℕ) → length (partner_strip p nodes line r) ≡ p.s
unfolding partner_strip combination_of
partner_length p nodes line r = listed_length p.s _

-- the strips completed one by one
module _ (p : Profile) (nodes : List ℕ) (lines : List Line) (r y : List ℕ) where
  pub completed_none : y ≡ completed p nodes lines r 0 y
  unfolding completed
  completed_none = refl

  pub completed_next : (e : ℕ)
      → completed_strip p nodes (line_at lines e) r e (completed p nodes lines r e y) ≡ completed p nodes lines r (e + 1) y
  unfolding completed
  completed_next e = rw (add-one e)

module _ (p : Profile) (acc : Accepted p) (nodes : List ℕ) (rises : Rising p.n p.k nodes) where
  open p use {n, k, a as A, s as S}

  -- the strip of row i in column q
  pub strip_fits : (i q : ℕ) → i < A → q < k → i * S + q * (A * S) + S ≤ k * A * S
  strip_fits i q h l =
      omega (arith, room (q * A + i) (k * A) S (digits_lt l h), add-mul (q * A) i S, mul_assoc q A S)

  pub half_below : (e : ℕ) → e < U p nodes → half_pair_at p nodes e < k * A
  half_below e h = (half_each p nodes acc rises e h).1

-- the partners' strips are no more than all strips
halves_fit : (p : Profile) (nodes : List ℕ) → length (half_pairs p nodes) * p.s ≤ p.k * p.a * p.s
unfolding half_pairs
halves_fit p nodes =
    mul-le-mul_right p.s
    (rising_length (λ z. not (is_named p.k nodes (partner_at p nodes z).node.0)) (p.k * p.a))

-- ---- as the code has the half pairs
module _ {p : Profile} {nodes : List ℕ} {h : HalfPairs} (made : HalfPairsOf p nodes h) where
  pub half_entry : (e : ℕ) → e < h.count → get_or h.halves e 0 ≡ half_pair_at p nodes e
  half_entry e l =
      sym (get_or-take h.count h.halves e 0 l) ∙ ap (λ (xs : List ℕ). get_or xs e 0) (halves_front made)

  pub halves_room : h.count * p.s ≤ p.k * p.a * p.s
  halves_room = rw made.count (halves_fit p nodes)
