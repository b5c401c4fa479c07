-- What the strips read give of the base strips, pair by pair.
use mathlib.Core.Path.{◌≡◌, refl, sym, ap, ap₂, ◌∙◌}
use mathlib.Core.List.{List}
use Prim.Native.Nat.{ℕ, ◌+◌, ◌*◌, ◌/◌, ◌%◌, ◌≤◌, ◌<◌}
use native.Mathlib.Nat.{div-lt_iff_lt-mul, div-add-mod'}
use native.Mathlib.Decide.{dec_lt}
use native.Mathlib.Omega.{arith}
use lib.ListN.{length, get_or}
use Rattle.lists.specs.Listed.{listed}
use Rattle.lists.proofs.Listed.{listed_length, listed_at, listed_ext}
use Rattle.gf256.specs.Field.{◌⊕◌, ◌⊗◌, inverse}
use Rattle.ksets.specs.Sets.{Rising}
use Rattle.ksets.proofs.Ranked.{risen_length}
use Rattle.algebra.specs.HalfPairs.{known}
use Rattle.algebra.specs.Coupling.{pair, base}
use Rattle.algebra.proofs.Pick.{pick_yes, pick_no}
use Rattle.strips.specs.Strips.{strip_at}
use Rattle.strips.proofs.Strip.{strip_length}
use Rattle.document.specs.declared.Profile.{Profile}
use Rattle.document.specs.Profile.{Accepted}
use Rattle.document.specs.ByteField.{bytes, Byte, byte, number}
use Rattle.document.specs.Encoding.{factor_at}
use Rattle.document.proofs.Bounds.{A>0}
use Rattle.document.proofs.ByteField.{number_byte}
use Rattle.lists.specs.Positions.{position_in}
use Rattle.coupling.specs.Pairs.{uncoupled_strip}
use Rattle.half_pairs.specs.HalfPairs.{named, partner_at, joined_at}
use Rattle.half_pairs.proofs.Named.{named_positions}
use Rattle.reading.specs.Steps.{known_strip}

strip_at_lem : (x : List ℕ) (at s b : ℕ) → b < s → get_or (strip_at x at s) b 0 ≡ get_or x (at + b) 0
unfolding strip_at
strip_at_lem x at s b h = listed_at s _ b 0 h

-- the base symbol of a pair, in numbers
base_number : (t d u v : Byte)
    → inverse (number d) ⊗ (number u ⊕ (number t ⊗ number v))
    ≡ number (bytes.mul (bytes.inv d) (bytes.add u (bytes.mul t v)))
unfolding bytes number
base_number t d u v = refl

module _ (p : Profile) (nodes x : List ℕ) where
  pub known_length : (z : ℕ) → length (known_strip p nodes x z) ≡ p.s
  unfolding known_strip
  known_length z = listed_length p.s _

  module _ (acc : Accepted p) (rises : Rising p.n p.k nodes) (small : (e : ℕ) → get_or x e 0 < 256) where
    open p use {k, a as A, s as S}

    module _ (z : ℕ) (h : z < k * A) where
      abbrev own : ℕ
      own = named nodes (z / A)

      abbrev l : ℕ
      l = own % A

      abbrev other : ℕ
      other = (partner_at p nodes z).node.0

      -- strip z is that of its own place
      own_strip : position_in nodes own * A + z % A ≡ z
      own_strip =
          ap (λ (q : ℕ). q * A + z % A)
          ((named_positions rises (risen_length rises)).there (z / A) ((div-lt_iff_lt-mul (A>0 p acc)).1 h))
          ∙ div-add-mod' z A

      own_number : (b : ℕ) → number (joined_at p nodes x b (z % A) own) ≡ get_or x (z * S + b) 0
      own_number b =
          ap (λ (y : ℕ). number (byte (get_or x (y * S + b) 0))) own_strip ∙ number_byte _ (small (z * S + b))

      -- the partner is not named
      pub known_stored : k ≤ position_in nodes other → strip_at x (z * S) S ≡ known_strip p nodes x z
      unfolding strip_at known_strip known
      known_stored far =
          listed_ext S _ _
          (λ b t. sym (ap number (pick_no (dec_lt (position_in nodes other) k) _ _ (λ near. omega arith)) ∙ own_number b))

      -- the partner is named: f and d as they are computed, and where the partner's strip starts
      module _ (near : position_in nodes other < k) where
        abbrev t : Byte
        t = factor_at p (z % A) l

        abbrev determinant : Byte
        determinant = pair bytes (factor_at p) (z % A) l

        abbrev from : ℕ
        from = (position_in nodes other * A + l) * S

        uncoupled : uncoupled_strip (number t) (inverse (number determinant)) (strip_at x (z * S) S) (strip_at x from S)
            ≡ known_strip p nodes x z
        unfolding uncoupled_strip known_strip known base
        uncoupled =
            ap
            (λ (m : ℕ).
            listed m
            (λ b. inverse (number determinant)
            ⊗ (get_or (strip_at x (z * S) S) b 0 ⊕ (number t ⊗ get_or (strip_at x from S) b 0))))
            (strip_length x (z * S) S)
            ∙ listed_ext S _ _
            (λ b u.
            ap₂ (λ (v w : ℕ). inverse (number determinant) ⊗ (v ⊕ (number t ⊗ w)))
            (strip_at_lem x (z * S) S b u ∙ sym (own_number b))
            (strip_at_lem x from S b u ∙ sym (number_byte _ (small (from + b))))
            ∙ base_number t determinant _ _
            ∙ sym (ap number (pick_yes (dec_lt (position_in nodes other) k) _ _ near)))

        pub known_pair : (f d start : ℕ) → f ≡ number t → d ≡ inverse (number determinant) → start ≡ from
            → uncoupled_strip f d (strip_at x (z * S) S) (strip_at x start S) ≡ known_strip p nodes x z
        known_pair f d start e g h = rw (e, g, h) uncoupled
