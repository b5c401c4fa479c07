-- Pairs of strips: what becomes of the two strips of a pair, in an array or taken out of it.
--
-- partner_number A z                    : the number in memory's order of the partner of strip z
-- Change                               : what becomes of a byte, by the row and the local column of its strip, from the
--                                        byte itself and the partner's
-- changed_strips up low upper lower s x : x with its strips at `upper` and `lower`, of s bytes each, changed: each byte
--                                        of the first is up, of the second low, of itself and of the other strip's
-- coupled_strips t upper lower s x      : x with these two strips coupled by t
-- pair_changed p g z x                  : x with strip z and its partner changed by g, where z is the upper one of the
--                                        two; otherwise x
-- coupled_byte p                        : the change that couples
-- pair_coupled p z x                    : x with strip z and its partner coupled, where z is the upper one of the two
-- multiple_of d strip                   : d times each byte of a strip
-- uncoupled_strip f d own partner       : d times the sum of own and f times partner, byte by byte
use Rattle.std.specs.Prelude.{cond, List, ℕ, ◌+◌, ◌*◌, ◌/◌, ◌%◌, ltb, length, get_or}
use Rattle.lists.specs.Listed.{listed, patched}
use Rattle.gf256.specs.Field.{◌⊕◌, ◌⊗◌}
use Rattle.document.specs.declared.Profile.{Profile}
use Rattle.document.specs.ByteField.{number}
use Rattle.document.specs.Encoding.{constant_of}

-- Strip z is that of node z div A, row z mod A.
abbrev pub partner_number : ℕ → ℕ → ℕ
partner_number A z = (z / A / A * A + z % A) * A + z / A % A

abbrev pub Change : Type 0
Change = ℕ → ℕ → ℕ → ℕ → ℕ

-- All other bytes stay.
unfoldable pub changed_strips : (ℕ → ℕ → ℕ) → (ℕ → ℕ → ℕ) → ℕ → ℕ → ℕ → List ℕ → List ℕ
changed_strips up low upper lower s x =
    patched lower s (λ b. low (get_or x (lower + b) 0) (get_or x (upper + b) 0))
    (patched upper s (λ b. up (get_or x (upper + b) 0) (get_or x (lower + b) 0)) x)

-- 'Coupling', of one pair: in the upper strip the partner in the lower one is added to each byte, in the lower strip t
-- times the partner in the upper one.
abbrev pub coupled_strips : ℕ → ℕ → ℕ → ℕ → List ℕ → List ℕ
coupled_strips t = changed_strips ◌⊕◌ (λ own partner. own ⊕ (t ⊗ partner))

-- The upper strip of a pair has its row above the diagonal; the partner's row is its local column.
unfoldable pub pair_changed : Profile → Change → ℕ → List ℕ → List ℕ
pair_changed p g z x =
    let A : ℕ = p.a in
    let S : ℕ = p.s in
    let i : ℕ = z % A in
    let l : ℕ = z / A % A in
    cond (ltb i l) (changed_strips (g i l) (g l i) (z * S) (partner_number A z * S) S x) x

-- The partner once above the diagonal, times the constant below it, and not at all on it.
unfoldable pub coupled_byte : Profile → Change
coupled_byte p i l =
    cond (ltb i l) ◌⊕◌
    (cond (ltb l i) (λ own partner. own ⊕ (number (constant_of p i l) ⊗ partner)) (λ own partner. own))

abbrev pub pair_coupled : Profile → ℕ → List ℕ → List ℕ
pair_coupled p = pair_changed p (coupled_byte p)

unfoldable pub multiple_of : ℕ → List ℕ → List ℕ
multiple_of d strip = listed (length strip) (λ b. d ⊗ get_or strip b 0)

unfoldable pub uncoupled_strip : ℕ → ℕ → List ℕ → List ℕ → List ℕ
uncoupled_strip f d own partner = listed (length own) (λ b. d ⊗ (get_or own b 0 ⊕ (f ⊗ get_or partner b 0)))
