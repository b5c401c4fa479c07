-- 'The field and the row code', 'Coupling': the array that document 01 defines. Each rule holds at each byte offset b
-- of a strip on its own. demands/specs/Encoding.antt has the same array with a polynomial in place of Lagrange's
-- formula, and the two are shown to be one.
--
-- start p q         : where the strip of the place q starts in memory
-- byte_at p x b q    : byte b of that strip, in data or in an array x; 0 past the end of x
-- strip_of p x q     : that strip, whole
-- column_in p x j    : the column of node j in the array x
-- base_at p d b q    : the base symbol of the data d at byte offset b of the place q
-- constant_of p i l  : the coupling constant of the lower strip at row i, local column l
-- coupled_at p a q   : what is stored at q where the base symbols are a
-- factor_at p i l    : by what the partner is multiplied in the strip at row i, local column l
-- laid_out p m f     : m nodes in memory's order, with f b q at byte b of the place q
-- column_of p f j    : the column of node j among them
-- Data p d          : d are data
-- Stored p x        : x is a stored array
-- encoded p d       : the array that the data d give
-- plain p d         : the base symbols of the data d, not coupled
-- coupled p x       : the bytes of x taken for base symbols, and coupled
-- encode_tests p d x : the refusals of encoding past those of a profile, in their order
-- encode_with p d x  : encoding d into x with the profile p: the answer, and what x holds then
-- encode_of p d x    : the same for any numbers p
--
-- From the algebra: sum K k f adds f 0 to f (k-1); weight K k x m z is the product over i < k, i not m, of
-- (z + x i) / (x m + x i); pick is a choice by a decision.
use Rattle.std.specs.Prelude.{◌≡◌, ◌&&◌, not, List, [], ◌∷◌, ℕ, ◌+◌, ◌*◌, ◌/◌, ◌%◌, eqb, length, get_or, Ok, Err}
use Rattle.std.proofs.Math.Decide.{ℕ_discrete, dec_lt}
use Rattle.lists.specs.Each.{Bytes}
use Rattle.lists.specs.Listed.{listed}
use Rattle.lists.specs.Put.{slice}
use Rattle.algebra.specs.Pick.{pick}
use Rattle.algebra.specs.Sum.{sum}
use Rattle.algebra.specs.Weight.{weight}
use Rattle.algebra.specs.Coupling.{factor}
use Rattle.document.specs.declared.Numbers.{Numbers}
use Rattle.document.specs.declared.Profile.{Profile}
use Rattle.document.specs.declared.Place.{Place}
use Rattle.document.specs.declared.Refusal.TheVariants.{BufferLength}
use Rattle.document.specs.Refusals.{Test, tried, Answer}
use Rattle.document.specs.Profile.{on_accepted}
use Rattle.document.specs.Places.{place, local_column, partner_of}
use Rattle.document.specs.ByteField.{bytes, Byte, byte, number}

infixl 65 ◌⊕◌
infixl 70 ◌⊗◌
open bytes use {add as ◌⊕◌, mul as ◌⊗◌}

module _ (p : Profile) where
  open p use {n, k, a as A, t, s as S}

  -- 'In memory, strip (row i, node j) starts at (jA+i)S; data use the same order with j < k.'
  unfoldable pub start : Place → ℕ
  start q = (q.node.0 * A + q.row.0) * S

  unfoldable pub byte_at : List ℕ → ℕ → Place → Byte
  byte_at x b q = byte (get_or x (start q + b) 0)

  unfoldable pub strip_of : List ℕ → Place → List ℕ
  strip_of x q = slice x (start q) S

  -- 'a node's column is its A strips, row 0 first': from (jA)S on, in one piece.
  abbrev pub column_in : List ℕ → ℕ → List ℕ
  column_in x j = slice x (j * A * S) (A * S)

  -- 'Node j has the point j, the field element with that number. One row of base symbols a(i,0)..a(i,n-1) is the list
  -- of values, at the points 0..n-1, of a polynomial of degree below k. The data are the symbols with j < k, free.'
  -- By Lagrange's formula: each data symbol of the row times its weight at the point j, added up.
  unfoldable pub base_at : List ℕ → ℕ → Place → Byte
  base_at d b q = sum bytes k (λ m. byte_at d b (place m q.row.0) ⊗ weight bytes k byte m (byte q.node.0))

  -- 't (the coupling constant θ)': one for all pairs, whatever the row and the local column.
  unfoldable pub constant_of : ℕ → ℕ → Byte
  constant_of i l = byte t

  -- 'The stored strip x(i,j) is: a(i,j) where i = l; a(i,j) + a(partner) where i < l; a(i,j) + t·a(partner) where
  -- i > l.'
  unfoldable pub coupled_at : (Place → Byte) → Place → Byte
  coupled_at a q =
      let i : ℕ = q.row.0 in
      let l : ℕ = local_column A q.node in
      pick (ℕ_discrete i l) (a q)
      (pick (dec_lt i l) (a q ⊕ a (partner_of A q)) (a q ⊕ constant_of i l ⊗ a (partner_of A q)))

  -- The same three cases as a table, for the algebra: 0 where i = l, 1 where i < l, the constant where i > l.
  abbrev pub factor_at : ℕ → ℕ → Byte
  factor_at = factor bytes constant_of

  -- Byte e = (jA+i)S + b: so b is e mod S, and strip e div S is that of node (e div S) div A, row (e div S) mod A.
  unfoldable pub laid_out : ℕ → (ℕ → Place → Byte) → List ℕ
  laid_out m f = listed (m * A * S) (λ e. number (f (e % S) (place (e / S / A) (e / S % A))))

  -- 'a node's column is its A strips, row 0 first'
  unfoldable pub column_of : (ℕ → Place → Byte) → ℕ → List ℕ
  column_of f j = listed (A * S) (λ o. number (f (o % S) (place j (o / S))))

  -- 'data use the same order with j < k': any kAS bytes
  pub record Data (d : List ℕ) : Type 0 where
    pub size : length d ≡ k * A * S
    pub bytes_only : Bytes d

  -- 'A stored array is any nAS bytes.'
  pub record Stored (x : List ℕ) : Type 0 where
    pub size : length x ≡ n * A * S
    pub bytes_only : Bytes x

  -- The array that the data d give. 'An encoded array is a stored array that some data give': it is this for some d.
  unfoldable pub encoded : List ℕ → List ℕ
  encoded d = laid_out n (λ b. coupled_at (base_at d b))

  -- The two steps of encoding: the base symbols, and an array of any bytes coupled.
  unfoldable pub plain : List ℕ → List ℕ
  plain d = laid_out n (base_at d)

  unfoldable pub coupled : List ℕ → List ℕ
  coupled x = laid_out n (λ b. coupled_at (byte_at x b))

-- The refusals of encoding past those of a profile: 5 for data not of kAS bytes or an array not of nAS bytes.
unfoldable pub encode_tests : Profile → List ℕ → List ℕ → List Test
encode_tests p d x =
    record {
      refusal = BufferLength;
      holds = not (eqb (length d) (p.k * p.a * p.s) && eqb (length x) (p.n * p.a * p.s));
    }
    ∷ []

unfoldable pub encode_with : Profile → List ℕ → List ℕ → Answer × List ℕ
encode_with p d x = tried (encode_tests p d x) (λ r. (Err r, x)) (Ok 0, encoded p d)

unfoldable pub encode_of : Numbers → List ℕ → List ℕ → Answer × List ℕ
encode_of p d x = on_accepted p (λ r. (Err r, x)) (λ p. encode_with p d x)
