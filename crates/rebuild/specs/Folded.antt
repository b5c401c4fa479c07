-- The first half of a rebuild: one strip a planned node. A node off the diagonal has two planned strips; they are
-- folded into one. Here c is the lost node's local column.
--
-- folded_at p f x b j             : byte b of the strip folded for node j, where x b q is byte b at the place q
-- folded_of p f x js              : the strips folded for the nodes js, one after the other
-- StripsFit p f src first stride : the strips of the plan, strip i at first + i·stride, lie within src
-- NodeAt p f j m                 : the places that are read at node j stand in the plan from place m on
use Rattle.std.specs.Prelude.{◌≡◌, true, cond, List, ℕ, ◌+◌, ◌*◌, ◌/◌, ◌%◌, ◌≤◌, ◌<◌, length, get_or}
use Rattle.lists.specs.Listed.{listed}
use Rattle.document.specs.declared.Profile.{Profile}
use Rattle.document.specs.declared.Node.{Node}
use Rattle.document.specs.declared.Place.{Place}
use Rattle.document.specs.Places.{local_column, partner_of}
use Rattle.document.specs.Encoding.{factor_at}
use Rattle.document.specs.ByteField.{bytes, Byte, number}
use Rattle.document.specs.Plan.{is_off_diagonal, row_at, planned, planned_at}
use Rattle.plan.specs.Steps.{places_at}

infixl 65 ◌⊕◌
infixl 70 ◌⊗◌
open bytes use {add as ◌⊕◌, mul as ◌⊗◌}

module _ (p : Profile) (f : Node) where
  open p use {a as A, s as S}

  module _ (x : ℕ → Place → Byte) where
    -- The strip of row c, and off the diagonal its factor times the partner's.
    unfoldable pub folded_at : ℕ → ℕ → Byte
    folded_at b j =
        cond (is_off_diagonal A f j)
        (x b (row_at A f j) ⊕ factor_at p (local_column A f) (j % A) ⊗ x b (partner_of A (row_at A f j)))
        (x b (row_at A f j))

    unfoldable pub folded_of : List ℕ → List ℕ
    folded_of js = listed (length js * S) (λ e. number (folded_at (e % S) (get_or js (e / S) 0)))

  pub record StripsFit (src : List ℕ) (first stride : ℕ) : Type 0 where
    pub reach : (i : ℕ) → i < length (planned p f) → first + i * stride + S ≤ length src

  pub record NodeAt (j m : ℕ) : Type 0 where
    pub row : planned_at p f m ≡ row_at A f j
    pub partner : is_off_diagonal A f j ≡ true → planned_at p f (m + 1) ≡ partner_of A (row_at A f j)
    pub inside : m + length (places_at A f j) ≤ length (planned p f)
