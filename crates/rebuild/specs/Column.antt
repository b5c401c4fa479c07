-- The second half of a rebuild: the rows of the lost column, one after the other, from the folded strips. Here c is the
-- lost node's local column, `own` lists the other nodes of its group, and `chosen` the chosen nodes.
--
-- row_of p f own chosen folded i : row i of the lost column
-- rows_of p f own chosen folded  : the lost column
-- NodesOf p f own chosen        : what the rows ask of the nodes: k chosen ones, all different and none of f's group,
--                                 and the other nodes of f's group among the first A-1 of `own`
use Rattle.std.specs.Prelude.{◌≡◌, ◌≢◌, List, ℕ, ◌-◌, ◌*◌, ◌/◌, ◌%◌, ◌<◌, length, get_or}
use Rattle.lists.specs.Listed.{listed}
use Rattle.document.specs.declared.Profile.{Profile}
use Rattle.document.specs.declared.Node.{Node}
use Rattle.coefficients.specs.Weights.{Different, Outside}
use Rattle.lists.specs.Positions.{position_in}
use Rattle.rebuild.specs.Rows.{member_at, coefficients_of, row_from}

module _ (p : Profile) (f : Node) (own chosen : List ℕ) where
  open p use {k, a as A, s as S}

  unfoldable pub row_of : List ℕ → ℕ → List ℕ
  row_of folded i = row_from p f i (position_in own (member_at p f i)) (coefficients_of p f chosen i) folded

  unfoldable pub rows_of : List ℕ → List ℕ
  rows_of folded = listed (A * S) (λ o. get_or (row_of folded (o / S)) (o % S) 0)

  pub record NodesOf : Type 0 where
    pub count : length chosen ≡ k
    pub different : Different chosen
    pub outside : (i : ℕ) → i < A → Outside chosen (member_at p f i)
    pub others : (i : ℕ) → i < A → i ≢ f.0 % A → position_in own (member_at p f i) < A - 1
