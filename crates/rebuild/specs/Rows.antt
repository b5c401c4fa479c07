-- By what the folded strips are multiplied, row by row of the lost column: the algebra's definitions over bytes, for a
-- profile p and a lost node f. Here c is f's local column, and `nodes` the chosen nodes.
--
-- member_at p f i              : node i of f's group
-- determinant_at p f l         : the determinant of row c at local column l and its partner
-- determinants_of p f nodes    : for each chosen node the determinant at its local column
-- own_scale_at p f i            : by what row c of the other node i of f's group is multiplied
-- scale_at p f i               : by what row c is multiplied for row i
-- folded_coefficient_at p f nodes i q : by what folded strip q is multiplied for row i
-- coefficients_of p f nodes i  : the coefficients of row i, for each chosen node
-- own_from p f i own src b     : what row c of the other node i of f's group, strip `own` of src, gives to byte b of
--                               row i; 0 where i is c
-- folded_sum p cs src b        : byte b of the folded strips, each times its coefficient, added up; they stand in src
--                               past the A-1 strips of f's group
-- row_from p f i own cs src    : row i of the lost column, made of both
use Rattle.std.specs.Prelude.{List, ℕ, ◌+◌, ◌-◌, ◌*◌, ◌%◌, length, get_or}
use Rattle.std.proofs.Math.Decide.{ℕ_discrete}
use Rattle.lists.specs.Listed.{listed}
use Rattle.algebra.specs.Pick.{pick}
use Rattle.algebra.specs.Sum.{sum}
use Rattle.algebra.specs.Coupling.{partner_node, pair}
use Rattle.algebra.specs.Rows.{scale, coefficient}
use Rattle.document.specs.declared.Profile.{Profile}
use Rattle.document.specs.declared.Node.{Node}
use Rattle.document.specs.ByteField.{bytes, Byte, byte, number}
use Rattle.document.specs.Encoding.{factor_at}

unfoldable pub folded_sum : Profile → List ℕ → List ℕ → ℕ → Byte
folded_sum p cs src b =
    sum bytes (length cs)
    (λ q. bytes.mul (byte (get_or src ((p.a - 1) * p.s + b + q * p.s) 0)) (byte (get_or cs q 0)))

module _ (p : Profile) (f : Node) where
  open p use {k, a as A, s as S}

  abbrev pub member_at : ℕ → ℕ
  member_at i = partner_node A i f.0

  abbrev pub determinant_at : ℕ → Byte
  determinant_at l = pair bytes (factor_at p) (f.0 % A) l

  unfoldable pub determinants_of : List ℕ → List ℕ
  determinants_of nodes = listed (length nodes) (λ q. number (determinant_at (get_or nodes q 0 % A)))

  abbrev pub own_scale_at : ℕ → Byte
  own_scale_at i = bytes.inv (factor_at p (f.0 % A) i)

  abbrev pub scale_at : ℕ → Byte
  scale_at i = scale bytes A (factor_at p) f.0 i

  abbrev pub folded_coefficient_at : List ℕ → ℕ → ℕ → Byte
  folded_coefficient_at nodes i q = coefficient bytes A k byte (factor_at p) f.0 (λ m. get_or nodes m 0) i q

  unfoldable pub coefficients_of : List ℕ → ℕ → List ℕ
  coefficients_of nodes i = listed k (λ q. number (folded_coefficient_at nodes i q))

  unfoldable pub own_from : ℕ → ℕ → List ℕ → ℕ → Byte
  own_from i own src b =
      pick (ℕ_discrete i (f.0 % A)) bytes.𝟘 (bytes.mul (own_scale_at i) (byte (get_or src (own * S + b) 0)))

  unfoldable pub row_from : ℕ → ℕ → List ℕ → List ℕ → List ℕ
  row_from i own cs src = listed S (λ b. number (bytes.add (own_from i own src b) (folded_sum p cs src b)))
