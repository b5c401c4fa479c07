-- A row of the lost column: what `Rows::sum` writes, and that it is the algebra's rebuilt row.
use mathlib.Core.Path.{◌≡◌, refl, sym, ap, ap₂, ◌∙◌}
use mathlib.Core.Logic.{◌≢◌}
use mathlib.Core.List.{List}
use Prim.Native.Nat.{ℕ, ◌+◌, ◌-◌, ◌*◌, ◌%◌, ◌<◌}
use native.Mathlib.Decide.{ℕ_discrete}
use lib.ListN.{get_or}
use Rattle.lists.specs.Listed.{listed}
use Rattle.lists.proofs.Listed.{listed_length, listed_at, listed_ext}
use Rattle.gf256.specs.Field.{◌⊕◌}
use Rattle.gf256.proofs.Ring.{zero-add, add_comm}
use Rattle.algebra.specs.Pick.{pick}
use Rattle.algebra.specs.Sum.{sum}
use Rattle.algebra.specs.Coupling.{Array}
use Rattle.algebra.specs.Rebuild.{rebuilt_at}
use Rattle.algebra.specs.Rows.{folded, own}
use Rattle.algebra.proofs.Pick.{pick_yes, pick_no}
use Rattle.algebra.proofs.Sum.{sum_ext}
use Rattle.algebra.proofs.Rows.{rebuilt_sum}
use Rattle.strips.specs.Strips.{combination_of, strip_at, added_scaled}
use Rattle.strips.proofs.Added.{added_listed}
use Rattle.coefficients.proofs.Combination.{sum_bytes}
use Rattle.document.specs.declared.Profile.{Profile}
use Rattle.document.specs.declared.Node.{Node}
use Rattle.document.specs.Encoding.{factor_at}
use Rattle.document.specs.ByteField.{bytes, byte, number}
use Rattle.document.proofs.ByteField.{number_zero, number_add, number_mul, byte_number, byte_right}
use Rattle.rebuild.specs.Rows.{member_at, own_scale_at, folded_coefficient_at, coefficients_of}
use Rattle.rebuild.specs.Rows.{own_from, folded_sum, row_from}

module _ (p : Profile) (f : Node) (i at : ℕ) where
  open p use {k, a as A, s as S}

  module _ (cs src : List ℕ) where
    -- the sum alone
    summed : combination_of cs src ((A - 1) * S) S S ≡ listed S (λ b. number (folded_sum p cs src b))
    unfolding combination_of folded_sum
    summed = listed_ext S _ _ (λ b h. sum_bytes cs src ((A - 1) * S + b) S)

    -- in row c it is the row
    pub row_lost : {x : List ℕ} → x ≡ combination_of cs src ((A - 1) * S) S S → i ≡ f.0 % A
        → x ≡ row_from p f i at cs src
    unfolding row_from own_from
    row_lost same e =
        same ∙ summed
        ∙ listed_ext S _ _
        (λ b h. sym
        (number_add _ _
        ∙ ap (λ (o : ℕ). o ⊕ number (folded_sum p cs src b))
        (ap number (pick_yes (ℕ_discrete i (f.0 % A)) _ _ e) ∙ number_zero)
        ∙ zero-add _))

    -- in another row the group's own strip is added
    pub row_other : {c : ℕ} {x y : List ℕ} → x ≡ combination_of cs src ((A - 1) * S) S S
        → y ≡ strip_at src (at * S) S → c ≡ number (own_scale_at p f i) → i ≢ f.0 % A
        → added_scaled c 0 y x ≡ row_from p f i at cs src
    unfolding row_from own_from strip_at
    row_other {c} {x} {y} same strip scaled d =
        ap₂ (λ (l m : List ℕ). added_scaled c 0 l m) strip (same ∙ summed)
        ∙ ap (λ (z : ℕ). added_scaled z 0 (listed S (λ b. get_or src (at * S + b) 0))
        (listed S (λ b. number (folded_sum p cs src b)))) scaled
        ∙ added_listed (number (own_scale_at p f i)) S (λ b. get_or src (at * S + b) 0)
        (λ b. number (folded_sum p cs src b))
        ∙ listed_ext S _ _
        (λ b h. sym
        (number_add _ _
        ∙ ap (λ (o : ℕ). o ⊕ number (folded_sum p cs src b))
        (ap number (pick_no (ℕ_discrete i (f.0 % A)) _ _ d) ∙ number_mul _ _ ∙ byte_right _ _)
        ∙ add_comm _ _))

  -- one byte of the row, where src holds what x stores: folded at the chosen nodes, and row c of the group's node i
  module _ (nodes src : List ℕ) (b : ℕ) (x : Array bytes) where
    abbrev s : ℕ → ℕ
    s q = get_or nodes q 0

    own_byte : (i ≢ f.0 % A → byte (get_or src (at * S + b) 0) ≡ x (f.0 % A) (member_at p f i))
        → own_from p f i at src b ≡ own bytes A (factor_at p) f.0 x i
    unfolding own_from own
    own_byte h = go (ℕ_discrete i (f.0 % A)) h
      where
        go : (d : Dec (i ≡ f.0 % A))
            → (i ≢ f.0 % A → byte (get_or src (at * S + b) 0) ≡ x (f.0 % A) (member_at p f i))
            → pick d bytes.𝟘 (bytes.mul (own_scale_at p f i) (byte (get_or src (at * S + b) 0)))
            ≡ pick d bytes.𝟘 (bytes.mul (own_scale_at p f i) (x (f.0 % A) (member_at p f i)))
        go (yes e) h = refl
        go (no d) h = ap (bytes.mul (own_scale_at p f i)) (h d)

    sum_byte : ((q : ℕ) → q < k
        → byte (get_or src ((A - 1) * S + b + q * S) 0) ≡ folded bytes A (factor_at p) f.0 s x q)
        → folded_sum p (coefficients_of p f nodes i) src b
        ≡ sum bytes k (λ q. bytes.mul (folded bytes A (factor_at p) f.0 s x q) (folded_coefficient_at p f nodes i q))
    unfolding folded_sum coefficients_of
    sum_byte h =
        ap (λ (m : ℕ). sum bytes m (λ q. bytes.mul (byte (get_or src ((A - 1) * S + b + q * S) 0))
        (byte (get_or (listed k (λ q. number (folded_coefficient_at p f nodes i q))) q 0))))
        (listed_length k (λ q. number (folded_coefficient_at p f nodes i q)))
        ∙ sum_ext bytes k
        (λ q l. ap₂ bytes.mul (h q l)
        (ap byte (listed_at k (λ q. number (folded_coefficient_at p f nodes i q)) q 0 l) ∙ byte_number _))

    row_byte : (i ≢ f.0 % A → byte (get_or src (at * S + b) 0) ≡ x (f.0 % A) (member_at p f i))
        → ((q : ℕ) → q < k
        → byte (get_or src ((A - 1) * S + b + q * S) 0) ≡ folded bytes A (factor_at p) f.0 s x q)
        → bytes.add (own_from p f i at src b) (folded_sum p (coefficients_of p f nodes i) src b)
        ≡ rebuilt_at bytes A k byte (factor_at p) f.0 s x i
    row_byte h g =
        ap₂ bytes.add (own_byte h) (sum_byte g) ∙ sym (rebuilt_sum bytes A k byte (factor_at p) f.0 s x i)

  -- the whole row, where src holds what x stores at each byte
  pub row_rebuilt : (nodes src : List ℕ) (x : ℕ → Array bytes)
      → (i ≢ f.0 % A → (b : ℕ) → b < S → byte (get_or src (at * S + b) 0) ≡ x b (f.0 % A) (member_at p f i))
      → ((q b : ℕ) → q < k → b < S
      → byte (get_or src ((A - 1) * S + b + q * S) 0)
      ≡ folded bytes A (factor_at p) f.0 (λ m. get_or nodes m 0) (x b) q)
      → row_from p f i at (coefficients_of p f nodes i) src
      ≡ listed S (λ b. number (rebuilt_at bytes A k byte (factor_at p) f.0 (λ m. get_or nodes m 0) (x b) i))
  unfolding row_from
  row_rebuilt nodes src x h g =
      listed_ext S _ _ (λ b l. ap number (row_byte nodes src b (x b) (λ d. h d b l) (λ q m. g q b m l)))
