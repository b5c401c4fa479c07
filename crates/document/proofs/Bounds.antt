-- How large the numbers of an accepted profile are, and where strips lie.
use mathlib.Core.Path.{◌≡◌, ap}
use Prim.Native.Nat.{ℕ, ◌+◌, ◌-◌, ◌*◌, ◌/◌, ◌%◌, ◌≤◌, ◌<◌}
use native.Mathlib.Nat.{
  suc-mul,
  add-mul,
  mul-add,
  mul_comm,
  mul-le-mul,
  mul-le-mul_left,
  mul-le-mul_right,
  div-lt_iff_lt-mul,
  div-add-mod',
  mod-lt,
}
use native.Mathlib.Omega.{arith}
use lib.Arith.{digits_lt}
use Rattle.document.specs.declared.Profile.{Profile}
use Rattle.document.specs.declared.Place.{Place}
use Rattle.document.specs.Profile.{Accepted}
use Rattle.document.specs.Places.{place, partner_of, Within}

-- part m of c parts of w bytes ends within them
pub room : (m c w : ℕ) → m < c → m * w + w ≤ c * w
room m c w h = rw suc-mul at (mul-le-mul_right w h)

-- for all A at once: with A + d = 4, m is at most c + d, and so mA at most cA + dA, which is at most cA + cd
pub rows_bound : (c m A : ℕ) → A ≤ 4 → A ≤ c → m + A ≤ c + 4 → m * A ≤ c * 4
rows_bound c m A few low h =
    let d : ℕ = 4 - A in
    let reach : m ≤ c + d = omega arith in
    let whole : A + d ≡ 4 = omega arith in
    omega (
      arith,
      mul-le-mul_right A reach,
      add-mul c d A,
      mul-le-mul_left d low,
      mul_comm c d,
      mul-add c A d,
      ap (λ (e : ℕ). c * e) whole,
    )

module _ (p : Profile) (acc : Accepted p) where
  open p use {n, k, a as A, s as S}

  -- 'at most 80 by 80 field elements'
  pub square_bound : k * A ≤ 80
  square_bound = rows_bound 20 k A acc.shape.few_rows (omega (arith, acc.shape)) (omega (arith, acc.shape))

  pub data_bound : k * A * S ≤ 40960
  data_bound = mul-le-mul {n₁ = k * A} {m₁ = S} {n₂ = 80} {m₂ = 512} square_bound acc.short

  pub table_bound : n * k ≤ 576
  table_bound = mul-le-mul {n₁ = n} {m₁ = k} {n₂ = 24} {m₂ = 24} acc.shape.few_nodes (omega (arith, acc.shape))

  pub A>0 : 0 < A
  A>0 = omega (arith, acc.shape.two_rows)

  pub n_is : n ≡ n / A * A
  n_is = omega (arith, div-add-mod' n A, acc.shape.whole_groups)

  pub strips_bound : n * A ≤ 96
  strips_bound = mul-le-mul {n₁ = n} {m₁ = A} {n₂ = 24} {m₂ = 4} acc.shape.few_nodes acc.shape.few_rows

  pub array_bound : n * A * S ≤ 49152
  array_bound = mul-le-mul {n₁ = n * A} {m₁ = S} {n₂ = 96} {m₂ = 512} strips_bound acc.short

  pub column_bound : A * S ≤ 2048
  column_bound = mul-le-mul {n₁ = A} {m₁ = S} {n₂ = 4} {m₂ = 512} acc.shape.few_rows acc.short

  -- the group of a node lies within the nodes
  pub group_within : (j : ℕ) → j < n → j / A * A + A ≤ n
  group_within j h = rw (← n_is) at (room (j / A) (n / A) A ((div-lt_iff_lt-mul A>0).1 (rw n_is at h)))

  pub place_within : (z : ℕ) → z < n * A → Within p (place (z / A) (z % A))
  place_within z h = record { node = (div-lt_iff_lt-mul A>0).1 h; row = mod-lt z A>0 }

  module _ (q : Place) (in_range : Within p q) where
    pub strip_number : q.node.0 * A + q.row.0 < n * A
    strip_number = digits_lt in_range.node in_range.row

    pub strip_within : (q.node.0 * A + q.row.0) * S + S ≤ n * A * S
    strip_within = room (q.node.0 * A + q.row.0) (n * A) S strip_number

    pub partner_within : Within p (partner_of A q)
    partner_within = record {
      node = omega (arith, group_within q.node.0 in_range.node, in_range.row);
      row = mod-lt q.node.0 A>0;
    }
