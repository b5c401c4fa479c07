-- The byte field of document 01, 'The field and the row code', on plain numbers.
--
-- a ⊕ b               : the sum
-- reduced             : what x^8 reduces to
-- double a            : the product of 2 and a
-- bit_product n a b    : the product of a and the n lowest bits of b
-- a ⊗ b               : the product
-- power n             : the n-th power of 2
-- log_from m n p a    : the logarithm of a among the m numbers from n on, where p is the power at n
-- log a               : the logarithm of a; 0 for 0
-- table_of f           : the table of 256 entries that holds f at each byte
-- squares n a         : the product of a^2, a^4, a^8, .., n factors
-- inverse a           : the inverse of a, where a is not 0: the 254th power of a
-- inverted_of a        : the inverse of a, or that a has none
-- total_of xs          : the sum of all entries of xs
-- product_of xs        : the product of all entries of xs
-- products_of xs ys    : each entry of xs multiplied by the entry of ys at its place
-- inverses_of ys       : the inverse of each entry of ys
-- quotients_of xs ys   : each entry of xs divided by the entry of ys at its place
-- NoZero ys           : no entry of ys is 0
-- max_divisors         : the most divisors that `divide_all` takes
use Rattle.std.specs.Prelude.{ℕ, zero, suc, ◌*◌, ◌/◌, ◌%◌, ◌<◌, true, false, cond, List, [], ◌∷◌, eqb, length, get_or, Option, None, Some}
use Rattle.std.specs.Int.Bits.{bit_xor}
use Rattle.lists.specs.Listed.{listed}

infixl 65 ◌⊕◌
infixl 70 ◌⊗◌
-- 'Adding is exclusive or.'
unfoldable pub ◌⊕◌ : ℕ → ℕ → ℕ
◌⊕◌ a b = bit_xor a b

-- 'reduced by x^8+x^4+x^3+x^2+1 (0x11D)': x^8 is the sum of the other four terms.
abbrev pub reduced : ℕ
reduced = 0x1d

-- 'bytes as polynomials over two elements': times x, each coefficient moves up one power, and x^8 is replaced by
-- `reduced`.
unfoldable pub double : ℕ → ℕ
double a = (a * 2 % 256) ⊕ (reduced * (a / 128 % 2))

-- The product of polynomials, by the bits of the second, lowest first.
unfoldable pub bit_product : ℕ → ℕ → ℕ → ℕ
bit_product zero a b = 0
bit_product (suc n) a b = (a * (b % 2)) ⊕ bit_product n (double a) (b / 2)

-- The product of two bytes. A number past 255 counts as its lowest eight bits.
unfoldable pub ◌⊗◌ : ℕ → ℕ → ℕ
◌⊗◌ a b = bit_product 8 (a % 256) (b % 256)

-- 'Powers of 2 and their logarithms come from fixed tables': the n-th power.
unfoldable pub power : ℕ → ℕ
power zero = 1
power (suc n) = double (power n)

-- The least of the m numbers from n on whose power is a, where p is the power at n; 0 if there is none.
unfoldable pub log_from : ℕ → ℕ → ℕ → ℕ → ℕ
log_from zero n p a = 0
log_from (suc m) n p a = elim (eqb p a) [ true ↦ n | false ↦ log_from m (suc n) (double p) a ]

-- 'logarithms lie in 0..254, so that of 1 is 0, and the entry for 0, which has no logarithm, holds 0.' LogarithmLaws in
-- Laws.antt says so of this search, and that it finds logarithms.
unfoldable pub log : ℕ → ℕ
log a = log_from 255 0 1 a

-- 'fixed tables of 256 entries': the first is `table_of power`, the second `table_of log`.
unfoldable pub table_of : (ℕ → ℕ) → List ℕ
table_of f = listed 256 f

abbrev times_next : (ℕ → ℕ) → ℕ → ℕ
times_next f b = b ⊗ f b

-- Each factor is the square of the one before it.
unfoldable pub squares : ℕ → ℕ → ℕ
squares zero a = 1
squares (suc n) a = times_next (squares n) (a ⊗ a)

-- The 254th power, 254 being 2 + 4 + .. + 128. The 255th power of every byte but 0 is 1, so that the product with this
-- is 1: InverseLaws in Laws.antt. What it is at 0 means nothing, and nothing rests on it: whoever divides by a byte
-- shows that it is not 0.
unfoldable pub inverse : ℕ → ℕ
inverse a = squares 7 a

-- Document 02, K10: 'The inverse should say there is none for zero, and hand over the byte otherwise.'
unfoldable pub inverted_of : ℕ → Option ℕ
inverted_of a = cond (eqb a 0) None (Some (inverse a))

-- The sum of a list, 0 for the empty one.
unfoldable pub total_of : List ℕ → ℕ
total_of [] = 0
total_of (x ∷ xs) = x ⊕ total_of xs

-- The product of a list, 1 for the empty one.
unfoldable pub product_of : List ℕ → ℕ
product_of [] = 1
product_of (x ∷ xs) = x ⊗ product_of xs

-- The products of two lists of one length, place by place.
unfoldable pub products_of : List ℕ → List ℕ → List ℕ
products_of xs ys = listed (length xs) (λ i. get_or xs i 0 ⊗ get_or ys i 0)

-- The inverses of a list, where no entry is 0 (NoZero).
unfoldable pub inverses_of : List ℕ → List ℕ
inverses_of ys = listed (length ys) (λ i. inverse (get_or ys i 0))

-- The quotients of two lists of one length, place by place, where no divisor is 0 (NoZero).
unfoldable pub quotients_of : List ℕ → List ℕ → List ℕ
quotients_of xs ys = products_of xs (inverses_of ys)

-- What a caller shows of the list it divides by: every entry is above 0.
abbrev pub NoZero : List ℕ → Type 0
NoZero ys = (i : ℕ) → i < length ys → 0 < get_or ys i 0

-- The inverses of the divisors stand in an array of the call.
abbrev pub max_divisors : ℕ
max_divisors = 64
