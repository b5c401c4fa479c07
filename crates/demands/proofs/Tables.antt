-- The laws of tables of refusals, and of tests that decide them.
--
-- Holds table r   : some line of the refusal r holds. `search by_name` finds it, wherever it stands, where what it says
--                   is at hand
-- FirstOf table r : `search in_order` shows it, where what r says is at hand and what refutes the lines before it
-- Only Q table    : the lines that hold are of refusals as Q says. `search line_by_line` goes over them, where what is
--                   needed of each is at hand
-- NoneHolds table : no line holds, as `Only` says it. `search line_by_line` shows this too; none_holds and none_applies
--                   lead from and to NoneApplies, as the demands say it
-- first_or_none   : some refusal is the first of a table that tests decide, or no line holds
use mathlib.Core.Path.{◌≡◌, refl, ap}
use mathlib.Core.Logic.{◌⊎◌, inl, inr}
use mathlib.Core.Bool.{Bool, true, false, false≢true}
use mathlib.Core.List.{List, [], ◌∷◌, ◌++◌, map}
use Prim.Native.Nat.{ℕ, zero, suc, ◌<◌, suc-le-suc}
use native.Mathlib.Nat.{zero-lt-suc, not-suc-le-zero}
use native.Mathlib.Omega.{arith}
use Rattle.lists.specs.Listed.{listed}
use Rattle.document.specs.declared.Refusal.{Refusal}
use Rattle.document.specs.Refusals.{Test, Decides}
use Rattle.document.proofs.Decides.{decides_false}
use Rattle.document.proofs.Tried.{Failed}
use Rattle.demands.specs.Tables.{Sentence, FirstOf, here, later, NoneApplies, empty, nor, Decided, none, line}

-- ---- a line that holds, by its name
pub data Holds : List Sentence → Refusal → Type 1 where
  this : {s : Sentence} {table : List Sentence} → s.says → Holds (s ∷ table) s.refusal
  next : {s : Sentence} {table : List Sentence} {r : Refusal} → Holds table r → Holds (s ∷ table) r

pub holds_left : {a : List Sentence} (b : List Sentence) {r : Refusal} → Holds a r → Holds (a ++ b) r
holds_left b (this h) = this h
holds_left b (next h) = next (holds_left b h)

pub holds_right : (a : List Sentence) {b : List Sentence} {r : Refusal} → Holds b r → Holds (a ++ b) r
holds_right [] h = h
holds_right (s ∷ a) h = next (holds_right a h)

pub holds_listed : (n : ℕ) (s : ℕ → Sentence) (i : ℕ) {r : Refusal} → i < n → (s i).refusal ≡ r → (s i).says
    → Holds (listed n s) r
unfolding listed
holds_listed zero s i l e h = absurd (not-suc-le-zero l)
holds_listed (suc n) s zero l e h = rw (← e) (this h)
holds_listed (suc n) s (suc i) l e h = next (holds_listed n (λ i. s (suc i)) i (omega arith) e h)

pub ruleset by_name = (this, next, holds_left, holds_right, holds_listed)

-- ---- the first line that holds
pub ruleset in_order = (here, later)

pub first_holds : {table : List Sentence} {r : Refusal} → FirstOf table r → Holds table r
first_holds (here h) = this h
first_holds (later n f) = next (first_holds f)

-- ---- what the refusals of the lines that hold have in common
pub data Only (Q : Refusal → Type 0) : List Sentence → Type 1 where
  no_line_lem : Only Q []
  and_line : {s : Sentence} {table : List Sentence} → (s.says → Q s.refusal) → Only Q table → Only Q (s ∷ table)

module _ {Q : Refusal → Type 0} where
  pub held : {table : List Sentence} {r : Refusal} → Only Q table → Holds table r → Q r
  held {r = r} no_line_lem x3 = elim x3 [ ]
  held (and_line q o) (this h) = q h
  held (and_line q o) (next h) = held o h

  pub only_append : {a b : List Sentence} → Only Q a → Only Q b → Only Q (a ++ b)
  only_append no_line_lem p = p
  only_append (and_line q o) p = and_line q (only_append o p)

  pub only_split : (a : List Sentence) {b : List Sentence} → Only Q (a ++ b) → Only Q a × Only Q b
  only_split [] o = (no_line_lem, o)
  only_split (s ∷ a) (and_line q o) = let parts = only_split a o in (and_line q parts.0, parts.1)

  pub only_listed : (n : ℕ) (s : ℕ → Sentence) → ((i : ℕ) → i < n → (s i).says → Q (s i).refusal) → Only Q (listed n s)
  unfolding listed
  only_listed zero s f = no_line_lem
  only_listed (suc n) s f =
      and_line (f 0 (zero-lt-suc n)) (only_listed n (λ i. s (suc i)) (λ i l. f (suc i) (suc-le-suc l)))

pub ruleset line_by_line = (no_line_lem, and_line, only_append, only_listed)

abbrev pub NoneHolds : List Sentence → Type 1
NoneHolds table = Only (λ r. ⊥) table

pub none_holds : {table : List Sentence} → NoneApplies table → NoneHolds table
none_holds empty = no_line_lem
none_holds (nor n f) = and_line n (none_holds f)

pub none_applies : {table : List Sentence} → NoneHolds table → NoneApplies table
none_applies no_line_lem = empty
none_applies (and_line n f) = nor n (none_applies f)

-- where no line of any name holds, each fails
pub unheld : (table : List Sentence) → ((r : Refusal) → Holds table r → ⊥) → NoneHolds table
unheld [] n = no_line_lem
unheld (s ∷ table) n = and_line (λ h. n s.refusal (this h)) (unheld table (λ r h. n r (next h)))

pub first_listed : (n : ℕ) (s : ℕ → Sentence) (i : ℕ) → i < n → ((e : ℕ) → e < i → (s e).says → ⊥) → (s i).says
    → FirstOf (listed n s) (s i).refusal
unfolding listed
first_listed zero s i l before h = absurd (not-suc-le-zero l)
first_listed (suc n) s zero l before h = here h
first_listed (suc n) s (suc i) l before h =
    later (before 0 (zero-lt-suc i))
    (first_listed n (λ e. s (suc e)) i (omega arith) (λ e m. before (suc e) (suc-le-suc m)) h)

-- the first of lines before which none holds
pub first_past : {a b : List Sentence} {r : Refusal} → NoneHolds a → FirstOf b r → FirstOf (a ++ b) r
first_past no_line_lem f = f
first_past (and_line n o) f = later n (first_past o f)

-- ---- tests that decide a table
pub decided_listed : (n : ℕ) (T : ℕ → Test) (s : ℕ → Sentence) → ((i : ℕ) → (T i).refusal ≡ (s i).refusal)
    → ((i : ℕ) → Decides (T i).holds (s i).says) → Decided (listed n T) (listed n s)
unfolding listed
decided_listed zero T s same decides = none
decided_listed (suc n) T s same decides =
    line (same 0) (decides 0)
    (λ past. decided_listed n (λ i. T (suc i)) (λ i. s (suc i)) (λ i. same (suc i)) (λ i. decides (suc i)))

-- two tables in a row, where the second may count on the first
pub decided_then : {t₁ t₂ : List Test} {s₁ s₂ : List Sentence} → Decided t₁ s₁ → (NoneHolds s₁ → Decided t₂ s₂)
    → Decided (t₁ ++ t₂) (s₁ ++ s₂)
decided_then none e = e no_line_lem
decided_then (line same decides d) e = line same decides (λ n. decided_then (d n) (λ f. e (and_line n f)))

-- the tests of lines that fail do not hold
pub decided_failed : {tests : List Test} {table : List Sentence} → Decided tests table → NoneHolds table → Failed tests
decided_failed none no_line_lem = tt
decided_failed (line same decides rest) (and_line n f) = (decides_false _ decides n, decided_failed (rest n) f)

abbrev pub FirstOrNone : List Sentence → Type 1
FirstOrNone table = ((r : Refusal) × FirstOf table r) ⊎ NoneHolds table

past_first : {s : Sentence} {table : List Sentence} → (s.says → ⊥) → FirstOrNone table → FirstOrNone (s ∷ table)
past_first n (inl (r, f)) = inl (r, later n f)
past_first n (inr f) = inr (and_line n f)

pub first_or_none : {tests : List Test} {table : List Sentence} → Decided tests table → FirstOrNone table
first_or_none none = inr no_line_lem
first_or_none (line {test} {s} {tests} {table} same decides rest) =
    go test.holds decides (λ n. first_or_none (rest n))
  where
    go : (b : Bool) → Decides b s.says → ((s.says → ⊥) → FirstOrNone table) → FirstOrNone (s ∷ table)
    go true d among = inl (s.refusal, here (d.0 refl))
    go false d among = let n : s.says → ⊥ = λ h. false≢true (d.1 h) in past_first n (among n)

-- ---- numbers of lines
pub map_listed : (n : ℕ) (s : ℕ → Sentence) (g : Sentence → ℕ × ℕ) → map g (listed n s) ≡ listed n (λ i. g (s i))
unfolding listed
map_listed zero s g = refl
map_listed (suc n) s g = ap (λ (l : List (ℕ × ℕ)). g (s 0) ∷ l) (map_listed n (λ i. s (suc i)) g)

pub map-append : (a b : List Sentence) (g : Sentence → ℕ × ℕ) → map g (a ++ b) ≡ map g a ++ map g b
map-append [] b g = refl
map-append (x ∷ a) b g = ap (λ (l : List (ℕ × ℕ)). g x ∷ l) (map-append a b g)
