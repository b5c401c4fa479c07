-- What a table of refusals is, and demand 1 for any call: 'Each refusal is one of the ten in document 01 or one that a
-- request in document 02 adds, given exactly when its condition is the first that holds in the order they are tried (by
-- number, save where a request says otherwise), and it changes no byte that was lent.'
--
-- Sentence                            : a refusal, and what the documents say of it, for one call
-- FirstOf table r                     : r is the first refusal in the table whose condition holds
-- NoneApplies table                   : no condition in the table holds
-- RefusesExactly table before outcome : a call with this outcome, lent the bytes `before`, refuses as the table says,
--                                       and is answered with 0 where no line of it holds
-- Decided tests table                 : the tests that a call makes decide the sentences of the table, line by line,
--                                       each where those before it do not hold
-- number_in s                          : the number of a line, and the index that it comes with
-- Numbered table lines                : the table's lines have these numbers, and come with these indices
-- Demand1Of tests table lines before outcome : a call with these tests and this outcome refuses as its table says,
--                                       which has the documents' numbers
--
-- A call has two tables. The sentences here are the one to be believed; the tests in document/specs compute, and are
-- shown to decide the sentences.
--
-- Shown of every call that tries its tests in order in proofs/Calls.antt: call_of_lem. Profile.antt has the case of a call
-- that is given a profile's numbers; each call's table, and demand 1 for it, are in the file of that call.
use Rattle.std.specs.Prelude.{◌≡◌, ◌↔◌, List, [], ◌∷◌, map, ℕ, Err}
use Rattle.document.specs.declared.Refusal.{Refusal}
use Rattle.document.specs.Refusals.{number_of, index_of, answer_number, Test, Decides, Answer}

-- One line of the table 'Refusals by number, in the order they are tried', for one call.
pub record Sentence : Type 1 where
  pub refusal : Refusal
  pub says : Type 0

-- 'its condition is the first that holds in the order they are tried'
pub data FirstOf : List Sentence → Refusal → Type 1 where
  here : {s : Sentence} {table : List Sentence} → s.says → FirstOf (s ∷ table) s.refusal
  later : {s : Sentence} {table : List Sentence} {r : Refusal} → (s.says → ⊥) → FirstOf table r → FirstOf (s ∷ table) r

-- 'On success the answer is 0': no condition holds
pub data NoneApplies : List Sentence → Type 1 where
  empty : NoneApplies []
  nor : {s : Sentence} {table : List Sentence} → (s.says → ⊥) → NoneApplies table → NoneApplies (s ∷ table)

-- The outcome of a call is its answer, beside what the buffers lent for writing hold then. A buffer lent for reading is
-- of a type that no function can write to.
pub record RefusesExactly {X : Type 0} (table : List Sentence) (before : X) (outcome : Answer × X) : Type 1 where
  -- 'given exactly when its condition is the first that holds'
  pub given : (r : Refusal) → (outcome.0 ≡ Err r) ↔ FirstOf table r
  -- 'On success the answer is 0': exactly when no condition holds
  pub answered : NoneApplies table ↔ (answer_number outcome.0 ≡ 0)
  -- 'and it changes no byte that was lent'
  pub kept : (r : Refusal) → outcome.0 ≡ Err r → outcome.1 ≡ before

-- Each test is true exactly where the sentence in its line holds, if it is tried: where no sentence before it does.
pub data Decided : List Test → List Sentence → Type 1 where
  none : Decided [] []
  line : {test : Test} {s : Sentence} {tests : List Test} {table : List Sentence} → test.refusal ≡ s.refusal
      → Decides test.holds s.says → ((s.says → ⊥) → Decided tests table) → Decided (test ∷ tests) (s ∷ table)

-- 'Refusals by number': the lines of a table have these numbers, each with the index that it comes with: '8 and 9 come
-- with the index of the first such strip, from 0; the others with 0'.
abbrev pub number_in : Sentence → ℕ × ℕ
number_in s = (number_of s.refusal, index_of s.refusal)

abbrev pub Numbered : List Sentence → List (ℕ × ℕ) → Type 0
Numbered table lines = map number_in table ≡ lines

-- Demand 1 for one call.
pub record Demand1Of {X : Type 0} (tests : List Test) (table : List Sentence) (lines : List (ℕ × ℕ)) (before : X)
    (outcome : Answer × X) : Type 1 where
  pub numbered : Numbered table lines
  pub decided : Decided tests table
  pub refuses : RefusesExactly table before outcome
