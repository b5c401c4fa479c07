-- 'Refusals by number, in the order they are tried', and those that document 02 adds.
--
-- number_of r           : the documents' number of the refusal r
-- index_of r            : the index that comes with it: the strip's for 8 and 9, 0 for the others
-- Answer                : what a call answers: `Ok v`, done, with its value, or `Err r`, refused
-- answer_number answer  : 0 on success, otherwise the refusal's number
-- answer_value answer   : the value on success, otherwise the index
-- Test                 : a refusal, and whether its condition holds
-- tried tests refuse x : refuse r for the first refusal r whose condition holds; x if none does
-- Decides test P       : the test is true exactly where P holds
--
-- The lists of tests in the files of the calls compute. What is to be believed of a call are the sentences that they
-- are shown to decide: demands/specs.
use Rattle.std.specs.Prelude.{◌≡◌, ◌↔◌, Bool, true, false, List, [], ◌∷◌, ℕ, Result, Ok, Err}
use Rattle.document.specs.declared.Refusal.{Refusal}
use Rattle.document.specs.declared.Refusal.TheVariants.{
  Shape,
  Constant,
  StripLength,
  Edition,
  OutOfRange,
  BufferLength,
  Form,
  Head,
  Misplaced,
  Stale,
  Ambiguous,
}

-- The first column of the table; K6: 'an edition other than 1 or 2 is 13, tried after 3'.
unfoldable pub number_of : Refusal → ℕ
number_of Shape = 1
number_of Constant = 2
number_of StripLength = 3
number_of Edition = 13
number_of OutOfRange = 4
number_of BufferLength = 5
number_of Form = 6
number_of Head = 7
number_of (Misplaced i) = 8
number_of (Stale i) = 9
number_of Ambiguous = 10

-- '8 and 9 come with the index of the first such strip, from 0; the others with 0.'
unfoldable pub index_of : Refusal → ℕ
index_of Shape = 0
index_of Constant = 0
index_of StripLength = 0
index_of Edition = 0
index_of OutOfRange = 0
index_of BufferLength = 0
index_of Form = 0
index_of Head = 0
index_of (Misplaced i) = i
index_of (Stale i) = i
index_of Ambiguous = 0

-- What a call answers: done, with its value, or refused.
abbrev pub Answer : Type 0
Answer = Result ℕ Refusal

-- 'On success the answer is 0'
unfoldable pub answer_number : Answer → ℕ
answer_number (Ok v) = 0
answer_number (Err r) = number_of r

unfoldable pub answer_value : Answer → ℕ
answer_value (Ok v) = v
answer_value (Err r) = index_of r

-- A refusal and whether its condition holds: a line of the table for one call.
pub record Test : Type 0 where
  pub refusal : Refusal
  pub holds : Bool

-- 'in the order they are tried'
unfoldable pub tried {ℓ} : {X : Type ℓ} → List Test → (Refusal → X) → X → X
tried [] refuse x = x
tried (test ∷ tests) refuse x = elim test.holds [ true ↦ refuse test.refusal | false ↦ tried tests refuse x ]

-- 'Given exactly when'
abbrev pub Decides : Bool → Type 0 → Type 0
Decides test P = (test ≡ true) ↔ P
