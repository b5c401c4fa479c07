-- Reading back: demand 1, and demand 2, the rest: reading back that is done returns the only data with the columns, and
-- a request in due form is refused exactly when some two different data have equal columns.
use Rattle.std.specs.Prelude.{Ok, Err}
use mathlib.Core.Path.{◌≡◌, refl, sym, ap, ◌∙◌}
use mathlib.Core.Logic.{◌↔◌}
use mathlib.Core.Bool.{false, ◌&&◌}
use mathlib.Core.List.{List, [], ◌∷◌}
use Prim.Native.Nat.{ℕ, ◌*◌, ◌<◌}
use native.Mathlib.Omega.{arith}
use lib.Dec.{eqb}
use lib.ListN.{length, get_or}
use Rattle.ksets.specs.Sets.{Rising}
use Rattle.document.specs.declared.Numbers.{Numbers}
use Rattle.document.specs.declared.Profile.{Profile}
use Rattle.document.specs.declared.Refusal.TheVariants.{OutOfRange, BufferLength, Ambiguous}
use Rattle.document.specs.Refusals.{number_of, index_of, answer_number, answer_value, Decides}
use Rattle.document.specs.Profile.{Accepted, profile_of}
use Rattle.document.specs.Encoding.{encoded}
use Rattle.document.specs.Reading.{joined_columns, ambiguous, data_from, list_accepted, read_tests, read_with, read_of}
use Rattle.document.proofs.Decides.{decides_eq, decides_both, decides_not, decides_same, decides_false, decided}
use Rattle.document.proofs.NodeLists.{decides_list_accepted, decides_ambiguous}
use Rattle.document.proofs.Reading.{TwoEncoded, read_data, read_columns, read_only}
use Rattle.demands.specs.Tables.{Decided, none, line}
use Rattle.demands.specs.Reading.{TwoData, read_sentences, Demand1Read, InDueForm, OnlyData, Demand2Reading}
use Rattle.demands.proofs.Encoding.{encoded_is, encoded_only}
use Rattle.demands.proofs.Tables.{by_name, in_order, line_by_line}
use Rattle.demands.proofs.Profile.{Granted, CallFor, call_for, call_answer}

-- ---- the sentence of 10, and the same of encoded arrays
module _ (p : Profile) (acc : Accepted p) (nodes : List ℕ) where
  two_encoded : TwoData p nodes → TwoEncoded p nodes
  two_encoded two = record {
    first = two.first;
    second = two.second;
    first_data = two.first_data;
    second_data = two.second_data;
    differ = two.differ;
    alike = ap (joined_columns p nodes) (sym (encoded_only p acc _ _ two.first_gives))
        ∙ two.alike
        ∙ ap (joined_columns p nodes) (encoded_only p acc _ _ two.second_gives);
  }

  encoded_two : TwoEncoded p nodes → TwoData p nodes
  encoded_two two = record {
    first = two.first;
    second = two.second;
    first_data = two.first_data;
    second_data = two.second_data;
    differ = two.differ;
    first_array = encoded p two.first;
    second_array = encoded p two.second;
    first_gives = encoded_is p acc two.first two.first_data.size;
    second_gives = encoded_is p acc two.second two.second_data.size;
    alike = two.alike;
  }

  -- so the test of 10 decides it
  pub decides_two : Rising p.n p.k nodes → Decides (ambiguous p nodes) (TwoData p nodes)
  decides_two rises = decides_same _ (decides_ambiguous p acc nodes rises) encoded_two two_encoded

-- ---- the call
module _ (p : Profile) (nodes x y : List ℕ) where
  abbrev Sizes : Type 0
  Sizes = (length x ≡ p.k * p.a * p.s) × (length y ≡ p.k * p.a * p.s)

  decides_sizes : Decides (eqb (length x) (p.k * p.a * p.s) && eqb (length y) (p.k * p.a * p.s)) Sizes
  decides_sizes = decides_both _ _ (decides_eq (length x) _) (decides_eq (length y) _)

  decides_rising : Decides (list_accepted p.n 0 p.k nodes) (Rising p.n p.k nodes)
  decides_rising = decides_list_accepted p.n p.k 0 nodes

  -- the test of 10 decides where the list is accepted
  read_decided : Accepted p → Decided (read_tests p nodes x y) (read_sentences p nodes x y)
  unfolding read_tests read_sentences
  read_decided acc =
      line refl (decides_not _ decides_rising)
      (λ list.
      line refl (decides_not _ decides_sizes)
      (λ sizes. line refl (decides_two p acc nodes (decided _ decides_rising list)) (λ two. none)))

module _ (p : Numbers) (nodes x y : List ℕ) where
  read_call : CallFor p (λ p. read_tests p nodes x y) (λ p. read_sentences p nodes x y) ((4, 0) ∷ (5, 0) ∷ (10, 0) ∷ []) y
      (read_of p nodes x y) (Ok 0, data_from (profile_of p) nodes x)
  unfolding read_of read_with read_sentences number_of index_of
  read_call =
      call_for p y (λ p. read_tests p nodes x y) (λ p. read_sentences p nodes x y) (λ p. 0) (λ p. data_from p nodes x)
      (read_decided _ nodes x y) refl

  pub demand_1_read : Demand1Read p nodes x y
  demand_1_read = read_call.exactly

  -- ---- a request in due form
  module _ (form : InDueForm p nodes x y) where
    -- the test of refusal 10 decides, the only one left
    decides_ten : Decides (ambiguous (profile_of p) nodes) (TwoData (profile_of p) nodes)
    decides_ten = decides_two (profile_of p) form.profile nodes form.list

    two_refused : TwoData (profile_of p) nodes → read_of p nodes x y ≡ (Err Ambiguous, y)
    unfolding read_sentences
    two_refused two = read_call.stops form.profile {r = Ambiguous} (search in_order)

    else_done : (TwoData (profile_of p) nodes → ⊥) → read_of p nodes x y ≡ (Ok 0, data_from (profile_of p) nodes x)
    unfolding read_sentences
    else_done other = read_call.through form.profile (search line_by_line)

    -- 'refused exactly when some two different data sets give equal columns on those drives', and answered otherwise
    pub read_refused : (answer_number (read_of p nodes x y).0 ≡ 10) ↔ TwoData (profile_of p) nodes
    unfolding answer_number number_of
    read_refused = (
      (λ e. decided _ decides_ten (λ other. omega (arith, rw (else_done other) at e))),
      λ two. rw (two_refused two),
    )

    pub read_answered : (answer_number (read_of p nodes x y).0 ≡ 0) ↔ (TwoData (profile_of p) nodes → ⊥)
    unfolding answer_number number_of
    read_answered = ((λ e two. omega (arith, rw (two_refused two) at e)), λ other. rw (else_done other))

  -- ---- reading back that is done
  module _ (e : answer_number (read_of p nodes x y).0 ≡ 0) where
    granted : Granted p (read_sentences (profile_of p) nodes x y) (read_of p nodes x y)
        (Ok 0, data_from (profile_of p) nodes x)
    granted = read_call.granted e

    done : read_of p nodes x y ≡ (Ok 0, data_from (profile_of p) nodes x)
    done = granted.is_done

    acc : Accepted (profile_of p)
    acc = granted.accepted

    -- the request was in due form
    due_form : InDueForm p nodes x y
    unfolding read_sentences
    due_form = record { profile = acc; list = list; columns = sizes.0; output = sizes.1 }
      where
        list : Rising p.n p.k nodes
        list =
            decided _ (decides_rising (profile_of p) nodes x y)
            (λ n. granted.refuted {r = OutOfRange} (search by_name))

        sizes : Sizes (profile_of p) nodes x y
        sizes =
            decided _ (decides_sizes (profile_of p) nodes x y)
            (λ n. granted.refuted {r = BufferLength} (search by_name))

    -- so no two data have equal columns, and those read back are the only ones
    clear : ambiguous (profile_of p) nodes ≡ false
    clear = decides_false _ (decides_ten due_form) ((read_answered due_form).0 e)

    only_data : ((e : ℕ) → e < length x → get_or x e 0 < 256)
        → OnlyData (profile_of p) nodes x (data_from (profile_of p) nodes x)
    only_data small = record {
      are_data = read_data (profile_of p) nodes x;
      array = encoded (profile_of p) (data_from (profile_of p) nodes x);
      gives = encoded_is (profile_of p) acc (data_from (profile_of p) nodes x) (read_data (profile_of p) nodes x).size;
      columns = read_columns (profile_of p) acc nodes due_form.list clear x due_form.columns small;
      only = λ c other C gives same. read_only (profile_of p) acc nodes due_form.list clear x c C
          (ap (joined_columns (profile_of p) nodes) (sym (encoded_only (profile_of p) acc c other gives)) ∙ same);
    }

-- the answer, by the tests alone, which look at lengths
same_answer : (p : Numbers) (nodes x y u v : List ℕ) → length u ≡ length x → length v ≡ length y
    → (read_of p nodes u v).0 ≡ (read_of p nodes x y).0
unfolding read_of read_with read_tests
same_answer p nodes x y u v e f =
    call_answer p v (λ p. read_tests p nodes u v) _ _ ∙ (rw (e, f))
    ∙ sym (call_answer p y (λ p. read_tests p nodes x y) _ _)

-- Demand 2 for reading back.
pub demand_2_reading : Demand2Reading
unfolding answer_value
demand_2_reading p nodes x y small = record {
  returns = λ e. (rw (done p nodes x y e), rw (done p nodes x y e) (only_data p nodes x y e small));
  refused = read_refused p nodes x y;
  answered = read_answered p nodes x y;
  bytes_apart = same_answer p nodes x y;
}
