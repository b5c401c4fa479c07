-- A message to read: where its fields stand, in the documents' numbers, and what a reader's tests decide.
--
-- AsWanted p content r qs b : the message b is as wanted: what holds of it exactly where no line of `message_sentences`
--                             does (wanted_none, refuted_wanted)
use mathlib.Core.Path.{◌≡◌, refl, sym, ap, ap₂, ◌∙◌}
use mathlib.Core.Bool.{Bool, true, false, cond}
use mathlib.Core.List.{List, [], ◌∷◌, ◌++◌}
use Prim.Native.Nat.{ℕ, ◌+◌, ◌*◌, ◌/◌, ◌%◌, ◌≤◌, ◌<◌}
use native.Mathlib.Decide.{ℕ_discrete}
use native.Mathlib.Omega.{arith}
use lib.Dec.{eqb}
use lib.ListN.{length, get_or}
use borrow.Author.Tests.{eq-eqb}
use Rattle.lists.specs.Listed.{listed}
use Rattle.lists.specs.Put.{slice}
use Rattle.lists.specs.Each.{Each}
use Rattle.lists.proofs.Slice.{slice_joined, slice_split}
use Rattle.fields.specs.Fields.{two_bytes, four_bytes, opening, opening_length}
use Rattle.document.specs.declared.Profile.{Profile}
use Rattle.document.specs.declared.Place.{Place}
use Rattle.document.specs.declared.Recording.{Recording}
use Rattle.document.specs.declared.Refusal.{Refusal}
use Rattle.document.specs.declared.Refusal.TheVariants.{Form, Head, Misplaced, Stale}
use Rattle.document.specs.Refusals.{number_of, index_of, Decides}
use Rattle.document.specs.Profile.{Accepted}
use Rattle.document.specs.Places.{place, place_at}
use Rattle.document.specs.Message.{
  recording_bytes,
  edition_bytes,
  profile_content,
  profile_content_length,
  profile_field_length,
  message_length,
  message_of,
  place_in,
  recording_in,
  opened,
  placed,
  fresh,
  strip_field_start,
  formed,
  headed,
  message_tests,
}
use Rattle.document.proofs.Decides.{
  decides_eq,
  decides_both,
  decides_not,
  decides_same,
  decides_list,
  decides_all,
  decides_place,
  decided,
}
use Rattle.document.proofs.Message.{
  profile_length,
  Whole,
  message_length_lem,
  written_first,
  written_second,
  written_opening,
  written_place,
  written_recording,
}
use Rattle.demands.specs.Tables.{Decided, line, number_in, Numbered}
use Rattle.demands.specs.Message.{
  by_edition,
  field_start,
  Formed,
  Headed,
  place_read,
  OfRecording,
  strip_sentences,
  message_sentences,
}
use Rattle.demands.proofs.Tables.{
  Holds,
  by_name,
  NoneHolds,
  line_by_line,
  decided_listed,
  decided_then,
  map_listed,
  map-append,
}

-- ---- the numbers by the edition
module _ (p : Profile) where
  by_edition_lem : (c : ℕ) → by_edition p (c + 6) (c + 7) ≡ c + profile_content_length p
  unfolding by_edition
  by_edition_lem c = go (eqb p.edition 1) ∙ ap (λ (m : ℕ). c + m) (sym (profile_length p))
    where
      go : (first : Bool) → cond first (c + 6) (c + 7) ≡ c + cond first 6 7
      go true = refl
      go false = refl

  pub content_number : by_edition p 6 7 ≡ profile_content_length p
  unfolding by_edition
  content_number = sym (profile_length p)

  pub second_number : by_edition p 9 10 ≡ profile_field_length p
  second_number = by_edition_lem 3

  pub head_number : by_edition p 12 13 ≡ profile_field_length p + opening_length
  head_number = let e : by_edition p 12 13 ≡ 6 + profile_content_length p = by_edition_lem 6 in omega (arith, e)

  pub head_least : 12 ≤ by_edition p 12 13
  unfolding by_edition
  head_least = go (eqb p.edition 1)
    where
      go : (first : Bool) → 12 ≤ cond first 12 13
      go true = omega arith
      go false = omega arith

  -- in a bundle, whose field 02 has 7 bytes of content
  pub bundle_number : by_edition p 19 20 ≡ by_edition p 12 13 + 7
  bundle_number =
      let e : by_edition p 19 20 ≡ 13 + profile_content_length p = by_edition_lem 13 in
      omega (arith, e, head_number)

  -- what field 01 opens with
  pub first_number : opening 1 (profile_content_length p) ≡ 1 ∷ 0 ∷ by_edition p 6 7 ∷ []
  unfolding by_edition opening two_bytes
  first_number = ap (λ (m : ℕ). 1 ∷ m / 256 % 256 ∷ m % 256 ∷ []) (profile_length p) ∙ go (eqb p.edition 1)
    where
      go : (first : Bool)
          → 1 ∷ cond first 6 7 / 256 % 256 ∷ cond first 6 7 % 256 ∷ [] ≡ 1 ∷ 0 ∷ cond first 6 7 ∷ []
      go true = refl
      go false = refl

-- ---- where the fields stand
module _ (p : Profile) (m : ℕ) where
  pub field_is : (i : ℕ) → strip_field_start p m i ≡ field_start p m i
  unfolding strip_field_start
  field_is i = ap₂ (λ (h w : ℕ). h + i * w) (omega (arith, head_number p)) (omega arith)

  pub length_is : (P : ℕ) → message_length p m P ≡ by_edition p 12 13 + m + P * (11 + p.s)
  unfolding strip_field_start
  length_is P = field_is P

  module _ (b : List ℕ) (i : ℕ) where
    abbrev at : ℕ
    at = strip_field_start p m i

    pub place_is : place_in b at ≡ place_read b (field_start p m i)
    unfolding place_in
    place_is =
        let e : at + 3 + 1 ≡ field_start p m i + 4 = omega (arith, field_is i) in
        ap₂ (λ (u v : ℕ). place (get_or b u 0) (get_or b v 0)) (ap (λ (o : ℕ). o + 3) (field_is i)) e

    -- both numbers are read where they stand
    recording_is : recording_in b at ≡ slice b (field_start p m i + 5) (4 + 2)
    unfolding recording_in
    recording_is =
        let e : at + 3 + 2 ≡ field_start p m i + 5 = omega (arith, field_is i) in
        ap (λ (u : ℕ). slice b u 6) e

    run_at : field_start p m i + 5 + 4 ≡ field_start p m i + 9
    run_at = omega arith

    module _ (r : Recording) where
      pub numbers_read : recording_in b at ≡ recording_bytes r → OfRecording r b (field_start p m i)
      unfolding recording_bytes four_bytes
      numbers_read e =
          let both = slice_split b _ 4 2 (four_bytes r.scenario) (two_bytes r.run) refl (sym recording_is ∙ e) in
          record { scenario = both.0; run = ap (λ (u : ℕ). slice b u 2) (sym run_at) ∙ both.1 }

      pub recording_read : OfRecording r b (field_start p m i) → recording_in b at ≡ recording_bytes r
      unfolding recording_bytes
      recording_read o =
          recording_is
          ∙ slice_joined b _ 4 2 (four_bytes r.scenario) (two_bytes r.run) o.scenario
          (ap (λ (u : ℕ). slice b u 2) run_at ∙ o.run)

    pub opening_is : slice b at 3 ≡ slice b (field_start p m i) 3
    opening_is = ap (λ (u : ℕ). slice b u 3) (field_is i)

pub bundle_length_is : (p : Profile) (P : ℕ) → message_length p 7 P ≡ by_edition p 19 20 + P * (11 + p.s)
bundle_length_is p P = length_is p 7 P ∙ ap (λ (h : ℕ). h + P * (11 + p.s)) (sym (bundle_number p))

-- the content of field 01
module _ (p : Profile) (acc : Accepted p) (b : List ℕ) where
  abbrev field_one : List ℕ
  field_one = p.n ∷ p.k ∷ p.a ∷ p.t ∷ (two_bytes p.s ++ by_edition p [] (2 ∷ []))

  edition_is : edition_bytes p.edition ≡ by_edition p [] (2 ∷ [])
  unfolding edition_bytes by_edition
  edition_is = go (ℕ_discrete p.edition 1)
    where
      go : Dec (p.edition ≡ 1)
          → cond (eqb p.edition 1) [] (p.edition ∷ []) ≡ cond (eqb p.edition 1) [] (2 ∷ [])
      go (yes e) = rw (eq-eqb p.edition 1 e) refl
      go (no e) =
          let two : p.edition ≡ 2 = omega (arith, e, acc.first_edition, acc.last_edition) in
          ap (λ (v : ℕ). cond (eqb p.edition 1) [] (v ∷ [])) two

  content_is : profile_content p ≡ field_one
  unfolding profile_content
  content_is = ap (λ (l : List ℕ). p.n ∷ p.k ∷ p.a ∷ p.t ∷ (two_bytes p.s ++ l)) edition_is

  pub content_read : slice b 3 (profile_content_length p) ≡ profile_content p → slice b 3 (by_edition p 6 7) ≡ field_one
  content_read e = ap (slice b 3) (content_number p) ∙ e ∙ content_is

  pub read_content : slice b 3 (by_edition p 6 7) ≡ field_one → slice b 3 (profile_content_length p) ≡ profile_content p
  read_content e = ap (slice b 3) (sym (content_number p)) ∙ e ∙ sym content_is

-- ---- what the tests decide
module _ (p : Profile) (content : List ℕ) (r : Recording) (qs : List Place) (b : List ℕ) where
  abbrev m : ℕ
  m = length content

  abbrev P : ℕ
  P = length qs

  abbrev start : ℕ → ℕ
  start = strip_field_start p m

  decides_formed : Decides (formed p m P b) (Formed p m P b)
  unfolding formed opened opening two_bytes
  decides_formed =
      decides_same _
      (decides_both _ _ (decides_eq (length b) (message_length p m P))
      (decides_both _ _ (decides_list _ _)
      (decides_both _ _ (decides_list _ _) (decides_all P _ (λ i. decides_list _ _)))))
      (λ h. record {
        total = h.0 ∙ length_is p m P;
        field_01 = h.1.0 ∙ first_number p;
        field_02 = ap (λ (u : ℕ). slice b u 3) (second_number p) ∙ h.1.1.0;
        fields_03 = λ i l. sym (opening_is p m b i) ∙ h.1.1.1 i l;
      })
      (λ h. (
        h.total ∙ sym (length_is p m P),
        (
          h.field_01 ∙ sym (first_number p),
          (
            ap (λ (u : ℕ). slice b u 3) (sym (second_number p)) ∙ h.field_02,
            λ i l. opening_is p m b i ∙ h.fields_03 i l,
          ),
        ),
      ))

  decides_headed : Accepted p → Decides (headed p content b) (Headed p m content b)
  unfolding headed
  decides_headed acc =
      decides_same _ (decides_both _ _ (decides_list _ _) (decides_list _ _))
      (λ h. record {
        field_01 = content_read p acc b h.0;
        field_02 = ap (λ (u : ℕ). slice b u m) (head_number p) ∙ h.1;
      })
      (λ h. (read_content p acc b h.field_01, ap (λ (u : ℕ). slice b u m) (sym (head_number p)) ∙ h.field_02))

  decides_placed : (i : ℕ) → Decides (placed (place_at qs i) b (start i)) (place_read b (field_start p m i) ≡ place_at qs i)
  unfolding placed
  decides_placed i =
      decides_same _ (decides_place (place_in b (start i)) (place_at qs i)) (λ e. sym (place_is p m b i) ∙ e)
      (λ e. place_is p m b i ∙ e)

  decides_fresh : (i : ℕ) → Decides (fresh r b (start i)) (OfRecording r b (field_start p m i))
  unfolding fresh
  decides_fresh i =
      decides_same _ (decides_list (recording_in b (start i)) (recording_bytes r)) (numbers_read p m b i r)
      (recording_read p m b i r)

  pub message_decided : Accepted p
      → Decided (message_tests p content r qs b) (message_sentences p (length content) content r qs b)
  unfolding message_tests message_sentences strip_sentences
  message_decided acc =
      line refl (decides_not _ decides_formed)
      (λ form.
      line refl (decides_not _ (decides_headed acc))
      (λ head.
      decided_then (decided_listed P _ _ (λ i. refl) (λ i. decides_not _ (decides_placed i)))
      (λ past. decided_listed P _ _ (λ i. refl) (λ i. decides_not _ (decides_fresh i)))))

  -- a line for each strip under 8 and under 9
  pub message_numbered : Numbered (message_sentences p (length content) content r qs b)
      ((6, 0) ∷ (7, 0) ∷ (listed (length qs) (λ i. (8, i)) ++ listed (length qs) (λ i. (9, i))))
  unfolding message_sentences strip_sentences number_of index_of
  message_numbered =
      ap (λ (l : List (ℕ × ℕ)). (6, 0) ∷ (7, 0) ∷ l)
      (map-append (listed P _) (listed P _) number_in
      ∙ ap₂ ◌++◌ (map_listed P _ number_in) (map_listed P _ number_in))

  -- ---- a message that passes
  pub record AsWanted : Type 0 where
    pub is_formed : Formed p (length content) (length qs) b
    pub is_headed : Headed p (length content) content b
    pub is_placed : (i : ℕ) → i < length qs → place_in b (strip_field_start p (length content) i) ≡ place_at qs i
    pub is_fresh : (i : ℕ) → i < length qs → recording_in b (strip_field_start p (length content) i) ≡ recording_bytes r

  pub wanted_none : AsWanted → NoneHolds (message_sentences p (length content) content r qs b)
  unfolding message_sentences strip_sentences
  wanted_none w =
      let at_place : (i : ℕ) → i < P → place_read b (field_start p m i) ≡ place_at qs i =
      λ i l. sym (place_is p m b i) ∙ w.is_placed i l in
      let of_recording : (i : ℕ) → i < P → OfRecording r b (field_start p m i) =
      λ i l. numbers_read p m b i r (w.is_fresh i l) in
      search line_by_line depth 20

  module _ (acc : Accepted p)
      (refuted : (q : Refusal) → Holds (message_sentences p (length content) content r qs b) q → ⊥) where
    pub refuted_wanted : AsWanted
    unfolding message_sentences strip_sentences
    refuted_wanted = record {
      is_formed = decided _ decides_formed (λ n. refuted Form (search by_name));
      is_headed = decided _ (decides_headed acc) (λ n. refuted Head (search by_name));
      is_placed = λ i l. place_is p m b i ∙ decided _ (decides_placed i) (λ n. refuted (Misplaced i) (search by_name));
      is_fresh = λ i l. recording_read p m b i r
          (decided _ (decides_fresh i) (λ n. refuted (Stale i) (search by_name)));
    }

-- ---- what is written passes
module _ (p : Profile) (content : List ℕ) (r : Recording) (strips : Place → List ℕ) {qs : List Place}
    (whole : Each (Whole r strips p.s) qs) (acc : Accepted p) where
  pub written_wanted : AsWanted p content r qs (message_of p content r strips qs)
  unfolding opening two_bytes
  written_wanted = record {
    is_formed = record {
      total = message_length_lem p content r strips whole ∙ length_is p (length content) (length qs);
      field_01 = (written_first p content r strips whole).0 ∙ first_number p;
      field_02 = ap (λ (u : ℕ). slice message u 3) (second_number p) ∙ (written_second p content r strips whole).0;
      fields_03 = λ i l. sym (opening_is p (length content) _ i) ∙ written_opening p content r strips whole i l;
    };
    is_headed = record {
      field_01 = content_read p acc message (written_first p content r strips whole).1;
      field_02 = ap (λ (u : ℕ). slice message u (length content)) (head_number p)
          ∙ (written_second p content r strips whole).1;
    };
    is_placed = written_place p content r strips whole;
    is_fresh = written_recording p content r strips whole;
  }
    where
      message : List ℕ
      message = message_of p content r strips qs
