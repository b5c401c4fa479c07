-- What K2 rules out: strips of several recordings in one bundle, and bundles of the old form.
use mathlib.Core.Path.{◌≡◌, sym, ap, ap₂, subst, ◌∙◌}
use mathlib.Core.Logic.{◌≢◌, inl, inr}
use mathlib.Core.Bool.{Bool, true, false, cond}
use mathlib.Core.List.{List, [], ◌∷◌}
use Prim.Native.Nat.{ℕ, ◌+◌, ◌*◌, ◌≤◌, ◌<◌}
use native.Mathlib.Nat.{zero-add, add-zero, mul-le-mul}
use native.Mathlib.Omega.{arith}
use lib.Dec.{eqb}
use lib.ListN.{length, get_or, drop}
use Rattle.lists.specs.Put.{slice}
use Rattle.lists.proofs.Slice.{slice_at, slice_part}
use Rattle.fields.specs.Fields.{two_bytes, four_bytes}
use Rattle.document.specs.declared.Numbers.{Numbers}
use Rattle.document.specs.declared.Profile.{Profile}
use Rattle.document.specs.declared.Node.{Node}
use Rattle.document.specs.declared.Place.{Place}
use Rattle.document.specs.declared.Recording.{Recording}
use Rattle.document.specs.declared.Refusal.TheVariants.{Stale}
use Rattle.document.specs.Refusals.{answer_number, Answer}
use Rattle.document.specs.Profile.{Accepted, profile_of}
use Rattle.document.specs.Places.{place, place_at}
use Rattle.document.specs.Plan.{planned}
use Rattle.document.specs.Message.{recording_bytes}
use Rattle.document.specs.Bundle.{lost_content}
use Rattle.document.specs.Rebuild.{rebuild_of}
use Rattle.document.proofs.Bounds.{room}
use Rattle.demands.specs.Tables.{FirstOf}
use Rattle.demands.specs.Message.{
  by_edition,
  Formed,
  Headed,
  place_read,
  OfRecording,
  strip_sentences,
  message_sentences,
}
use Rattle.demands.specs.Bundle.{bundle_sentences, CutFrom}
use Rattle.demands.specs.Rebuild.{rebuild_sentences, NotRefused, InSixBytes}
use Rattle.demands.specs.Recordings.{
  PutTogether,
  OneRecording,
  MixedRefused,
  TogetherPasses,
  OldForm,
  OldRefused,
}
use Rattle.demands.proofs.Tables.{in_order, NoneHolds, first_listed, first_past, only_listed, line_by_line}
use Rattle.demands.proofs.Message.{
  content_number,
  second_number,
  head_number,
  head_least,
  bundle_number,
  AsWanted,
  wanted_none,
  place_is,
  numbers_read,
  recording_read,
}
use Rattle.demands.proofs.Whole.{same_recording, alike_slice}
use Rattle.demands.proofs.Bundle.{cut_accepted, cut_below, cut_wanted}
use Rattle.demands.proofs.Rebuild.{rebuild_call, is_wanted}

module _ (p : Numbers) (f : ℕ) where
  abbrev wanted : Profile
  wanted = profile_of p

  abbrev node : Node
  node = record { 0 = f }

  abbrev plan : List Place
  plan = planned wanted node

  abbrev P : ℕ
  P = length plan

  -- the length of a field 03, that of the head, and where the field of strip i starts
  abbrev width : ℕ
  width = 11 + p.s

  abbrev head_length : ℕ
  head_length = by_edition wanted 12 13 + 7

  abbrev at : ℕ → ℕ
  at i = head_length + i * width

  -- ---- a part of a bundle that was cut
  module _ (x : List ℕ) (r : Recording) (c : List ℕ) (cut : CutFrom p f x r c) where
    as_wanted : AsWanted wanted (lost_content node r) r plan c
    as_wanted = cut_wanted p f x r c cut

    whole : length c ≡ head_length + P * width
    unfolding lost_content recording_bytes four_bytes two_bytes
    whole = as_wanted.is_formed.total

    module _ (b : List ℕ) where
      -- its head
      module _ (same : slice b 0 head_length ≡ slice c 0 head_length) where
        head_part : (o m : ℕ) → o + m ≤ head_length → slice b o m ≡ slice c o m
        head_part o m l =
            ap (λ (u : ℕ). slice b u m) (sym (zero-add o))
            ∙ slice_part b c 0 head_length o m (omega (arith, whole)) l same
            ∙ ap (λ (u : ℕ). slice c u m) (zero-add o)

        head_headed : Headed wanted 7 (lost_content node r) b
        unfolding lost_content recording_bytes four_bytes two_bytes
        head_headed = record {
          field_01 = head_part 3 (by_edition wanted 6 7) (omega (arith, content_number wanted, head_number wanted))
              ∙ as_wanted.is_headed.field_01;
          field_02 = head_part (by_edition wanted 12 13) 7 (omega arith) ∙ as_wanted.is_headed.field_02;
        }

        first_opening : slice b 0 3 ≡ 1 ∷ 0 ∷ by_edition wanted 6 7 ∷ []
        first_opening = head_part 0 3 (omega arith) ∙ as_wanted.is_formed.field_01

        second_opening : slice b (by_edition wanted 9 10) 3 ≡ 2 ∷ two_bytes 7
        unfolding lost_content recording_bytes four_bytes two_bytes
        second_opening =
            head_part (by_edition wanted 9 10) 3 (omega (arith, second_number wanted, head_number wanted))
            ∙ as_wanted.is_formed.field_02

      -- the field 03 of a strip
      module _ (i : ℕ) (l : i < P) (same : slice b (at i) width ≡ slice c (at i) width) where
        part : (o m : ℕ) → o + m ≤ width → slice b (at i + o) m ≡ slice c (at i + o) m
        part o m fits = slice_part b c (at i) width o m (omega (arith, whole, room i P width l)) fits same

        entry : (o : ℕ) → o < width → get_or b (at i + o) 0 ≡ get_or c (at i + o) 0
        entry o m = alike_slice b c (at i) width same (at i + o) (omega arith) (omega arith)

        strip_opening : slice b (at i) 3 ≡ 3 ∷ two_bytes (8 + p.s)
        unfolding lost_content recording_bytes four_bytes two_bytes
        strip_opening =
            ap (λ (u : ℕ). slice b u 3) (sym (add-zero (at i)))
            ∙ part 0 3 (omega arith)
            ∙ ap (λ (u : ℕ). slice c u 3) (add-zero (at i))
            ∙ as_wanted.is_formed.fields_03 i l

        strip_place : place_read b (at i) ≡ place_at plan i
        unfolding lost_content recording_bytes four_bytes two_bytes
        strip_place =
            ap₂ place (entry 3 (omega arith)) (entry 4 (omega arith))
            ∙ sym (place_is wanted 7 c i)
            ∙ as_wanted.is_placed i l

        strip_recording : OfRecording r b (at i)
        unfolding lost_content recording_bytes four_bytes two_bytes
        strip_recording =
            let there : OfRecording r c (at i) = numbers_read wanted 7 c i r (as_wanted.is_fresh i l) in
            record {
              scenario = part 5 4 (omega arith) ∙ there.scenario;
              run = part 9 2 (omega arith) ∙ there.run;
            }

  -- ---- a bundle put together
  module _ (r : Recording) (recording_of : ℕ → Recording) (b : List ℕ) (made : PutTogether p f r recording_of b) where
    open made use {head}

    same_head : slice b 0 head_length ≡ slice head.1 0 head_length
    same_head = subst (λ (u : ℕ). slice b 0 u ≡ slice head.1 0 u) (bundle_number wanted) head.3

    same_strip : (i : ℕ) (l : i < P) → slice b (at i) width ≡ slice (made.strips i l).1 (at i) width
    same_strip i l =
        let s = made.strips i l in
        subst (λ (u : ℕ). slice b (u + i * width) width ≡ slice s.1 (u + i * width) width) (bundle_number wanted)
        s.3

    accepted : Accepted wanted
    accepted = cut_accepted p f head.0 r head.1 head.2

    below : f < p.n
    below = cut_below p f head.0 r head.1 head.2

    formed : Formed wanted 7 P b
    formed = record {
      total = made.size ∙ ap (λ (u : ℕ). u + P * width) (bundle_number wanted);
      field_01 = first_opening head.0 r head.1 head.2 b same_head;
      field_02 = second_opening head.0 r head.1 head.2 b same_head;
      fields_03 = λ i l. let s = made.strips i l in
          strip_opening s.0 (recording_of i) s.1 s.2 b i l (same_strip i l);
    }

    headed : Headed wanted 7 (lost_content node r) b
    headed = head_headed head.0 r head.1 head.2 b same_head

    placed : (i : ℕ) → i < P → place_read b (at i) ≡ place_at plan i
    placed i l =
        let s = made.strips i l in
        strip_place s.0 (recording_of i) s.1 s.2 b i l (same_strip i l)

    recorded : (i : ℕ) → i < P → OfRecording (recording_of i) b (at i)
    recorded i l =
        let s = made.strips i l in
        strip_recording s.0 (recording_of i) s.1 s.2 b i l (same_strip i l)

    -- a strip that reads as one of w is of w
    one_strip : (w : Recording) → InSixBytes w → (i : ℕ) → i < P → InSixBytes (recording_of i) → OfRecording w b (at i)
        → recording_of i ≡ w
    one_strip w fits i l fits_too o =
        same_recording (recording_of i) w fits_too fits
        (sym (recording_read wanted 7 b i (recording_of i) (recorded i l)) ∙ recording_read wanted 7 b i w o)

    -- the first strip of another recording
    module _ (y : List ℕ) (size : length y ≡ p.a * p.s) (i : ℕ) (l : i < P)
        (before : (e : ℕ) → e < i → recording_of e ≡ r) (other : recording_of i ≢ r) (fits : InSixBytes r)
        (fits_too : InSixBytes (recording_of i)) where
      stale_strip : FirstOf (strip_sentences wanted 7 r plan b) (Stale i)
      unfolding strip_sentences
      stale_strip =
          first_past (only_listed P _ (λ e m n. n (placed e m)))
          (first_listed P _ i l
          (λ e m n. n (subst (λ q. OfRecording q b (at e)) (before e m) (recorded e (omega arith))))
          (λ o. other (one_strip r fits i l fits_too o)))

      stale_first : FirstOf (rebuild_sentences wanted node r b y) (Stale i)
      unfolding rebuild_sentences bundle_sentences message_sentences lost_content recording_bytes
      stale_first = search (in_order, below, size, formed, headed, stale_strip) depth 20

    -- all strips of the wanted recording
    module _ (one : (i : ℕ) → i < P → recording_of i ≡ r) where
      together : AsWanted wanted (lost_content node r) r plan b
      unfolding lost_content recording_bytes four_bytes two_bytes
      together = record {
        is_formed = formed;
        is_headed = headed;
        is_placed = λ i l. place_is wanted 7 b i ∙ placed i l;
        is_fresh = λ i l. recording_read wanted 7 b i r
            (subst (λ q. OfRecording q b (at i)) (one i l) (recorded i l));
      }

      passes : (y : List ℕ) → length y ≡ p.a * p.s → answer_number (rebuild_of p f r b y).0 ≡ 0
      unfolding rebuild_sentences bundle_sentences lost_content recording_bytes four_bytes two_bytes answer_number
      passes y size =
          let read : NoneHolds (bundle_sentences wanted node r b) =
          wanted_none wanted (lost_content node r) r plan b together in
          ap (λ (o : Answer × List ℕ). answer_number o.0)
          ((rebuild_call p f r b y).through accepted (search (line_by_line, below, size)))

    -- a rebuild for w that is not refused
    module _ (w : Recording) (y : List ℕ) (e : NotRefused p f w b y) (fits : InSixBytes w) where
      abbrev passed : AsWanted wanted (lost_content node w) w plan b
      passed = is_wanted p f w b y e

      of_head : InSixBytes r → r ≡ w
      unfolding lost_content recording_bytes four_bytes two_bytes
      of_head fits_too =
          same_recording r w fits_too fits (ap (drop 1) (sym headed.field_02 ∙ passed.is_headed.field_02))

      of_strip : (i : ℕ) → i < P → InSixBytes (recording_of i) → recording_of i ≡ w
      unfolding lost_content recording_bytes four_bytes two_bytes
      of_strip i l fits_too = one_strip w fits i l fits_too (numbers_read wanted 7 b i w (passed.is_fresh i l))

  pub one_recording : OneRecording p f
  one_recording r w recording_of b y made e fits fits_head fits-strip = (
    of_head r recording_of b made w y e fits fits_head,
    λ i l. of_strip r recording_of b made w y e fits i l (fits-strip i l),
  )

  pub mixed_refused : MixedRefused p f
  mixed_refused r recording_of b y made size i l before other fits fits_too =
      (rebuild_call p f r b y).stops (accepted r recording_of b made)
      (stale_first r recording_of b made y size i l before other fits fits_too)

  pub together_passes : TogetherPasses p f
  together_passes r recording_of b y made size one = passes r recording_of b made one y size

  -- ---- a bundle of the old form
  -- in edition 1 its field 02 has another length; in edition 2 it starts one byte later, where the old one has a 0
  old_opening : (b : List ℕ) → slice b 9 3 ≡ 2 ∷ 0 ∷ 5 ∷ [] → slice b (by_edition wanted 9 10) 3 ≡ 2 ∷ two_bytes 7 → ⊥
  unfolding by_edition two_bytes
  old_opening b old = go (eqb p.edition 1)
    where
      go : (first : Bool) → slice b (cond first 9 10) 3 ≡ 2 ∷ 0 ∷ 7 ∷ [] → ⊥
      go true new = let five : ◌≡◌ {A = ℕ} 5 7 = ap (λ (v : List ℕ). get_or v 2 0) (sym old ∙ new) in omega arith
      go false new =
          let zero : get_or b 10 0 ≡ 0 = sym (slice_at b 9 3 1 (omega arith)) ∙ ap (λ (v : List ℕ). get_or v 1 0) old in
          let two : get_or b 10 0 ≡ 2 = sym (slice_at b 10 3 0 (omega arith)) ∙ ap (λ (v : List ℕ). get_or v 0 0) new in
          omega arith

  old_unformed : (b : List ℕ) → OldForm p f b → Formed wanted 7 P b → ⊥
  old_unformed b (inl opens) w = old_opening b opens w.field_02
  old_unformed b (inr total) w =
      let less : P * (9 + p.s) ≤ P * width =
      mul-le-mul {n₁ = P} {m₁ = 9 + p.s} {n₂ = P} {m₂ = width} (omega arith) (omega arith) in
      omega (arith, w.total, head_least wanted)

  pub old_refused : OldRefused p f
  unfolding rebuild_sentences bundle_sentences message_sentences
  old_refused acc below r b y size old =
      (rebuild_call p f r b y).stops acc (search (in_order, below, size, old_unformed b old))
