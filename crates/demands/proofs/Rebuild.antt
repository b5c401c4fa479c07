-- A rebuild: demand 1, and demand 3 from the bundle on.
use Rattle.std.specs.Prelude.{Ok}
use mathlib.Core.Path.{◌≡◌, refl, sym, ap, ◌∙◌}
use mathlib.Core.Bool.{cond}
use mathlib.Core.List.{List, ◌∷◌, ◌++◌}
use Prim.Native.Nat.{ℕ, ◌+◌, ◌*◌, ◌≤◌, ◌<◌}
use native.Mathlib.Omega.{arith}
use lib.Dec.{eqb}
use lib.ListN.{length, get_or, drop}
use Rattle.lists.specs.Each.{Bytes}
use Rattle.lists.specs.Listed.{listed}
use Rattle.lists.specs.Put.{slice}
use Rattle.lists.proofs.Slice.{slice_at, slice_length}
use Rattle.fields.specs.Fields.{two_bytes, four_bytes}
use Rattle.document.specs.declared.Numbers.{Numbers}
use Rattle.document.specs.declared.Profile.{Profile}
use Rattle.document.specs.declared.Node.{Node}
use Rattle.document.specs.declared.Recording.{Recording}
use Rattle.document.specs.declared.Refusal.TheVariants.{OutOfRange}
use Rattle.document.specs.Refusals.{number_of, index_of, answer_number, answer_value, Answer}
use Rattle.document.specs.Profile.{Accepted, profile_of}
use Rattle.document.specs.Encoding.{column_in}
use Rattle.document.specs.Plan.{walk_of, planned}
use Rattle.document.specs.Message.{recording_bytes, strip_field_length, strip_in, strip_field_start}
use Rattle.document.specs.Bundle.{lost_content, lost_content_length, bundle_tests, bundle_strip}
use Rattle.document.specs.Rebuild.{rebuilt_of, first_strip, rebuild_tests, rebuild_with, rebuild_of}
use Rattle.document.proofs.Decides.{decides_lt, decides_eq, decides_not, decided}
use Rattle.document.proofs.Bounds.{room}
use Rattle.document.proofs.Walks.{Sound, walk_sound, planned_over}
use Rattle.demands.specs.Tables.{Decided, line}
use Rattle.demands.specs.Strips.{EncodedArray, HasStrips}
use Rattle.demands.specs.Message.{by_edition, Formed, Headed, message_sentences}
use Rattle.demands.specs.Bundle.{bundle_sentences, CutFrom}
use Rattle.demands.specs.Rebuild.{
  rebuild_sentences,
  Demand1Rebuild,
  NotRefused,
  RebuiltColumn,
  Demand3Rebuild,
  SameStrips,
  SameColumn,
  SameBundle,
  SameAnswer,
  CutPasses,
  CutColumn,
  CutRebuilds,
  CutForWanted,
  OtherEdition,
  WholeBundle,
}
use Rattle.demands.proofs.Tables.{by_name, in_order, NoneHolds, line_by_line}
use Rattle.demands.proofs.Profile.{Granted, CallFor, call_for, call_answer}
use Rattle.demands.proofs.Strips.{same_rebuilt, column_of_lem, bundle_gives, some_fits}
use Rattle.demands.proofs.Message.{
  length_is,
  message_decided,
  message_numbered,
  AsWanted,
  wanted_none,
  refuted_wanted,
}
use Rattle.demands.proofs.Whole.{form_fixes, head_fixes, same_recording}
use Rattle.demands.proofs.Bundle.{
  cut_is,
  cut_accepted,
  cut_below,
  cut_strips,
  cut_wanted,
  bundle_ext,
  bundle_whole,
}

-- ---- the call
rebuild_decided : (p : Profile) → Accepted p → (f : Node) (r : Recording) (b y : List ℕ)
    → Decided (rebuild_tests p f r b y) (rebuild_sentences p f r b y)
unfolding rebuild_tests rebuild_sentences bundle_tests bundle_sentences lost_content recording_bytes four_bytes two_bytes
rebuild_decided p acc f r b y =
    line refl (decides_not _ (decides_lt f.0 p.n))
    (λ h. line refl (decides_not _ (decides_eq (length y) (p.a * p.s)))
    (λ l. message_decided p (lost_content f r) r (planned p f) b acc))

module _ (p : Numbers) (f : ℕ) (r : Recording) (b y : List ℕ) where
  abbrev profile : Profile
  profile = profile_of p

  abbrev lost : Node
  lost = record { 0 = f }

  abbrev P : ℕ
  P = length (planned profile lost)

  abbrev rebuilt : Profile → List ℕ
  rebuilt p = rebuilt_of p lost b (first_strip p) (strip_field_length p.s)

  pub rebuild_call : CallFor p (λ p. rebuild_tests p lost r b y) (λ p. rebuild_sentences p lost r b y)
      ((4, 0) ∷ (5, 0) ∷ (6, 0) ∷ (7, 0) ∷ (listed P (λ i. (8, i)) ++ listed P (λ i. (9, i)))) y (rebuild_of p f r b y)
      (Ok 0, rebuilt profile)
  unfolding rebuild_of rebuild_with rebuild_sentences bundle_sentences lost_content recording_bytes four_bytes two_bytes
      number_of index_of
  rebuild_call =
      call_for p y (λ p. rebuild_tests p lost r b y) (λ p. rebuild_sentences p lost r b y) (λ p. 0) rebuilt
      (λ acc. rebuild_decided _ acc lost r b y)
      (ap (λ (l : List (ℕ × ℕ)). (4, 0) ∷ (5, 0) ∷ l)
      (message_numbered profile (lost_content lost r) r (planned profile lost) b))

  pub demand_1_rebuild : Demand1Rebuild p f r b y
  demand_1_rebuild = rebuild_call.exactly

  -- ---- a rebuild that is not refused
  module _ (e : NotRefused p f r b y) where
    granted : Granted p (rebuild_sentences profile lost r b y) (rebuild_of p f r b y) (Ok 0, rebuilt profile)
    granted = rebuild_call.granted e

    acc : Accepted profile
    acc = granted.accepted

    below : f < p.n
    unfolding rebuild_sentences
    below = decided _ (decides_lt f p.n) (λ n. granted.refuted {r = OutOfRange} (search by_name))

    pub is_wanted : AsWanted profile (lost_content lost r) r (planned profile lost) b
    unfolding rebuild_sentences bundle_sentences lost_content recording_bytes four_bytes two_bytes
    is_wanted =
        refuted_wanted profile (lost_content lost r) r (planned profile lost) b acc
        (λ q h. granted.refuted {r = q} (search by_name))

    sound : Sound p.n p.a lost (walk_of profile lost)
    sound = walk_sound profile acc lost below

    -- the strips of the bundle are whole
    strips_whole : Bytes b → (i : ℕ) → i < P
        → (length (bundle_strip profile b i) ≡ p.s) × Bytes (bundle_strip profile b i)
    unfolding strip_in strip_field_start lost_content recording_bytes four_bytes two_bytes
    strips_whole small i l =
        (size, λ o m. rw (slice_at b _ p.s o (omega (arith, size))) (small _ (omega (arith, size, within))))
      where
        within : strip_field_start profile lost_content_length i + strip_field_length p.s ≤ length b
        within =
            omega (
              arith,
              room i P (strip_field_length p.s) l,
              is_wanted.is_formed.total,
              length_is profile lost_content_length P,
            )

        size : length (bundle_strip profile b i) ≡ p.s
        size = slice_length b _ p.s (omega (arith, within))

    -- the column is that of every encoded array with the strips of the bundle
    column_done : (x : List ℕ) → EncodedArray profile x
        → HasStrips profile (planned profile lost) x (bundle_strip profile b)
        → (rebuild_of p f r b y).1 ≡ column_in profile x f
    unfolding rebuilt_of
    column_done x E has =
        ap (λ o. o.1) granted.is_done
        ∙ rw planned_over
        (column_of_lem profile acc lost below (walk_of profile lost) sound x E (bundle_strip profile b)
        (rw planned_over at has) _ (bundle_gives profile acc lost below (walk_of profile lost) sound b))

    -- and the same from another bundle with these strips
    column_same : (c : List ℕ) → ((i : ℕ) → i < P → bundle_strip profile b i ≡ bundle_strip profile c i)
        → rebuilt profile ≡ rebuilt_of profile lost c (first_strip profile) (strip_field_length p.s)
    unfolding rebuilt_of
    column_same c =
        rw planned_over
        (same_rebuilt profile acc lost below (walk_of profile lost) sound _ _ (bundle_strip profile b)
        (bundle_strip profile c)
        (bundle_gives profile acc lost below (walk_of profile lost) sound b)
        (bundle_gives profile acc lost below (walk_of profile lost) sound c))

    rebuilt_column : Bytes b → RebuiltColumn p f r b y
    unfolding answer_value
    rebuilt_column small = record {
      value = ap (λ o. answer_value o.0) granted.is_done;
      some = rw planned_over
          (some_fits profile acc lost below (walk_of profile lost) sound (bundle_strip profile b)
          (rw planned_over at (strips_whole small)));
      column = column_done;
    }

module _ (p : Numbers) (f : ℕ) where
  abbrev wanted : Profile
  wanted = profile_of p

  abbrev node : Node
  node = record { 0 = f }

  pub demand_3_rebuild : Demand3Rebuild p f
  demand_3_rebuild r b y small e = rebuilt_column p f r b y e small

  -- ---- two rebuilds
  pub same_strips : SameStrips p f
  same_strips r₁ r₂ b₁ b₂ y₁ y₂ e₁ e₂ same =
      ap (λ o. o.1) (granted p f r₁ b₁ y₁ e₁).is_done ∙ column_same p f r₁ b₁ y₁ e₁ b₂ same
      ∙ sym (ap (λ o. o.1) (granted p f r₂ b₂ y₂ e₂).is_done)

  pub same_answer : SameAnswer p f
  unfolding rebuild_of rebuild_with rebuild_tests
  same_answer r b y z e =
      call_answer p y (λ p. rebuild_tests p node r b y) _ _ ∙ (rw e)
      ∙ sym (call_answer p z (λ p. rebuild_tests p node r b z) _ _)

  -- ---- rebuilds from what was cut
  pub cut_passes : CutPasses p f
  unfolding rebuild_sentences bundle_sentences lost_content recording_bytes four_bytes two_bytes answer_number
  cut_passes x r b y cut size =
      let under : f < p.n = cut_below p f x r b cut in
      let read : NoneHolds (bundle_sentences wanted node r b) =
      wanted_none wanted (lost_content node r) r (planned wanted node) b (cut_wanted p f x r b cut) in
      ap (λ (o : Answer × List ℕ). answer_number o.0)
      ((rebuild_call p f r b y).through (cut_accepted p f x r b cut) (search line_by_line))

  pub same_bundle : SameBundle p f
  same_bundle x₁ x₂ alike r b₁ b₂ cut₁ cut₂ =
      cut_is p f x₁ r b₁ cut₁ ∙ bundle_ext wanted node r x₁ x₂ alike ∙ sym (cut_is p f x₂ r b₂ cut₂)

  pub cut_column : CutColumn p f
  cut_column x₁ recording r b y cut e x₂ E alike =
      column_done p f r b y e x₂ E (λ i l. sym (alike i l) ∙ cut_strips p f x₁ recording b cut i l)

  pub cut_rebuilds : CutRebuilds p f
  cut_rebuilds x recording r b y cut E e = cut_column x recording r b y cut e x E (λ i l. refl)

  -- field 02 stands in one place
  seconds_alike : (numbers : Numbers) → numbers.edition ≡ p.edition → {c d b : List ℕ}
      → Headed (profile_of numbers) 7 c b → Headed wanted 7 d b → c ≡ d
  unfolding by_edition
  seconds_alike numbers edition {b = b} H K =
      sym H.field_02 ∙ ap (λ (e : ℕ). slice b (cond (eqb e 1) 12 13) 7) edition ∙ K.field_02

  pub cut_for_wanted : CutForWanted p f
  unfolding lost_content recording_bytes four_bytes two_bytes
  cut_for_wanted numbers node x recording r b y cut e =
      let c = cut_wanted numbers node x recording b cut in
      let w = is_wanted p f r b y e in
      let accepted = cut_accepted numbers node x recording b cut in
      let edition = form_fixes (profile_of numbers) wanted accepted (acc p f r b y e) b c.is_formed w.is_formed in
      let second = seconds_alike numbers edition c.is_headed w.is_headed in (
        head_fixes numbers p accepted.short (acc p f r b y e).short edition c.is_headed w.is_headed,
        ap (λ (v : List ℕ). get_or v 0 0) second,
        λ small short. same_recording recording r small short (ap (drop 1) second),
      )

  pub other_edition : OtherEdition p f
  unfolding rebuild_sentences bundle_sentences message_sentences
  other_edition numbers node x recording r b y cut other accepted below size =
      let c = cut_wanted numbers node x recording b cut in
      let unformed : Formed wanted 7 (length (planned wanted (record { 0 = f }))) b → ⊥ =
      λ F. other (form_fixes (profile_of numbers) wanted (cut_accepted numbers node x recording b cut) accepted b
      c.is_formed F) in
      (rebuild_call p f r b y).stops accepted (search (in_order, below, size, unformed))

  -- so its strips are those at the planned places
  strips_of : (numbers : Numbers) (lost : ℕ) (x : List ℕ) (recording r : Recording) (b y : List ℕ)
      → CutFrom numbers lost x recording b → NotRefused p f r b y
      → HasStrips wanted (planned wanted node) x (bundle_strip wanted b)
  strips_of numbers lost x recording r b y cut e =
      let same = cut_for_wanted numbers lost x recording r b y cut e in
      cut_strips p f x recording b (rw (same.0, same.1) at cut)

  pub same_column : SameColumn p f
  same_column x₁ x₂ alike numbers₁ numbers₂ node₁ node₂ recording₁ recording₂ b₁ b₂ cut₁ cut₂ r₁ r₂ y₁ y₂ e₁ e₂ =
      same_strips r₁ r₂ b₁ b₂ y₁ y₂ e₁ e₂
      (λ i l. sym (strips_of numbers₁ node₁ x₁ recording₁ r₁ b₁ y₁ cut₁ e₁ i l) ∙ alike i l
      ∙ strips_of numbers₂ node₂ x₂ recording₂ r₂ b₂ y₂ cut₂ e₂ i l)

  pub whole_bundle : WholeBundle p f
  whole_bundle r b y x e size has =
      bundle_whole wanted node r (acc p f r b y e) (below p f r b y e) b x (is_wanted p f r b y e) size has
