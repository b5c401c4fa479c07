-- The bundle: writing one, demand 1, and what is cut from a stored array.
use Rattle.std.specs.Prelude.{Ok}
use mathlib.Core.Path.{◌≡◌, refl, sym, ap, ◌∙◌}
use mathlib.Core.Bool.{◌&&◌}
use mathlib.Core.List.{List, [], ◌∷◌, ◌++◌}
use Prim.Native.Nat.{ℕ, ◌+◌, ◌*◌, ◌<◌}
use native.Mathlib.Omega.{arith}
use lib.Dec.{eqb}
use lib.ListN.{length}
use Rattle.lists.specs.Put.{slice}
use Rattle.lists.specs.Each.{Each}
use Rattle.lists.proofs.Each.{each_from}
use Rattle.fields.specs.Fields.{two_bytes, four_bytes}
use Rattle.document.specs.declared.Numbers.{Numbers}
use Rattle.document.specs.declared.Profile.{Profile}
use Rattle.document.specs.declared.Node.{Node}
use Rattle.document.specs.declared.Recording.{Recording}
use Rattle.document.specs.declared.Refusal.TheVariants.{OutOfRange, BufferLength}
use Rattle.document.specs.Refusals.{number_of, index_of, answer_number, answer_value, Decides}
use Rattle.document.specs.Profile.{Accepted, profile_of}
use Rattle.document.specs.Places.{place}
use Rattle.document.specs.Plan.{planned}
use Rattle.document.specs.Encoding.{strip_of}
use Rattle.document.specs.Message.{recording_bytes, strip_in}
use Rattle.document.specs.Bundle.{
  lost_content,
  bundle_length,
  bundle_of,
  write_tests,
  write_with,
  write_of,
  bundle_strip,
}
use Rattle.document.proofs.Decides.{decides_lt, decides_eq, decides_both, decides_not, decides_same, decided}
use Rattle.document.proofs.Price.{planned_price}
use Rattle.document.proofs.Message.{Whole, written_strip, message_ext}
use Rattle.document.proofs.Bundle.{strips_whole, bundle_length_lem}
use Rattle.demands.specs.Tables.{Decided, none, line}
use Rattle.demands.specs.Strips.{HasStrips, AlikeAt}
use Rattle.demands.specs.Message.{by_edition, Formed, Headed}
use Rattle.demands.specs.Bundle.{write_sentences, Demand1Write, WrittenBundle, Demand3Write, StripsAt, CutFrom}
use Rattle.demands.proofs.Tables.{by_name}
use Rattle.demands.proofs.Profile.{Granted, CallFor, call_for}
use Rattle.demands.proofs.Message.{field_is, bundle_number, bundle_length_is, AsWanted, written_wanted}
use Rattle.demands.proofs.Whole.{all_fixed}

-- ---- the call
module _ (p : Profile) (f : Node) (x b : List ℕ) where
  abbrev Sizes : Type 0
  Sizes = (length x ≡ p.n * p.a * p.s) × (length b ≡ by_edition p 19 20 + length (planned p f) * (11 + p.s))

  decides_sizes : Decides (eqb (length x) (p.n * p.a * p.s) && eqb (length b) (bundle_length p f)) Sizes
  decides_sizes =
      decides_both _ _ (decides_eq (length x) _)
      (decides_same _ (decides_eq (length b) _) (λ e. e ∙ bundle_length_is p _)
      (λ e. e ∙ sym (bundle_length_is p _)))

  write_decided : Decided (write_tests p f x b) (write_sentences p f x b)
  unfolding write_tests write_sentences
  write_decided =
      line refl (decides_not _ (decides_lt f.0 p.n))
      (λ h. line refl (decides_not _ decides_sizes) (λ l. none))

module _ (p : Numbers) (f : ℕ) (r : Recording) (x b : List ℕ) where
  abbrev wanted : Profile
  wanted = profile_of p

  abbrev node : Node
  node = record { 0 = f }

  abbrev bundle : List ℕ
  bundle = bundle_of wanted node r x

  write_call : CallFor p (λ p. write_tests p node x b) (λ p. write_sentences p node x b) ((4, 0) ∷ (5, 0) ∷ []) b
      (write_of p f r x b) (Ok (length bundle), bundle)
  unfolding write_of write_with write_sentences number_of index_of
  write_call =
      call_for p b (λ p. write_tests p node x b) (λ p. write_sentences p node x b) (λ p. length (bundle_of p node r x))
      (λ p. bundle_of p node r x) (λ acc. write_decided _ node x b) refl

  pub demand_1_write : Demand1Write p f r x b
  demand_1_write = write_call.exactly

  -- ---- writing that is not refused
  module _ (e : answer_number (write_of p f r x b).0 ≡ 0) where
    granted : Granted p (write_sentences wanted node x b) (write_of p f r x b) (Ok (length bundle), bundle)
    granted = write_call.granted e

    accepted : Accepted wanted
    accepted = granted.accepted

    below : f < p.n
    unfolding write_sentences
    below = decided _ (decides_lt f p.n) (λ n. granted.refuted {r = OutOfRange} (search by_name))

    sizes : Sizes wanted node x b
    unfolding write_sentences
    sizes = decided _ (decides_sizes wanted node x b) (λ n. granted.refuted {r = BufferLength} (search by_name))

    whole : Each (Whole r (strip_of wanted x) p.s) (planned wanted node)
    whole = strips_whole wanted accepted x sizes.0 r node below

    strips_in : HasStrips wanted (planned wanted node) x (bundle_strip wanted bundle)
    unfolding bundle_of lost_content recording_bytes four_bytes two_bytes
    strips_in i l = sym (written_strip wanted (lost_content node r) r (strip_of wanted x) whole i l)

    total : length bundle ≡ by_edition wanted 19 20 + length (planned wanted node) * (11 + p.s)
    total = bundle_length_lem wanted accepted x sizes.0 r node below ∙ bundle_length_is wanted _

    -- what is cut is as wanted
    bundle_wanted : AsWanted wanted (lost_content node r) r (planned wanted node) bundle
    unfolding bundle_of
    bundle_wanted = written_wanted wanted (lost_content node r) r (strip_of wanted x) whole accepted

    in_numbers : Formed wanted 7 (length (planned wanted node)) bundle
        × Headed wanted 7 (f ∷ (four_bytes r.scenario ++ two_bytes r.run)) bundle
    unfolding lost_content recording_bytes four_bytes two_bytes
    in_numbers = (bundle_wanted.is_formed, bundle_wanted.is_headed)

    written_bundle : WrittenBundle p f r x b
    unfolding answer_value
    written_bundle = record {
      holds = left;
      formed = rw left in_numbers.0;
      headed = rw left in_numbers.1;
      strips = rw left strips_in;
      size = ap length left ∙ total
          ∙ ap (λ (m : ℕ). by_edition wanted 19 20 + m * (11 + p.s)) (planned_price wanted accepted node below);
      value = ap (λ o. answer_value o.0) granted.is_done ∙ sym (ap length left);
    }
      where
        left : (write_of p f r x b).1 ≡ bundle
        left = ap (λ o. o.1) granted.is_done

pub demand_3_write : Demand3Write
demand_3_write p f r x b e = written_bundle p f r x b e

pub strips_at : StripsAt
unfolding strip_in
strips_at p b i = ap (λ (u : ℕ). slice b u p.s) (omega (arith, field_is p 7 i, bundle_number p))

-- ---- a bundle cut from a stored array
module _ (p : Numbers) (f : ℕ) (x : List ℕ) (r : Recording) (b : List ℕ) (cut : CutFrom p f x r b) where
  pub cut_is : b ≡ bundle_of (profile_of p) (record { 0 = f }) r x
  cut_is = sym cut.leaves ∙ (written_bundle p f r x cut.lent cut.not_refused).holds

  pub cut_accepted : Accepted (profile_of p)
  cut_accepted = accepted p f r x cut.lent cut.not_refused

  pub cut_below : f < p.n
  cut_below = below p f r x cut.lent cut.not_refused

  pub cut_strips : HasStrips (profile_of p) (planned (profile_of p) (record { 0 = f })) x (bundle_strip (profile_of p) b)
  cut_strips = rw cut_is (strips_in p f r x cut.lent cut.not_refused)

  pub cut_wanted : let node : Node = record { 0 = f } in
      AsWanted (profile_of p) (lost_content node r) r (planned (profile_of p) node) b
  cut_wanted = rw cut_is (bundle_wanted p f r x cut.lent cut.not_refused)

-- ---- what a bundle turns on
module _ (p : Profile) (f : Node) (r : Recording) where
  -- arrays alike at the planned places give one bundle
  pub bundle_ext : (x y : List ℕ) → AlikeAt p (planned p f) x y → bundle_of p f r x ≡ bundle_of p f r y
  unfolding bundle_of
  bundle_ext x y alike =
      message_ext p (lost_content f r) r (strip_of p x) (strip_of p y) (each_from (place 0 0) (planned p f) alike)

  -- a bundle that is as wanted is the one cut from any array with its strips
  pub bundle_whole : Accepted p → f.0 < p.n → (b x : List ℕ) → AsWanted p (lost_content f r) r (planned p f) b
      → length x ≡ p.n * p.a * p.s → HasStrips p (planned p f) x (bundle_strip p b) → b ≡ bundle_of p f r x
  unfolding bundle_of lost_content recording_bytes four_bytes two_bytes
  bundle_whole acc below b x w size has =
      all_fixed p (lost_content f r) r (strip_of p x) b (strips_whole p acc x size r f below) w has acc
