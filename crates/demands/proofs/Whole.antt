-- What a message fixes that is as wanted: its field 01, the profile; its scenario and its run, the recording; with its
-- strips, all its bytes.
use mathlib.Core.Path.{◌≡◌, sym, ap, ap₂, ◌∙◌}
use mathlib.Core.Bool.{cond}
use mathlib.Core.List.{List, [], ◌∷◌, ◌++◌}
use Prim.Native.Nat.{ℕ, zero, suc, ◌+◌, ◌*◌, ◌-◌, ◌/◌, ◌%◌, ◌≤◌, ◌<◌}
use native.Mathlib.Nat.{zero-mul, suc-mul}
use native.Mathlib.Decide.{ℕ_discrete, dec_lt}
use native.Mathlib.Omega.{arith}
use lib.Dec.{eqb}
use lib.ListN.{length, get_or, take, drop}
use lib.Seq.{ext_get_or}
use borrow.Author.Tests.{eq-eqb, ne_eqb}
use Rattle.lists.specs.Put.{slice}
use Rattle.lists.specs.Each.{Each}
use Rattle.lists.proofs.Slice.{slice_at}
use Rattle.fields.specs.Fields.{two_bytes, four_bytes, opening, opening_length}
use Rattle.document.specs.declared.Numbers.{Numbers}
use Rattle.document.specs.declared.Profile.{Profile}
use Rattle.document.specs.declared.Place.{Place}
use Rattle.document.specs.declared.Recording.{Recording}
use Rattle.document.specs.Profile.{Accepted, profile_of}
use Rattle.document.specs.Places.{place_at}
use Rattle.document.specs.Message.{
  recording_bytes,
  recording_length,
  profile_content_length,
  profile_field_length,
  strip_field_length,
  strip_offset,
  head_length,
  message_length,
  message_of,
  place_in,
  recording_in,
  strip_in,
  strip_field_start,
}
use Rattle.document.proofs.Message.{
  Whole,
  message_length_lem,
  written_first,
  written_second,
  written_opening,
  written_place,
  written_recording,
  written_strip,
}
use Rattle.demands.specs.Message.{by_edition, Formed, Headed}
use Rattle.demands.specs.Rebuild.{InSixBytes}
use Rattle.demands.proofs.Message.{
  first_number,
  second_number,
  head_number,
  read_content,
  length_is,
  opening_is,
  AsWanted,
}

-- ---- the profile
two_bytes_lem : (a b : ℕ) → a < 65536 → b < 65536 → two_bytes a ≡ two_bytes b → a ≡ b
unfolding two_bytes
two_bytes_lem a b l m e =
    let high : a / 256 % 256 ≡ b / 256 % 256 = ap (λ (v : List ℕ). get_or v 0 0) e in
    let low : a % 256 ≡ b % 256 = ap (λ (v : List ℕ). get_or v 1 0) e in
    omega (arith, high, low)

-- numbers with the same content of field 01
content_of : Numbers → List ℕ
content_of p = p.n ∷ p.k ∷ p.a ∷ p.t ∷ (two_bytes p.s ++ by_edition (profile_of p) [] (2 ∷ []))

same_numbers : (p₁ p₂ : Numbers) → p₁.s ≤ 512 → p₂.s ≤ 512 → p₁.edition ≡ p₂.edition → content_of p₁ ≡ content_of p₂
    → p₁ ≡ p₂
unfolding content_of two_bytes
same_numbers p₁ p₂ l m edition e =
    let n : p₁.n ≡ p₂.n = ap (λ (v : List ℕ). get_or v 0 0) e in
    let k : p₁.k ≡ p₂.k = ap (λ (v : List ℕ). get_or v 1 0) e in
    let a : p₁.a ≡ p₂.a = ap (λ (v : List ℕ). get_or v 2 0) e in
    let t : p₁.t ≡ p₂.t = ap (λ (v : List ℕ). get_or v 3 0) e in
    let s : p₁.s ≡ p₂.s = two_bytes_lem p₁.s p₂.s (omega arith) (omega arith) (ap (λ v. take 2 (drop 4 v)) e) in
    ap₂ (λ (v w : ℕ). made v w p₁.a p₁.t p₁.s p₁.edition) n k
    ∙ ap₂ (λ (v w : ℕ). made p₂.n p₂.k v w p₁.s p₁.edition) a t
    ∙ ap₂ (λ (v w : ℕ). made p₂.n p₂.k p₂.a p₂.t v w) s edition
  where
    made : ℕ → ℕ → ℕ → ℕ → ℕ → ℕ → Numbers
    made n k a t s edition = record { n = n; k = k; a = a; t = t; s = s; edition = edition }

-- what a message opens with tells the edition
module _ (p₁ p₂ : Profile) (acc₁ : Accepted p₁) (acc₂ : Accepted p₂) (b : List ℕ) where
  opening_fixes : slice b 0 3 ≡ 1 ∷ 0 ∷ by_edition p₁ 6 7 ∷ [] → slice b 0 3 ≡ 1 ∷ 0 ∷ by_edition p₂ 6 7 ∷ []
      → p₁.edition ≡ p₂.edition
  unfolding by_edition
  opening_fixes h k = go (ℕ_discrete p₁.edition 1) (ℕ_discrete p₂.edition 1)
    where
      lengths : ◌≡◌ {A = ℕ} (cond (eqb p₁.edition 1) 6 7) (cond (eqb p₂.edition 1) 6 7)
      lengths = ap (λ (v : List ℕ). get_or v 2 0) (sym h ∙ k)

      go : Dec (p₁.edition ≡ 1) → Dec (p₂.edition ≡ 1) → p₁.edition ≡ p₂.edition
      go (yes e) (yes d) = e ∙ sym d
      go (yes e) (no d) = absurd (omega (arith, rw (eq-eqb _ _ e, ne_eqb _ _ d) at lengths))
      go (no e) (yes d) = absurd (omega (arith, rw (ne_eqb _ _ e, eq-eqb _ _ d) at lengths))
      go (no e) (no d) =
          omega (
            arith,
            e,
            d,
            acc₁.first_edition,
            acc₁.last_edition,
            acc₂.first_edition,
            acc₂.last_edition,
          )

  pub form_fixes : {m w P Q : ℕ} → Formed p₁ m P b → Formed p₂ w Q b → p₁.edition ≡ p₂.edition
  form_fixes F G = opening_fixes F.field_01 G.field_01

-- one message is not headed for two profiles of one edition
pub head_fixes : (p₁ p₂ : Numbers) {m w : ℕ} {c d b : List ℕ} → p₁.s ≤ 512 → p₂.s ≤ 512
    → p₁.edition ≡ p₂.edition → Headed (profile_of p₁) m c b → Headed (profile_of p₂) w d b → p₁ ≡ p₂
unfolding content_of by_edition
head_fixes p₁ p₂ {b = b} small short edition H K =
    same_numbers p₁ p₂ small short edition
    (sym H.field_01 ∙ ap (λ (e : ℕ). slice b 3 (cond (eqb e 1) 6 7)) edition ∙ K.field_01)

-- ---- the recording
-- the number in four bytes
from_four : List ℕ → ℕ
from_four v = get_or v 0 0 * 16777216 + get_or v 1 0 * 65536 + get_or v 2 0 * 256 + get_or v 3 0

from_four_lem : (a : ℕ) → a < 4294967296 → from_four (four_bytes a) ≡ a
unfolding from_four four_bytes
from_four_lem a l =
    let third : a / 65536 * 256 + a / 256 % 256 ≡ a / 256 = omega arith in
    let second : a / 16777216 * 256 + a / 65536 % 256 ≡ a / 65536 = omega arith in
    let first : a / 16777216 % 256 ≡ a / 16777216 = omega arith in
    rw first (omega arith)

-- recordings with the same bytes
pub same_recording : (r₁ r₂ : Recording) → InSixBytes r₁ → InSixBytes r₂ → recording_bytes r₁ ≡ recording_bytes r₂
    → r₁ ≡ r₂
unfolding recording_bytes four_bytes two_bytes
same_recording r₁ r₂ l m e = ap₂ made scenario run
  where
    made : ℕ → ℕ → Recording
    made u v = record { scenario = u; run = v }

    scenario : r₁.scenario ≡ r₂.scenario
    scenario =
        sym (from_four_lem r₁.scenario l.0) ∙ ap from_four (ap (take 4) e) ∙ from_four_lem r₂.scenario m.0

    run : r₁.run ≡ r₂.run
    run = two_bytes_lem r₁.run r₂.run l.1 m.1 (ap (drop 4) e)

-- ---- lists alike at the indices of a range
module _ (x y : List ℕ) where
  abbrev Alike : ℕ → ℕ → Type 0
  Alike from to = (e : ℕ) → from ≤ e → e < to → get_or x e 0 ≡ get_or y e 0

  alike_entry : (at : ℕ) → get_or x at 0 ≡ get_or y at 0 → Alike at (at + 1)
  alike_entry at same e low high = let here : e ≡ at = omega arith in rw here same

  pub alike_slice : (at m : ℕ) → slice x at m ≡ slice y at m → Alike at (at + m)
  alike_slice at m same e low high =
      let o : ℕ = e - at in
      let there : at + o ≡ e = omega arith in
      ap (λ (u : ℕ). get_or x u 0) (sym there)
      ∙ sym (slice_at x at m o (omega arith))
      ∙ ap (λ (v : List ℕ). get_or v o 0) same
      ∙ slice_at y at m o (omega arith)
      ∙ ap (λ (u : ℕ). get_or y u 0) there

  -- one range after the other
  alike_join : (from mid to : ℕ) → Alike from mid → Alike mid to → Alike from to
  alike_join from mid to first second e low high = go (dec_lt e mid)
    where
      go : Dec (e < mid) → get_or x e 0 ≡ get_or y e 0
      go (yes l) = first e low l
      go (no n) = second e (omega arith) high

  -- parts of one width, one after the other
  alike_parts : (from width n : ℕ)
      → ((i : ℕ) → i < n → Alike (from + i * width) (from + i * width + width)) → Alike from (from + n * width)
  alike_parts from width zero parts = λ e low high. absurd (omega (arith, zero-mul width))
  alike_parts from width (suc n) parts =
      alike_join from (from + n * width) (from + suc n * width)
      (alike_parts from width n (λ i l. parts i (omega arith)))
      (λ e low high. parts n (omega arith) e low (omega (arith, suc-mul n width)))

-- ---- all its bytes: it is the message written with its strips
module _ (p : Profile) (content : List ℕ) (r : Recording) (strips : Place → List ℕ) {qs : List Place} (b : List ℕ)
    (whole : Each (Whole r strips p.s) qs) (w : AsWanted p content r qs b)
    (has : (i : ℕ) → i < length qs
    → strips (place_at qs i) ≡ strip_in p.s b (strip_field_start p (length content) i)) (acc : Accepted p) where
  abbrev written : List ℕ
  written = message_of p content r strips qs

  abbrev AlikeIn : ℕ → ℕ → Type 0
  AlikeIn = Alike b written

  -- fields 01 and 02
  first : AlikeIn 0 (profile_field_length p)
  first =
      alike_join b written 0 opening_length (profile_field_length p)
      (alike_slice b written 0 opening_length
      (w.is_formed.field_01 ∙ sym (first_number p) ∙ sym (written_first p content r strips whole).0))
      (alike_slice b written opening_length (profile_content_length p)
      (read_content p acc b w.is_headed.field_01 ∙ sym (written_first p content r strips whole).1))

  second : AlikeIn (profile_field_length p) (head_length p (length content))
  unfolding opening
  second =
      alike_join b written (profile_field_length p) (profile_field_length p + opening_length) _
      (alike_slice b written (profile_field_length p) opening_length
      (ap (λ (u : ℕ). slice b u 3) (sym (second_number p)) ∙ w.is_formed.field_02
      ∙ sym (written_second p content r strips whole).0))
      (λ o low high. alike_slice b written (profile_field_length p + opening_length) (length content)
      (ap (λ (u : ℕ). slice b u (length content)) (sym (head_number p)) ∙ w.is_headed.field_02
      ∙ sym (written_second p content r strips whole).1) o low (omega arith))

  module _ (i : ℕ) (l : i < length qs) where
    abbrev at : ℕ
    at = strip_field_start p (length content) i

    abbrev past : ℕ
    past = at + opening_length

    opens : AlikeIn at past
    unfolding opening two_bytes
    opens =
        alike_slice b written at opening_length
        (opening_is p (length content) b i ∙ w.is_formed.fields_03 i l
        ∙ sym (written_opening p content r strips whole i l))

    same_place_lem : place_in b at ≡ place_in written at
    same_place_lem = w.is_placed i l ∙ sym (written_place p content r strips whole i l)

    node : AlikeIn past (past + 1)
    unfolding place_in
    node = alike_entry b written past (ap (λ q. q.node.0) same_place_lem)

    row : AlikeIn (past + 1) (past + 2)
    unfolding place_in
    row o low high = alike_entry b written (past + 1) (ap (λ q. q.row.0) same_place_lem) o low (omega arith)

    recording : AlikeIn (past + 2) (past + 2 + recording_length)
    unfolding recording_in
    recording =
        alike_slice b written (past + 2) recording_length
        (w.is_fresh i l ∙ sym (written_recording p content r strips whole i l))

    strip : AlikeIn (at + strip_offset) (at + strip_offset + p.s)
    unfolding strip_in
    strip =
        alike_slice b written (at + strip_offset) p.s
        (sym (has i l) ∙ sym (written_strip p content r strips whole i l))

    -- the field 03 of strip i
    strip_field : AlikeIn (head_length p (length content) + i * strip_field_length p.s)
        (head_length p (length content) + i * strip_field_length p.s + strip_field_length p.s)
    unfolding strip_field_start
    strip_field =
        alike_join b written at past _ opens
        (alike_join b written past (past + 1) _ node
        (alike_join b written (past + 1) (past + 2) _ row
        (alike_join b written (past + 2) (past + 2 + recording_length) _ recording
        (λ o low high. strip o (omega arith) (omega arith)))))

  pub all_fixed : b ≡ message_of p content r strips qs
  all_fixed =
      let h : ℕ = head_length p (length content) in
      ext_get_or 0 b written (total ∙ sym (message_length_lem p content r strips whole))
      (λ o m. alike_join b written 0 h (message_length p (length content) (length qs))
      (alike_join b written 0 (profile_field_length p) h first second)
      (alike_parts b written h (strip_field_length p.s) (length qs) strip_field)
      o (omega arith) (omega (arith, total)))
    where
      total : length b ≡ message_length p (length content) (length qs)
      total = w.is_formed.total ∙ sym (length_is p (length content) (length qs))
