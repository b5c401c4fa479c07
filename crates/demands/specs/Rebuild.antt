-- A rebuild: when it is refused, and demand 3, from the bundle on: 'the rebuilt column is the one every such array has
-- on that drive. No byte elsewhere, old or new, changes the rebuild. ..'
--
-- rebuild_sentences p f r b y : the lines for rebuilding node f from the bundle b into y, past those of a profile
-- Demand1Rebuild p f r b y   : a rebuild refuses as they say                                        demand_1_rebuild
-- NotRefused p f r b y       : a rebuild of node f from the bundle b, into y, is not refused
-- InSixBytes r               : four bytes hold the scenario of the recording r, and two its run
-- RebuiltColumn p f r b y    : some encoded array has the strips of b; the rebuilt column is that of each such array
--
-- The statements of demand 3; Demand3.antt puts them together:
-- Demand3Rebuild             : a rebuild that is not refused                                        demand_3_rebuild
-- SameStrips                 : bundles with equal strips give equal columns                         same_strips
-- SameColumn                 : so do bundles cut from arrays alike at the planned places            same_column
-- SameBundle                 : for one recording, such arrays give one bundle                       same_bundle
-- SameAnswer                 : equal bundles, wanted numbers and lengths give the same answer       same_answer
-- CutPasses                  : a bundle cut for what is wanted is not refused                      cut_passes
-- CutColumn                  : the column rebuilt from a bundle cut from any stored array           cut_column
-- CutRebuilds                : from an encoded array, the rebuild gives the lost column back        cut_rebuilds
-- CutForWanted               : a bundle cut for another profile, node or recording is refused       cut_for_wanted
-- OtherEdition               : one cut in another edition is refused with 6                         other_edition
-- WholeBundle                : what is not refused is what is cut from any array with its strips    whole_bundle
-- Shown in proofs/Rebuild.antt, under the name beside each.
--
-- In all of them p are the wanted numbers, f is the wanted node, r the wanted recording, b a bundle, y what the buffer
-- lent for the column holds, x an array. What else a bundle may be cut for is written out: numbers, node,
-- recording. Where there are two of a kind they are numbered 1 and 2.
--
-- planned p f are the planned places, bundle_strip p b i is the strip i of the bundle b: document/specs/Plan.antt and
-- Bundle.antt.
use Rattle.std.specs.Prelude.{◌≡◌, ◌≢◌, List, ◌∷◌, ◌++◌, ℕ, ◌*◌, ◌<◌, length, Err}
use Rattle.lists.specs.Each.{Bytes}
use Rattle.lists.specs.Listed.{listed}
use Rattle.document.specs.declared.Numbers.{Numbers}
use Rattle.document.specs.declared.Profile.{Profile}
use Rattle.document.specs.declared.Node.{Node}
use Rattle.document.specs.declared.Place.{Place}
use Rattle.document.specs.declared.Recording.{Recording}
use Rattle.document.specs.declared.Refusal.TheVariants.{OutOfRange, BufferLength, Form}
use Rattle.document.specs.Refusals.{answer_number, answer_value}
use Rattle.document.specs.Profile.{Accepted, profile_of}
use Rattle.document.specs.Encoding.{column_in}
use Rattle.document.specs.Plan.{planned}
use Rattle.document.specs.Bundle.{bundle_of, bundle_strip}
use Rattle.document.specs.Rebuild.{rebuild_tests, rebuild_of}
use Rattle.demands.specs.Tables.{Sentence}
use Rattle.demands.specs.Profile.{Demand1For}
use Rattle.demands.specs.Strips.{EncodedArray, HasStrips, AlikeAt}
use Rattle.demands.specs.Bundle.{bundle_sentences, CutFrom}

-- 5: a column has AS bytes; 'other than the bundle to read'.
unfoldable pub rebuild_sentences : Profile → Node → Recording → List ℕ → List ℕ → List Sentence
rebuild_sentences p f r b y =
    record { refusal = OutOfRange; says = f.0 < p.n → ⊥ }
    ∷ record { refusal = BufferLength; says = length y ≢ p.a * p.s }
    ∷ bundle_sentences p f r b

-- One line for each strip under 8, from index 0, and then one for each strip under 9.
abbrev pub Demand1Rebuild : Numbers → ℕ → Recording → List ℕ → List ℕ → Type 1
Demand1Rebuild p f r b y =
    let lost : Node = record { 0 = f } in
    let P : ℕ = length (planned (profile_of p) lost) in
    Demand1For p (λ p. rebuild_tests p lost r b y) (λ p. rebuild_sentences p lost r b y)
    ((4, 0) ∷ (5, 0) ∷ (6, 0) ∷ (7, 0) ∷ (listed P (λ i. (8, i)) ++ listed P (λ i. (9, i)))) y (rebuild_of p f r b y)

-- 'where not refused': then rebuild_of .. .1 is the rebuilt column, 'the AS bytes that a rebuild not refused leaves in
-- the buffer lent for writing'.
abbrev pub NotRefused : Numbers → ℕ → Recording → List ℕ → List ℕ → Type 0
NotRefused p f r b y = answer_number (rebuild_of p f r b y).0 ≡ 0

-- 'scenario number in four bytes', and a run in 'two bytes more': a call takes no others, by their types.
abbrev pub InSixBytes : Recording → Type 0
InSixBytes r = (r.scenario < 4294967296) × (r.run < 65536)

module _ (p : Numbers) (f : ℕ) where
  -- the wanted profile, and the planned places
  abbrev wanted : Profile
  wanted = profile_of p

  abbrev plan : List Place
  plan = planned wanted (record { 0 = f })

  pub record RebuiltColumn (r : Recording) (b y : List ℕ) : Type 0 where
    -- 'On success the answer is 0, with .. 0 otherwise.'
    pub value : answer_value (rebuild_of p f r b y).0 ≡ 0
    -- 'some encoded array has them'
    pub some : (x : List ℕ) × EncodedArray wanted x × HasStrips wanted plan x (bundle_strip wanted b)
    -- 'and the rebuilt column is the one every such array has on that drive'
    pub column : (x : List ℕ) → EncodedArray wanted x → HasStrips wanted plan x (bundle_strip wanted b)
        → (rebuild_of p f r b y).1 ≡ column_in wanted x f

  abbrev pub Demand3Rebuild : Type 0
  Demand3Rebuild = (r : Recording) (b y : List ℕ) → Bytes b → NotRefused p f r b y → RebuiltColumn r b y

  -- ---- two rebuilds, and rebuilds from what was cut
  -- 'No byte elsewhere, old or new, changes the rebuild.'
  abbrev pub SameStrips : Type 0
  SameStrips =
      (r₁ r₂ : Recording) (b₁ b₂ y₁ y₂ : List ℕ) → NotRefused p f r₁ b₁ y₁ → NotRefused p f r₂ b₂ y₂
      → ((i : ℕ) → i < length plan → bundle_strip wanted b₁ i ≡ bundle_strip wanted b₂ i)
      → (rebuild_of p f r₁ b₁ y₁).1 ≡ (rebuild_of p f r₂ b₂ y₂).1

  -- 'Take any two stored arrays alike at the planned places, whatever they hold elsewhere: rebuilds from bundles cut
  -- from them, where not refused, write the same column, whatever scenarios they are for and whatever the buffers lent
  -- for writing held.' The bundles may be cut for any numbers, nodes and recordings.
  abbrev pub SameColumn : Type 0
  SameColumn =
      (x₁ x₂ : List ℕ) → AlikeAt wanted plan x₁ x₂
      → (numbers₁ numbers₂ : Numbers) (node₁ node₂ : ℕ) (recording₁ recording₂ : Recording) (b₁ b₂ : List ℕ)
      → CutFrom numbers₁ node₁ x₁ recording₁ b₁ → CutFrom numbers₂ node₂ x₂ recording₂ b₂
      → (r₁ r₂ : Recording) (y₁ y₂ : List ℕ) → NotRefused p f r₁ b₁ y₁ → NotRefused p f r₂ b₂ y₂
      → (rebuild_of p f r₁ b₁ y₁).1 ≡ (rebuild_of p f r₂ b₂ y₂).1

  -- For one recording, such arrays give one bundle: no byte elsewhere turns a rebuild into a refusal.
  abbrev pub SameBundle : Type 0
  SameBundle =
      (x₁ x₂ : List ℕ) → AlikeAt wanted plan x₁ x₂ → (r : Recording) (b₁ b₂ : List ℕ) → CutFrom p f x₁ r b₁
      → CutFrom p f x₂ r b₂ → b₁ ≡ b₂

  -- 'Any two rebuilds given equal bundles, the same wanted numbers and buffers of equal length give the same answer,
  -- number and index, refused or not.'
  abbrev pub SameAnswer : Type 0
  SameAnswer =
      (r : Recording) (b y₁ y₂ : List ℕ) → length y₁ ≡ length y₂ → (rebuild_of p f r b y₁).0 ≡ (rebuild_of p f r b y₂).0

  -- A bundle cut from any stored array for the wanted numbers, node and recording is not refused, where the column has
  -- its AS bytes.
  abbrev pub CutPasses : Type 0
  CutPasses =
      (x : List ℕ) (r : Recording) (b y : List ℕ) → CutFrom p f x r b → length y ≡ p.a * p.s → NotRefused p f r b y

  -- Cut from any stored array: the column is that of every encoded array alike at the planned places.
  abbrev pub CutColumn : Type 0
  CutColumn =
      (x₁ : List ℕ) (recording r : Recording) (b y : List ℕ) → CutFrom p f x₁ recording b → NotRefused p f r b y
      → (x₂ : List ℕ) → EncodedArray wanted x₂ → AlikeAt wanted plan x₁ x₂
      → (rebuild_of p f r b y).1 ≡ column_in wanted x₂ f

  -- Cut from an encoded array, it gives the lost column back.
  abbrev pub CutRebuilds : Type 0
  CutRebuilds =
      (x : List ℕ) (recording r : Recording) (b y : List ℕ) → CutFrom p f x recording b → EncodedArray wanted x
      → NotRefused p f r b y → (rebuild_of p f r b y).1 ≡ column_in wanted x f

  -- A bundle cut for any numbers, node and recording, and not refused: they are the wanted ones, the edition among
  -- them. Refusals 6 and 7 see to it: fields 01 and 02 have them.
  abbrev pub CutForWanted : Type 0
  CutForWanted =
      (numbers : Numbers) (node : ℕ) (x : List ℕ) (recording r : Recording) (b y : List ℕ)
      → CutFrom numbers node x recording b → NotRefused p f r b y
      → (numbers ≡ p) × (node ≡ f) × (InSixBytes recording → InSixBytes r → recording ≡ r)

  -- K6: '6 and 7 read the edition too': past 1 to 5 and 13, a bundle cut in another edition, whatever else it is cut
  -- for, is refused with 6.
  abbrev pub OtherEdition : Type 0
  OtherEdition =
      (numbers : Numbers) (node : ℕ) (x : List ℕ) (recording r : Recording) (b y : List ℕ)
      → CutFrom numbers node x recording b → numbers.edition ≢ p.edition → Accepted wanted → f < p.n
      → length y ≡ p.a * p.s → rebuild_of p f r b y ≡ (Err Form, y)

  -- A bundle that is not refused is the one that is cut, for the wanted recording, from any array with its strips:
  -- refusals 6 to 9 leave no byte but the strips free.
  abbrev pub WholeBundle : Type 0
  WholeBundle =
      (r : Recording) (b y x : List ℕ) → NotRefused p f r b y → length x ≡ p.n * p.a * p.s
      → HasStrips wanted plan x (bundle_strip wanted b) → b ≡ bundle_of wanted (record { 0 = f }) r x
