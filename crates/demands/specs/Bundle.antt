-- The bundle: when writing one is refused, what it leaves, and when a reader refuses it.
--
-- Shown in proofs/Bundle.antt, under the name beside each:
-- write_sentences p f x b  : the lines for cutting a bundle from the array x, written into b, past those of a profile
-- Demand1Write p f r x b  : writing a bundle refuses as they say                                    demand_1_write
-- WrittenBundle p f r x b : what cutting a bundle from x, written into b, leaves and answers
-- Demand3Write            : writing a bundle that is not refused                                    demand_3_write
-- StripsAt                : where a bundle's strips stand in it                                    strips_at
-- CutFrom p f x r b       : b is a bundle cut from the stored array x
--
-- bundle_sentences p f r b : the lines for a bundle to read, where the profile p, the lost node f and the recording r
--                           are wanted: those of a message with 7 bytes of content in field 02 (Message.antt)
--
-- planned p f are the planned places, bundle_strip p b i is the strip i of the bundle b: document/specs/Plan.antt and
-- Bundle.antt. The numbers are the documents' own: K2's 19 + P(11+S), in edition 2 one byte more.
use Rattle.std.specs.Prelude.{◌≡◌, List, [], ◌∷◌, ◌++◌, ℕ, ◌+◌, ◌*◌, ◌<◌, length}
use Rattle.lists.specs.Put.{slice}
use Rattle.fields.specs.Fields.{two_bytes, four_bytes}
use Rattle.document.specs.declared.Numbers.{Numbers}
use Rattle.document.specs.declared.Profile.{Profile}
use Rattle.document.specs.declared.Node.{Node}
use Rattle.document.specs.declared.Recording.{Recording}
use Rattle.document.specs.declared.Refusal.TheVariants.{OutOfRange, BufferLength}
use Rattle.document.specs.Refusals.{answer_number, answer_value}
use Rattle.document.specs.Profile.{profile_of}
use Rattle.document.specs.Encoding.{Stored}
use Rattle.document.specs.Plan.{planned, price_of}
use Rattle.document.specs.Bundle.{bundle_of, write_tests, write_of, bundle_strip}
use Rattle.demands.specs.Tables.{Sentence}
use Rattle.demands.specs.Profile.{Demand1For}
use Rattle.demands.specs.Strips.{HasStrips}
use Rattle.demands.specs.Message.{by_edition, Formed, Headed, message_sentences}

-- ---- writing a bundle
-- 5: 'a lent buffer .. has the wrong length': a stored array has nAS bytes, a bundle 19 + P(11+S), or 20 + P(11+S) in
-- edition 2.
unfoldable pub write_sentences : Profile → Node → List ℕ → List ℕ → List Sentence
write_sentences p f x b =
    record { refusal = OutOfRange; says = f.0 < p.n → ⊥ }
    ∷ record {
      refusal = BufferLength;
      says = (length x ≡ p.n * p.a * p.s) × (length b ≡ by_edition p 19 20 + length (planned p f) * (11 + p.s))
          → ⊥;
    }
    ∷ []

abbrev pub Demand1Write : Numbers → ℕ → Recording → List ℕ → List ℕ → Type 1
Demand1Write p f r x b =
    let lost : Node = record { 0 = f } in
    Demand1For p (λ p. write_tests p lost x b) (λ p. write_sentences p lost x b) ((4, 0) ∷ (5, 0) ∷ []) b
    (write_of p f r x b)

module _ (p : Numbers) (f : ℕ) (r : Recording) (x b : List ℕ) where
  abbrev written : List ℕ
  written = (write_of p f r x b).1

  pub record WrittenBundle : Type 0 where
    -- the fields of document 01, K2 and K6, field 03 'once a planned place in plan order'
    pub holds : written ≡ bundle_of (profile_of p) (record { 0 = f }) r x
    pub formed : Formed (profile_of p) 7 (length (planned (profile_of p) (record { 0 = f }))) written
    pub headed : Headed (profile_of p) 7 (f ∷ (four_bytes r.scenario ++ two_bytes r.run)) written
    -- 'it takes its strips from the planned places'
    pub strips : HasStrips (profile_of p) (planned (profile_of p) (record { 0 = f })) x
        (bundle_strip (profile_of p) written)
    -- K2: 'a bundle 19 + P(11+S)', P the number of places; one byte more in edition 2
    pub size : length written ≡ by_edition (profile_of p) 19 20 + price_of p.n p.k p.a * (11 + p.s)
    -- 'On success the answer is 0, with .. the length for a bundle'
    pub value : answer_value (write_of p f r x b).0 ≡ length written

abbrev pub Demand3Write : Type 0
Demand3Write =
    (p : Numbers) (f : ℕ) (r : Recording) (x b : List ℕ) → answer_number (write_of p f r x b).0 ≡ 0
    → WrittenBundle p f r x b

-- Past the head and the fields 03 before its own, and past its own first 11 bytes: tag and length, node, row, scenario
-- and run.
abbrev pub StripsAt : Type 0
StripsAt =
    (p : Profile) (b : List ℕ) (i : ℕ)
    → bundle_strip p b i ≡ slice b (by_edition p 19 20 + i * (11 + p.s) + 11) p.s

-- 'A bundle cut from a stored array is what writing a bundle leaves'.
pub record CutFrom (p : Numbers) (f : ℕ) (x : List ℕ) (r : Recording) (b : List ℕ) : Type 0 where
  pub lent : List ℕ
  pub stored : Stored (profile_of p) x
  pub not_refused : answer_number (write_of p f r x lent).0 ≡ 0
  pub leaves : (write_of p f r x lent).1 ≡ b

-- ---- a bundle to read
-- '02, ..: lost node, scenario number in four bytes', K2: 'Field 02 has length 7', and the run in two bytes after the
-- scenario number. A scenario of 2^32 or more would count by its lowest 32 bits, a run of 2^16 or more by its lowest
-- 16; their types rule it out.
unfoldable pub bundle_sentences : Profile → Node → Recording → List ℕ → List Sentence
bundle_sentences p f r b =
    message_sentences p 7 (f.0 ∷ (four_bytes r.scenario ++ two_bytes r.run)) r (planned p f) b
