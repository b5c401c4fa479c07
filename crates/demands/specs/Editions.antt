-- What K6 leaves alone. 'Edition 2 walks the candidates of steps 2 and 3 ..', 'Field 01 gets a last byte': the edition
-- changes plans and bundles. For an accepted profile it changes no array, no reading back and no survey, so that what
-- is stored is rebuilt in either edition, to the same column.
--
-- in_edition p e         : the numbers p with the edition e
-- EditionAside p e      : encoding, reading back, surveys and encoded arrays are the same with p and in edition e
-- EditionsAside         : so it is where both are accepted                                          editions_aside
-- EitherEdition p e f x : bundles cut from x in the two editions give the same column of node f
-- EitherRebuilds        : so it is for every encoded array x                                        either_rebuilds
-- Shown in proofs/Editions.antt, under the name beside each.
use Rattle.std.specs.Prelude.{◌≡◌, ◌↔◌, List, ℕ}
use Rattle.document.specs.declared.Numbers.{Numbers}
use Rattle.document.specs.declared.Recording.{Recording}
use Rattle.document.specs.Profile.{Accepted, profile_of}
use Rattle.document.specs.Encoding.{encode_of}
use Rattle.document.specs.Rebuild.{rebuild_of}
use Rattle.document.specs.Reading.{read_of}
use Rattle.document.specs.Survey.{survey_of}
use Rattle.demands.specs.Strips.{EncodedArray}
use Rattle.demands.specs.Bundle.{CutFrom}
use Rattle.demands.specs.Rebuild.{NotRefused}

abbrev pub in_edition : Numbers → ℕ → Numbers
in_edition p e = record { n = p.n; k = p.k; a = p.a; t = p.t; s = p.s; edition = e }

module _ (p : Numbers) (e : ℕ) where
  pub record EditionAside : Type 0 where
    pub encoding : (d x : List ℕ) → encode_of p d x ≡ encode_of (in_edition p e) d x
    pub reading : (nodes x y : List ℕ) → read_of p nodes x y ≡ read_of (in_edition p e) nodes x y
    pub survey : (start most : ℕ) (x : List ℕ) → survey_of p start most x ≡ survey_of (in_edition p e) start most x
    pub arrays : (x : List ℕ) → EncodedArray (profile_of p) x ↔ EncodedArray (profile_of (in_edition p e)) x

  -- Whatever recordings the bundles are cut for and wanted for, where neither rebuild is refused.
  abbrev pub EitherEdition : ℕ → List ℕ → Type 0
  EitherEdition f x =
      (recording₁ recording₂ r₁ r₂ : Recording) (b₁ b₂ y₁ y₂ : List ℕ) → CutFrom p f x recording₁ b₁
      → CutFrom (in_edition p e) f x recording₂ b₂ → NotRefused p f r₁ b₁ y₁ → NotRefused (in_edition p e) f r₂ b₂ y₂
      → (rebuild_of p f r₁ b₁ y₁).1 ≡ (rebuild_of (in_edition p e) f r₂ b₂ y₂).1

abbrev pub EditionsAside : Type 0
EditionsAside =
    (p : Numbers) (e : ℕ) → Accepted (profile_of p) → Accepted (profile_of (in_edition p e)) → EditionAside p e

abbrev pub EitherRebuilds : Type 0
EitherRebuilds =
    (p : Numbers) (e f : ℕ) (x : List ℕ) → EncodedArray (profile_of p) x → EitherEdition p e f x
