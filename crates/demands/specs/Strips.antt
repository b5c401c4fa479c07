-- Demand 3, what a rebuild rests on: 'Whatever bytes stand at those places, some encoded array has them, and the
-- rebuilt column is the one every such array has on that drive.'
--
-- EncodedArray p x    : x is an encoded array
-- HasStrips p qs x v  : x has the strip v i at place i of qs, for each of the places qs
-- AlikeAt p qs x y    : the arrays x and y are alike at the places qs
-- FitsOver p f w      : any bytes at the planned places stand in some encoded array, over the walk w
-- OneColumnOver p f w : encoded arrays alike at the planned places have the same lost column, over the walk w
-- Fits                : the first, for every accepted profile, dead drive and complete walk        fits
-- OneColumn           : the second                                                                 one_column
-- Shown in proofs/Strips.antt, under the name beside each.
--
-- plan_over A k f w are the planned places over the walk w: document/specs/Plan.antt. In an array x strip_of p x q is the
-- strip at the place q, column_in p x j the column of node j: document/specs/Encoding.antt.
use Rattle.std.specs.Prelude.{◌≡◌, List, ℕ, ◌<◌, length}
use Rattle.lists.specs.Each.{Bytes}
use Rattle.document.specs.declared.Profile.{Profile}
use Rattle.document.specs.declared.Node.{Node}
use Rattle.document.specs.declared.Place.{Place}
use Rattle.document.specs.Profile.{Accepted}
use Rattle.document.specs.Places.{place_at}
use Rattle.document.specs.Encoding.{strip_of, column_in, Data}
use Rattle.document.specs.Plan.{Walk, Complete, plan_over}
use Rattle.demands.specs.Encoding.{DocumentArray}

-- 'An encoded array is a stored array that some data give.'
pub record EncodedArray (p : Profile) (x : List ℕ) : Type 0 where
  pub given : List ℕ
  pub are_data : Data p given
  pub gives : DocumentArray p given x

module _ (p : Profile) (qs : List Place) where
  -- 'an array has the strips given for them if each stands at its own place'
  abbrev pub HasStrips : List ℕ → (ℕ → List ℕ) → Type 0
  HasStrips x strips = (i : ℕ) → i < length qs → strip_of p x (place_at qs i) ≡ strips i

  -- 'any two stored arrays alike at the planned places'
  abbrev pub AlikeAt : List ℕ → List ℕ → Type 0
  AlikeAt x y = (i : ℕ) → i < length qs → strip_of p x (place_at qs i) ≡ strip_of p y (place_at qs i)

-- ---- 'For every accepted profile .. and every dead drive': what a rebuild rests on, over any walk that goes over each
-- candidate once
module _ (p : Profile) (f : Node) (w : Walk) where
  abbrev places : List Place
  places = plan_over p.a p.k f w

  -- 'Whatever bytes stand at those places, some encoded array has them'
  abbrev FitsOver : Type 0
  FitsOver =
      (strips : ℕ → List ℕ) → ((i : ℕ) → i < length places → (length (strips i) ≡ p.s) × Bytes (strips i))
      → (x : List ℕ) × EncodedArray p x × HasStrips p places x strips

  -- 'the one every such array has on that drive'
  abbrev OneColumnOver : Type 0
  OneColumnOver =
      (x y : List ℕ) → EncodedArray p x → EncodedArray p y → AlikeAt p places x y
      → column_in p x f.0 ≡ column_in p y f.0

abbrev pub Fits : Type 0
Fits =
    (p : Profile) → Accepted p → (f : Node) → f.0 < p.n → (w : Walk) → Complete p.n p.a f w → FitsOver p f w

abbrev pub OneColumn : Type 0
OneColumn =
    (p : Profile) → Accepted p → (f : Node) → f.0 < p.n → (w : Walk) → Complete p.n p.a f w
    → OneColumnOver p f w
