-- Planning: when it is refused, and demand 3, first sentences: 'For every accepted profile .. and every dead drive,
-- the plan names the places that its steps in document 01 list, in that order: distinct places, none on the dead drive.
-- Their number is the one the plan, where not refused, answers with, and it equals the formula there.'
--
-- plan_sentences p f x  : the lines for planning the rebuild of node f into x, past those of a profile
-- Demand1Plan p f x    : planning refuses as they say                                              demand_1_plan
-- PlannedPlaces p f qs : the places qs are distinct places of the array, none on f, and their number is the formula's
-- Demand3Places        : so they are over any walk that goes over each candidate once              demand_3_places
-- Demand3Walk          : each edition's walk is one such, and `planned` is the plan over it        demand_3_walk
-- distance_after n f j  : how far node j is from the node after f, rising and wrapping past n-1 to 0
-- WalkRises p f w      : step 1 of the walk w rises, and so do steps 2 and 3 in edition 1; in edition 2 they rise in
--                        this distance
-- Demand3Order         : each edition's walk does                                                  demand_3_order
-- OneWalk              : a complete walk that does gives the plan: there is no other               one_walk
-- NamedPlaces p f x    : what planning the rebuild of node f into x leaves and answers
-- Demand3Plan          : where planning is not refused, it names the planned places                demand_3_plan
-- Shown in proofs/Plan.antt, under the name beside each.
--
-- `plan_over` in document/specs/Plan.antt is the list of the steps, over a walk: the nodes that each step goes over.
-- `OneWalk` says that nobody has to believe `walk_of`.
use Rattle.std.specs.Prelude.{◌≡◌, ◌≢◌, List, [], ◌∷◌, ◌++◌, ℕ, ◌+◌, ◌-◌, ◌*◌, ◌%◌, ◌<◌, length, drop}
use Rattle.lists.specs.Each.{Each, Distinct, Rises}
use Rattle.document.specs.declared.Numbers.{Numbers}
use Rattle.document.specs.declared.Profile.{Profile}
use Rattle.document.specs.declared.Node.{Node}
use Rattle.document.specs.declared.Place.{Place}
use Rattle.document.specs.declared.Refusal.TheVariants.{OutOfRange, BufferLength}
use Rattle.document.specs.Refusals.{answer_number, answer_value}
use Rattle.document.specs.Profile.{Accepted, profile_of}
use Rattle.document.specs.Places.{Within}
use Rattle.document.specs.Plan.{Walk, Complete, walk_of, plan_over, planned, price_of, plan_bytes, plan_tests, plan_of}
use Rattle.demands.specs.Tables.{Sentence}
use Rattle.demands.specs.Profile.{Demand1For}

-- 4: 'lost node not below n'. 5: 'a lent buffer .. has the wrong length (plan: too short)', two bytes a place.
unfoldable pub plan_sentences : Profile → Node → List ℕ → List Sentence
plan_sentences p f x =
    record { refusal = OutOfRange; says = f.0 < p.n → ⊥ }
    ∷ record { refusal = BufferLength; says = length x < 2 * length (planned p f) }
    ∷ []

abbrev pub Demand1Plan : Numbers → ℕ → List ℕ → Type 1
Demand1Plan p f x =
    let lost : Node = record { 0 = f } in
    Demand1For p (λ p. plan_tests p lost x) (λ p. plan_sentences p lost x) ((4, 0) ∷ (5, 0) ∷ []) x (plan_of p f x)

pub record PlannedPlaces (p : Profile) (f : Node) (qs : List Place) : Type 0 where
  -- places of the array: nodes below n, rows below A
  pub within : Each (Within p) qs
  -- 'distinct places'
  pub distinct : Distinct qs
  -- 'none on the dead drive'
  pub off_lost : Each (λ q. q.node.0 ≢ f.0) qs
  -- 'Their number .. equals the formula there'
  pub price : length qs ≡ price_of p.n p.k p.a

-- 'For every accepted profile .. and every dead drive'; K6: 'Demand 3, its places then in the walk's order, is shown
-- once over any walk that lists each candidate of step 2 once and then each candidate of step 3 once.'
abbrev pub Demand3Places : Type 0
Demand3Places =
    (p : Profile) → Accepted p → (f : Node) → f.0 < p.n → (w : Walk) → Complete p.n p.a f w
    → PlannedPlaces p f (plan_over p.a p.k f w)

abbrev pub Demand3Walk : Type 0
Demand3Walk =
    (p : Profile) (f : Node) → f.0 < p.n
    → Complete p.n p.a f (walk_of p f) × (planned p f ≡ plan_over p.a p.k f (walk_of p f))

abbrev pub distance_after : ℕ → Node → ℕ → ℕ
distance_after n f j = (j + n - (f.0 + 1)) % n

pub record WalkRises (p : Profile) (f : Node) (w : Walk) : Type 0 where
  -- 1. '.. by rising node'; K6: 'Step 1 stays.'
  pub own : Rises (λ j. j) w.own
  -- 2., 3. 'rising'; K6: 'Edition 1 stays for the archive.'
  pub edition_1 : p.edition ≡ 1 → Rises (λ j. j) w.diagonal × Rises (λ j. j) w.off_diagonal
  -- K6: 'Edition 2 walks the candidates of steps 2 and 3 from the node after the lost one, rising and wrapping past n-1
  -- to 0, each step on its own'
  pub edition_2 : p.edition ≡ 2
      → Rises (distance_after p.n f) w.diagonal × Rises (distance_after p.n f) w.off_diagonal

abbrev pub Demand3Order : Type 0
Demand3Order = (p : Profile) (f : Node) → f.0 < p.n → WalkRises p f (walk_of p f)

-- So the documents' sentences alone fix the plan.
abbrev pub OneWalk : Type 0
OneWalk =
    (p : Profile) → Accepted p → (f : Node) → f.0 < p.n → (w : Walk) → Complete p.n p.a f w → WalkRises p f w
    → planned p f ≡ plan_over p.a p.k f w

module _ (p : Numbers) (f : ℕ) (x : List ℕ) where
  abbrev plan : List Place
  plan = planned (profile_of p) (record { 0 = f })

  pub record NamedPlaces : Type 0 where
    -- 'the plan names the places': two bytes each, and 'bytes past the plan stay'
    pub holds : (plan_of p f x).1 ≡ plan_bytes plan ++ drop (2 * length plan) x
    -- 'Their number is the one the plan .. answers with'
    pub number : answer_value (plan_of p f x).0 ≡ length plan
    -- the facts above, for these numbers
    pub places : PlannedPlaces (profile_of p) (record { 0 = f }) plan

-- 'the plan, where not refused'
abbrev pub Demand3Plan : Type 0
Demand3Plan = (p : Numbers) (f : ℕ) (x : List ℕ) → answer_number (plan_of p f x).0 ≡ 0 → NamedPlaces p f x
