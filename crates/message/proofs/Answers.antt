-- The answer of a reader, by what is found on the way.
use Rattle.std.specs.Prelude.{Result, Ok, Err}
use mathlib.Core.Path.{◌≡◌, sym, ap, ◌∙◌}
use mathlib.Core.Bool.{Bool, true, false, not}
use mathlib.Core.List.{List, [], ◌++◌, append-nil}
use Prim.Native.Nat.{ℕ, ◌<◌}
use lib.ListN.{length}
use Rattle.lists.specs.Listed.{listed}
use Rattle.document.specs.declared.Place.{Place}
use Rattle.document.specs.declared.Refusal.TheVariants.{Form, Head, Misplaced, Stale}
use Rattle.document.specs.declared.Refusal.{Refusal}
use Rattle.document.specs.Refusals.{Test, tried}
use Rattle.document.specs.Message.{formed, headed, message_tests}
use Rattle.document.proofs.Tried.{tried_holds, tried_not, tried_first, tried_none}
use Rattle.message.specs.declared.Message.{Message}
use Rattle.message.specs.PlaceBytes.{places_from}
use Rattle.message.specs.Reader.{count_of, placed_in, fresh_in, Passes}
use Rattle.message.proofs.Places.{places_length}

module _ (w : Message) (b : List ℕ) where
  abbrev qs : List Place
  qs = places_from w.places.now

  abbrev answer : Result Unit Refusal
  answer = tried (message_tests w.profile w.content.now w.recording qs b) Err (Ok tt)

  -- the lines of the places and of the recordings
  abbrev misplaced_line : ℕ → Test
  misplaced_line i = record { refusal = Misplaced i; holds = not (placed_in w b i) }

  abbrev stale_line : ℕ → Test
  stale_line i = record { refusal = Stale i; holds = not (fresh_in w b i) }

  abbrev Formed : Bool → Type 0
  Formed t = t ≡ formed w.profile (length w.content.now) (count_of w) b

  past_length : {t : Bool} → Formed t → formed w.profile (length w.content.now) (length qs) b ≡ t
  past_length e = rw places_length (sym e)

  pub form_refused : Formed false → Err Form ≡ answer
  unfolding message_tests
  form_refused e = sym (tried_holds Err _ _ _ (ap not (past_length e)))

  module _ (form : Formed true) where
    pub head_refused : false ≡ headed w.profile w.content.now b → Err Head ≡ answer
    unfolding message_tests
    head_refused e =
        sym (tried_not Err _ _ _ (ap not (past_length form)) ∙ tried_holds Err _ _ _ (ap not (sym e)))

    module _ (head : true ≡ headed w.profile w.content.now b) where
      past_head : answer ≡ tried (listed (count_of w) misplaced_line ++ listed (count_of w) stale_line) Err (Ok tt)
      unfolding message_tests
      past_head =
          tried_not Err _ _ _ (ap not (past_length form)) ∙ tried_not Err _ _ _ (ap not (sym head))
          ∙ ap (λ (i : ℕ). tried (listed i misplaced_line ++ listed i stale_line) Err (Ok tt))
          (places_length w.places.now)

      pub place_refused : {i : ℕ} → (i < count_of w) × (placed_in w b i ≡ false) × Passes (placed_in w b) i
          → Err (Misplaced i) ≡ answer
      place_refused {i} first =
          sym (past_head
          ∙ tried_first Err (count_of w) misplaced_line (listed (count_of w) stale_line) (Ok tt) i first.0
          (λ e h. ap not (first.2 e h)) (ap not first.1))

      -- no strip is misplaced
      module _ (placed : Passes (placed_in w b) (count_of w)) where
        past_places : answer ≡ tried (listed (count_of w) stale_line ++ []) Err (Ok tt)
        past_places =
            past_head
            ∙ tried_none Err (count_of w) misplaced_line (listed (count_of w) stale_line) (Ok tt)
            (λ e h. ap not (placed e h))
            ∙ ap (λ (l : List Test). tried l Err (Ok tt)) (sym (append-nil (listed (count_of w) stale_line)))

        pub stale_refused : {i : ℕ} → (i < count_of w) × (fresh_in w b i ≡ false) × Passes (fresh_in w b) i
            → Err (Stale i) ≡ answer
        stale_refused {i} first =
            sym (past_places
            ∙ tried_first Err (count_of w) stale_line [] (Ok tt) i first.0 (λ e h. ap not (first.2 e h))
            (ap not first.1))

        pub passed : Passes (fresh_in w b) (count_of w) → Ok tt ≡ answer
        unfolding tried
        passed fresh =
            sym (past_places ∙ tried_none Err (count_of w) stale_line [] (Ok tt) (λ e h. ap not (fresh e h)))
