-- The tests of a profile decide whether its numbers are accepted; and the head of a call, which tries them first.
use Rattle.std.specs.Result.{IsErrAnd}
use Rattle.std.proofs.lemmas.Result.{err_from_is_err_and}
use Rattle.std.specs.Prelude.{Result, Ok, Err}
use mathlib.Core.Path.{◌≡◌, refl, sym, ap, subst, ◌∙◌}
use mathlib.Core.Bool.{Bool, true, false, false≢true}
use mathlib.Core.List.{List, ◌++◌}
use Prim.Native.Nat.{ℕ, ◌-◌, ◌%◌, ◌≤◌}
use lib.Dec.{leb}
use borrow.Author.Tests.{not-false}
use Rattle.document.specs.declared.Numbers.{Numbers}
use Rattle.document.specs.declared.Profile.{Profile}
use Rattle.document.specs.declared.Refusal.{Refusal}
use Rattle.document.specs.declared.Refusal.TheVariants.{Shape, Constant, StripLength, Edition}
use Rattle.document.specs.Refusals.{Test, tried, Decides}
use Rattle.document.specs.Profile.{max_nodes, max_rows, max_strip, ShapeAccepted, Accepted, shape_accepted, constant_accepted, strip_accepted, edition_accepted, profile_tests, profile_of, on_accepted, checked_of}
use Rattle.document.proofs.Decides.{
  decides_le,
  decides_lt,
  decides_eq,
  decides_both,
  decides_same,
  decides_false,
}
use Rattle.document.proofs.Tried.{Failed, tried_map, tried_append, tried_by, tried_same}

pub decides_shape : (n k A : ℕ) → Decides (shape_accepted n k A) (ShapeAccepted n k A)
unfolding shape_accepted
decides_shape n k A =
    decides_same (shape_accepted n k A)
    (decides_both _ _ (decides_le 1 k)
    (decides_both _ _ (decides_lt k n)
    (decides_both _ _ (decides_le 2 A)
    (decides_both _ _ (decides_le A max_rows)
    (decides_both _ _ (decides_le A (n - k))
    (decides_both _ _ (decides_eq (n % A) 0) (decides_le n max_nodes)))))))
    (λ h. record {
      some_data = h.0;
      some_parity = h.1.0;
      two_rows = h.1.1.0;
      few_rows = h.1.1.1.0;
      enough_parity = h.1.1.1.1.0;
      whole_groups = h.1.1.1.1.1.0;
      few_nodes = h.1.1.1.1.1.1;
    })
    (λ s. (
      s.some_data,
      (s.some_parity, (s.two_rows, (s.few_rows, (s.enough_parity, (s.whole_groups, s.few_nodes))))),
    ))

pub decides_constant : (t : ℕ) → Decides (constant_accepted t) ((2 ≤ t) × (t ≤ 255))
unfolding constant_accepted
decides_constant t = decides_both (leb 2 t) (leb t 255) (decides_le 2 t) (decides_le t 255)

pub decides_strip : (S : ℕ) → Decides (strip_accepted S) ((1 ≤ S) × (S ≤ max_strip))
unfolding strip_accepted
decides_strip S = decides_both (leb 1 S) (leb S max_strip) (decides_le 1 S) (decides_le S max_strip)

pub decides_edition : (e : ℕ) → Decides (edition_accepted e) ((1 ≤ e) × (e ≤ 2))
unfolding edition_accepted
decides_edition e = decides_both (leb 1 e) (leb e 2) (decides_le 1 e) (decides_le e 2)

-- where all else is accepted, the number of nodes decides
pub shape_left : (n k A : ℕ) → (n ≤ max_nodes → ShapeAccepted n k A) → shape_accepted n k A ≡ leb n max_nodes
shape_left n k A h = go (leb n max_nodes) (decides_le n max_nodes)
  where
    go : (b : Bool) → Decides b (n ≤ max_nodes) → shape_accepted n k A ≡ b
    go true d = (decides_shape n k A).1 (h (d.0 refl))
    go false d = decides_false (shape_accepted n k A) (decides_shape n k A) (λ s. false≢true (d.1 s.few_nodes))

-- the outcome for given numbers, by the tests that led to it
module _ (p : Numbers) where
  pub shape_refused : shape_accepted p.n p.k p.a ≡ false → checked_of p ≡ Err Shape
  unfolding checked_of on_accepted profile_tests tried
  shape_refused e = simp e

  module _ (shape : shape_accepted p.n p.k p.a ≡ true) where
    pub constant_refused : constant_accepted p.t ≡ false → checked_of p ≡ Err Constant
    unfolding checked_of on_accepted profile_tests tried
    constant_refused e = simp (shape, e)

    module _ (constant : constant_accepted p.t ≡ true) where
      pub strip_refused : strip_accepted p.s ≡ false → checked_of p ≡ Err StripLength
      unfolding checked_of on_accepted profile_tests tried
      strip_refused e = simp (shape, constant, e)

      module _ (strip : strip_accepted p.s ≡ true) where
        pub edition_refused : edition_accepted p.edition ≡ false → checked_of p ≡ Err Edition
        unfolding checked_of on_accepted profile_tests tried
        edition_refused e = simp (shape, constant, strip, e)

        pub none_refused : edition_accepted p.edition ≡ true → checked_of p ≡ Ok (profile_of p)
        unfolding checked_of on_accepted profile_tests tried
        none_refused e = simp (shape, constant, strip, e)

-- ---- the head of a call
-- Numbers that none of the tests refuses are an accepted profile.
pub failed_accepted : (p : Numbers) → Failed (profile_tests p) → Accepted (profile_of p)
unfolding profile_tests
failed_accepted p (shape, (constant, (strip, (edition, _)))) =
    let t = (decides_constant p.t).0 (not-false _ constant) in
    let s = (decides_strip p.s).0 (not-false _ strip) in
    let e = (decides_edition p.edition).0 (not-false _ edition) in record {
      shape = (decides_shape p.n p.k p.a).0 (not-false _ shape);
      above_one = t.0;
      one_byte = t.1;
      some_bytes = s.0;
      short = s.1;
      first_edition = e.0;
      last_edition = e.1;
    }

-- what a call makes of the outcome of `Profile::new`
abbrev on_checked : {X : Type 0} → (Refusal → X) → (Profile → X) → Result Profile Refusal → X
on_checked refuse go (Ok profile) = go profile
on_checked refuse go (Err r) = refuse r

abbrev Sound : Result Profile Refusal → Type 0
Sound (Ok profile) = Accepted profile
Sound (Err r) = Unit

module _ (p : Numbers) where
  sound : Sound (checked_of p)
  unfolding checked_of on_accepted
  sound = tried_by Sound (profile_tests p) Err (Ok (profile_of p)) (λ r. tt) (failed_accepted p)

  -- A profile that `Profile::new` hands out is accepted.
  pub accepted : {profile : Profile} → checked_of p ≡ Ok profile → Accepted profile
  accepted e = subst Sound e sound

  -- A call that goes by the outcome of `Profile::new` tries a profile's refusals first.
  module _ {X : Type 0} (refuse : Refusal → X) (go : Profile → X) where
    head : on_checked refuse go (checked_of p) ≡ on_accepted p refuse go
    unfolding checked_of on_accepted
    head = tried_map (on_checked refuse go) (profile_tests p) Err (Ok (profile_of p))

    pub rejected : {r : Refusal} → checked_of p ≡ Err r → refuse r ≡ on_accepted p refuse go
    rejected e = sym (ap (on_checked refuse go) e) ∙ head

    pub passed : {profile : Profile} → checked_of p ≡ Ok profile → go profile ≡ on_accepted p refuse go
    passed e = sym (ap (on_checked refuse go) e) ∙ head

-- A call that ends at the `?` behind `Profile::new`: it answers with that refusal, and leaves y as it was.
pub refused_exit : {T Y : Type 0} (p : Numbers) (y : Y) (go : Profile → Result T Refusal × Y) {r : Refusal}
    (o : Result T Refusal) → IsErrAnd o (λ e. e ≡ r) → Err r ≡ checked_of p
    → (o, y) ≡ on_accepted p (λ r. (Err r, y)) go
refused_exit {T} p y go o ends head =
    let e = err_from_is_err_and o ends in
    ap (λ (o : Result T Refusal). (o, y)) (e.1 ∙ ap Err e.2) ∙ rejected p (λ r. (Err r, y)) go (sym head)

-- Two calls that begin alike are alike if they are with an accepted profile.
pub on_accepted_same : {X : Type 0} (p : Numbers) (refuse : Refusal → X) (f g : Profile → X)
    → (Accepted (profile_of p) → f (profile_of p) ≡ g (profile_of p)) → on_accepted p refuse f ≡ on_accepted p refuse g
unfolding on_accepted
on_accepted_same p refuse f g same = tried_same (profile_tests p) refuse _ _ (λ h. same (failed_accepted p h))

-- A function of what a call gives.
pub on_accepted_map : {X Y : Type 0} (g : X → Y) (p : Numbers) (refuse : Refusal → X) (go : Profile → X)
    → g (on_accepted p refuse go) ≡ on_accepted p (λ r. g (refuse r)) (λ p. g (go p))
unfolding on_accepted
on_accepted_map g p refuse go = tried_map g (profile_tests p) refuse (go (profile_of p))

-- A call that goes on with tests of its own tries all of them in a row.
pub one_list : {X : Type 0} (p : Numbers) (refuse : Refusal → X) (tests : Profile → List Test) (x : Profile → X)
    → on_accepted p refuse (λ p. tried (tests p) refuse (x p))
    ≡ tried (profile_tests p ++ tests (profile_of p)) refuse (x (profile_of p))
unfolding on_accepted
one_list p refuse tests x = sym (tried_append (profile_tests p) (tests (profile_of p)) refuse (x (profile_of p)))
