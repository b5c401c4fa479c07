-- Strips at the planned places: some encoded array has them, and the column rebuilt from them is the one that each such
-- array has on the lost node. Over lists of bytes, for an accepted profile, any lost node and any walk that goes over
-- each candidate once.
use mathlib.Core.Path.{◌≡◌, refl, sym, ap, ◌∙◌}
use mathlib.Core.List.{List}
use Prim.Native.Nat.{ℕ, ◌+◌, ◌*◌, ◌<◌}
use native.Mathlib.Omega.{arith}
use lib.ListN.{length, get_or}
use Rattle.lists.specs.Each.{Bytes}
use Rattle.lists.specs.Listed.{listed}
use Rattle.lists.proofs.Listed.{listed_ext, listed_get_or}
use Rattle.lists.proofs.Each.{each_at}
use Rattle.document.specs.declared.Profile.{Profile}
use Rattle.document.specs.declared.Node.{Node}
use Rattle.document.specs.declared.Place.{Place}
use Rattle.document.specs.Profile.{Accepted}
use Rattle.document.specs.Places.{place, place_at}
use Rattle.document.specs.ByteField.{Byte, byte, number}
use Rattle.document.specs.Encoding.{byte_at, strip_of, column_in, column_of, Data, Stored, encoded}
use Rattle.document.specs.Plan.{Walk, chosen_over, plan_over}
use Rattle.document.specs.Message.{strip_field_length}
use Rattle.document.specs.Bundle.{bundle_strip}
use Rattle.document.specs.Rebuild.{position_of, given_at, rebuilt_over, first_strip}
use Rattle.document.proofs.ByteField.{number_byte}
use Rattle.document.proofs.Walks.{Sound, complete_sound}
use Rattle.document.proofs.Chosen.{choice, outside, shape, listed_planned, planned_listed, position, planned_within}
use Rattle.document.proofs.Columns.{
  Alike,
  rebuilt_alike,
  lost_column,
  some_array,
  column_slice,
  strip_bytes,
  strip_byte,
  given_strip,
}
use Rattle.demands.specs.Encoding.{DocumentArray}
use Rattle.demands.specs.Strips.{EncodedArray, HasStrips, Fits, OneColumn}
use Rattle.demands.proofs.Encoding.{encoded_is, encoded_only}

module _ (p : Profile) (acc : Accepted p) (f : Node) (h : f.0 < p.n) (w : Walk)
    (sound : Sound p.n p.a f w) where
  open p use {n, k, a as A, s as S}

  -- the planned places, their number, and place i
  abbrev plan : List Place
  plan = plan_over A k f w

  abbrev P : ℕ
  P = length plan

  abbrev at : ℕ → Place
  at i = place_at plan i

  -- the nodes of steps 2 and 3
  abbrev s : ℕ → ℕ
  s m = get_or (chosen_over k w) m 0

  -- byte by byte, the strips v at the planned places
  abbrev Gives : (ℕ → Place → Byte) → (ℕ → List ℕ) → Type 0
  Gives x v = (i b : ℕ) → i < P → b < S → x b (at i) ≡ byte (get_or (v i) b 0)

  -- where x gives the strips v, what holds of them at each planned place holds at each place that the algebra reads
  at_planned : (x y : ℕ → Place → Byte)
      → ((i b : ℕ) → i < P → b < S → x b (at i) ≡ y b (at i)) → Alike p f.0 s x y
  at_planned x y same b i j l r =
      let found = planned_listed p acc f h w sound i j r in
      ap (x b) (sym found.2) ∙ same found.0 b found.1 l ∙ ap (y b) found.2

  abbrev gives_same : (x y : ℕ → Place → Byte) (v u : ℕ → List ℕ) → Gives x v → Gives y u
      → ((i : ℕ) → i < P → v i ≡ u i) → Alike p f.0 s x y
  gives_same x y v u X Y same =
      at_planned x y (λ i b r l. X i b r l ∙ ap (λ (w : List ℕ). byte (get_or w b 0)) (same i r) ∙ sym (Y i b r l))

  -- the columns rebuilt from equal strips are equal
  pub same_rebuilt : (x y : ℕ → Place → Byte) (v u : ℕ → List ℕ) → Gives x v → Gives y u
      → ((i : ℕ) → i < P → v i ≡ u i) → rebuilt_over p f w x ≡ rebuilt_over p f w y
  unfolding rebuilt_over
  same_rebuilt x y v u X Y same =
      rebuilt_alike p acc f.0 h s (choice p acc f h w sound) x y (gives_same x y v u X Y same)

  module _ (x : List ℕ) (E : EncodedArray p x) where
    is_encoded : x ≡ encoded p E.given
    is_encoded = encoded_only p acc E.given x E.gives

    stored : Stored p x
    stored = E.gives.stored

    -- an encoded array with the strips v has the column rebuilt from them
    pub column_of_lem : (v : ℕ → List ℕ) → HasStrips p plan x v → (g : ℕ → Place → Byte) → Gives g v
        → rebuilt_over p f w g ≡ column_in p x f.0
    unfolding rebuilt_over
    column_of_lem v has g G =
        sym (lost_column p acc f.0 h s (choice p acc f h w sound) E.given g alike)
        ∙ ap (λ (y : List ℕ). column_of p (byte_at p y) f.0) (sym is_encoded)
        ∙ column_slice p acc x stored.size stored.bytes_only f.0 h
      where
        alike : Alike p f.0 s (byte_at p (encoded p E.given)) g
        alike =
            at_planned (byte_at p (encoded p E.given)) g
            (λ i b r l. ap (λ (y : List ℕ). byte_at p y b (at i)) (sym is_encoded)
            ∙ strip_byte p x (at i) (v i) (has i r) b l ∙ sym (G i b r l))

  -- the strips of an array
  pub array_gives : (y : List ℕ) → Gives (byte_at p y) (λ i. strip_of p y (at i))
  array_gives y i b r l = strip_byte p y (at i) (strip_of p y (at i)) refl b l

  -- the strips of a bundle, where a rebuild reads them
  pub bundle_gives : (b : List ℕ) → Gives (given_at plan b (first_strip p) (strip_field_length S)) (bundle_strip p b)
  unfolding given_at
  bundle_gives b i o r l =
      ap (λ (m : ℕ). byte (get_or b (first_strip p + m * strip_field_length S + o) 0))
      (position p acc f h w sound i r)
      ∙ ap byte (sym (given_strip p b i o l))

  -- any bytes at the planned places stand in some encoded array
  module _ (v : ℕ → List ℕ) (ok : (i : ℕ) → i < P → (length (v i) ≡ S) × Bytes (v i)) where
    given : ℕ → Place → Byte
    given b q = byte (get_or (v (position_of q plan)) b 0)

    given_at_lem : Gives given v
    unfolding given
    given_at_lem i b r l = ap (λ (m : ℕ). byte (get_or (v m) b 0)) (position p acc f h w sound i r)

    found : (d : List ℕ) × Data p d × Alike p f.0 s (byte_at p (encoded p d)) given
    found =
        some_array p acc f.0 h s (choice p acc f h w sound) (outside p acc f h w sound)
        (shape p acc f h w sound) given

    array : List ℕ
    array = encoded p found.0

    is_array : DocumentArray p found.0 array
    unfolding array
    is_array = encoded_is p acc found.0 found.1.size

    has : HasStrips p plan array v
    unfolding array
    has i r =
        strip_bytes p acc array is_array.stored.size is_array.stored.bytes_only (at i)
        (each_at (place 0 0) (planned_within p acc f h w sound) i r)
        ∙ listed_ext S _ _ entry
        ∙ ap (λ (m : ℕ). listed m (λ b. get_or (v i) b 0)) (sym (ok i r).0)
        ∙ listed_get_or 0 (v i)
      where
        entry : (b : ℕ) → b < S → number (byte_at p array b (at i)) ≡ get_or (v i) b 0
        entry b l =
            ap number (found.2 b _ _ l (listed_planned p acc f h w sound i r) ∙ given_at_lem i b r l)
            ∙ number_byte (get_or (v i) b 0) ((ok i r).1 b (omega (arith, (ok i r).0)))

    pub some_fits : (x : List ℕ) × EncodedArray p x × HasStrips p plan x v
    some_fits = (array, record { given = found.0; are_data = found.1; gives = is_array }, has)

-- ---- for every complete walk
pub fits : Fits
fits p acc f h w complete = some_fits p acc f h w (complete_sound p acc f h w complete)

pub one_column : OneColumn
one_column p acc f h w complete x y X Y alike =
    let sound : Sound p.n p.a f w = complete_sound p acc f h w complete in
    let strips : ℕ → List ℕ = λ i. strip_of p y (get_or (plan_over p.a p.k f w) i (place 0 0)) in
    sym (column_of_lem p acc f h w sound x X strips alike (byte_at p y) (array_gives p acc f h w sound y))
    ∙ column_of_lem p acc f h w sound y Y strips (λ i l. refl) (byte_at p y) (array_gives p acc f h w sound y)
