-- The lost column: its rows, made from the strips folded for the plan's nodes, are those of the document's rebuild.
use mathlib.Core.Path.{◌≡◌, sym, ap, ◌∙◌}
use mathlib.Core.Logic.{◌≢◌}
use mathlib.Core.List.{List}
use Prim.Native.Nat.{ℕ, ◌+◌, ◌-◌, ◌*◌, ◌/◌, ◌%◌, ◌<◌}
use native.Mathlib.Nat.{add-mul, mod-lt, div-lt_iff_lt-mul}
use native.Mathlib.Decide.{ℕ_discrete}
use native.Mathlib.Omega.{arith}
use lib.Arith.{digits_div}
use lib.ListN.{length, get_or, take, drop, length-append, get_or-append}
use lib.Seq.{get_or-append-add, take_at, drop_at}
use Rattle.lists.proofs.Listed.{listed_length, listed_at, listed_ext}
use Rattle.algebra.specs.Rows.{folded}
use Rattle.algebra.proofs.Coupling.{factor_diagonal}
use Rattle.algebra.proofs.Rows.{folded_diagonal}
use Rattle.document.specs.declared.Profile.{Profile}
use Rattle.document.specs.declared.Node.{Node}
use Rattle.document.specs.declared.Place.{Place}
use Rattle.document.specs.Profile.{Accepted}
use Rattle.document.specs.Places.{place}
use Rattle.document.specs.ByteField.{bytes, Byte, byte}
use Rattle.document.specs.Encoding.{constant_of, column_of, factor_at}
use Rattle.document.specs.Plan.{row_at, Walk, walk_of, chosen_over, nodes_over}
use Rattle.document.specs.Rebuild.{rebuilt_over}
use Rattle.document.proofs.ByteField.{byte_number}
use Rattle.document.proofs.Decides.{decides_false}
use Rattle.document.proofs.Walks.{Sound, walk_sound}
use Rattle.document.proofs.Chosen.{chosen_length, choice, outside, own_found}
use Rattle.lists.specs.Positions.{position_in}
use Rattle.lists.proofs.Positions.{position_within, position_back}
use Rattle.rebuild.specs.Folded.{folded_at, folded_of}
use Rattle.rebuild.specs.Rows.{member_at, row_from}
use Rattle.rebuild.specs.Column.{row_of, rows_of, NodesOf}
use Rattle.rebuild.proofs.Folded.{folded_single, folded_pair, folded_at_lem}
use Rattle.document.proofs.Planned.{off_is}
use Rattle.rebuild.proofs.Row.{row_rebuilt}

pub row_length : (p : Profile) (f : Node) (own chosen src : List ℕ) (i : ℕ) → length (row_of p f own chosen src i) ≡ p.s
unfolding row_of row_from
row_length p f own chosen src i = listed_length p.s _

module _ (p : Profile) (acc : Accepted p) (f : Node) (h : f.0 < p.n) where
  open p use {n, k, a as A, s as S}

  -- f's group and local column
  abbrev g : ℕ
  g = f.0 / A

  abbrev c : ℕ
  c = f.0 % A

  abbrev w : Walk
  w = walk_of p f

  -- the other nodes of f's group, the chosen nodes, and both
  abbrev own : List ℕ
  own = w.own

  abbrev chosen : List ℕ
  chosen = chosen_over k w

  abbrev nodes : List ℕ
  nodes = nodes_over k w

  sound : Sound n A f w
  sound = walk_sound p acc f h

  own_length : length own ≡ A - 1
  own_length = sound.own_length

  count : length chosen ≡ k
  count = chosen_length p acc f h w sound

  -- ---- the two parts of the plan's nodes
  module _ (js : List ℕ) (e : js ≡ nodes) where
    pub own_part : take (A - 1) js ≡ own
    own_part = ap (take (A - 1)) e ∙ take_at own chosen (A - 1) own_length

    pub chosen_part : drop (A - 1) js ≡ chosen
    chosen_part = ap (drop (A - 1)) e ∙ drop_at own chosen (A - 1) own_length

  -- ---- node i of the group stands among the others
  own_at : (i : ℕ) → i < A → i ≢ c
      → let at = position_in own (member_at p f i) in
      (at < length own) × (get_or own at 0 ≡ member_at p f i)
  own_at i l d =
      let found = own_found p acc f h w sound i l d in
      let below = position_within own (member_at p f i) found.0 found.1 found.2 in
      (below, position_back own (member_at p f i) below)

  pub nodes_of : NodesOf p f own chosen
  nodes_of = record {
    count = count;
    different = record {
      few = omega (arith, count, acc.shape.some_parity, acc.shape.few_nodes);
      apart = λ i j l m. (choice p acc f h w sound).apart i j l (omega (arith, count));
    };
    outside = λ i l q m e.
        outside p acc f h w sound q (omega (arith, count)) (ap (λ (j : ℕ). j / A) e ∙ digits_div g l);
    others = λ i l d. omega (arith, (own_at i l d).0, own_length);
  }

  -- ---- the strips folded for the plan's nodes
  module _ (x : ℕ → Place → Byte) where
    abbrev strips : List ℕ
    strips = folded_of p f x nodes

    strip_byte : (z b j : ℕ) → z < length nodes → b < S → get_or nodes z 0 ≡ j
        → byte (get_or strips (z * S + b) 0) ≡ folded_at p f x b j
    strip_byte z b j m l e =
        ap byte (folded_at_lem p f x nodes z b m l) ∙ byte_number _ ∙ ap (folded_at p f x b) e

    own_strip : (i b : ℕ) → i < A → i ≢ c → b < S
        → byte (get_or strips (position_in own (member_at p f i) * S + b) 0) ≡ x b (row_at A f (member_at p f i))
    own_strip i b r d l =
        let at = own_at i r d in
        strip_byte (position_in own (member_at p f i)) b (member_at p f i) (rw length-append (omega (arith, at.0))) l
        (get_or-append own chosen 0 (position_in own (member_at p f i)) at.0 ∙ at.1)
        ∙ folded_single p f x b (member_at p f i)
        (decides_false _ (off_is A f (member_at p f i)) (λ t. t.0 (digits_div g r)))

    chosen_strip : (q b : ℕ) → q < k → b < S
        → byte (get_or strips ((A - 1) * S + b + q * S) 0)
        ≡ folded bytes A (factor_at p) f.0 (λ m. get_or chosen m 0) (λ i j. x b (place j i)) q
    unfolding folded
    chosen_strip q b m l =
        let same : (A - 1) * S + b + q * S ≡ (A - 1 + q) * S + b = omega (arith, add-mul (A - 1) q S) in
        let below : A - 1 + q < length nodes = rw (length-append, own_length, count) (omega arith) in
        let at : get_or nodes (A - 1 + q) 0 ≡ get_or chosen q 0 =
        ap (λ (z : ℕ). get_or nodes (z + q) 0) (sym own_length) ∙ get_or-append-add own chosen q 0 in
        ap (λ (z : ℕ). byte (get_or strips z 0)) same ∙ strip_byte (A - 1 + q) b (get_or chosen q 0) below l at
        ∙ go (ℕ_discrete (get_or chosen q 0 % A) c)
      where
        go : Dec (get_or chosen q 0 % A ≡ c) → folded_at p f x b (get_or chosen q 0)
            ≡ folded bytes A (factor_at p) f.0 (λ m. get_or chosen m 0) (λ i j. x b (place j i)) q
        go (yes e) =
            folded_single p f x b (get_or chosen q 0) (decides_false _ (off_is A f (get_or chosen q 0)) (λ t. t.1 e))
            ∙ sym
            (folded_diagonal bytes A (factor_at p) f.0 (λ m. get_or chosen m 0) (factor_diagonal bytes (constant_of p))
            (λ i j. x b (place j i)) q e)
        go (no d) =
            folded_pair p f x b (get_or chosen q 0) ((off_is A f (get_or chosen q 0)).1 (outside p acc f h w sound q m, d))

    pub column_rebuilt : rows_of p f own chosen strips ≡ rebuilt_over p f w x
    unfolding rows_of row_of rebuilt_over column_of
    column_rebuilt =
        listed_ext (A * S) _ _
        (λ o l.
        let r : o / S < A = (div-lt_iff_lt-mul acc.some_bytes).1 l in
        ap (λ (row : List ℕ). get_or row (o % S) 0)
        (row_rebuilt p f (o / S) (position_in own (member_at p f (o / S))) chosen strips (λ b i j. x b (place j i))
        (λ d b m. own_strip (o / S) b r d m) chosen_strip)
        ∙ listed_at S _ (o % S) 0 (mod-lt o acc.some_bytes))
