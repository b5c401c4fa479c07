-- `strips::add_multiple` meets its contract. The invariant: what is left to add, the bits of c from i on times the
-- doubled strip, makes of x what c times the strip was to make of it; and what is left of the strip is what was to be
-- left of it.
use mathlib.Core.Path.{◌≡◌, refl, sym, ap, ◌∙◌}
use mathlib.Core.List.{List}
use Prim.Native.Nat.{ℕ, ◌+◌, ◌-◌, ◌/◌, ◌^◌, ◌≤◌, ◌<◌}
use native.Mathlib.Nat.{div-eq_of_lt}
use native.Mathlib.Omega.{arith}
use lib.Pow.{shr-shr, shr_le, pow_mono, pow_pos}
use Rattle.std.proofs.lemmas.Nat.{le-div, leading_length, pow-add}
use Rattle.std.specs.Int.Count.{count_leading_zeros}
use Rattle.strips.specs.Strips.{added_scaled, doubled_strip, doubled_while}
use Rattle.strips.proofs.Added.{
  added_zero,
  added_bit,
  doubled_next,
  doubled_no_more,
  used_whole,
  used_by_bits,
}
use Rattle.strips.proofs.add_multiple.Goals as goal

-- a bit of a byte below its leading zeros is followed by others or set
bits_left : (b i : ℕ) → b < 256 → i < 8 - count_leading_zeros 8 b → 0 < b / 2 ^ i
bits_left b i h l =
    let n = leading_length 8 b h in
    let m : 2 ^ (i + 1) ≤ 2 ^ n.0 = pow_mono (omega arith) in
    le-div 1 b (2 ^ i) (pow_pos i) (omega (arith, pow-add 2 i 1))

bits_done : (b i : ℕ) → b < 256 → 8 - count_leading_zeros 8 b ≤ i → b / 2 ^ i ≡ 0
bits_done b i h l =
    let n = leading_length 8 b h in
    let m : 2 ^ n.0 ≤ 2 ^ i = pow_mono (omega arith) in
    div-eq_of_lt (omega arith)

pub returns-then-c-ge32 : goal.returns-then-c-ge32
returns-then-c-ge32 c = (c.add_scaled.ensures, used_whole _ _ (omega arith))

pub loop-i-init : goal.loop-i-init
loop-i-init c =
    let g = c.args in (
      ap (added_scaled (g.c / 2) g.at (doubled_strip g.strip.now)) c.add_bit.ensures
          ∙ added_bit g.at g.c g.strip.now g.x.now (omega arith) c.requires,
      refl,
    )

pub loop-i-preserved : goal.loop-i-preserved
loop-i-preserved c =
    let l = c.loop-i in
    let d = c.double_strip in
    let at = c.args.at in
    let y : ℕ = c.args.c / 2 ^ l.i in
    let small : y < 256 = omega (arith, shr_le c.args.c l.i) in
    let half : c.args.c / 2 ^ (l.i + 1) ≡ y / 2 = sym (shr-shr c.args.c l.i 1) in
    rw half (
      ap (added_scaled (y / 2) at (doubled_strip d.new.strip)) c.add_bit-in-loop-i.ensures
          ∙ added_bit at y d.new.strip l.x small (omega arith)
          ∙ ap (λ (z : List ℕ). added_scaled y at z l.x) d.ensures ∙ l.invariant.0,
      ap (doubled_while 8 (y / 2)) d.ensures ∙ doubled_next y l.strip (bits_left c.args.c l.i (omega arith) c.loop-i-test.true) small ∙ l.invariant.1,
    )

pub returns : goal.returns
returns c =
    let l = c.loop-i in
    let g = c.args in
    let strip = g.strip.now in
    let none : g.c / 2 ^ l.i ≡ 0 = bits_done g.c l.i (omega arith) c.loop-i-test.false in (
      sym (added_zero g.at (doubled_strip l.strip) l.x)
          ∙ sym (ap (λ (d : ℕ). added_scaled d g.at (doubled_strip l.strip) l.x) none) ∙ l.invariant.0,
      sym (doubled_no_more l.strip) ∙ sym (ap (λ (d : ℕ). doubled_while 8 d l.strip) none) ∙ l.invariant.1
          ∙ used_by_bits g.c strip (omega arith),
    )
