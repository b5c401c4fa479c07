-- What the small program writes.
use Rattle.std.specs.Prelude.{Ok, Err}
use mathlib.Core.Path.{◌≡◌, refl, ap}
use mathlib.Core.Logic.{◌≢◌}
use mathlib.Core.Bool.{true, false}
use mathlib.Core.List.{List}
use Prim.Native.Nat.{ℕ, ◌*◌}
use native.Mathlib.Omega.{arith}
use lib.Dec.{eqb}
use lib.ListN.{length, length-replicate}
use Rattle.document.specs.declared.Refusal.{Refusal}
use Rattle.document.specs.Refusals.{number_of, answer_number, Answer}
use Rattle.document.specs.Program.{wanted_numbers, refusal_line, output_of, program_of}
use Rattle.document.proofs.Refusals.{never_zero}
use Rattle.demands.specs.Profile.{profile_sentences}
use Rattle.demands.specs.Message.{strip_sentences, message_sentences}
use Rattle.demands.specs.Bundle.{bundle_sentences}
use Rattle.demands.specs.Rebuild.{rebuild_sentences}
use Rattle.demands.specs.Program.{numbers, lent, table, Demand1Program}
use Rattle.demands.proofs.Tables.{first_holds, Only, held, line_by_line}
use Rattle.demands.proofs.Rebuild.{demand_1_rebuild}

-- ---- the output, by the answer
column_out : (o : Answer × List ℕ) → answer_number o.0 ≡ 0 → output_of o ≡ o.1
unfolding output_of answer_number
column_out (Ok w, x) e = refl
column_out (Err r, x) e = absurd (never_zero r e)

line_out : (o : Answer × List ℕ) (r : Refusal) → o.0 ≡ Err r → output_of o ≡ refusal_line r
unfolding output_of
line_out (Ok w, x) r e = absurd (let z : ◌≡◌ {A = ℕ} 0 1 = cc in omega arith)
line_out (Err s, x) r e = let same : s ≡ r = cc in ap refusal_line same

-- ---- the answer is not 5
-- the refusal r has another number than m
abbrev Other : ℕ → Refusal → Type 0
Other m r = elim (eqb (number_of r) m) [ true ↦ ⊥ | false ↦ Unit ]

-- the lent column has the right length; no other line has the number 5
others_alone : (input : List ℕ) → Only (Other 5) (table input)
unfolding rebuild_sentences profile_sentences bundle_sentences message_sentences strip_sentences number_of
others_alone input =
    let size : length (lent input) ≡ (numbers input).a * (numbers input).s = length-replicate _ 0 in
    search (line_by_line, tt) depth 20

-- the edition is 1; no other line has the number 13
no_thirteen : (input : List ℕ) → Only (Other 13) (table input)
unfolding rebuild_sentences profile_sentences bundle_sentences message_sentences strip_sentences number_of wanted_numbers
no_thirteen input =
    let first : ((numbers input).edition ≢ 1) × ((numbers input).edition ≢ 2) → ⊥ = λ h. h.0 refl in
    search (line_by_line, tt) depth 20

pub demand_1_program : Demand1Program
unfolding program_of number_of wanted_numbers
demand_1_program input = record {
  column = column_out _;
  line = λ r first. line_out _ r (((demand_1_rebuild _ _ _ _ _).refuses.given r).1 first);
  never_five = λ first. held (others_alone input) (first_holds first);
  first_edition = refl;
  never_thirteen = λ first. held (no_thirteen input) (first_holds first);
}
