-- `encode::put_rows` meets its contract. The invariant: the columns before node j are those of the base symbols.
use mathlib.Core.Path.{◌≡◌, ap, subst, ◌∙◌}
use Prim.Native.Nat.{ℕ, ◌*◌}
use native.Mathlib.Omega.{arith}
use borrow.Author.Rules.{rules}
use lib.ListN.{take}
use Rattle.lists.specs.Put.{put}
use Rattle.document.specs.Encoding.{base_at, laid_out, plain}
use Rattle.document.proofs.Fields.{fields, is_accepted}
use Rattle.encode.proofs.Rows.{data_columns, first_columns, next_column, all_columns}
use Rattle.encode.proofs.put_rows.Goals as goal

pub loop-j-init : goal.loop-j-init
unfolding put
loop-j-init c =
    let p = c.args.p in
    let acc = is_accepted c.p.view_is c.p.invariant in
    let x = c.args.input.now in
    rw (fields c.p.view_is) (record {
      size = search rules;
      columns = ap (take (p.k * (p.a * p.s))) c.put_bytes.ensures.holds
          ∙ first_columns p (base_at p x) p.k x _
          (data_columns p x acc c.requires.0 (λ e. omega (arith, c.type_inv.input e)));
    })

pub loop-j-preserved : goal.loop-j-preserved
loop-j-preserved c =
    let l = c.loop-j in
    let p = c.args.p in
    rw (fields c.p.view_is) (record {
      size = search rules;
      columns = next_column p (base_at p c.args.input.now) l.j l.array _ _ l.invariant.columns c.put_parity.ensures;
    })

pub returns : goal.returns
unfolding plain
returns c =
    let l = c.loop-j in
    let p = c.args.p in
    let f = base_at p c.args.input.now in
    let e : l.j ≡ p.n = rw (← c.p.view_is) (omega (arith, c.p.invariant.shape.some_parity)) in
    all_columns p f l.array l.invariant.size
    (subst (λ (j : ℕ). take (j * (p.a * p.s)) l.array ≡ laid_out p j f) e l.invariant.columns)
