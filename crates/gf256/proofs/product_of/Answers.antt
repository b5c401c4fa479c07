-- `gf256::product_of` meets its contract: the list folded is its product.
use mathlib.Core.Path.{◌≡◌, ◌∙◌}
use native.Mathlib.Omega.{arith}
use borrow.Author.Rules.{rules}
use Rattle.std.specs.List.{fold}
use Rattle.gf256.specs.Field.{◌⊗◌, product_of}
use Rattle.gf256.proofs.Lists.{fold_product, product_start}
use Rattle.gf256.proofs.product_of.Goals as goal

pub returns : goal.returns
returns c =
    let e : c.fold.result ≡ fold (λ p x. x ⊗ p) 1 c.args.xs.now = search rules in
    e ∙ fold_product 1 c.args.xs.now (omega arith) ∙ product_start c.args.xs.now
