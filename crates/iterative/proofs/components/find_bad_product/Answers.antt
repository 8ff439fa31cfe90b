use mathlib.Core.Path.{◌∙◌}
use Rattle.field.specs.Count.{lowest}
use Rattle.iterative.specs.Method.{bad_product}
use Rattle.iterative.proofs.components.find_bad_product.Goals as goal

pub returns : goal.returns
unfolding bad_product lowest
returns c = c.lowest.ensures ∙ rw (c.bad_product_one.ensures, c.bad_product_one-2.ensures, c.bad_product_one-3.ensures)
