use Rattle.std.proofs.Common.{◌≡◌, length}
use Rattle.drain_grid.specs.declared.set_product.SetProduct.TheVariants.{Con, Dir, Acc, Bas, Rnk}
use Rattle.drain_grid.specs.PerProduct.{of_product}
use Rattle.drain_grid.proofs.ByProduct.{by_set_product}
use Rattle.rules_tests.proofs.part_rows.laned_view.Goals as goal

-- each product has as many numbers as there are elevations
pub take-requires : goal.take-requires
take-requires c =
    by_set_product (λ p. length (of_product c.args.products p).now ≡ length c.args.z.now) (c.requires.long Con) (c.requires.long Dir) (c.requires.long Acc)
    (c.requires.long Bas) (c.requires.long Rnk)
