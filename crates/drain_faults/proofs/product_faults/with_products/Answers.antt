use Rattle.drain_faults.proofs.Names.{of_product, by_set_product, IsProductNotedAt}
use Rattle.drain_faults.proofs.product_faults.with_products.Goals as goal

pub returns : goal.returns
returns c =
    by_set_product (λ product. IsProductNotedAt c.args.rules.now c.args.cell c.args.patch.now product (of_product c.args.so_far.now product) _) c.with.ensures
    c.with-2.ensures c.with-3.ensures c.with-4.ensures c.with-5.ensures
