use Rattle.drain_grid.specs.declared.set_product.SetProduct.TheVariants.{Dir, Acc, Bas, Rnk}
use Rattle.worked.proofs.sets.product_set.Goals as goal

-- each raster has the shape of con
pub invariant_of-result : goal.invariant_of-result
invariant_of-result c =
    let shaped = c.requires in
    record { dir_shape = shaped Dir; acc_shape = shaped Acc; bas_shape = shaped Bas; rnk_shape = shaped Rnk }
