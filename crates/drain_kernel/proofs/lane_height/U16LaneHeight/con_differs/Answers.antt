-- A no-data number is far from the bounds of 64 bits.
use Rattle.std.proofs.Common.{rules}
use Rattle.drain_grid.specs.declared.product.Product.TheVariants.{Con}
use Rattle.drain_kernel.proofs.lane_height.U16LaneHeight.con_differs.Goals as goal

pub overflow_add-nodata-inside : goal.overflow_add-nodata-inside
overflow_add-nodata-inside c =
    let is = c.nodata.invariant Con in
    search (rules, is.low, is.high)
