-- What VoidCell and Missing require of each product, and at how many cells of a list it fails. This project's own.
use Rattle.std.specs.Prelude.{◌≡◌, ◌≢◌}
use Rattle.drain_faults.specs.Names.{IsNone, List, Cell, Rules, SetProduct, Patch, Grid, Products, patch_at, IfJudged, has_product, product_of, of_product, number_for, value_of}
use Rattle.drain_grid.specs.declared.per_product.PerProduct.{PerProduct}
use Rattle.drain_grid.specs.Patch.{IsDataCell}
use Rattle.drain_faults.specs.declared.product_faults.ProductFaults.{ProductFaults}
use Rattle.drain_faults.specs.CellFaults.{IsNotedAt}
use Rattle.drain_faults.specs.Faults.{AreCellsWithout}

-- VoidCell, of one product: at a void it has its no-data number, if it is judged
abbrev pub VoidCellHoldsOf : Rules → SetProduct → Patch → Type 0
VoidCellHoldsOf rules product p =
    IfJudged (has_product rules.judged product) (IsNone p.here.z → value_of p.here (product_of product) ≡ number_for rules.nodata (product_of product))

-- Missing, of one product: at a data cell it doesn't have its no-data number, if it is judged
abbrev pub MissingHoldsOf : Rules → SetProduct → Patch → Type 0
MissingHoldsOf rules product p =
    IfJudged (has_product rules.judged product) (IsDataCell p → value_of p.here (product_of product) ≢ number_for rules.nodata (product_of product))

-- at how many cells of a list the product doesn't keep the first, and the second, and at which first
pub record AreFaultsOfProduct (rules : Rules) (g : Grid) (ps : Products) (cs : List Cell) (product : SetProduct) (faults : ProductFaults) : Type 0 where
  pub at_voids : AreCellsWithout (λ c. VoidCellHoldsOf rules product (patch_at g ps c)) cs faults.at_voids
  pub at_data : AreCellsWithout (λ c. MissingHoldsOf rules product (patch_at g ps c)) cs faults.at_data

-- that of each product; of one that isn't judged nothing is counted
abbrev pub AreFaultsByProduct : Rules → Grid → Products → List Cell → PerProduct ProductFaults → Type 0
AreFaultsByProduct rules g ps cs faults = (product : SetProduct) → AreFaultsOfProduct rules g ps cs product (of_product faults product)

-- the product is recorded at the cell with this patch
pub record IsProductNotedAt (rules : Rules) (cell : Cell) (p : Patch) (product : SetProduct) (old new : ProductFaults) : Type 0 where
  pub at_void : IsNotedAt (VoidCellHoldsOf rules product p) cell old.at_voids new.at_voids
  pub at_data : IsNotedAt (MissingHoldsOf rules product p) cell old.at_data new.at_data

-- each product is
abbrev pub AreProductsNotedAt : Rules → Cell → Patch → PerProduct ProductFaults → PerProduct ProductFaults → Type 0
AreProductsNotedAt rules cell p old new = (product : SetProduct) → IsProductNotedAt rules cell p product (of_product old product) (of_product new product)
