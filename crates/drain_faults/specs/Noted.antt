-- What one cell more adds to all that was found.
use Rattle.std.specs.Prelude.{◌↔◌, ◌⊎◌}
use Rattle.drain_faults.specs.Names.{ℤ, IsTrue, IsAdmitted, Cell, Rules, Patch, Rule, has_bas, IsLabelOf}
use Rattle.drain_faults.specs.declared.row_faults.FaultTally.{FaultTally}
use Rattle.drain_faults.specs.ByProduct.{AreProductsNotedAt}
use Rattle.drain_faults.specs.CellFaults.{IsLeastNoted, IsNotedAt, of_rule, HoldsIfTried}

-- each rule and each product is recorded here, SharedLabel by the labels so far; where labels are judged the cell's is
-- added if it is an outlet by code
pub record IsNoted (rules : Rules) (cell : Cell) (p : Patch) (old new : FaultTally) : Type 0 where
  pub each : (r : Rule) → IsNotedAt (HoldsIfTried rules old.labels p r) cell (of_rule old.by_rule r) (of_rule new.by_rule r)
  pub first_is : IsLeastNoted (HoldsIfTried rules old.labels p) cell p old.first new.first
  pub by_product : AreProductsNotedAt rules cell p old.by_product new.by_product
  pub admitted : IsTrue (has_bas rules.judged) → (label : ℤ) → IsAdmitted new.labels label ↔ (IsLabelOf p.here label ⊎ IsAdmitted old.labels label)
