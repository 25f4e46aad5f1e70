use Rattle.drain_faults.proofs.ProductParts.{missing_by_product, void_cell_by_product}
use Rattle.drain_faults.proofs.laws.rules_by_product.Goals as goal

pub returns-clause-void_cell : goal.returns-clause-void_cell
returns-clause-void_cell c = void_cell_by_product

pub returns-clause-missing : goal.returns-clause-missing
returns-clause-missing c = missing_by_product
