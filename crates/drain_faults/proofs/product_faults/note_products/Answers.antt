use Rattle.drain_faults.proofs.ProductParts.{none_noted}
use Rattle.drain_faults.proofs.product_faults.note_products.Goals as goal

pub returns-else-fails-2 : goal.returns-else-fails-2
returns-else-fails-2 c =
    none_noted c.args.rules.now c.args.cell c.args.patch.now c.args.faults.now c.args.fails.now.void_cell c.args.fails.now.missing c.if-fails.false
    c.if-fails-2.false c.requires.void_cell c.requires.missing
