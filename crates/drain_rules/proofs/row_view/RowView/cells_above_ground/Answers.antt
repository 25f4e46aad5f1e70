use Rattle.drain_rules.proofs.Names.{◌≡◌, ◌<◌, ◌∙◌, length, ap, subst, sym, arith, length-map, AreRowHeights, IsBelowAt, MarkedRow, grounds}
use Rattle.drain_grid.specs.declared.set_product.SetProduct.TheVariants.{Con}
use Rattle.drain_rules.proofs.row_view.RowView.cells_above_ground.Goals as goal

pub cells_above_ground-requires : goal.cells_above_ground-requires
cells_above_ground-requires c = c.self.invariant.numbers.long Con ∙ sym (length-map c.self.inside.z.now _)

pub overflow_cast-result : goal.overflow_cast-result
overflow_cast-result c = omega (arith, c.cells_above_ground.ensures.within, c.self.invariant.numbers.long Con, c.self.invariant.numbers.narrow)

pub returns-clause-within : goal.returns-clause-within
returns-clause-within c =
    let cols : length c.self.inside.z.now ≡ length c.args.self.now.numbers.z = ap (λ (row : MarkedRow). length row.numbers.z) c.self.view_is in
    omega (arith, c.cells_above_ground.ensures.within, c.self.invariant.numbers.long Con, cols)

pub returns-clause-first : goal.returns-clause-first
returns-clause-first c =
    subst (λ (row : MarkedRow). AreRowHeights row.numbers.products.con → c.cells_above_ground.result < length row.numbers.z → IsBelowAt row.numbers.products.con (grounds row.numbers.z) c.cells_above_ground.result)
    c.self.view_is
    (λ fit less. c.cells_above_ground.ensures.first fit (omega (arith, less, c.self.invariant.numbers.long Con)))
