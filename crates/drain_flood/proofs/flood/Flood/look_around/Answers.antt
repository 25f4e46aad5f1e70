use Rattle.drain_flood.proofs.Names.{LooksAround, IsCellOf, index_of, IfOk, ap, subst, sym, ◌∙◌, to_z-of_z}
use mir.Syntax.{w64}
use Rattle.drain_flood.proofs.Insides.{around_cell}
use Rattle.drain_flood.proofs.flood.Flood.look_around.Goals as goal

pub returns-then-is_inner-clause-around : goal.returns-then-is_inner-clause-around
returns-then-is_inner-clause-around t c =
    subst (λ z. IfOk c.look_inside.result (LooksAround c.args.self.now.extent c.args.self.now c.look_inside.new.self c.args.place z c.args.raises))
    (to_z-of_z w64 c.args.level c.ranges.level) c.look_inside.ensures.around

pub returns-else-is_inner-clause-around : goal.returns-else-is_inner-clause-around
returns-else-is_inner-clause-around t c =
    subst (λ z. IfOk c.look_at_edge.result (LooksAround c.args.self.now.extent c.args.self.now c.look_at_edge.new.self c.args.place z c.args.raises))
    (to_z-of_z w64 c.args.level c.ranges.level)
    (around_cell c.look_at_edge.result c.args.self.now.extent c.args.self.now c.look_at_edge.new.self c.args.place c.cell.result _ c.args.raises
    (subst (λ x. IsCellOf x c.cell.result) c.shape.ensures c.cell.ensures.inside) (ap (λ x. index_of x c.cell.result) (sym c.shape.ensures) ∙ c.cell.ensures.place) c.look_at_edge.ensures.around)
