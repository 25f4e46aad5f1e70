use Rattle.drain_flood.proofs.Names.{MatchOption, subst, w64, to_z-of_z, Direction, IsLowEdgeThere}
use Rattle.drain_flood.proofs.flats.Flats.low_edge.Goals as goal

pub returns-then-is_inner : goal.returns-then-is_inner
returns-then-is_inner t c =
    let s = c.args.self.now in
    subst (λ z. MatchOption c.low_edge_inside.result ((d : Direction) → IsLowEdgeThere s.extent c.args.surface.now s c.args.cell z d → ⊥)
    (IsLowEdgeThere s.extent c.args.surface.now s c.args.cell z))
    (to_z-of_z w64 c.args.level c.ranges.level) c.low_edge_inside.ensures

pub returns-else-is_inner : goal.returns-else-is_inner
returns-else-is_inner t c =
    let s = c.args.self.now in
    subst (λ z. MatchOption c.low_edge_at_edge.result ((d : Direction) → IsLowEdgeThere s.extent c.args.surface.now s c.args.cell z d → ⊥)
    (IsLowEdgeThere s.extent c.args.surface.now s c.args.cell z))
    (to_z-of_z w64 c.args.level c.ranges.level) c.low_edge_at_edge.ensures
