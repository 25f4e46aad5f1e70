use Rattle.drain_flood.proofs.Names.{◌≡◌, ℕ, List, OnOk, subst, w64, to_z-of_z, Grid, con_at, IsWalked, IsPassed}
use Rattle.drain_flood.proofs.flats.Flats.walk.Goals as goal

pub returns-then-is_inner-clause-around : goal.returns-then-is_inner-clause-around
returns-then-is_inner-clause-around t c =
    subst (λ z. OnOk c.walk_inside.result ((g : Grid) (k : ℕ) (busy : List ℕ) → g.extent ≡ c.args.self.now.extent → z ≡ con_at g.extent c.args.surface.now c.args.cell →
    IsWalked g c.args.surface.now c.args.self.now k busy c.args.cell c.args.rank 0 → IsPassed g c.args.surface.now c.walk_inside.new.self k busy c.args.cell))
    (to_z-of_z w64 c.args.level c.ranges.level) c.walk_inside.ensures.around

pub returns-else-is_inner-clause-around : goal.returns-else-is_inner-clause-around
returns-else-is_inner-clause-around t c =
    subst (λ z. OnOk c.walk_at_edge.result ((g : Grid) (k : ℕ) (busy : List ℕ) → g.extent ≡ c.args.self.now.extent → z ≡ con_at g.extent c.args.surface.now c.args.cell →
    IsWalked g c.args.surface.now c.args.self.now k busy c.args.cell c.args.rank 0 → IsPassed g c.args.surface.now c.walk_at_edge.new.self k busy c.args.cell))
    (to_z-of_z w64 c.args.level c.ranges.level) c.walk_at_edge.ensures.around
