-- A closed cell with no lower neighbour keeps FlatStep exactly if the direction that its code names is a way along the
-- flat: a code names one direction at most.
use Rattle.std.proofs.Common.{◌↔◌, subst}
use Rattle.drain_grid.specs.declared.direction.Direction.{Direction}
use Rattle.drain_grid.specs.declared.patch.Patch.{Patch}
use Rattle.drain_grid.specs.Direction.{Names}
use Rattle.drain_grid.specs.Patch.{IsClosed, HasLower}
use Rattle.drain_grid.specs.PatchRules.{FlatStepHolds}
use Rattle.drain_grid.proofs.Neighbors.{same_direction}
use Rattle.drain_flat.specs.Ways.{IsFlatWay}

pub keeps_by_flat_way : (p : Patch) (d : Direction) → IsClosed p → ¬ HasLower p → Names p.here.dir d → FlatStepHolds p ↔ IsFlatWay p d
keeps_by_flat_way p d closed none named = (
  (λ holds.
      let step = holds closed none in
      let at = step.2 in
      subst (IsFlatWay p) (same_direction p.here.dir step.0 d at.named named) (step.1, record { beside = at.beside; level = at.level }, at.nearer)),
  (λ way closed_too none_too. (d, way.0, record { named = named; beside = way.1.beside; level = way.1.level; nearer = way.2 })),
)
