-- The direction that the code names decides whether the code leads down a steepest way.
use Rattle.drain_slope.proofs.Names.{◌↔◌, Bool, IsTrue, subst, Direction, Patch, Names, IsSteepest, same_direction}

-- it does where the named direction is steepest
pub leads_by_name : (p : Patch) (d : Direction) (steep : Bool) → Names p.here.dir d → IsTrue steep ↔ IsSteepest p d →
    IsTrue steep ↔ ((e : Direction) × Names p.here.dir e × IsSteepest p e)
leads_by_name p d steep named is = (
  (λ h. (d, named, is.0 h)),
  (λ w. is.1 (subst (IsSteepest p) (same_direction p.here.dir w.0 d w.1 named) w.2)),
)
