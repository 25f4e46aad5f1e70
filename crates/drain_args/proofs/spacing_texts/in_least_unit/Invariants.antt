use Rattle.std.proofs.Common.{◌≡◌, ◌*◌, ◌^◌, ◌-◌, ◌≤◌}
use Rattle.drain_args.proofs.spacing_texts.in_least_unit.Given as goal

-- both numbers were divided once for each place that is gone
abbrev pub invariant-loop-places : goal.invariant-loop-places
invariant-loop-places l = (l.places ≤ 18) × (l.fn.width ≡ l.width_left * 10 ^ (18 - l.places)) × (l.fn.height ≡ l.height_left * 10 ^ (18 - l.places))

-- a place goes each time
abbrev pub decreases-loop-places : goal.decreases-loop-places
decreases-loop-places l = l.places
