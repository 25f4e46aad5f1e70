use Rattle.std.specs.List.{AllWithin}
use Rattle.drain_union.specs.UnionGrids.{CountsOn}
use Rattle.drain_merge.proofs.shared.first_on_other.Given as goal

abbrev pub invariant-loop-i : goal.invariant-loop-i
invariant-loop-i l = AllWithin (λ w. CountsOn l.grid w.grid) l.windows 0 l.i
