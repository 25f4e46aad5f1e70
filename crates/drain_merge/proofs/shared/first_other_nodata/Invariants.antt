use Rattle.drain_merge.proofs.Names.{◌≡◌, AllWithin}
use Rattle.drain_merge.proofs.shared.first_other_nodata.Given as goal

abbrev pub invariant-loop-i : goal.invariant-loop-i
invariant-loop-i l = AllWithin (λ w. w.report.nodata ≡ l.nodata) l.windows 0 l.i
