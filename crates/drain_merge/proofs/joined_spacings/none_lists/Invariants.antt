use Rattle.drain_merge.proofs.Names.{◌≡◌, [], AllWithin}
use Rattle.drain_merge.proofs.joined_spacings.none_lists.Given as goal

-- the windows before list the spacing of no row
abbrev pub invariant-loop-window : goal.invariant-loop-window
invariant-loop-window l = AllWithin (λ w. w.report.spacings ≡ []) l.windows 0 l.window-index
