use Rattle.drain_merge.proofs.Names.{sym, ◌∙◌, not_both, not_true}
use Rattle.drain_merge.proofs.SameCells.{same_cells}
use Rattle.drain_merge.proofs.seams.differ.Goals as goal

pub returns-then-eq : goal.returns-then-eq
returns-then-eq c = (
  (λ differ. (same_cells c.args.x.now.cell c.args.y.now.cell (sym c.eq.ensures ∙ c.if-eq.true), λ same. not_both c.is.result differ (c.is.ensures.1 same))),
  (λ differ. not_true c.is.result (λ passes. differ.1 (c.is.ensures.0 passes))),
)
