use Rattle.std.proofs.Common.{◌-◌, arith}
use Rattle.drain_rules.proofs.RowPatches.{clear_part}
use Rattle.drain_rules.proofs.screen.cells_above_ground.Goals as goal

pub returns-then-above-end-clause-above : goal.returns-then-above-end-clause-above
returns-then-above-end-clause-above g c =
    clear_part _ _ _ _ c.loop-at.at c.min-end.result c.cells_of_block-above.result (omega (arith, c.if-above-end.true))
    c.copy_numbers.ensures c.copy_numbers-in-loop-at.ensures c.loop-at.invariant.1 c.cells_of_block-above.ensures.above

pub loop-at-preserved : goal.loop-at-preserved
loop-at-preserved g c = (
  omega arith,
  λ place less. clear_part _ _ _ _ c.loop-at.at c.min-end.result (c.min-end.result - c.loop-at.at) (omega arith)
      c.copy_numbers.ensures c.copy_numbers-in-loop-at.ensures c.loop-at.invariant.1 (λ k inside. c.cells_of_block-above.ensures.above k (omega (arith, inside, c.if-above-end.false))) place (omega (arith, less)),
)
