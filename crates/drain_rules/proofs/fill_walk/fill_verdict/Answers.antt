use Rattle.drain_rules.proofs.Names.{◌≡◌, arith, below_more, IsFillRule, fill_rules, parts_grid, parts_products, HoldAlong}
use Rattle.drain_rules.proofs.GridLemmas.{CountsAbove-more, IsFirstFault-row, IsFillVerdict-above, tallies_fit}
use Rattle.drain_rules.proofs.fill_walk.fill_verdict.Goals as goal

pub join-requires-clause-data_fit : goal.join-requires-clause-data_fit
join-requires-clause-data_fit c =
    let side : c.side-side.result ≡ c.args.input.now.shape.rows = c.side-side.ensures in
    (tallies_fit (parts_grid c.args.input.now) (parts_products c.args.input.now) c.loop-row.row _ _ (omega (arith, side)) (omega (arith, side))
    (omega (arith, side)) c.loop-row.invariant.counted c.in-Ok.ensures.tally.counted).0

pub join-requires-clause-raised_fit : goal.join-requires-clause-raised_fit
join-requires-clause-raised_fit c =
    let side : c.side-side.result ≡ c.args.input.now.shape.rows = c.side-side.ensures in
    (tallies_fit (parts_grid c.args.input.now) (parts_products c.args.input.now) c.loop-row.row _ _ (omega (arith, side)) (omega (arith, side))
    (omega (arith, side)) c.loop-row.invariant.counted c.in-Ok.ensures.tally.counted).1

pub join-requires-clause-outlets_fit : goal.join-requires-clause-outlets_fit
join-requires-clause-outlets_fit c =
    let side : c.side-side.result ≡ c.args.input.now.shape.rows = c.side-side.ensures in
    (tallies_fit (parts_grid c.args.input.now) (parts_products c.args.input.now) c.loop-row.row _ _ (omega (arith, side)) (omega (arith, side))
    (omega (arith, side)) c.loop-row.invariant.counted c.in-Ok.ensures.tally.counted).2

pub returns-in-Err : goal.returns-in-Err
returns-in-Err c =
    IsFirstFault-row fill_rules IsFillRule (parts_grid c.args.input.now) (parts_products c.args.input.now) c.loop-row.row c.in-Err.fault.col c.in-Err.fault.rule
    (omega (arith, c.side-side.ensures)) c.loop-row.invariant.holds c.in-Err.ensures.fault

pub loop-row-preserved : goal.loop-row-preserved
loop-row-preserved c =
    let g = parts_grid c.args.input.now in
    let ps = parts_products c.args.input.now in
    let inv = c.loop-row.invariant in
    let here = c.in-Ok.ensures.tally in
    record {
      holds = below_more (λ row. HoldAlong fill_rules IsFillRule g ps row c.args.input.now.shape.rows) c.loop-row.row inv.holds here.holds;
      counted = CountsAbove-more g ps c.loop-row.row _ _ _ inv.counted here.counted
          c.join.ensures.data_cells c.join.ensures.raised c.join.ensures.outlets;
    }

pub returns : goal.returns
returns c =
    let g = parts_grid c.args.input.now in
    let ps = parts_products c.args.input.now in
    let inv = c.loop-row.invariant in
    let side : c.side-side.result ≡ c.args.input.now.shape.rows = c.side-side.ensures in
    let last : c.loop-row.row ≡ c.args.input.now.shape.rows = omega (arith, side) in
    rw side (IsFillVerdict-above g ps c.loop-row.total (rw last at inv.counted) (rw last at inv.holds))
