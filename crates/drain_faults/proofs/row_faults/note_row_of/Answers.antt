use Rattle.drain_faults.proofs.Names.{◌∙◌, ap, arith, inr, subst, ◌+◌, Patch, tried, CountsAlong, place, CountsAlong-more}
use Rattle.drain_rules.proofs.KeptCells.{bounds-kept, counted-kept}
use Rattle.drain_rules.proofs.CountBounds.{bounds-next, raised-fit}
use Rattle.drain_faults.proofs.FaultSteps.{counted_none, counted_voids, none_at_most, found_begins, found_ends, found_new, found_noted, found_passed}
use Rattle.drain_faults.proofs.MapSteps.{drawn_still, map_begins, map_ends, map_noted, map_passed}
use Rattle.drain_faults.proofs.row_faults.note_row_of.Goals as goal

pub loop-col-init : goal.loop-col-init
loop-col-init g c = record {
  within = omega arith;
  found = λ grid ps are above.
      found_begins c.args.rules.now grid ps c.args.row (g.R.PatchRow.len c.args.patches.now) (g.R.PatchRow.shown c.args.patches.now) are c.args.found.now above;
  map = λ grid ps are above drawn. map_begins c.args.rules.now grid ps c.args.row c.args.map.now drawn;
  counted = λ grid ps are. counted_none grid ps c.args.row c.new-tally.result c.new-tally.ensures;
  bounds = none_at_most c.new-tally.result c.new-tally.ensures;
  drawn = (λ some. some, λ some. some);
}

-- the cleared cells and the voids after them, up to the end of the row
pub loop-col-preserved : goal.loop-col-preserved
loop-col-preserved g c =
    let kept = c.kept_from-kept.ensures in
    let run = c.add_kept.ensures in
    let voids = c.voids_until-col.ensures in
    let bounds = bounds-kept (g.R.PatchRow.shown c.args.patches.now) c.loop-col.col c.kept_from-kept.result c.loop-col.tally c.add_kept.new.self kept.forward
    c.loop-col.invariant.bounds kept.raised run.data_cells run.raised run.outlets in
    record {
      within = (omega (arith, voids.within, c.cols-cols.ensures.count));
      counted = λ grid ps are.
          counted_voids (tried c.args.rules.now) grid ps c.args.row (g.R.PatchRow.len c.args.patches.now) (g.R.PatchRow.shown c.args.patches.now) are c.add_kept.new.self
          c.kept_from-kept.result.end c.voids_until-col.result voids.forward (omega (arith, voids.within, c.cols-cols.ensures.count)) voids.right
          (counted-kept (tried c.args.rules.now) grid ps c.args.row (g.R.PatchRow.len c.args.patches.now) (g.R.PatchRow.shown c.args.patches.now) c.loop-col.col c.kept_from-kept.result c.loop-col.tally c.add_kept.new.self are
          kept.forward (omega (arith, kept.within, c.cols-cols.ensures.count)) (c.loop-col.invariant.counted grid ps are) kept.kept kept.raised run.data_cells run.raised run.outlets);
      bounds = record { data_cells = omega (arith, bounds.data_cells, voids.forward); raised = bounds.raised; outlets = bounds.outlets };
      found = λ grid ps are above.
          found_passed c.args.rules.now grid ps c.args.row (g.R.PatchRow.len c.args.patches.now) (g.R.PatchRow.shown c.args.patches.now) are c.loop-col.found
          c.loop-col.col c.kept_from-kept.result.end c.voids_until-col.result kept.forward (omega (arith, kept.within, c.cols-cols.ensures.count)) kept.kept voids.forward (omega (arith, voids.within, c.cols-cols.ensures.count)) voids.right (c.loop-col.invariant.found grid ps are above);
      map = λ grid ps are above drawn.
          map_passed c.args.rules.now grid ps c.args.row (g.R.PatchRow.len c.args.patches.now) (g.R.PatchRow.shown c.args.patches.now) are c.loop-col.map c.draw_run.new.map c.draw_run-in-loop-col.new.map
          c.loop-col.col c.kept_from-kept.result.end c.voids_until-col.result _ _ kept.forward (omega (arith, kept.within, c.cols-cols.ensures.count)) (omega arith) kept.kept c.in_ok-draw_run.ensures.drawn
          voids.forward (omega (arith, voids.within, c.cols-cols.ensures.count)) (omega arith) voids.right c.in_ok-draw_run-2.ensures.drawn (c.loop-col.invariant.map grid ps are above drawn);
      drawn = let first = drawn_still c.loop-col.map c.draw_run.new.map _ c.in_ok-draw_run.ensures.drawn in
          let second = drawn_still c.draw_run.new.map c.draw_run-in-loop-col.new.map _ c.in_ok-draw_run-2.ensures.drawn in
          let so_far = c.loop-col.invariant.drawn in
          (λ some. so_far.0 (first.0 (second.0 some)), λ some. second.1 (first.1 (so_far.1 some)));
    }

-- and the one after them
pub loop-col-preserved-then-col-cols : goal.loop-col-preserved-then-col-cols
loop-col-preserved-then-col-cols g c =
    let kept = c.kept_from-kept.ensures in
    let run = c.add_kept.ensures in
    let voids = c.voids_until-col.ensures in
    let add = c.add.ensures in
    let bounds = bounds-kept (g.R.PatchRow.shown c.args.patches.now) c.loop-col.col c.kept_from-kept.result c.loop-col.tally c.add_kept.new.self kept.forward
    c.loop-col.invariant.bounds kept.raised run.data_cells run.raised run.outlets in
    record {
      within = omega (arith, c.if-col-cols.true, c.cols-cols.ensures.count);
      counted = λ grid ps are.
          CountsAlong-more grid ps c.args.row c.voids_until-col.result c.patch-patch.result.here c.add_kept.new.self c.add.new.self
          (ap (λ (p : Patch). p.here) (c.patch-patch.ensures ∙ are.patches_are c.voids_until-col.result (omega (arith, c.if-col-cols.true, c.cols-cols.ensures.count))))
          (counted_voids (tried c.args.rules.now) grid ps c.args.row (g.R.PatchRow.len c.args.patches.now) (g.R.PatchRow.shown c.args.patches.now) are c.add_kept.new.self
          c.kept_from-kept.result.end c.voids_until-col.result voids.forward (omega (arith, voids.within, c.cols-cols.ensures.count)) voids.right
          (counted-kept (tried c.args.rules.now) grid ps c.args.row (g.R.PatchRow.len c.args.patches.now) (g.R.PatchRow.shown c.args.patches.now) c.loop-col.col c.kept_from-kept.result c.loop-col.tally c.add_kept.new.self are
          kept.forward (omega (arith, kept.within, c.cols-cols.ensures.count)) (c.loop-col.invariant.counted grid ps are) kept.kept kept.raised run.data_cells run.raised run.outlets))
          add.data_cells add.raised add.outlets;
      bounds = bounds-next c.patch-patch.result.here c.kept_from-kept.result.end (c.voids_until-col.result + 1) c.add_kept.new.self c.add.new.self
          (omega (arith, voids.forward)) bounds add.data_cells add.raised add.outlets;
      found = λ grid ps are above.
          found_noted c.args.rules.now grid ps c.args.row (g.R.PatchRow.len c.args.patches.now) (g.R.PatchRow.shown c.args.patches.now) are c.loop-col.found
          c.note.new.self c.voids_until-col.result c.patch-patch.result c.requires (omega (arith, c.cols-cols.ensures.count, c.cols-cols.ensures.narrow))
          (omega (arith, c.if-col-cols.true, c.cols-cols.ensures.count)) c.patch-patch.ensures c.in-Ok.ensures.noted
          (found_passed c.args.rules.now grid ps c.args.row (g.R.PatchRow.len c.args.patches.now) (g.R.PatchRow.shown c.args.patches.now) are c.loop-col.found
          c.loop-col.col c.kept_from-kept.result.end c.voids_until-col.result kept.forward (omega (arith, kept.within, c.cols-cols.ensures.count)) kept.kept voids.forward (omega (arith, voids.within, c.cols-cols.ensures.count)) voids.right (c.loop-col.invariant.found grid ps are above));
      map = λ grid ps are above drawn.
          map_noted c.args.rules.now grid ps c.args.row (g.R.PatchRow.len c.args.patches.now) (g.R.PatchRow.shown c.args.patches.now) are c.loop-col.found c.in-Ok.least c.draw_run-in-loop-col.new.map c.draw_cell.new.map c.voids_until-col.result c.patch-patch.result
          (omega (arith, c.if-col-cols.true, c.cols-cols.ensures.count)) c.patch-patch.ensures c.in-Ok.ensures.least c.in_ok-draw_cell-in-Ok.ensures.drawn
          (found_passed c.args.rules.now grid ps c.args.row (g.R.PatchRow.len c.args.patches.now) (g.R.PatchRow.shown c.args.patches.now) are c.loop-col.found
          c.loop-col.col c.kept_from-kept.result.end c.voids_until-col.result kept.forward (omega (arith, kept.within, c.cols-cols.ensures.count)) kept.kept voids.forward (omega (arith, voids.within, c.cols-cols.ensures.count)) voids.right (c.loop-col.invariant.found grid ps are above))
          (map_passed c.args.rules.now grid ps c.args.row (g.R.PatchRow.len c.args.patches.now) (g.R.PatchRow.shown c.args.patches.now) are c.loop-col.map c.draw_run.new.map c.draw_run-in-loop-col.new.map
          c.loop-col.col c.kept_from-kept.result.end c.voids_until-col.result _ _ kept.forward (omega (arith, kept.within, c.cols-cols.ensures.count)) (omega arith) kept.kept c.in_ok-draw_run.ensures.drawn
          voids.forward (omega (arith, voids.within, c.cols-cols.ensures.count)) (omega arith) voids.right c.in_ok-draw_run-2.ensures.drawn (c.loop-col.invariant.map grid ps are above drawn));
      drawn = let first = drawn_still c.loop-col.map c.draw_run.new.map _ c.in_ok-draw_run.ensures.drawn in
          let second = drawn_still c.draw_run.new.map c.draw_run-in-loop-col.new.map _ c.in_ok-draw_run-2.ensures.drawn in
          let so_far = c.loop-col.invariant.drawn in
          let third = drawn_still c.draw_run-in-loop-col.new.map c.draw_cell.new.map _ c.in_ok-draw_cell-in-Ok.ensures.drawn in
          (λ some. so_far.0 (first.0 (second.0 (third.0 some))), λ some. third.1 (second.1 (first.1 (so_far.1 some))));
    }

pub add_kept-requires-clause-raised_fit : goal.add_kept-requires-clause-raised_fit
add_kept-requires-clause-raised_fit g c =
    let kept = c.kept_from-kept.ensures in
    raised-fit (g.R.PatchRow.shown c.args.patches.now) c.loop-col.col c.loop-col.col c.cols-cols.result c.kept_from-kept.result c.loop-col.tally c.loop-col.invariant.bounds
    (omega arith) kept.forward (omega (arith, kept.within, c.cols-cols.ensures.count)) c.cols-cols.ensures.narrow kept.raised

pub add-requires-clause-raised_within : goal.add-requires-clause-raised_within
add-requires-clause-raised_within g c =
    let kept = c.kept_from-kept.ensures in
    let run = c.add_kept.ensures in
    (bounds-kept (g.R.PatchRow.shown c.args.patches.now) c.loop-col.col c.kept_from-kept.result c.loop-col.tally c.add_kept.new.self kept.forward
    c.loop-col.invariant.bounds kept.raised run.data_cells run.raised run.outlets).raised

pub returns-clause-tally : goal.returns-clause-tally
returns-clause-tally g c = λ grid ps are.
    subst (λ n. CountsAlong grid ps c.args.row n c.loop-col.tally)
    (omega (arith, c.loop-col-test.false, c.loop-col.invariant.within, c.cols-cols.ensures.count, are.cols_are)) (c.loop-col.invariant.counted grid ps are)

pub returns-in-Err-clause-err : goal.returns-in-Err-clause-err
returns-in-Err-clause-err g c = inr (
  c.in-Err.ensures.err.0,
  λ grid ps are above.
      let kept = c.kept_from-kept.ensures in
      let voids = c.voids_until-col.ensures in (
        place c.args.row c.voids_until-col.result,
        found_new c.args.rules.now grid ps c.args.row (g.R.PatchRow.len c.args.patches.now) (g.R.PatchRow.shown c.args.patches.now) are c.loop-col.found
            c.voids_until-col.result c.patch-patch.result (omega (arith, c.if-col-cols.true, c.cols-cols.ensures.count)) c.patch-patch.ensures
            (found_passed c.args.rules.now grid ps c.args.row (g.R.PatchRow.len c.args.patches.now) (g.R.PatchRow.shown c.args.patches.now) are c.loop-col.found
            c.loop-col.col c.kept_from-kept.result.end c.voids_until-col.result kept.forward (omega (arith, kept.within, c.cols-cols.ensures.count)) kept.kept voids.forward (omega (arith, voids.within, c.cols-cols.ensures.count)) voids.right (c.loop-col.invariant.found grid ps are above)) c.in-Err.ensures.err,
      ),
)

pub returns-clause-found : goal.returns-clause-found
returns-clause-found g c = λ grid ps are above.
    found_ends c.args.rules.now grid ps c.args.row (g.R.PatchRow.len c.args.patches.now) (g.R.PatchRow.shown c.args.patches.now) are c.loop-col.found
    c.loop-col.col (omega (arith, c.loop-col-test.false, c.loop-col.invariant.within, c.cols-cols.ensures.count)) (c.loop-col.invariant.found grid ps are above)

pub returns-clause-map : goal.returns-clause-map
returns-clause-map g c = λ grid ps are above drawn.
    map_ends c.args.rules.now grid ps c.args.row (g.R.PatchRow.len c.args.patches.now) (g.R.PatchRow.shown c.args.patches.now) are c.loop-col.map
    c.loop-col.col (omega (arith, c.loop-col-test.false, c.loop-col.invariant.within, c.cols-cols.ensures.count)) (c.loop-col.invariant.map grid ps are above drawn)
