use Rattle.drain_rules.proofs.Names.{◌≡◌, ℕ, ◌+◌, ◌≤◌, min, refl, sym, ◌∙◌, ap, subst, arith, MAX_LENGTH, Patch, tried, Area, HasCell, IsTriedIf, place}
use Rattle.drain_rules.proofs.CountBounds.{bounds-next, raised-fit}
use Rattle.drain_rules.proofs.KeptCells.{bounds-kept}
use Rattle.drain_rules.proofs.LabelSteps.{along-run, to-begin, to-next-row}
use Rattle.drain_rules.proofs.PassedCells.{IsPassed, inside-row, passed-none}
use Rattle.drain_rules.proofs.RowPasses.{none-between, passed-both, passed-row, passed-next, stops-row}
use Rattle.drain_rules.proofs.walk.check_row.Goals as goal

-- where the judged cells of the row end
end_is : (a b : Area) (end cols len wide : ℕ) → end ≡ min a.right cols → a ≡ b → cols ≡ len → len ≡ wide → end ≡ min b.right wide
end_is a b end cols len wide is same count as_wide = subst (λ n. end ≡ min b.right n) (count ∙ as_wide) (subst (λ (x : Area). end ≡ min x.right cols) same is)

begin_is : (a b : Area) (begin end : ℕ) → begin ≡ min a.left end → a ≡ b → begin ≡ min b.left end
begin_is a b begin end is same = subst (λ (x : Area). begin ≡ min x.left end) same is

-- a judged row is narrow
narrow : (cols len wide : ℕ) → cols ≤ MAX_LENGTH → cols ≡ len → len ≡ wide → wide ≤ MAX_LENGTH
narrow cols len wide few count as_wide = omega (arith, few, count, as_wide)

pub loop-col-init : goal.loop-col-init
loop-col-init g c =
    let begin = begin_is c.area-area.result (g.L.Labels.judges c.args.labels.now) c.min-col.result c.min-end.result c.min-col.ensures c.area-area.ensures in
    record {
      past = omega (arith, begin);
      within = omega (arith, begin);
      passed = λ grid ps are before. (
        subst (λ n. IsPassed (tried c.args.rules.now) (IsTriedIf g.L.Labels.compares c.args.rules.now.judged) grid ps c.args.row
            (min (g.L.Labels.judges c.args.labels.now).left c.min-end.result) n c.new-tally.result) (sym begin)
            (passed-none (tried c.args.rules.now) (IsTriedIf g.L.Labels.compares c.args.rules.now.judged) grid ps c.args.row
            (min (g.L.Labels.judges c.args.labels.now).left c.min-end.result) c.new-tally.result c.new-tally.ensures),
        to-begin g.L.Labels.judges g.L.Labels.are_before g.met.L.Labels.passed grid ps c.args.row c.args.labels.now c.requires.row
            (narrow c.cols-cols.result (g.R.PatchRow.len c.args.patches.now) grid.extent.cols c.cols-cols.ensures.narrow c.cols-cols.ensures.count are.cols_are)
            c.min-col.result (omega (arith, begin)) before,
      );
      judges = refl;
      bounds = record {
        data_cells = grind (arith, c.new-tally.ensures);
        raised = grind (arith, c.new-tally.ensures);
        outlets = grind (arith, c.new-tally.ensures);
      };
    }

pub add_kept-requires-clause-raised_fit : goal.add_kept-requires-clause-raised_fit
add_kept-requires-clause-raised_fit g c =
    let kept = c.kept_from-kept.ensures in
    raised-fit (g.R.PatchRow.shown c.args.patches.now) c.loop-col.col c.loop-col.col c.cols-cols.result c.kept_from-kept.result c.loop-col.tally c.loop-col.invariant.bounds
    (omega arith) kept.forward (omega (arith, kept.within, c.min-end.ensures)) c.cols-cols.ensures.narrow kept.raised

pub add-requires-clause-raised_within : goal.add-requires-clause-raised_within
add-requires-clause-raised_within g c =
    let kept = c.kept_from-kept.ensures in
    let add = c.add_kept.ensures in
    (bounds-kept (g.R.PatchRow.shown c.args.patches.now) c.loop-col.col c.kept_from-kept.result c.loop-col.tally c.add_kept.new.self kept.forward
    c.loop-col.invariant.bounds kept.raised add.data_cells add.raised add.outlets).raised

-- the cell after the cleared ones and the voids
pub returns-in-Err-clause-stopped : goal.returns-in-Err-clause-stopped
returns-in-Err-clause-stopped g c = λ grid ps are before.
    let kept = c.kept_from-kept.ensures in
    let run = c.add_kept.ensures in
    let voids = c.voids_until-col.ensures in
    let passed = passed-both g.L.Labels.compares c.args.rules.now.judged (tried c.args.rules.now) grid ps c.args.row (min (g.L.Labels.judges c.args.labels.now).left c.min-end.result)
    (g.R.PatchRow.len c.args.patches.now) (g.R.PatchRow.shown c.args.patches.now) c.loop-col.col c.voids_until-col.result c.kept_from-kept.result c.loop-col.tally c.add_kept.new.self
    are c.loop-col.invariant.past kept.forward voids.forward (omega (arith, voids.within, c.min-end.ensures, c.cols-cols.ensures.count)) (c.loop-col.invariant.passed grid ps are before).0
    kept.kept kept.raised run.data_cells run.raised run.outlets voids.right in
    let labels = along-run g.L.Labels.judges g.L.Labels.are_before g.met.L.Labels.passed grid ps c.args.row c.loop-col.labels c.requires.row
    (narrow c.cols-cols.result (g.R.PatchRow.len c.args.patches.now) grid.extent.cols c.cols-cols.ensures.narrow c.cols-cols.ensures.count are.cols_are)
    (g.R.PatchRow.len c.args.patches.now) c.loop-col.col c.voids_until-col.result (g.R.PatchRow.shown c.args.patches.now) are (omega (arith, kept.forward, voids.forward))
    (omega (arith, voids.within, c.min-end.ensures, c.cols-cols.ensures.count))
    (none-between (tried c.args.rules.now) (g.R.PatchRow.shown c.args.patches.now) c.loop-col.col c.kept_from-kept.result.end c.voids_until-col.result kept.kept voids.right)
    (c.loop-col.invariant.passed grid ps are before).1 in
    let end = end_is c.area-area.result (g.L.Labels.judges c.args.labels.now) c.min-end.result c.cols-cols.result (g.R.PatchRow.len c.args.patches.now) grid.extent.cols
    c.min-end.ensures c.area-area.ensures c.cols-cols.ensures.count are.cols_are in
    stops-row g.L.Labels.compares c.args.rules.now.judged (tried c.args.rules.now) (g.L.Labels.is_new c.loop-col.labels) (g.L.Labels.judges c.args.labels.now) grid ps c.args.row
    c.voids_until-col.result (g.R.PatchRow.len c.args.patches.now) c.min-end.result (g.R.PatchRow.shown c.args.patches.now) are end (omega (arith, c.loop-col.invariant.past, kept.forward, voids.forward)) c.if-col-end.true
    (λ compared. g.met.L.Labels.tells_shared grid ps (place c.args.row c.voids_until-col.result) c.loop-col.labels compared
    (inside-row grid ps c.args.row c.voids_until-col.result (g.R.PatchRow.len c.args.patches.now) (g.R.PatchRow.shown c.args.patches.now) are
    (omega (arith, c.if-col-end.true, c.min-end.ensures, c.cols-cols.ensures.count))) labels) c.in-Err.stop c.add_kept.new.self passed c.in-Err.ensures.stopped

pub loop-col-preserved-then-col-end : goal.loop-col-preserved-then-col-end
loop-col-preserved-then-col-end g c =
    let kept = c.kept_from-kept.ensures in
    let run = c.add_kept.ensures in
    let voids = c.voids_until-col.ensures in
    let add = c.add.ensures in
    let bounds = bounds-kept (g.R.PatchRow.shown c.args.patches.now) c.loop-col.col c.kept_from-kept.result c.loop-col.tally c.add_kept.new.self kept.forward
    c.loop-col.invariant.bounds kept.raised run.data_cells run.raised run.outlets in
    record {
      past = omega (arith, c.loop-col.invariant.past, kept.forward, voids.forward);
      within = omega (arith, c.if-col-end.true);
      passed = λ grid ps are before.
          (let passed = passed-both g.L.Labels.compares c.args.rules.now.judged (tried c.args.rules.now) grid ps c.args.row (min (g.L.Labels.judges c.args.labels.now).left c.min-end.result)
          (g.R.PatchRow.len c.args.patches.now) (g.R.PatchRow.shown c.args.patches.now) c.loop-col.col c.voids_until-col.result c.kept_from-kept.result c.loop-col.tally c.add_kept.new.self
          are c.loop-col.invariant.past kept.forward voids.forward (omega (arith, voids.within, c.min-end.ensures, c.cols-cols.ensures.count)) (c.loop-col.invariant.passed grid ps are before).0
          kept.kept kept.raised run.data_cells run.raised run.outlets voids.right in
          let labels = along-run g.L.Labels.judges g.L.Labels.are_before g.met.L.Labels.passed grid ps c.args.row c.loop-col.labels c.requires.row
          (narrow c.cols-cols.result (g.R.PatchRow.len c.args.patches.now) grid.extent.cols c.cols-cols.ensures.narrow c.cols-cols.ensures.count are.cols_are)
          (g.R.PatchRow.len c.args.patches.now) c.loop-col.col c.voids_until-col.result (g.R.PatchRow.shown c.args.patches.now) are (omega (arith, kept.forward, voids.forward))
          (omega (arith, voids.within, c.min-end.ensures, c.cols-cols.ensures.count))
          (none-between (tried c.args.rules.now) (g.R.PatchRow.shown c.args.patches.now) c.loop-col.col c.kept_from-kept.result.end c.voids_until-col.result kept.kept voids.right)
          (c.loop-col.invariant.passed grid ps are before).1 in
          let end = end_is c.area-area.result (g.L.Labels.judges c.args.labels.now) c.min-end.result c.cols-cols.result (g.R.PatchRow.len c.args.patches.now) grid.extent.cols
          c.min-end.ensures c.area-area.ensures c.cols-cols.ensures.count are.cols_are in
          let inside = inside-row grid ps c.args.row c.voids_until-col.result (g.R.PatchRow.len c.args.patches.now) (g.R.PatchRow.shown c.args.patches.now) are
          (omega (arith, c.if-col-end.true, c.min-end.ensures, c.cols-cols.ensures.count)) in (
            passed-next g.L.Labels.compares c.args.rules.now.judged (tried c.args.rules.now) (g.L.Labels.is_new c.loop-col.labels) (g.L.Labels.judges c.args.labels.now) grid ps c.args.row
                c.voids_until-col.result (g.R.PatchRow.len c.args.patches.now) c.min-end.result (g.R.PatchRow.shown c.args.patches.now) are end (omega (arith, c.loop-col.invariant.past, kept.forward, voids.forward)) c.if-col-end.true
                (λ compared. g.met.L.Labels.tells_shared grid ps (place c.args.row c.voids_until-col.result) c.loop-col.labels compared
                (inside-row grid ps c.args.row c.voids_until-col.result (g.R.PatchRow.len c.args.patches.now) (g.R.PatchRow.shown c.args.patches.now) are
                (omega (arith, c.if-col-end.true, c.min-end.ensures, c.cols-cols.ensures.count))) labels) c.in-Ok.here c.add_kept.new.self c.add.new.self c.in-Ok.ensures.values passed c.in-Ok.ensures.passed add.data_cells add.raised add.outlets,
            g.met.L.Labels.one_more grid ps c.args.row c.voids_until-col.result (g.R.PatchRow.shown c.args.patches.now c.voids_until-col.result).here c.loop-col.labels c.check_cell.new.labels
                inside
                (subst (λ (a : Area). HasCell a (place c.args.row c.voids_until-col.result)) (sym c.loop-col.invariant.judges)
                (record {
                  top = c.requires.judged.from;
                  bottom = c.requires.judged.to;
                  left = omega (arith, c.loop-col.invariant.past, kept.forward, voids.forward, c.if-col-end.true);
                  right = omega (arith, c.if-col-end.true, end);
                }))
                (ap (λ (q : Patch). q.here) (are.patches_are c.voids_until-col.result (omega (arith, c.if-col-end.true, c.min-end.ensures, c.cols-cols.ensures.count))))
                c.in-Ok.ensures.adds labels,
          ));
      judges = c.check_cell.ensures.judges ∙ c.loop-col.invariant.judges;
      bounds = bounds-next c.in-Ok.here c.kept_from-kept.result.end (c.voids_until-col.result + 1) c.add_kept.new.self c.add.new.self (omega (arith, voids.forward)) bounds
          add.data_cells add.raised add.outlets;
    }

-- the cleared cells and the voids, up to the last column
pub loop-col-preserved : goal.loop-col-preserved
loop-col-preserved g c =
    let kept = c.kept_from-kept.ensures in
    let run = c.add_kept.ensures in
    let voids = c.voids_until-col.ensures in
    let bounds = bounds-kept (g.R.PatchRow.shown c.args.patches.now) c.loop-col.col c.kept_from-kept.result c.loop-col.tally c.add_kept.new.self kept.forward
    c.loop-col.invariant.bounds kept.raised run.data_cells run.raised run.outlets in
    record {
      past = omega (arith, c.loop-col.invariant.past, kept.forward, voids.forward);
      within = voids.within;
      passed = λ grid ps are before. (
        passed-both g.L.Labels.compares c.args.rules.now.judged (tried c.args.rules.now) grid ps c.args.row (min (g.L.Labels.judges c.args.labels.now).left c.min-end.result)
            (g.R.PatchRow.len c.args.patches.now) (g.R.PatchRow.shown c.args.patches.now) c.loop-col.col c.voids_until-col.result c.kept_from-kept.result c.loop-col.tally c.add_kept.new.self
            are c.loop-col.invariant.past kept.forward voids.forward (omega (arith, voids.within, c.min-end.ensures, c.cols-cols.ensures.count)) (c.loop-col.invariant.passed grid ps are before).0
            kept.kept kept.raised run.data_cells run.raised run.outlets voids.right,
        along-run g.L.Labels.judges g.L.Labels.are_before g.met.L.Labels.passed grid ps c.args.row c.loop-col.labels c.requires.row
            (narrow c.cols-cols.result (g.R.PatchRow.len c.args.patches.now) grid.extent.cols c.cols-cols.ensures.narrow c.cols-cols.ensures.count are.cols_are)
            (g.R.PatchRow.len c.args.patches.now) c.loop-col.col c.voids_until-col.result (g.R.PatchRow.shown c.args.patches.now) are (omega (arith, kept.forward, voids.forward))
            (omega (arith, voids.within, c.min-end.ensures, c.cols-cols.ensures.count))
            (none-between (tried c.args.rules.now) (g.R.PatchRow.shown c.args.patches.now) c.loop-col.col c.kept_from-kept.result.end c.voids_until-col.result kept.kept voids.right)
            (c.loop-col.invariant.passed grid ps are before).1,
      );
      judges = c.loop-col.invariant.judges;
      bounds = record { data_cells = omega (arith, bounds.data_cells, voids.forward); raised = bounds.raised; outlets = bounds.outlets };
    }

pub returns-clause-tally : goal.returns-clause-tally
returns-clause-tally g c = λ grid ps are before.
    let end = end_is c.area-area.result (g.L.Labels.judges c.args.labels.now) c.min-end.result c.cols-cols.result (g.R.PatchRow.len c.args.patches.now) grid.extent.cols
    c.min-end.ensures c.area-area.ensures c.cols-cols.ensures.count are.cols_are in
    let last : c.loop-col.col ≡ c.min-end.result = omega (arith, c.loop-col-test.false, c.loop-col.invariant.within) in
    passed-row (tried c.args.rules.now) (IsTriedIf g.L.Labels.compares c.args.rules.now.judged) (g.L.Labels.judges c.args.labels.now) grid ps c.args.row c.min-end.result c.loop-col.tally end
    (subst (λ n. IsPassed (tried c.args.rules.now) (IsTriedIf g.L.Labels.compares c.args.rules.now.judged) grid ps c.args.row
    (min (g.L.Labels.judges c.args.labels.now).left c.min-end.result) n c.loop-col.tally) last (c.loop-col.invariant.passed grid ps are before).0)

pub returns-clause-labels : goal.returns-clause-labels
returns-clause-labels g c = λ grid ps are before.
    let end = end_is c.area-area.result (g.L.Labels.judges c.args.labels.now) c.min-end.result c.cols-cols.result (g.R.PatchRow.len c.args.patches.now) grid.extent.cols
    c.min-end.ensures c.area-area.ensures c.cols-cols.ensures.count are.cols_are in
    let last : c.loop-col.col ≡ c.min-end.result = omega (arith, c.loop-col-test.false, c.loop-col.invariant.within) in
    let there = subst (λ (a : Area). c.min-end.result ≡ min a.right grid.extent.cols) (sym c.loop-col.invariant.judges) end in
    to-next-row g.L.Labels.judges g.L.Labels.are_before g.met.L.Labels.passed grid ps c.args.row c.loop-col.labels c.requires.row
    (narrow c.cols-cols.result (g.R.PatchRow.len c.args.patches.now) grid.extent.cols c.cols-cols.ensures.narrow c.cols-cols.ensures.count are.cols_are)
    c.min-end.result there (subst (λ n. g.L.Labels.are_before grid ps (place c.args.row n) c.loop-col.labels) last (c.loop-col.invariant.passed grid ps are before).1)
