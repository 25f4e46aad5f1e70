use Rattle.drain_window.proofs.Names.{◌≡◌, length, sym, subst, ◌∙◌, arith, false≢true, AreLinesInside}
use Rattle.drain_window.proofs.SinkLists.{line_added, line_skipped}
use Rattle.drain_window.proofs.judged_area.judged_sinks.Goals.{then-judges+in_ok-push, else-judges}
use Rattle.drain_window.proofs.judged_area.judged_sinks.Goals as goal

pub loop-i-preserved : goal.loop-i-preserved
loop-i-preserved c = elim c.if-judges.branch [
  | then-judges+in_ok-push w ↦ rw (w.cells-is, w.in_ok-push.ensures.items, w.union_cell.ensures)
      (line_added c.args.origin c.args.place.now c.args.sinks.now c.loop-i.i c.loop-i.cells.items _ c.entry-line.ensures c.loop-i.invariant
      (c.judges.ensures.0 w.if-judges.true))
  | else-judges w ↦ rw (w.cells-is)
      (line_skipped c.args.origin c.args.place.now c.args.sinks.now c.loop-i.i c.loop-i.cells.items _ c.entry-line.ensures c.loop-i.invariant
      (λ at. false≢true (sym w.if-judges.false ∙ c.judges.ensures.1 at)))
]

pub returns : goal.returns
returns c =
    let all : c.loop-i.i ≡ length c.args.sinks.now = omega (arith, c.loop-i-test.false, c.loop-i.auto.i-end, c.count-i-end.ensures) in
    subst (λ n. AreLinesInside c.args.origin c.args.place.now c.args.sinks.now n c.loop-i.cells.items) all c.loop-i.invariant
