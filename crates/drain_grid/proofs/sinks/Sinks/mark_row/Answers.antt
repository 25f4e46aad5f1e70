use Rattle.drain_grid.proofs.Names.{ltb, length, get_or, false, sym, ap, subst, ◌∙◌, rules, arith, IsNonDecreasing, get_or-replicate, take_all, IsPartitionPoint-from_clause, IsPartitionedBy-ltb}
use Rattle.drain_grid.proofs.SinkMarks.{AreMarked, from_row, all_marked, none_after, one_more}
use Rattle.drain_grid.proofs.sinks.Sinks.mark_row.Goals as goal

pub loop-place-init : goal.loop-place-init
loop-place-init c = record {
  from =
      let rising = IsPartitionedBy-ltb (λ x. x) c.deref.result.now c.place_of-first.result (subst IsNonDecreasing (sym c.deref.ensures.value) c.self.invariant.rising) in
      let point = IsPartitionPoint-from_clause (λ y. ltb y c.place_of-first.result) _ _ c.partition_point-start.ensures.partitioned rising (λ a r q k. search rules) in
      from_row c.args.self.now c.self.inside.lines c.self.inside.places.items c.deref.result.now c.deref-2.result.now c.args.row
      c.place_of-first.result c.partition_point-start.result c.self.invariant c.self.view_is c.deref.ensures.value c.deref-2.ensures.value
      (omega (arith, c.place_of-first.ensures)) point;
  marked = λ col less.
      ap (λ marks. get_or marks col false) (c.fill.ensures.after (λ y same. search rules))
      ∙ get_or-replicate (length c.args.marks.now) col false false (omega (arith, c.fill.ensures.len));
}

pub overflow_sub-col : goal.overflow_sub-col
overflow_sub-col c = c.loop-place.invariant.from.reached c.loop-place.place-index 0 c.loop-place-test.true

pub returns-then-marks-col-clause-listed : goal.returns-then-marks-col-clause-listed
returns-then-marks-col-clause-listed c =
    let known = c.loop-place.invariant in
    all_marked _ _ _ _ c.loop-place.marks known.from (omega (arith, c.fill.ensures.len))
    (none_after _ c.loop-place.place-index c.loop-place.marks _ c.loop-place-test.true
    (let there = c.if-marks-col.true in let reached = known.from.reached c.loop-place.place-index 0 c.loop-place-test.true in omega arith)
    known.from.rising known.marked)

pub loop-place-preserved : goal.loop-place-preserved
loop-place-preserved c =
    let known = c.loop-place.invariant in record {
      from = known.from;
      marked = let reached = known.from.reached c.loop-place.place-index 0 c.loop-place-test.true in
          one_more _ _ c.loop-place.place-index c.loop-place.marks _ c.loop-place-test.true (omega arith) c.if-marks-col.false known.marked;
    }

pub returns-clause-listed : goal.returns-clause-listed
returns-clause-listed c =
    let known = c.loop-place.invariant in
    all_marked _ _ _ _ c.loop-place.marks known.from (omega (arith, c.fill.ensures.len))
    (subst (AreMarked c.place_of-first.result c.loop-place.marks) (take_all c.loop-place.place-index _ c.loop-place-test.false) known.marked)
