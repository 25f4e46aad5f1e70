use Rattle.drain_rules.proofs.Names.{◌+◌, subst, sym, arith, tried, Area, IsAreaOutcome, HasRow, IsTriedIf, place}
use Rattle.drain_rules.proofs.AreaGrids.{sound-past}
use Rattle.drain_rules.proofs.LabelSteps.{over-row}
use Rattle.drain_rules.proofs.walk.Walk.check_row.Goals as goal
use Rattle.drain_rules.proofs.walk.Walk.check_row.Goals.{in-Sound+then-has_row+in-Ok, in-Sound+else-has_row, in_default}

-- one more row after sound rows gives what was found in it, a row outside the area nothing, and a fault stays the first
pub returns-clause-outcome : goal.returns-clause-outcome
returns-clause-outcome g c =
    let tried_rules = IsTriedIf g.L.Labels.compares c.args.rules.now.judged in
    let old = c.args.self.now.labels in
    let row = c.args.self.now.rows in
    elim c.match-self.branch [
      | in-Sound+then-has_row+in-Ok w ↦ λ grid ps are right.
          rw w.self-is
          (subst (λ (a : Area). IsAreaOutcome (tried c.args.rules.now) tried_rules a grid ps (row + 1) (g.L.Labels.are_before grid ps (place (row + 1) 0) w.find_in_row.new.labels) w.in-Ok.outcome)
          (sym w.in-Ok.ensures.judges) (w.in-Ok.ensures.outcome grid ps are (rw w.in-Sound.is at right)))
      | in-Sound+else-has_row w ↦ λ grid ps are right.
          (let outside : ¬ HasRow (g.L.Labels.judges old) row =
          subst (λ (a : Area). ¬ HasRow a row) w.area.ensures (λ has. absurd (let no = w.if-has_row.ensures.1 has in cc)) in
          let sound = rw w.in-Sound.is at right in
          rw (w.self-is, w.in-Sound.is)
          (sound-past (tried c.args.rules.now) tried_rules (g.L.Labels.judges old) grid ps row (g.L.Labels.are_before grid ps (place row 0) old)
          (g.L.Labels.are_before grid ps (place (row + 1) 0) old) w.in-Sound.total outside sound
          (over-row g.L.Labels.judges g.L.Labels.are_before g.met.L.Labels.passed grid ps row old c.requires.row
          (omega (arith, c.cols-cols.ensures.narrow, c.cols-cols.ensures.count, are.cols_are)) outside sound.kept)))
      | in_default w ↦ λ grid ps are right. rw (w.self-is, w.in_default.is) (rw w.in_default.is at right)
    ]
