use Rattle.drain_verdict.proofs.Names.{◌∙◌, sym, subst, IsFirstUnfilled, Judged, IsLeastSurface, IsPartRule, IsTried, part_rules, rules_about, IsVerdictAmong, IsDecided, IsUnfilledCell}
use Rattle.std.specs.Prelude.{MatchOption}
use Rattle.drain_grid.specs.declared.judged.Judged.TheVariants.{Con}
use Rattle.drain_verdict.proofs.OutcomeLemmas.{con_keeps}
use Rattle.drain_verdict.proofs.decider.ConRowsDecider.decide.Goals as goal
use Rattle.drain_verdict.proofs.decider.ConRowsDecider.decide.Goals.{in-Rejected, in-Accepted+in_ok-cell-in-Accepted}

-- a fault of the rules decides, and else the first cell that isn't filled
pub returns-clause-cell : goal.returns-clause-cell
returns-clause-cell c = λ rules g ps is_con same extent sinks rows verdict.
    let about : IsVerdictAmong (part_rules Con rules.nodata) (IsPartRule Con) g ps c.args.verdict.now =
    subst (λ (j : Judged). IsVerdictAmong (rules_about j rules.nodata) (IsTried j) g ps c.args.verdict.now) (same ∙ is_con) verdict in
    let unfilled : IsUnfilledCell g ps c.args.verdict.now c.match-verdict.cell =
    elim c.match-verdict.branch [
      | in-Rejected w ↦ rw w.in-Rejected.is w.cell-is
      | in-Accepted+in_ok-cell-in-Accepted w ↦
          (let holds = subst (IsVerdictAmong (part_rules Con rules.nodata) (IsPartRule Con) g ps) w.in-Accepted.is about in
          rw w.in-Accepted.is (subst (λ cell. MatchOption cell (IsLeastSurface g ps.con) (IsFirstUnfilled g ps.con)) (sym w.cell-is)
          (w.in_ok-cell-in-Accepted.ensures.first g ps extent sinks rows (con_keeps g ps rules.nodata holds.0))))
    ] in
    subst (λ (j : Judged). IsDecided j g ps c.args.verdict.now c.match-verdict.cell) (sym is_con) unfilled
