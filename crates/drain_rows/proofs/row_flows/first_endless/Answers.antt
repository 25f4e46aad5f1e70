-- Where every rule about judged rasters holds, accumulation among them, every path ends.
use Rattle.drain_rows.proofs.Names.{subst, sym, ◌∙◌, Judged, IsTried, rules_about}
use Rattle.drain_grid.specs.declared.verdict.Verdict.{Verdict}
use Rattle.drain_rules.specs.Verdicts.{IsVerdictAmong}
use Rattle.drain_paths.proofs.KnownWays.{AreKnownFlows-grid}
use Rattle.drain_rows.proofs.CountedRules.{counts_hold}
use Rattle.drain_rows.proofs.row_flows.first_endless.Goals as goal

pub returns-then-not-has_rnk-clause-first : goal.returns-then-not-has_rnk-clause-first
returns-then-not-has_rnk-clause-first c = λ rules g ps judged is counted flows.
    let by_judged = subst (λ (j : Judged). IsVerdictAmong (rules_about j rules.nodata) (IsTried j) g ps c.args.verdict.now) judged is in
    let accepted = subst (λ (v : Verdict). IsVerdictAmong (rules_about c.args.judged rules.nodata) (IsTried c.args.judged) g ps v) c.in-Accepted.is by_judged in
    c.runs_end_by_counts.ensures g ps
    (counts_hold c.args.judged rules.nodata g ps (sym c.has_acc.ensures ∙ c.if-has_acc.true) (sym c.has_rnk.ensures ∙ c.if-not-has_rnk.true) accepted.0)

pub returns-then-not-has_rnk-clause-known : goal.returns-then-not-has_rnk-clause-known
returns-then-not-has_rnk-clause-known c = λ g ps are. AreKnownFlows-grid g ps c.args.shape c.args.flows.now are

pub returns-else-len-cells-clause-known : goal.returns-else-len-cells-clause-known
returns-else-len-cells-clause-known c = λ g ps are. AreKnownFlows-grid g ps c.args.shape c.args.flows.now are
