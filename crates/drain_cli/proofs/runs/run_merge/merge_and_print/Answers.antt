use Rattle.drain_cli.proofs.Names.{◌∙◌, arith, subst, Prints-same, status_stood, Prints, Status, merge_line, merge_status}
use Rattle.drain_cli.proofs.UnionStatuses.{of_accepted, of_one, of_rejected, outcome_is}
use Rattle.drain_cli.proofs.runs.run_merge.merge_and_print.Goals as goal

pub returns-clause-run : goal.returns-clause-run
returns-clause-run g c =
    let answer = c.merge_on_map-answer.result in
    let ensures = c.merge_on_map-answer.ensures in (
      answer,
      outcome_is c.args.sinks.now c.args.windows.items answer ensures.means ensures.sinks ensures.refusal,
      subst (λ (status : Status). Prints g.W.ByteSink c.args.out.now c.print_line.new.out (merge_line answer) status c.print_line.result) c.status_of.ensures
          (Prints-same c.merge_line.ensures c.print_line.ensures),
    )

pub returns-clause-correct : goal.returns-clause-correct
returns-clause-correct g c zero =
    let answer = c.merge_on_map-answer.result in
    let ensures = c.merge_on_map-answer.ensures in
    of_accepted c.args.sinks.now c.args.windows.items answer (outcome_is c.args.sinks.now c.args.windows.items answer ensures.means ensures.sinks ensures.refusal)
    (status_stood c.print_line.ensures.done (merge_status answer) c.status_of.result c.print_line.result c.status_of.ensures c.print_line.ensures.code_is
    (omega (arith, zero)) ∙ zero)

pub returns-clause-one_union : goal.returns-clause-one_union
returns-clause-one_union g c zero =
    let answer = c.merge_on_map-answer.result in
    let ensures = c.merge_on_map-answer.ensures in
    of_one c.args.sinks.now c.args.windows.items answer (outcome_is c.args.sinks.now c.args.windows.items answer ensures.means ensures.sinks ensures.refusal)
    (status_stood c.print_line.ensures.done (merge_status answer) c.status_of.result c.print_line.result c.status_of.ensures c.print_line.ensures.code_is
    (omega (arith, zero)) ∙ zero)

pub returns-clause-not_correct : goal.returns-clause-not_correct
returns-clause-not_correct g c one =
    let answer = c.merge_on_map-answer.result in
    let ensures = c.merge_on_map-answer.ensures in
    of_rejected c.args.sinks.now c.args.windows.items answer (outcome_is c.args.sinks.now c.args.windows.items answer ensures.means ensures.sinks ensures.refusal)
    (status_stood c.print_line.ensures.done (merge_status answer) c.status_of.result c.print_line.result c.status_of.ensures c.print_line.ensures.code_is
    (omega (arith, one)) ∙ one)
