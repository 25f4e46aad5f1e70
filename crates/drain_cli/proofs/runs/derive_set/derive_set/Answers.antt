use Rattle.drain_cli.proofs.DerivedRuns.{handed_over}
use Rattle.drain_maker.proofs.DerivedRasters.{if_ok_both}
use Rattle.drain_cli.proofs.runs.derive_set.derive_set.Goals as goal

pub returns-clause-run : goal.returns-clause-run
returns-clause-run g c =
    let outcome = c.derive_on-derivation.result in
    let is = c.derive_on-derivation.ensures in
    (outcome, if_ok_both outcome _ _ _ is.frame is.keyed (λ made fit keyed. (fit, keyed)), record { derived = is.derived; err = is.err; uses = is.uses }, c.or_print.ensures)

pub returns-clause-counts : goal.returns-clause-counts
returns-clause-counts g c =
    handed_over g.W.ByteSink c.args.out.now c.or_print.new.out c.derive_on-derivation.result c.or_print.result _ c.or_print.ensures c.derive_on-derivation.ensures.counts
