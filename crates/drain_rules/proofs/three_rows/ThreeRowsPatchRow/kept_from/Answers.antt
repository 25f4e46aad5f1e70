use Rattle.drain_rules.proofs.Names.{arith, ◌∙◌, patch_in}
use Rattle.drain_rules.proofs.LanedPatches.{raised_counts, row_shown}
use Rattle.drain_rules.proofs.three_rows.ThreeRowsPatchRow.kept_from.Goals as goal

pub overflow_cast-result : goal.overflow_cast-result
overflow_cast-result c = omega (arith, c.cleared_until-last.ensures.within, c.requires.inside, c.in-Some-Some-Some.ensures'.narrow)

pub raised_between-requires-clause-fits : goal.raised_between-requires-clause-fits
raised_between-requires-clause-fits c = omega (arith, c.cleared_until-last.ensures.within, c.requires.inside, c.in-Some-Some-Some.ensures'.narrow)

pub returns-clause-raised : goal.returns-clause-raised
returns-clause-raised c =
    let lanes = c.in-Some-Some-Some in
    let last = c.cleared_until-last.ensures in
    c.raised_between.ensures ∙
    raised_counts c.raised_are_counted.ensures lanes.here.now (patch_in c.args.self.now) c.args.from c.cleared_until-last.result last.forward
    (λ col past less.
    (row_shown c.lanes_show_numbers.ensures lanes.here.now c.args.self.now.here lanes.ensures'.laned col (omega (arith, less, last.within, c.requires.inside)), (last.kept col past less).has_data))
