use Rattle.std.proofs.Common.{sym}
use Rattle.drain_report.proofs.ListLemmas.{ten}
use Rattle.drain_report.proofs.grid.DemPartFact.from_numbers.Goals as goal

pub returns-clause-sound : goal.returns-clause-sound
returns-clause-sound c =
    ten c.args.numbers.now _ _ _ _ _ _ _ _ _ _ c.requires.len c.in_ok-cell.ensures.sound.0 c.in_ok-cell.ensures.sound.1
    (sym c.decimal_at.ensures.units) (sym c.decimal_at.ensures.parts) (sym c.decimal_at-2.ensures.units) (sym c.decimal_at-2.ensures.parts)
    (sym c.decimal_at-3.ensures.units) (sym c.decimal_at-3.ensures.parts) (sym c.decimal_at-4.ensures.units) (sym c.decimal_at-4.ensures.parts)
