use Rattle.std.proofs.Common.{arith}
use Rattle.drain_progress.proofs.RowCounts.{further_end}
use Rattle.drain_progress.proofs.rows.RowEnds.rows_within.Goals as goal

pub returns-in-Some-checked_div : goal.returns-in-Some-checked_div
returns-in-Some-checked_div c =
    let behind = c.in-Some.ensures in
    let further = c.in-Some-checked_div.ensures in
    further_end c.args.self.now.first c.args.self.now.each c.args.bytes c.in-Some.after c.in-Some-checked_div.further 18446744073709551615 c.saturating_add.result
    behind.0 behind.1 further.0 further.1 (omega (arith, c.ranges.bytes.fits)) c.saturating_add.ensures
