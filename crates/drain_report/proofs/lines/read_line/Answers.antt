use Rattle.drain_report.proofs.Names.{ap, ◌∙◌, line_feeds}
use Rattle.drain_report.proofs.FaultLemmas.{line_feed}
use Rattle.drain_report.proofs.lines.read_line.Goals as goal

pub returns-in-Some-clause-place : goal.returns-in-Some-clause-place
returns-in-Some-clause-place c = λ feeds few none at.
    let one = ap line_feeds c.in-Some.ensures.sound ∙ line_feed c.as_bytes.result.now c.line_after.new.numbers c.in-Some.rest.now (ap line_feeds c.as_bytes.ensures.value ∙ none) c.in-Some.ensures.long in
    c.after_first.ensures.place feeds few one at

pub returns-in-None-clause-place : goal.returns-in-None-clause-place
returns-in-None-clause-place c = λ feeds few none at. c.unread.ensures feeds at
