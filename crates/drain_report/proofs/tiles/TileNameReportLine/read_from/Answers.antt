use Rattle.drain_report.proofs.Names.{ap, ◌∙◌, line_feeds}
use Rattle.drain_report.proofs.FaultLemmas.{tile_feed}
use Rattle.drain_report.proofs.tiles.TileNameReportLine.read_from.Goals as goal

pub returns-in_default-clause-place : goal.returns-in_default-clause-place
returns-in_default-clause-place c = λ feeds few at. c.unread.ensures feeds at

pub returns-clause-place : goal.returns-clause-place
returns-clause-place c = λ feeds few at.
    c.after_first.ensures.place feeds few (ap line_feeds c.in-Some.ensures.sound ∙ tile_feed c.in-Some.found.0 c.in-Some.found.1.now) at
