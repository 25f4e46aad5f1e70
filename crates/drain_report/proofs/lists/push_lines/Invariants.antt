use Rattle.drain_report.proofs.Names.{◌≡◌, ◌++◌, take, AllAre, all_text}
use Rattle.drain_report.proofs.lists.push_lines.Given as goal

abbrev pub invariant-loop-item : goal.invariant-loop-item
invariant-loop-item g l = record {
  written : l.text.items ≡ l.initial.text.items ++ all_text g.T.ReportLine.line_of (take l.item-index l.items);
  in_range : AllAre g.T.ReportLine.fits (take l.item-index l.items);
}
