use Rattle.drain_report.proofs.Names.{◌≡◌, ◌<◌, ◌≤◌, ◌^◌, ◌++◌, ℕ, List, length, IsAt, all_text, AllAre}
use Rattle.drain_report.proofs.ListLemmas.{IsToCome}
use Rattle.drain_report.proofs.lists.read_lines.Given as goal

abbrev pub invariant-loop : goal.invariant-loop
invariant-loop g l = record {
  len : length l.items.items ≡ l.counter;
  sound : l.first.rest.now ≡ all_text g.T.ReportLine.line_of l.items.items ++ l.lines.rest.now;
  back : (xs : List g.row.T.Denot) (rest : List ℕ) → length xs ≡ l.count → AllAre g.T.ReportLine.fits xs → l.first.rest.now ≡ all_text g.T.ReportLine.line_of xs ++ rest
      → IsToCome g.T.ReportLine.line_of g.T.ReportLine.fits xs l.items.items l.lines.rest.now rest;
  place : (feeds : ℕ) → feeds < 2 ^ 63 → IsAt feeds l.first.number l.first.rest.now → (l.first.number ≤ l.lines.number) × IsAt feeds l.lines.number l.lines.rest.now;
}
