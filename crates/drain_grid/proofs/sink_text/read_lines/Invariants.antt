use Rattle.drain_grid.proofs.Names.{◌≡◌, ◌+◌, ◌≤◌, length, lines_of, listing, AreNarrow, sink_item, sinks_of}
use Rattle.drain_grid.proofs.Listings.{after_these}
use Rattle.drain_grid.proofs.sink_text.read_lines.Given as goal

abbrev pub invariant-loop-row : goal.invariant-loop-row
invariant-loop-row l = record {
  listed : after_these l.lines (listing sink_item l.number (lines_of l.rest)) ≡ sinks_of l.text;
  narrow : AreNarrow l.lines;
  short : l.number + length l.rest ≤ length l.text + 1;
}

abbrev pub decreases-loop-row : goal.decreases-loop-row
decreases-loop-row l = length l.rest
