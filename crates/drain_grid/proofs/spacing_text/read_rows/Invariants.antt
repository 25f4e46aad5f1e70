use Rattle.drain_grid.proofs.Names.{◌≡◌, ◌+◌, ◌≤◌, length, lines_of, listing}
use Rattle.drain_grid.specs.SpacingTexts.{spacing_item, spacings_of}
use Rattle.drain_grid.proofs.Listings.{after_these}
use Rattle.drain_grid.proofs.spacing_text.read_rows.Given as goal

abbrev pub invariant-loop-width : goal.invariant-loop-width
invariant-loop-width l = record {
  listed : after_these l.rows.items (listing spacing_item l.number (lines_of l.rest)) ≡ spacings_of l.text;
  short : l.number + length l.rest ≤ length l.text + 1;
}

abbrev pub decreases-loop-width : goal.decreases-loop-width
decreases-loop-width l = length l.rest
