use Rattle.drain_mosaic.proofs.Names.{◌≢◌, ℕ, ◌<◌, get_or, PlacedRows, Stopped}
use Rattle.drain_mosaic.proofs.mosaic_rows.MosaicRows.wrong_length.Given as goal

-- no tile so far has stopped
abbrev pub invariant-loop-i : goal.invariant-loop-i
invariant-loop-i l = (j : ℕ) (p : PlacedRows) → j < l.i → (get_or l.self.tiles.items j p).rows.progress ≢ Stopped
