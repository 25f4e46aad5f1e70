-- The line for the answer to a window. Its words are this project's own.
use Rattle.std.specs.Prelude.{◌-◌, ◌*◌, ◌-ℤ◌}
use Rattle.drain_window.specs.Names.{ℕ, List, Result, Ok, Err, codes, pos, neg_ℤ, nat_abs, WindowReport, Cell, POLE, HALF_TURN, Tiling, north_of, west_of}
use Rattle.drain_answer.specs.Lines.{refusal_line as inputs_line}
use Rattle.drain_union.specs.VerdictLines.{verdict_line}
use Rattle.drain_window.specs.declared.answered.WindowRefusal.{WindowRefusal}
use Rattle.drain_window.specs.declared.answered.WindowRefusal.TheVariants.{Inputs, OutsideMosaic}

-- the line of a refusal; a box that doesn't fit has a name of its own
abbrev pub refusal_line : WindowRefusal → List ℕ
refusal_line (Inputs refusal) = inputs_line refusal
refusal_line OutsideMosaic = codes "refused BadBox"

-- the line of any answer
abbrev pub window_line : Result WindowReport WindowRefusal → List ℕ
window_line (Ok window) = verdict_line window.verdict
window_line (Err refusal) = refusal_line refusal

-- Where a mosaic lies on the map (the SRTM HGT documentation: adjacent tiles share their edges).

-- the row and the column of its first cell, where the map begins at 90 degrees north and 180 degrees west
abbrev pub map_origin : Tiling → Cell
map_origin t = record {
  row = nat_abs (pos POLE -ℤ north_of t) * (t.side - 1);
  col = nat_abs (west_of t -ℤ neg_ℤ (pos HALF_TURN)) * (t.side - 1);
}
