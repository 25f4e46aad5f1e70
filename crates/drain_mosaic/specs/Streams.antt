-- What is to come of a mosaic whose tiles come row by row: one step for each row.
use Rattle.std.specs.Prelude.{◌+◌, ◌-◌, ◌&&◌, ◌∷◌, if◌then◌else◌}
use Rattle.drain_mosaic.specs.Names.{ℕ, zero, suc, ℤ, Bool, not, nat_le, nat_lt, List, [], map, slice_index_or, Option, Some, None, list_any, range_with_len, option_or, int_eq, Coming, after_rows, ends_wrong, nth_row, Next, End, Cell, VOID}
use Rattle.drain_mosaic.specs.JoinedRows.{filled}

-- a tile's north-west cell, and what is to come of its rows
pub record Stream : Type 0 where
  pub place : Cell
  pub coming : Coming

-- the size of the mosaic and of its tiles
pub record Frame : Type 0 where
  pub side : ℕ
  pub rows : ℕ
  pub cols : ℕ

-- the tile lies over the row
abbrev pub is_over : ℕ → ℕ → Stream → Bool
is_over side row s = nat_le s.place.row row && nat_lt row (s.place.row + side)

-- and over the column
abbrev pub is_across : ℕ → ℕ → Stream → Bool
is_across side col s = nat_le s.place.col col && nat_lt col (s.place.col + side)

-- the sample that the tile's next row gives to a column; void where it gives none
abbrev pub sample_given : ℕ → ℕ → ℕ → Stream → ℤ
sample_given side row col s =
    if is_over side row s && is_across side col s then slice_index_or (nth_row 0 s.coming) (col - s.place.col) VOID else VOID

-- the first sample that is no void, in the order of the tiles; void where there is none
abbrev pub first_sample : ℕ → ℕ → ℕ → List Stream → ℤ
first_sample side row col [] = VOID
first_sample side row col (s ∷ more) = filled (sample_given side row col s) (first_sample side row col more)

-- both samples are of data, and differ: the test of `Conflict`
abbrev pub in_conflict : ℤ → ℤ → Bool
in_conflict z s = not (int_eq z VOID) && (not (int_eq s VOID) && not (int_eq z s))

-- a tile gives the column another sample than the first: so two tiles differ there
abbrev pub is_seam : ℕ → ℕ → List Stream → ℕ → Bool
is_seam side row streams col = list_any (λ s. in_conflict (first_sample side row col streams) (sample_given side row col s)) streams

-- the first of n places from k on that p holds at
abbrev pub first_from : (ℕ → Bool) → ℕ → ℕ → Option ℕ
first_from p k zero = None
first_from p k (suc n) = if p k then Some k else first_from p (k + 1) n

-- the mosaic's row that the tiles' next rows make
abbrev pub mosaic_row : Frame → ℕ → List Stream → List ℤ
mosaic_row f row streams = map (λ col. first_sample f.side row col streams) (range_with_len 0 f.cols)

-- a tile that lies over the row goes on by one row
abbrev pub next_stream : ℕ → ℕ → Stream → Stream
next_stream side row s = record { place = s.place; coming = if is_over side row s then after_rows 1 s.coming else s.coming }

-- so do all tiles
abbrev pub next_streams : Frame → ℕ → List Stream → List Stream
next_streams f row streams = map (next_stream f.side row) streams

-- a tile that is read once more, below the last row
abbrev pub end_stream : Stream → Stream
end_stream s = record { place = s.place; coming = after_rows 1 s.coming }

-- what is to come of a mosaic with n rows to go, from this row on
abbrev pub mosaic_rows : Frame → ℕ → ℕ → List Stream → Coming
mosaic_rows f zero row streams = End
mosaic_rows f (suc left) row streams = Next (mosaic_row f row streams) (mosaic_rows f left (row + 1) (next_streams f row streams))

-- the cell of a row at the column that was found
abbrev pub cell_at : ℕ → Option ℕ → Option Cell
cell_at row None = None
cell_at row (Some col) = Some (record { row = row; col = col })

-- the first cell of those rows where tiles differ
abbrev pub seam_from : Frame → ℕ → ℕ → List Stream → Option Cell
seam_from f zero row streams = None
seam_from f (suc left) row streams =
    option_or (cell_at row (first_from (is_seam f.side row streams) 0 f.cols)) (seam_from f left (row + 1) (next_streams f row streams))

-- the first tile of wrong length, counted from k
abbrev pub wrong_from : ℕ → List Stream → Option ℕ
wrong_from k [] = None
wrong_from k (s ∷ more) = if ends_wrong s.coming then Some k else wrong_from (k + 1) more
