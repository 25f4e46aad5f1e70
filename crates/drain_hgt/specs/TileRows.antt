-- What is to come of a tile's bytes, row by row (the SRTM HGT documentation).
use Rattle.std.specs.Prelude.{◌+◌, ◌*◌, ◌∷◌, if◌then◌else◌}
use Rattle.drain_hgt.specs.Names.{ℕ, zero, suc, nat_lt, List, [], length, take, drop, Coming, coming_at, most_at}
use Rattle.drain_device.specs.RowSteps.Coming.{Next, End, Wrong}
use Rattle.drain_hgt.specs.declared.tile_rows.TileRows.{TileRows}
use Rattle.drain_hgt.specs.Samples.{samples_of}

-- the rows of a tile with n to go, and then the end, or a byte too many; a row that isn't whole is wrong
abbrev pub tile_rows : ℕ → ℕ → List ℕ → Coming
tile_rows side zero [] = End
tile_rows side zero (byte ∷ more) = Wrong
tile_rows side (suc left) bytes =
    if nat_lt (length bytes) (2 * side)
    then Wrong
    else Next (samples_of (take (2 * side) bytes)) (tile_rows side left (drop (2 * side) bytes))

-- what is to come of a reader of a tile's rows
abbrev pub tile_coming : TileRows → List ℕ → Coming
tile_coming rows bytes = coming_at rows.progress (tile_rows rows.side rows.left bytes)

-- how many bytes it still reads at most: those of the rows left, and one after them
abbrev pub tile_most_bytes : TileRows → ℕ
tile_most_bytes rows = most_at rows.progress (2 * rows.side * rows.left + 1)
