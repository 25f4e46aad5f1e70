-- What the names and the rows of tiles promise.
use Rattle.std.specs.Prelude.{◌≡◌, ◌↔◌, ◌<◌}
use Rattle.drain_hgt.specs.Names.{ℕ, List, Result, Ok, IsTrue, slice_index_or, ends_wrong, nth_row, VOID}
use Rattle.drain_hgt.specs.declared.name.NameFault.{NameFault}
use Rattle.drain_hgt.specs.Corner.{Corner, IsOnMap}
use Rattle.drain_hgt.specs.Name.{MeansName, IsNameOf, name_of}
use Rattle.drain_hgt.specs.Samples.{IsTile, samples_of, tile_sample_at}
use Rattle.drain_hgt.specs.TileRows.{tile_rows}

-- the name of a tile names that tile
abbrev pub NameReadsBack : Type 0
NameReadsBack = (c : Corner) → IsOnMap c → MeansName (name_of c) (Ok c)

-- some function gives each name's corner
abbrev pub NamesGiveCorners : Type 0
NamesGiveCorners = (corner_of : List ℕ → Corner) × ((bytes : List ℕ) (c : Corner) → IsNameOf bytes c → corner_of bytes ≡ c)

-- bytes mean one thing: one tile, or one fault
abbrev pub OneName : Type 0
OneName = (bytes : List ℕ) (one other : Result Corner NameFault) → MeansName bytes one → MeansName bytes other → one ≡ other

-- the rows of a whole tile are its samples
abbrev pub TileRowsAreSamples : Type 0
TileRowsAreSamples = (side : ℕ) (body : List ℕ) (row col : ℕ) → IsTile side body → row < side → col < side →
    slice_index_or (nth_row row (tile_rows side side body)) col VOID ≡ tile_sample_at side (samples_of body) row col

-- a tile's rows end wrong exactly where its length is wrong
abbrev pub TileRowsTellLengths : Type 0
TileRowsTellLengths = (side : ℕ) (body : List ℕ) → IsTrue (ends_wrong (tile_rows side side body)) ↔ ¬ IsTile side body
