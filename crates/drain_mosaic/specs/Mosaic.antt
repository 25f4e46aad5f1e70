-- A mosaic of tiles: which values its cells have (the SRTM HGT documentation).
use Rattle.std.specs.Prelude.{◌≡◌, ◌≢◌, ◌↔◌, ◌+◌, ◌-◌, ◌*◌, ◌≤◌, ◌<◌, ◌∷◌, ◌&&◌, if◌then◌else◌}
use Rattle.drain_mosaic.specs.Names.{ℤ, List, [], length, Option, Some, nat_le, nat_lt, None, All, Any, Cell, IsCellOf, IsEarlier, height_from, Corner, tile_sample_at, option_or}
use Rattle.drain_mosaic.specs.Tiling.{Tiling, extent_of, top_of, left_of}

-- a named tile and its samples
pub record Tile : Type 0 where
  pub corner : Corner
  pub samples : List ℤ

-- the tiles at these corners, each with its samples, in order
abbrev pub tiles_of : List Corner → List (List ℤ) → List Tile
tiles_of (c ∷ corners) (s ∷ samples) = record { corner = c; samples = s } ∷ tiles_of corners samples
tiles_of [] samples = []
tiles_of (c ∷ corners) [] = []

-- the tile lies over the cell
pub record Covers (t : Tiling) (tile : Tile) (c : Cell) : Type 0 where
  pub from_top : top_of t tile.corner ≤ c.row
  pub to_bottom : c.row < top_of t tile.corner + t.side
  pub from_left : left_of t tile.corner ≤ c.col
  pub to_right : c.col < left_of t tile.corner + t.side

-- the tile's sample at its place there
abbrev pub sample_over : Tiling → Tile → Cell → ℤ
sample_over t tile c = tile_sample_at t.side tile.samples (c.row - top_of t tile.corner) (c.col - left_of t tile.corner)

-- the tile gives the cell this value: it covers the cell, and its sample there is no void
pub record ShowsSample (t : Tiling) (tile : Tile) (c : Cell) (v : ℤ) : Type 0 where
  pub covers : Covers t tile c
  pub is : height_from (sample_over t tile c) ≡ Some v

-- some tile gives the cell this value
abbrev pub IsValue : Tiling → List Tile → Cell → ℤ → Type 0
IsValue t tiles c v = Any (λ tile. ShowsSample t tile c v) tiles

-- no cell has two values
abbrev pub TilesAgree : Tiling → List Tile → Type 0
TilesAgree t tiles = (c : Cell) (v w : ℤ) → IsCellOf (extent_of t) c → IsValue t tiles c v → IsValue t tiles c w → v ≡ w

-- the elevation of each cell is its value, and it is void where it has none
abbrev pub IsElevation : Tiling → List Tile → (Cell → Option ℤ) → Type 0
IsElevation t tiles elevation =
    (c : Cell) (v : ℤ) → IsCellOf (extent_of t) c → (elevation c ≡ Some v) ↔ IsValue t tiles c v

-- two tiles give the cell different values
pub record HasTwoValues (t : Tiling) (tiles : List Tile) (c : Cell) : Type 0 where
  pub one : ℤ
  pub other : ℤ
  pub is_one : IsValue t tiles c one
  pub is_other : IsValue t tiles c other
  pub differ : one ≢ other

-- the first cell where tiles differ
pub record IsFirstSeam (t : Tiling) (tiles : List Tile) (c : Cell) : Type 0 where
  pub inside : IsCellOf (extent_of t) c
  pub differ : HasTwoValues t tiles c
  pub first : (b : Cell) → IsCellOf (extent_of t) b → IsEarlier b c → ¬ HasTwoValues t tiles b

-- one tile of a square of samples for each corner
pub record AreTiles (t : Tiling) (samples : List (List ℤ)) : Type 0 where
  pub named : length samples ≡ length t.corners
  pub whole : All (λ tile. length tile ≡ t.side * t.side) samples

-- The same as a function: a cell has the value of the first tile that gives one. If the tiles agree it is the cell's
-- one value, by the law AgreementGivesElevation.

-- the value that the tile gives the cell, none where it gives none
abbrev pub value_from : Tiling → Tile → Cell → Option ℤ
value_from t tile c =
    if nat_le (top_of t tile.corner) c.row && (nat_lt c.row (top_of t tile.corner + t.side)
    && (nat_le (left_of t tile.corner) c.col && nat_lt c.col (left_of t tile.corner + t.side)))
    then height_from (sample_over t tile c)
    else None

-- the value of the first tile that gives one
abbrev pub first_value : Tiling → List Tile → Cell → Option ℤ
first_value t [] c = None
first_value t (tile ∷ more) c = option_or (value_from t tile c) (first_value t more c)
