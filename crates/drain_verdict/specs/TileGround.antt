-- The ground of tiles: what their names and bodies mean. Which refusals there are, and their order, is this project's own.
use Rattle.std.specs.Prelude.{◌≡◌, ◌-◌, ◌*◌, ◌^◌, ◌-ℤ◌, ◌*ℤ◌, ◌≤◌, ◌&&◌, ◌∷◌, if◌then◌else◌}
use Rattle.drain_verdict.specs.Names.{ℕ, suc, ℤ, pos, nat_abs, List, [], slice_get, Option, Some, AllZip, Refusal, BadSide, BadName, NoTiles, RepeatedTile, BoxTooLarge, BadTileLength, SeamMismatch, Whole, Cell, IsCellOf, index_of, IsSide, Place, Corner, TileInput, names_of, AreBodies, IsNameOf, IsTile, LayoutFault, HasLayoutFault, HasTwoValues, first_value}
use Rattle.std.specs.Ordering.{int_eq}
use Rattle.drain_grid.specs.declared.degree.TheConstants.{UNITS_PER_DEGREE}
use Rattle.drain_mosaic.specs.Tiling as tiling
use Rattle.drain_verdict.specs.Ground.{Ground}
use Rattle.drain_verdict.specs.GroundSets.{GroundSet}
use Rattle.drain_verdict.specs.Inputs.{Inputs, AreNames}
use Rattle.drain_verdict.specs.Meaning.{input_tiles, texts_of, tiling_of}

-- Where rasters must lie.

-- within the given number of units of one another
abbrev pub AreWithin : ℕ → ℤ → ℤ → Type 0
AreWithin units a b = nat_abs (a -ℤ b) ≤ units

-- the raster lies where the mosaic does: its corner within 10^-6 degree, its pixels' sizes within 10^-9 degree
pub record IsPlaced (t : tiling.Tiling) (place : Place) : Type 0 where
  pub ulx : AreWithin (10 ^ 9) place.ulx (tiling.west_edge t)
  pub uly : AreWithin (10 ^ 9) place.uly (tiling.north_edge t)
  pub xdim : AreWithin (10 ^ 6 * (t.side - 1)) (place.xdim *ℤ pos (t.side - 1)) (pos UNITS_PER_DEGREE)
  pub ydim : AreWithin (10 ^ 6 * (t.side - 1)) (place.ydim *ℤ pos (t.side - 1)) (pos UNITS_PER_DEGREE)

-- Why tiles are refused.

-- the name in this place names no tile
pub record IsBadName (names : List (List ℕ)) (place : ℕ) : Type 0 where
  pub name : List ℕ
  pub is_there : slice_get names place ≡ Some name
  pub names_none : (c : Corner) → ¬ IsNameOf name c

-- a tile at the corner has a body of another length
pub record HasBadLength (i : Inputs) (c : Corner) : Type 0 where
  pub place : ℕ
  pub body : List ℕ
  pub corner_is : slice_get i.corners place ≡ Some c
  pub body_is : slice_get i.tiles place ≡ Some body
  pub length_is_not : ¬ IsTile i.side body

-- a cell of the mosaic has two values
abbrev pub IsSeamFault : Inputs → Cell → Type 0
IsSeamFault i c = IsCellOf (tiling.extent_of (tiling_of i)) c × HasTwoValues (tiling_of i) (input_tiles i) c

-- what each refusal of tiles says; of no other does any apply
abbrev pub TilesRefuse : Inputs → Refusal → Type 0
TilesRefuse i BadSide = ¬ IsSide i.side
TilesRefuse i (BadName k) = IsBadName i.names k
TilesRefuse i NoTiles = HasLayoutFault (tiling_of i) LayoutFault.NoTiles
TilesRefuse i (RepeatedTile c) = HasLayoutFault (tiling_of i) (LayoutFault.RepeatedTile c)
TilesRefuse i BoxTooLarge = HasLayoutFault (tiling_of i) LayoutFault.BoxTooLarge
TilesRefuse i (BadTileLength c) = HasBadLength i c
TilesRefuse i (SeamMismatch c) = IsSeamFault i c
TilesRefuse i refusal = ⊥

-- the first place of the corner in the list, its length if it isn't there
abbrev pub place_among : List Corner → Corner → ℕ
place_among [] c = 0
place_among (d ∷ more) c = if int_eq c.lat d.lat && int_eq c.lon d.lon then 0 else suc (place_among more c)

-- the place of a refusal of tiles among those of its kind
abbrev pub tile_place : Inputs → Refusal → ℕ
tile_place i (BadName k) = k
tile_place i (RepeatedTile c) = 1
tile_place i BoxTooLarge = 2
tile_place i (BadTileLength c) = place_among i.corners c
tile_place i (SeamMismatch c) = index_of (tiling.extent_of (tiling_of i)) c
tile_place i refusal = 0

-- The ground.

-- a cell has the value of the first tile that gives one, its only value if tiles agree
abbrev pub tile_ground : Inputs → Ground
tile_ground i = record {
  extent = tiling.extent_of (tiling_of i);
  elevation = first_value (tiling_of i) (input_tiles i);
  kind = Whole;
  Holds = IsPlaced (tiling_of i);
  Refuses = TilesRefuse i;
  among = tile_place i;
}

-- the same with the list of sinks and how far apart cells are, the headers and the rasters
abbrev pub set_of : Inputs → GroundSet
set_of i = record { terrain = tile_ground i; texts = texts_of i }

-- the tiles encode these inputs, of which nothing else matters, where the bytes of devices are known
pub record TellTiles {R : Type 0} (bytes_left : R → Option (List ℕ)) (side : ℕ) (tiles : List (TileInput R)) (i : Inputs) : Type 0 where
  pub side_is : i.side ≡ side
  pub names_are : i.names ≡ names_of tiles
  pub corners_are : AreNames i.names → AllZip IsNameOf i.names i.corners
  pub tiles_are : AreBodies bytes_left tiles i.tiles
