-- What reading only tiles returns: their mosaic, or the first refusal of the tiles.
use Rattle.std.specs.Prelude.{◌≡◌}
use Rattle.drain_maker.specs.Names.{ℕ, ℤ, List, map, Heights, elevation_at, IsTile, samples_of, tiles_of, TilesAgree, IsElevation, IsFirstSeam, Refusal, BadTileLength, SeamMismatch, OutOfMemory, ReadFailed, BadHeader, WrongShape, Misplaced, RasterShort, BadSinkLine, SinkNotData, BadSpacingLine, SpacingRows, Cell, IsCellOf, IsFirst, Tiling, extent_of, Inputs, input_grid, tiling_of, Stands, refusal_order}
use Rattle.std.specs.List.{All}
use Rattle.drain_hgt.specs.Corner.{Corner}
use Rattle.drain_mosaic.specs.declared.seams.SeamFault.{SeamFault}
use Rattle.drain_mosaic.specs.declared.seams.SeamFault.TheVariants as seam
use Rattle.drain_mosaic.specs.Tiling as tiling

-- What reading tiles finds: their samples and their elevation; or the first refusal of them.

-- the bodies have the length of tiles, and these are their samples
pub record AreSamplesOf (side : ℕ) (bodies : List (List ℕ)) (samples : List (List ℤ)) : Type 0 where
  pub lengths : All (IsTile side) bodies
  pub samples_are : samples ≡ map samples_of bodies

-- why the body of the tile at a corner is refused
abbrev pub IsOneTileRefusal : ℕ → Corner → List ℕ → Refusal → Type 0
IsOneTileRefusal side corner body (BadTileLength c) = (c ≡ corner) × ¬ IsTile side body
IsOneTileRefusal side corner body OutOfMemory = Unit {0}
IsOneTileRefusal side corner body ReadFailed = Unit {0}
IsOneTileRefusal side corner body refusal = ⊥

-- the tiles agree, and give this elevation together
pub record IsElevationOf (t : tiling.Tiling) (samples : List (List ℤ)) (e : Heights) : Type 0 where
  pub shape : e.extent ≡ tiling.extent_of t
  pub agree : TilesAgree t (tiles_of t.corners samples)
  pub values : IsElevation t (tiles_of t.corners samples) (elevation_at e)

-- why tiles give no elevation; memory can run out only if they agree
abbrev pub IsSeamRefusal : tiling.Tiling → List (List ℤ) → Refusal → Type 0
IsSeamRefusal t samples (SeamMismatch c) = IsFirstSeam t (tiles_of t.corners samples) c
IsSeamRefusal t samples OutOfMemory = TilesAgree t (tiles_of t.corners samples)
IsSeamRefusal t samples refusal = ⊥

-- the refusal for a fault of the seams
abbrev pub IsSeamFaultAs : SeamFault → Refusal → Type 0
IsSeamFaultAs (seam.SeamMismatch c) refusal = refusal ≡ SeamMismatch c
IsSeamFaultAs seam.OutOfMemory refusal = refusal ≡ OutOfMemory

-- the refusal is about side, names or tiles, and not about a product, a list of sinks or a spacing by row
abbrev pub IsOfTiles : Refusal → Type 0
IsOfTiles (BadHeader p fault) = ⊥
IsOfTiles (WrongShape p) = ⊥
IsOfTiles (Misplaced p) = ⊥
IsOfTiles (RasterShort p) = ⊥
IsOfTiles (BadSinkLine n) = ⊥
IsOfTiles (SinkNotData n) = ⊥
IsOfTiles (BadSpacingLine n) = ⊥
IsOfTiles (SpacingRows n) = ⊥
IsOfTiles refusal = Unit {0}

-- such a refusal applies
abbrev pub StandsOfTiles : Inputs → Refusal → Type 0
StandsOfTiles i refusal = IsOfTiles refusal × Stands i refusal

-- the tiles are in order, their mosaic has this tiling, and its elevations are these
pub record IsMosaicOf (i : Inputs) (t : Tiling) (e : Heights) : Type 0 where
  pub readable : (refusal : Refusal) → ¬ StandsOfTiles i refusal
  pub tiling_is : t ≡ tiling_of i
  pub extent_is : e.extent ≡ extent_of t
  pub elevation_is : (c : Cell) → IsCellOf e.extent c → elevation_at e c ≡ (input_grid i).elevation c

-- the refusal is the first of the tiles that applies; out of memory and a failed read say nothing of the bytes
abbrev pub IsMosaicRefusal : Inputs → Refusal → Type 0
IsMosaicRefusal i OutOfMemory = Unit {0}
IsMosaicRefusal i ReadFailed = Unit {0}
IsMosaicRefusal i refusal = IsFirst (refusal_order i) (StandsOfTiles i) refusal
