-- The bytes of a call as sources.
use Rattle.std.specs.Prelude.{◌≡◌}
use Rattle.drain_c.specs.Names.{ℕ, Bool, List, take, Option, Some, AllZip, Judged, SetProduct, Products, IsMissingText}
use Rattle.drain_c.specs.declared.given.TileBytes.{TileBytes}
use Rattle.drain_c.specs.declared.given.RasterBytes.{RasterBytes}
use Rattle.drain_c.specs.declared.given.CheckBytes.{CheckBytes}
use Rattle.drain_c.specs.Given.{RasterTexts}
use Rattle.drain_c.specs.Calls.{judged_raster, missing_raster, raster_or_missing}
use Rattle.drain_grid.specs.PerProduct.{of_product}
use Rattle.drain_hgt.specs.declared.input.TileInput.{TileInput}
use Rattle.drain_sets.specs.declared.raster_input.RasterInput.{RasterInput}

-- the tile has this name, and its source these samples
abbrev pub IsTileOf : {R : Type 0} → (R → Option (List ℕ)) → TileBytes → TileInput R → Type 0
IsTileOf bytes_left given tile = (tile.name ≡ given.name.bytes.now) × (bytes_left tile.body ≡ Some given.samples.bytes.now)

abbrev pub AreTilesOf : {R : Type 0} → (R → Option (List ℕ)) → List TileBytes → List (TileInput R) → Type 0
AreTilesOf bytes_left given tiles = AllZip (IsTileOf bytes_left) given tiles

-- the raster has this header, or the first 65,537 bytes of a longer one, and its source these pixels
abbrev pub IsRasterOf : {R : Type 0} → (R → Option (List ℕ)) → RasterTexts → RasterInput R → Type 0
IsRasterOf bytes_left given raster = (raster.header ≡ take 65537 given.header) × (bytes_left raster.body ≡ Some given.pixels)

-- each product has its raster
abbrev pub AreRastersOf : {R : Type 0} → (R → Option (List ℕ)) → (SetProduct → RasterTexts) → Products R → Type 0
AreRastersOf bytes_left given ps = (p : SetProduct) → IsRasterOf bytes_left (given p) (of_product ps p)

-- the raster has con's pixels under the header of a missing raster
abbrev pub IsMissingOf : {R : Type 0} → (R → Option (List ℕ)) → RasterBytes → RasterInput R → Type 0
IsMissingOf bytes_left con raster = (header : List ℕ) → IsMissingText con.header.bytes.now header → IsRasterOf bytes_left (missing_raster con header) raster

-- the raster is this one, if it is judged, else a missing one
abbrev pub IsJudgedOf : {R : Type 0} → (R → Option (List ℕ)) → Bool → RasterBytes → RasterBytes → RasterInput R → Type 0
IsJudgedOf bytes_left is_judged given con raster =
    (header : List ℕ) → IsMissingText con.header.bytes.now header → IsRasterOf bytes_left (raster_or_missing is_judged given con header) raster

-- so is that of each product
abbrev pub AreJudgedOf : {R : Type 0} → (R → Option (List ℕ)) → Judged → CheckBytes → Products R → Type 0
AreJudgedOf bytes_left judged given ps =
    (header : List ℕ) → IsMissingText given.con.header.bytes.now header → AreRastersOf bytes_left (judged_raster judged given header) ps
