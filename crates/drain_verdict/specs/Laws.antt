-- What the contracts of a check rest on.
use Rattle.drain_verdict.specs.Names.{ℕ, List, Option, IsSome, SetProduct, TileInput, of_product}
use Rattle.std.specs.List.{All}
use Rattle.drain_verdict.specs.Given.{Given}
use Rattle.drain_verdict.specs.Inputs.{Inputs, Encode, Products}
use Rattle.drain_raster.specs.Laws.{RasterRowsArePixels, RasterRowsEnd}

-- if the bytes of each source are known, the arguments encode some inputs
abbrev pub InputsAreTold : {R : Type 0} → (R → Option (List ℕ)) → Type 0
InputsAreTold {R} bytes_left =
    (side : ℕ) (tiles : List (TileInput R)) (given : Given) (ps : Products R) →
    All (λ tile. IsSome (bytes_left tile.body)) tiles → ((p : SetProduct) → IsSome (bytes_left (of_product ps p).body)) →
    (i : Inputs) × Encode bytes_left side tiles given ps i

-- What the laws of rasters say of rows.

-- which rows the bytes of rasters give, and what these rows say of the bytes
pub record RasterLaws : Type 0 where
  pub raster_end : RasterRowsEnd
  pub raster_pixels : RasterRowsArePixels
