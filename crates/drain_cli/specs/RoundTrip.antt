-- From elevations to products, to files, and to the check of these files: what was made and written is accepted.
use Rattle.std.specs.Prelude.{◌≡◌, ◌∷◌}
use Rattle.drain_cli.specs.Names.{Ok, ℕ, List, [], map, Option, Some, Result, IsJudgedFrom, contents_of, Grid, Cell, Place, WindowReport, Sink, ProductSet, spacing_of, TileInput, Tiling, Verdict, Refusal, TellTiles, IsAnswer, IsAnswerIn, DemTexts, EncodesDem, dem_ground, RasterInput, Fields, spaced_dem_grid, IsMadeAcceptance, WritesSet, made_header}
use Rattle.drain_verdict.specs.Given.{Given}
use Rattle.drain_verdict.specs.Inputs.{Inputs}
use Rattle.drain_verdict.specs.Texts.{SetTexts}
use Rattle.std.specs.List.{All, flat_map}
use Rattle.drain_grid.specs.Grid.{Products}
use Rattle.drain_grid.specs.Values.{NoDataNumbers}
use Rattle.drain_grid.specs.WholeGrid.{products_of, spaced_grid}
use Rattle.drain_grid.specs.SetProduct.{products}
use Rattle.drain_verdict.specs.Meaning.{texts_of}
use Rattle.drain_grid.specs.declared.product.Product.TheVariants.{Con}
use Rattle.drain_cli.specs.MadeSets.{IsDemSetOf, IsSetOf}
use Rattle.drain_union.specs.Windows.{window_at}
use Rattle.drain_window.specs.WindowAnswers.{IsAnswerOn}

-- How a run of `drain window` and a run of `drain merge` go together. The law is this project's own.

-- what is read again of what was reported of a window is the report on that window
abbrev pub ReadIsJudged : Type 0
ReadIsJudged =
    (nodata : NoDataNumbers) (origin : Cell) (p : Place) (g : Grid) (ps : Products) (written read : WindowReport) → IsAnswerOn nodata origin p g ps written.verdict written.report →
    contents_of read ≡ contents_of written → IsJudgedFrom (window_at origin p g ps) read

-- the bytes that a check is given of the products: of each its header, and then its raster
unfoldable pub files_given : SetTexts → List (List ℕ)
files_given t = flat_map (λ p. t.header p ∷ t.raster p ∷ []) products

-- files that were empty hold what was written on elevations with this header, and a check is given that
pub record AreWrittenAndGiven {F : Type 0} (sink : Sink F) (h : Fields) (ps : ProductSet) (empty written : List F) (t : SetTexts) : Type 0 where
  pub empty_are : All (λ file. sink.bytes_taken file ≡ Some []) empty
  pub written_are : WritesSet sink h ps empty written (Ok tt)
  pub given_are : map sink.bytes_taken written ≡ map Some (files_given t)

-- products that were made of tiles, a list of sinks and a spacing and written into empty files are accepted when checked with the
-- same, unless memory runs out or a read fails
abbrev pub WhatIsWrittenIsAccepted : {R F : Type 0} → (R → Option (List ℕ)) → Sink F → Type 0
WhatIsWrittenIsAccepted {R} {F} bytes_left sink =
    (side : ℕ) (tiles : List (TileInput R)) (given : Given) (t : Tiling) (ps : ProductSet) (empty written : List F) (i : Inputs) →
    (made : IsSetOf bytes_left side tiles given t ps) → TellTiles bytes_left side tiles i → i.given ≡ given →
    AreWrittenAndGiven sink (made_header t Con) ps empty written (texts_of i) →
    (answer : Result Verdict Refusal) → IsAnswer i answer → IsMadeAcceptance (spaced_grid (spacing_of made.spacings) made.elevation made.listed) (products_of ps) answer

-- and those that were made of one raster of elevations are accepted with that raster
abbrev pub WhatIsWrittenOnDemIsAccepted : {R F : Type 0} → (R → Option (List ℕ)) → Sink F → Type 0
WhatIsWrittenOnDemIsAccepted {R} {F} bytes_left sink =
    (dem : List (RasterInput R)) (given : Given) (h : Fields) (ps : ProductSet) (empty written : List F) (d : DemTexts) (t : SetTexts) →
    (made : IsDemSetOf bytes_left dem given h ps) → EncodesDem bytes_left dem d → t.given ≡ given →
    AreWrittenAndGiven sink h ps empty written t →
    (answer : Result Verdict Refusal) → IsAnswerIn (record { terrain = dem_ground d; texts = t }) answer → IsMadeAcceptance (spaced_dem_grid (spacing_of made.spacings) made.elevation made.listed) (products_of ps) answer
