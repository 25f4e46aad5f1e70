-- The products made of elevations, and why there are none.
use Rattle.std.specs.Prelude.{◌++◌, ◌≡◌}
use Rattle.drain_cli.specs.Names.{ℕ, List, Result, Ok, Err, codes, decimal, map, Option, Tiling, extent_of, DemTexts, EncodesDem, dem_devices, dem_ground, RasterInput, refusal_status, Status, Done, Failed, SetFault, WriteFailed, Source, OpenElevations, Tiles, Dem, Whole, made_header, ProductSet, SinkLine, RowSpacings, spacing_of, IsSinkFault, sinks_of, Extent, Heights, Pixels, Fields, TileInput, tile_devices, SomeReadFails, TellTiles, AreGivenSpacings, AreMadeOn, AreOnDemData, IsDemOf, IsDemSinkAnswer, IsGroundRefusal}
use Rattle.drain_answer.specs.Lines.{refusal_line}
use Rattle.drain_answer.specs.declared.outcome.Status.TheVariants.{Refused}
use Rattle.drain_sets.specs.declared.set_files.SetFault.TheVariants.{OutOfMemory}
use Rattle.drain_cli.specs.declared.runs.make_set.NoSet.{NoSet}
use Rattle.drain_cli.specs.declared.runs.make_set.NoSet.TheVariants.{Ground, Sinks, Spacing, Maker}
use Rattle.drain_cli.specs.declared.runs.made_spacing.NoSpacing.{NoSpacing}
use Rattle.drain_cli.specs.declared.runs.made_spacing.NoSpacing.TheVariants as spacing
use Rattle.drain_grid.specs.declared.product.Product.TheVariants.{Con}
use Rattle.drain_answer.specs.declared.refusal.Refusal.TheVariants.{ReadFailed}
use Rattle.drain_verdict.specs.Given.{Given, HasBadSpacing, HasOtherRows, spacings_given}
use Rattle.drain_sets.specs.GivenSpacings.{GivenSpacing}
use Rattle.drain_verdict.specs.Inputs.{Inputs}
use Rattle.drain_verdict.specs.Refusals.{IsOfBodies}
use Rattle.drain_maker.specs.Mosaics.{IsMosaicOf, IsMosaicRefusal}
use Rattle.drain_maker.specs.declared.maker.MakeRefusal.{MakeRefusal}
use Rattle.drain_maker.specs.Made.{AreMade, AreOnData, IsSinkAnswer}
use Rattle.drain_grid.specs.declared.sink_text.SinkFault.TheVariants as sink
use Rattle.drain_answer.specs.declared.refusal.Refusal.TheVariants as refusal
use Rattle.drain_maker.specs.declared.maker.MakeRefusal.TheVariants as maker

-- How a run of `drain make` ends: with files that were written, or with the reason why there are none.

-- the line for the result of writing rasters of this size: these words, R cols=C
abbrev pub written_line : List ℕ → Extent → Result (Unit {0}) SetFault → List ℕ
written_line text e (Ok done) = text ++ decimal e.rows ++ codes " cols=" ++ decimal e.cols
written_line text e (Err WriteFailed) = codes "failed WriteFailed"
written_line text e (Err OutOfMemory) = codes "failed OutOfMemory"

-- that of products: made rows=R cols=C
abbrev pub made_line : Extent → Result (Unit {0}) SetFault → List ℕ
made_line = written_line (codes "made rows=")

-- its status
abbrev pub written_status : Result (Unit {0}) SetFault → Status
written_status (Ok done) = Done
written_status (Err fault) = Failed

-- why the spacing that is given is none of a grid of this size: its first bad line, another number of rows, or no memory
abbrev pub IsNoSpacing : GivenSpacing → Extent → NoSpacing → Type 0
IsNoSpacing given e (spacing.BadLine line) = HasBadSpacing given line
IsNoSpacing given e (spacing.OtherRows rows) = HasOtherRows given e rows
IsNoSpacing given e spacing.OutOfMemory = Unit {0}

-- the line that says so, and its status
abbrev pub no_spacing_line : NoSpacing → List ℕ
no_spacing_line (spacing.BadLine line) = refusal_line (refusal.BadSpacingLine line)
no_spacing_line (spacing.OtherRows rows) = refusal_line (refusal.SpacingRows rows)
no_spacing_line spacing.OutOfMemory = codes "failed OutOfMemory"

abbrev pub no_spacing_status : NoSpacing → Status
no_spacing_status (spacing.BadLine line) = Refused
no_spacing_status (spacing.OtherRows rows) = Refused
no_spacing_status spacing.OutOfMemory = Failed

-- the line that says why there is no product set
abbrev pub no_set_line : NoSet → List ℕ
no_set_line (Ground refusal) = refusal_line refusal
no_set_line (Sinks (sink.BadSinkLine n)) = refusal_line (refusal.BadSinkLine n)
no_set_line (Sinks sink.OutOfMemory) = codes "failed OutOfMemory"
no_set_line (Spacing why) = no_spacing_line why
no_set_line (Maker (maker.SinkNotData n)) = refusal_line (refusal.SinkNotData n)
no_set_line (Maker maker.MakerFault) = codes "refused MakerFault"
no_set_line (Maker maker.OutOfMemory) = codes "failed OutOfMemory"

-- its status: failed if memory ran out or a device failed, else refused
abbrev pub no_set_status : NoSet → Status
no_set_status (Ground refusal) = refusal_status refusal
no_set_status (Sinks sink.OutOfMemory) = Failed
no_set_status (Sinks (sink.BadSinkLine n)) = Refused
no_set_status (Spacing why) = no_spacing_status why
no_set_status (Maker maker.OutOfMemory) = Failed
no_set_status (Maker (maker.SinkNotData n)) = Refused
no_set_status (Maker maker.MakerFault) = Refused

-- these are the spacings that are said, and a text that lists them lists each row of the grid
pub record AreSaidSpacings (given : GivenSpacing) (e : Extent) (spacings : RowSpacings) : Type 0 where
  pub are : spacings_given given ≡ Ok spacings
  pub rows : (count : ℕ) → ¬ HasOtherRows given e count

-- products that were made for the mosaic of the tiles in the devices' bytes, for the sinks that the text lists, and the spacing
-- that is given
pub record IsSetOf {R : Type 0} (bytes_left : R → Option (List ℕ)) (side : ℕ) (tiles : List (TileInput R)) (given : Given) (t : Tiling) (ps : ProductSet) : Type 0 where
  pub elevation : Heights
  pub extent_is : elevation.extent ≡ extent_of t
  pub mosaic : (i : Inputs) → TellTiles bytes_left side tiles i → IsMosaicOf i t elevation
  pub listed : List SinkLine
  pub listed_are : sinks_of given.sinks ≡ Ok listed
  pub spacings : RowSpacings
  pub spacings_are : AreGivenSpacings Whole given.spacing elevation.extent spacings
  pub made : AreMade t elevation listed (spacing_of spacings) ps

-- the maker made none for that mosaic and those sinks: a sink without data is reported exactly if there is one
pub record IsRefusalOf {R : Type 0} (bytes_left : R → Option (List ℕ)) (side : ℕ) (tiles : List (TileInput R)) (given : Given) (refusal : MakeRefusal) : Type 0 where
  pub elevation : Heights
  pub tiling : Tiling
  pub mosaic : (i : Inputs) → TellTiles bytes_left side tiles i → IsMosaicOf i tiling elevation
  pub listed : List SinkLine
  pub listed_are : sinks_of given.sinks ≡ Ok listed
  pub refused : IsSinkAnswer elevation listed (Err refusal)

-- the spacing that is given isn't one of that mosaic, for this reason; each sink has data
pub record HasNoSpacing {R : Type 0} (bytes_left : R → Option (List ℕ)) (side : ℕ) (tiles : List (TileInput R)) (given : Given) (why : NoSpacing) : Type 0 where
  pub elevation : Heights
  pub tiling : Tiling
  pub mosaic : (i : Inputs) → TellTiles bytes_left side tiles i → IsMosaicOf i tiling elevation
  pub listed : List SinkLine
  pub listed_are : sinks_of given.sinks ≡ Ok listed
  pub on_data : AreOnData elevation listed
  pub why_is : IsNoSpacing given.spacing elevation.extent why

-- no read of a tile failed
abbrev pub NoTileFails : {R : Type 0} → Source R → List (TileInput R) → List (TileInput R) → Type 0
NoTileFails source old new = SomeReadFails (map source.counts (tile_devices old)) (map source.counts (tile_devices new)) ⊥

-- the first refusal of the tiles, with a failed read reported exactly if one failed, and every device unchanged if it
-- is of side, names or layout; or else the fault of the list of sinks; or else the maker's refusal, or that of the spacing
abbrev pub IsNoSet : {R : Type 0} → Source R → ℕ → List (TileInput R) → List (TileInput R) → Given → NoSet → Type 0
IsNoSet source side old new given (Ground refusal) =
    ((i : Inputs) → TellTiles source.bytes_left side old i → IsMosaicRefusal i refusal)
    × SomeReadFails (map source.counts (tile_devices old)) (map source.counts (tile_devices new)) (refusal ≡ ReadFailed)
    × (¬ IsOfBodies refusal → new ≡ old)
IsNoSet source side old new given (Sinks fault) = IsSinkFault given.sinks fault × NoTileFails source old new
IsNoSet source side old new given (Spacing why) = HasNoSpacing source.bytes_left side old given why × NoTileFails source old new
IsNoSet source side old new given (Maker refusal) = IsRefusalOf source.bytes_left side old given refusal × NoTileFails source old new

-- The same on one raster of elevations.

-- products that were made for the elevations in the device's bytes, for the sinks that the text lists, and the spacing that
-- is given
pub record IsDemSetOf {R : Type 0} (bytes_left : R → Option (List ℕ)) (dem : List (RasterInput R)) (given : Given) (h : Fields) (ps : ProductSet) : Type 0 where
  pub elevation : Pixels
  pub dem_is : (d : DemTexts) → EncodesDem bytes_left dem d → IsDemOf d h elevation
  pub listed : List SinkLine
  pub listed_are : sinks_of given.sinks ≡ Ok listed
  pub spacings : RowSpacings
  pub spacings_are : AreGivenSpacings h.kind given.spacing elevation.extent spacings
  pub made : AreMadeOn h elevation listed (spacing_of spacings) ps

-- the maker made none for those elevations and those sinks: a sink without data is reported exactly if there is one
pub record IsDemRefusalOf {R : Type 0} (bytes_left : R → Option (List ℕ)) (dem : List (RasterInput R)) (given : Given) (refusal : MakeRefusal) : Type 0 where
  pub elevation : Pixels
  pub header : Fields
  pub dem_is : (d : DemTexts) → EncodesDem bytes_left dem d → IsDemOf d header elevation
  pub listed : List SinkLine
  pub listed_are : sinks_of given.sinks ≡ Ok listed
  pub refused : IsDemSinkAnswer elevation listed (Err refusal)

-- the spacing that is given isn't one of those elevations, for this reason; each sink has data
pub record HasNoDemSpacing {R : Type 0} (bytes_left : R → Option (List ℕ)) (dem : List (RasterInput R)) (given : Given) (why : NoSpacing) : Type 0 where
  pub elevation : Pixels
  pub header : Fields
  pub dem_is : (d : DemTexts) → EncodesDem bytes_left dem d → IsDemOf d header elevation
  pub listed : List SinkLine
  pub listed_are : sinks_of given.sinks ≡ Ok listed
  pub on_data : AreOnDemData elevation listed
  pub why_is : IsNoSpacing given.spacing elevation.extent why

-- no read of the raster failed
abbrev pub NoDemFails : {R : Type 0} → Source R → List (RasterInput R) → List (RasterInput R) → Type 0
NoDemFails source old new = SomeReadFails (map source.counts (dem_devices old)) (map source.counts (dem_devices new)) ⊥

-- the first refusal of the raster, with a failed read reported exactly if one failed, and the device unchanged if it is of
-- the header; or else the fault of the list of sinks; or else the maker's refusal, or that of the spacing
abbrev pub IsNoDemSet : {R : Type 0} → Source R → List (RasterInput R) → List (RasterInput R) → Given → NoSet → Type 0
IsNoDemSet source old new given (Ground refusal) =
    ((d : DemTexts) → EncodesDem source.bytes_left old d → IsGroundRefusal (dem_ground d) refusal)
    × SomeReadFails (map source.counts (dem_devices old)) (map source.counts (dem_devices new)) (refusal ≡ ReadFailed)
    × (¬ IsOfBodies refusal → new ≡ old)
IsNoDemSet source old new given (Sinks fault) = IsSinkFault given.sinks fault × NoDemFails source old new
IsNoDemSet source old new given (Spacing why) = HasNoDemSpacing source.bytes_left old given why × NoDemFails source old new
IsNoDemSet source old new given (Maker refusal) = IsDemRefusalOf source.bytes_left old given refusal × NoDemFails source old new

-- made of the tiles or the raster that were opened, with the elevations' header: con's on a mosaic
abbrev pub IsSetOn : {R : Type 0} → (R → Option (List ℕ)) → OpenElevations R → Given → Fields → ProductSet → Type 0
IsSetOn bytes_left (Tiles opened) given h ps = (t : Tiling) × (h ≡ made_header t Con) × IsSetOf bytes_left opened.side opened.tiles.items given t ps
IsSetOn bytes_left (Dem dem) given h ps = IsDemSetOf bytes_left dem given h ps
