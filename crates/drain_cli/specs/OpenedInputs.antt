-- What is given beside the rasters of opened files, and what holds of the set that they make.
use Rattle.drain_cli.specs.Names.{ℕ, List, Option, spacing_opened, OpenElevations, Tiles, Dem, GroundSet, ForSet, TellTiles, EncodesDem, dem_ground, tile_ground, Refusal, FaultCounts, UsesTold, set_devices, tile_devices, dem_devices, TilesTakeAtMost, DemTakesAtMost, AreNamesKept, AreHeadersKept, Source}
use Rattle.drain_files.specs.declared.open_judged.OpenFiles.{OpenFiles}
use Rattle.drain_verdict.specs.Given.{Given}
use Rattle.drain_verdict.specs.Inputs.{Products}

-- the list of sinks and the spacing that were read
abbrev pub given_in : {E P : Type 0} → OpenFiles E P → Given
given_in files = record { sinks = files.sinks.items; spacing = spacing_opened files.spacing }

-- the fact holds of the set that the opened elevations and these products make
abbrev pub ForOpened : {R : Type 0} → (R → Option (List ℕ)) → OpenElevations R → Given → Products R → (GroundSet → Type 0) → Type 0
ForOpened bytes_left (Tiles opened) given = ForSet tile_ground (TellTiles bytes_left opened.side opened.tiles.items) bytes_left given
ForOpened bytes_left (Dem dem) given = ForSet dem_ground (EncodesDem bytes_left dem) bytes_left given

-- how an answer uses the inputs of a ground, and products that are read as these five
abbrev pub UsesGround : {X R : Type 0} → (List X → List R) → (List X → List X → Type 0) → (List X → List X → Type 0) → (R → Option (List ℕ)) → (R → FaultCounts) → List X → List X → (P : Type 0) → (P → Products R) → P → P → Option Refusal → Type 0
UsesGround devices IsWithin IsKept bytes_left counts old new P inputs_of ps_old ps_new told =
    UsesTold inputs_of (λ xs ps. set_devices devices xs (inputs_of ps)) IsWithin IsKept bytes_left counts (old, ps_old) (new, ps_new) told

-- those of the opened elevations
abbrev pub UsesOpened : {R : Type 0} → Source R → OpenElevations R → OpenElevations R → (P : Type 0) → (P → Products R) → P → P → Option Refusal → Type 0
UsesOpened source (Tiles old) (Tiles new) =
    UsesGround tile_devices (TilesTakeAtMost source.bytes_left old.side) AreNamesKept source.bytes_left source.counts old.tiles.items new.tiles.items
UsesOpened source (Dem old) (Dem new) = UsesGround dem_devices (DemTakesAtMost source.bytes_left) AreHeadersKept source.bytes_left source.counts old new
UsesOpened source old new = λ P inputs_of ps_old ps_new told. ⊥
