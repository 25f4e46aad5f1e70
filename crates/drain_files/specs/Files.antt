-- What opening, reading and placing of files does.
use Rattle.std.specs.Prelude.{◌≡◌, ◌⊎◌, ◌++◌, ◌∷◌, ◌<◌}
use Rattle.drain_files.specs.Names.{Result, Ok, Err, ℕ, List, [], codes, Option, Some, replicate, length, SetFault, line_feed, no_faults, Consumes, AllZip, names_of}
use Rattle.drain_device.specs.declared.read.BodyFault.TheVariants.{OutOfMemory}
use Rattle.drain_answer.specs.Outcomes.{failure_text}
use Rattle.drain_device.specs.declared.counts.FaultCounts.{FaultCounts}
use Rattle.drain_files.specs.declared.source_or_ones.SourceOrOnes.{SourceOrOnes}
use Rattle.drain_files.specs.declared.source_or_ones.SourceOrOnes.TheVariants.{Source, Ones}
use Rattle.drain_args.specs.declared.requests.Elevations.{Elevations}
use Rattle.drain_args.specs.declared.requests.Elevations.TheVariants as of
use Rattle.drain_args.specs.declared.requests.TileArgs.{TileArgs}
use Rattle.drain_files.specs.FilePaths.{IsLastPart}
use Rattle.drain_files.specs.declared.open_judged.OpenElevations.{OpenElevations}
use Rattle.drain_files.specs.declared.open_judged.OpenElevations.TheVariants.{Tiles, Dem}
use Rattle.drain_files.specs.declared.open_judged.OpenTiles.{OpenTiles}
use Rattle.drain_files.specs.declared.open_judged.JudgedProducts.{JudgedProducts}
use Rattle.drain_files.specs.declared.open_judged.JudgedProducts.TheVariants.{Five, Four}
use Rattle.drain_grid.specs.declared.judged.Judged.{Judged}
use Rattle.drain_grid.specs.declared.judged.Judged.TheVariants.{AllWithRanks}

-- When written files take their own names.

-- the names were given if every file was written, and that is the result; after a fault no name changed, and the fault
-- is the result
abbrev pub IsNamed : {P : Type 0} → (P → P → Result (Unit {0}) SetFault → Type 0) → P → P → Result (Unit {0}) SetFault → Result (Unit {0}) SetFault → Type 0
IsNamed has_placed old new (Ok done) told = has_placed old new told
IsNamed has_placed old new (Err fault) told = (told ≡ Err fault) × (new ≡ old)

-- The line for a file that can't be opened.

abbrev pub open_failure_line : List ℕ → List ℕ
open_failure_line path = codes "failed Open " ++ (path ++ line_feed ∷ [])

-- that line, or out of memory for it
abbrev pub IsOpenFailure : List ℕ → List ℕ → Type 0
IsOpenFailure path text = (text ≡ open_failure_line path) ⊎ (text ≡ failure_text OutOfMemory)

-- What a source, or ones in its place, gives.

-- the source's bytes, or the ones
abbrev pub bytes_of : {R : Type 0} → (R → Option (List ℕ)) → SourceOrOnes R → Option (List ℕ)
bytes_of bytes_left (Source source) = bytes_left source
bytes_of bytes_left (Ones n) = Some (replicate n 1)

-- the source's faults, or none
abbrev pub source_counts : {R : Type 0} → (R → FaultCounts) → SourceOrOnes R → FaultCounts
source_counts counts (Source source) = counts source
source_counts counts (Ones n) = no_faults

-- When a text is too long.

-- more than the given number of bytes were read
abbrev pub TakesMoreThan : ℕ → Option (List ℕ) → Option (List ℕ) → Type 0
TakesMoreThan most old new = (bytes : List ℕ) × Consumes old new bytes × (most < length bytes)

-- Which rasters of opened products are judged.

-- all five, or those of the four that are named
abbrev pub AreOf : {R : Type 0} → Judged → JudgedProducts R → Type 0
AreOf judged (Five products) = judged ≡ AllWithRanks
AreOf judged (Four products named) = named ≡ judged

-- Where elevations come from.

-- these tiles, in this order, with this side
pub record AreTilesOf {R : Type 0} (args : TileArgs) (opened : OpenTiles R) : Type 0 where
  pub side_is : opened.side ≡ args.side
  pub named : AllZip (λ path name. IsLastPart path.now name) args.paths.items (names_of opened.tiles.items)

-- tiles where tiles are named, one raster where a raster is
abbrev pub AreElevationsOf : {R : Type 0} → Elevations → OpenElevations R → Type 0
AreElevationsOf (of.Tiles args) (Tiles opened) = AreTilesOf args opened
AreElevationsOf (of.Dem args) (Dem input) = Unit {0}
AreElevationsOf (of.Tiles args) (Dem input) = ⊥
AreElevationsOf (of.Dem args) (Tiles opened) = ⊥
