-- Which request the arguments make: by the name of the command, and by the values that were found for each argument.
use Rattle.std.specs.Prelude.{◌≡◌, ◌⊎◌, ◌++◌}
use Rattle.drain_args.specs.Names.{ℕ, Bool, true, false, [], map, Option, Some, None, option_map, unwrap_or, codes, digits_value, without_leading_plus, first_value, matched_of, one_text, raw_values, Cell, IsOrigin}
use Rattle.std.specs.Borrow.{Bor}
use Rattle.clap.specs.Walk.{Text}
use Rattle.clap.specs.declared.parser.matches.Found.{Found}
use Rattle.drain_grid.specs.declared.judged.Judged.{Judged}
use Rattle.drain_grid.specs.declared.judged.Judged.TheVariants.{Con, ConDir, ConDirAcc, ConDirBas, All, AllWithRanks}
use Rattle.drain_args.specs.declared.requests.DemArgs.{DemArgs}
use Rattle.drain_args.specs.declared.requests.DemEnding.{DemEnding}
use Rattle.drain_args.specs.declared.requests.DemEnding.TheVariants.{Lower, Upper}
use Rattle.drain_args.specs.declared.requests.Elevations.{Elevations}
use Rattle.drain_args.specs.declared.requests.Elevations.TheVariants.{Tiles, Dem}
use Rattle.drain_args.specs.declared.requests.MergeArgs.{MergeArgs}
use Rattle.drain_args.specs.declared.requests.TileArgs.{TileArgs}
use Rattle.drain_args.specs.declared.requests.ProductArgs.{ProductArgs}
use Rattle.drain_args.specs.declared.requests.WindowArgs.{WindowArgs}
use Rattle.drain_args.specs.declared.requests.Request.{Request}
use Rattle.drain_args.specs.declared.requests.Request.TheVariants.{Audit, Check, Derive, Explain, Window, Merge, Make, Fill, Header}
use Rattle.drain_args.specs.declared.commands.TheConstants.{DEFAULT_SIDE}
use Rattle.drain_args.specs.declared.spacings.SpacingChoice.{SpacingChoice}
use Rattle.drain_args.specs.declared.spacings.SpacingChoice.TheVariants.{Unit as Square, Same, Header as OfHeader, ByRow}
use Rattle.drain_args.specs.PlaceTexts.{IsBox, IsCellText, IsInner}
use Rattle.drain_args.specs.SpacingTexts.{IsSpacingText}

-- a flag is set exactly if it is there: its value is then true
abbrev pub IsFlag : Text → Found → Bool → Type 0
IsFlag name f set =
    (one_text f name ≡ Some (codes "true") → set ≡ true)
    × ((one_text f name ≡ Some (codes "false") → set ≡ false) × (one_text f name ≡ None → set ≡ false))

-- the side is the number that was given, and the default if none was
abbrev pub IsSideOption : Found → ℕ → Type 0
IsSideOption f side =
    (one_text f (codes "side") ≡ None → side ≡ DEFAULT_SIDE)
    × ((t : Text) → one_text f (codes "side") ≡ Some t → side ≡ digits_value 10 (without_leading_plus t))

-- the tiles are the arguments without an option, with the side of one
pub record AreTiles (f : Found) (args : TileArgs) : Type 0 where
  pub side : IsSideOption f args.side
  pub paths : map (λ path. path.now) args.paths.items ≡ unwrap_or (option_map raw_values (matched_of f (codes "tiles"))) []

-- how the path of a raster of elevations ends
abbrev pub dem_ending : DemEnding → Text
dem_ending Lower = codes ".bil"
dem_ending Upper = codes ".BIL"

-- the raster of elevations is the file that an option names, if it does
abbrev pub IsDemOption : Found → Option DemArgs → Type 0
IsDemOption f None = first_value f (codes "dem") ≡ None
IsDemOption f (Some dem) = first_value f (codes "dem") ≡ Some (dem.stem.now ++ dem_ending dem.ending)

-- elevations come from that raster, or else from tiles
abbrev pub AreElevations : Found → Elevations → Type 0
AreElevations f (Tiles tiles) = IsDemOption f None × AreTiles f tiles
AreElevations f (Dem dem) = IsDemOption f (Some dem)

-- what a text of --spacing chooses: the header of a raster of elevations, or the width and height that it names
abbrev pub IsSpacingChoice : Text → Elevations → SpacingChoice → Type 0
IsSpacingChoice text (Dem dem) OfHeader = text ≡ codes "header"
IsSpacingChoice text (Tiles tiles) OfHeader = ⊥
IsSpacingChoice text e (Same s) = IsSpacingText text s
IsSpacingChoice text e Square = ⊥
IsSpacingChoice text e (ByRow path) = ⊥

-- how far apart cells are: by the text of one option, by the path of another, or on unit spacing; no two options say it
abbrev pub IsSpacingOption : Found → Elevations → SpacingChoice → Type 0
IsSpacingOption f e Square = (first_value f (codes "spacing") ≡ None) × (first_value f (codes "widths") ≡ None)
IsSpacingOption f e (ByRow path) = (first_value f (codes "spacing") ≡ None) × (first_value f (codes "widths") ≡ Some path.now)
IsSpacingOption f e (Same s) =
    (text : Text) × (first_value f (codes "spacing") ≡ Some text) × IsSpacingChoice text e (Same s) × (first_value f (codes "widths") ≡ None)
IsSpacingOption f e OfHeader =
    (text : Text) × (first_value f (codes "spacing") ≡ Some text) × IsSpacingChoice text e OfHeader × (first_value f (codes "widths") ≡ None)

-- the folder of the products is that of this option, and the rest is as the options say
pub record IsProductArgs (option : Text) (f : Found) (args : ProductArgs Elevations) : Type 0 where
  pub elevations : AreElevations f args.elevations
  pub folder : args.folder.now ≡ unwrap_or (first_value f option) []
  pub sinks : option_map (λ path. path.now) args.sinks ≡ first_value f (codes "sinks")
  pub spacing : IsSpacingOption f args.elevations args.spacing
  pub progress : IsFlag (codes "progress") f args.progress

-- inputs whose products are there already, of tiles or of one raster
abbrev pub AreInputs : Found → ProductArgs Elevations → Type 0
AreInputs f args = IsProductArgs (codes "products") f args

-- a raster of elevations begins at the cell of the whole that an option names; none is named for tiles
abbrev pub IsStart : Found → Elevations → Cell → Type 0
IsStart f (Tiles tiles) at = (first_value f (codes "at") ≡ None) × (at ≡ record { row = 0; col = 0 })
IsStart f (Dem dem) at = (text : Text) × (first_value f (codes "at") ≡ Some text) × IsCellText text at × IsOrigin at

-- the window's place is that of the options, and its report goes into the file of another
pub record IsWindowArgs (f : Found) (args : WindowArgs) : Type 0 where
  pub inputs : AreInputs f args.inputs
  pub start : IsStart f args.inputs.elevations args.at
  pub box : IsBox (unwrap_or (first_value f (codes "box")) []) args.place
  pub inner : IsInner (unwrap_or (first_value f (codes "inner")) []) args.place.inner
  pub report : args.report.now ≡ unwrap_or (first_value f (codes "report")) []

-- the reports are the arguments without an option, in their order
pub record IsMergeArgs (f : Found) (args : MergeArgs) : Type 0 where
  pub reports : map (λ path. path.now) args.reports.items ≡ unwrap_or (option_map raw_values (matched_of f (codes "reports"))) []
  pub sinks : option_map (λ path. path.now) args.sinks ≡ first_value f (codes "sinks")
  pub report : option_map (λ path. path.now) args.report ≡ first_value f (codes "report")

abbrev pub map_ending : Text
map_ending = codes ".bil"

-- the map is in the files whose name is given with .bil behind it
abbrev pub IsMap : Found → Option (Bor Text) → Type 0
IsMap f None = first_value f (codes "map") ≡ None
IsMap f (Some stem) = first_value f (codes "map") ≡ Some (stem.now ++ map_ending)

-- the list of rasters as it is written; no list names ranks
abbrev pub list_text : Judged → Option Text
list_text Con = Some (codes "con")
list_text ConDir = Some (codes "con,dir")
list_text ConDirAcc = Some (codes "con,dir,acc")
list_text ConDirBas = Some (codes "con,dir,bas")
list_text All = Some (codes "con,dir,acc,bas")
list_text AllWithRanks = None

-- the rasters are those of the list that is given, if one is
abbrev pub IsListOption : Found → Option Judged → Type 0
IsListOption f None = first_value f (codes "only") ≡ None
IsListOption f (Some list) = (text : Text) × (list_text list ≡ Some text) × (first_value f (codes "only") ≡ Some text)

-- judged are the rasters of the list that is given; without one all four
abbrev pub IsJudgedOption : Found → Judged → Type 0
IsJudgedOption f judged = IsListOption f (Some judged) ⊎ (IsListOption f None × judged ≡ All)

-- the name of a command, and the values of its arguments, make this request
abbrev pub IsRequestOf : Text → Found → Request → Type 0
IsRequestOf name f (Audit args) =
    (name ≡ codes "audit") × (AreInputs f args.inputs × (IsJudgedOption f args.judged × IsFlag (codes "json") f args.json))
IsRequestOf name f (Check args) = (name ≡ codes "check") × (AreInputs f args.inputs × IsFlag (codes "json") f args.json)
IsRequestOf name f (Explain args) =
    (name ≡ codes "explain") × (AreInputs f args.inputs × (IsListOption f args.only × (IsMap f args.map × IsFlag (codes "json") f args.json)))
IsRequestOf name f (Window args) = (name ≡ codes "window") × IsWindowArgs f args
IsRequestOf name f (Merge args) = (name ≡ codes "merge") × IsMergeArgs f args
IsRequestOf name f (Make args) = (name ≡ codes "make") × IsProductArgs (codes "out") f args
IsRequestOf name f (Derive args) =
    (name ≡ codes "derive") × (AreInputs f args.inputs × (args.out.now ≡ unwrap_or (first_value f (codes "out")) []))
IsRequestOf name f (Fill side) = (name ≡ codes "fill") × IsSideOption f side
IsRequestOf name f (Header path) = (name ≡ codes "header") × (path.now ≡ unwrap_or (first_value f (codes "file")) [])
