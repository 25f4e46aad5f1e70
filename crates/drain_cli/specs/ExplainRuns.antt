-- How a run of `drain explain` ends, what it prints, and its status.
use Rattle.std.specs.Prelude.{◌≡◌, ◌⊎◌, ◌↔◌, ◌++◌, ◌∷◌}
use Rattle.drain_cli.specs.Names.{ℕ, List, [], Result, Ok, Err, Option, None, Some, IfSome, IsSome, codes, string_bytes, Drawn, Judged, Fields, made_header, Tiling, GroundSet, Sink, Source, Outcome, Refusal, outcome_report_line, AllWithRanks, as_five, Text, Json, JudgedProducts, Status, Failed, OpenElevations, Tiles, Dem, failure_text, IsOpenFailure, IsAnswerLine, PrintsText}
use Rattle.drain_cli.specs.OpenedInputs.{ForOpened, UsesOpened}
use Rattle.drain_explain.specs.Explanations.{AreFindingsIn, IsEndlessIn}
use Rattle.drain_explain.specs.Slopes.{slopes_of}
use Rattle.drain_explain.specs.declared.fault_visitor.Mapping.{Mapping}
use Rattle.drain_findings.specs.declared.findings.Findings.{Findings}
use Rattle.drain_faults.specs.declared.fault_map.FaultMap.{FaultMap}
use Rattle.drain_grid.specs.declared.product.Product.TheVariants as product
use Rattle.drain_device.specs.declared.read.BodyFault.TheVariants as body
use Rattle.drain_verdict.specs.Given.{Given}
use Rattle.drain_verdict.specs.Inputs.{Products}
use Rattle.drain_page.specs.declared.json_page.TheConstants.{OUT_OF_MEMORY_OBJECT}
use Rattle.drain_args.specs.declared.form.Form.{Form}
use Rattle.drain_cli.specs.declared.runs.run_explain.MapFault.{MapFault}
use Rattle.drain_cli.specs.declared.runs.run_explain.MapFault.TheVariants as map
use Rattle.drain_cli.specs.declared.runs.run_explain.PageFailure.{PageFailure}
use Rattle.drain_cli.specs.declared.runs.run_explain.PageFailure.TheVariants as no_page
use Rattle.drain_cli.specs.declared.runs.run_explain.PageFailure.TheVariants.{Open}
use Rattle.drain_files.specs.declared.open_judged.JudgedProducts.TheVariants as products
use Rattle.drain_cli.specs.JudgedRuns.{IsOutcomeOf, outcome_status}
use Rattle.drain_page.specs.Texts.{line_feed}

-- a text begins with the line of its answer; an object is on a line of its own, and its first member is that line
abbrev pub BeginsWith : Form → List ℕ → List ℕ → Type 0
BeginsWith Text line page = (rest : List ℕ) × (page ≡ line ++ line_feed ∷ rest)
BeginsWith Json line page = IsAnswerLine line page

-- the line that says why there is no page, or that memory ran out for it
abbrev pub IsNoPageLine : PageFailure → List ℕ → Type 0
IsNoPageLine (Open path) text = IsOpenFailure (string_bytes path) text
IsNoPageLine no_page.ReadFailed text = text ≡ failure_text body.ReadFailed
IsNoPageLine no_page.WriteFailed text = text ≡ codes "failed WriteFailed" ++ line_feed ∷ []
IsNoPageLine no_page.OutOfMemory text = text ≡ failure_text body.OutOfMemory

-- the answer of an object in place of a page
abbrev pub no_page_answer : PageFailure → List ℕ
no_page_answer (Open path) = codes "failed Open " ++ string_bytes path
no_page_answer no_page.ReadFailed = codes "failed ReadFailed"
no_page_answer no_page.WriteFailed = codes "failed WriteFailed"
no_page_answer no_page.OutOfMemory = codes "failed OutOfMemory"

-- an object with this answer, or the one for which no memory is needed
abbrev pub IsFailureObject : List ℕ → List ℕ → Type 0
IsFailureObject answer text = IsAnswerLine answer text ⊎ (text ≡ OUT_OF_MEMORY_OBJECT.now)

-- what is printed if there is no page
abbrev pub IsNoPage : Form → PageFailure → List ℕ → Type 0
IsNoPage Text why text = IsNoPageLine why text
IsNoPage Json why text = IsFailureObject (no_page_answer why) text

-- a map that can't be saved leaves no page
abbrev pub no_page_of : MapFault → PageFailure
no_page_of (map.Open path) = Open path
no_page_of map.WriteFailed = no_page.WriteFailed
no_page_of map.OutOfMemory = no_page.OutOfMemory

-- What was found, and its map.

-- what every cell of the set showed, and where the path leads that the outcome names; with a map if one is required, and
-- over the distances that are given
pub record AreFindingsFor {F : Type 0} (For : (GroundSet → Type 0) → Type 0) (judged : Judged) (given : Given) (mapping : Mapping) (outcome : Outcome) (f : Findings F) : Type 0 where
  pub found : For (λ s. AreFindingsIn judged s f)
  pub endless : For (λ s. IfSome f.endless (IsEndlessIn s outcome))
  pub drawn : IsSome f.map ↔ (mapping ≡ Drawn)
  pub slopes : f.slopes ≡ slopes_of given.spacing

-- there are findings exactly with an outcome
abbrev pub AreFound : {F : Type 0} → ((GroundSet → Type 0) → Type 0) → Judged → Given → Mapping → Result Outcome Refusal → Option (Findings F) → Type 0
AreFound For judged given mapping (Ok outcome) (Some f) = AreFindingsFor For judged given mapping outcome f
AreFound For judged given mapping (Err refusal) None = Unit {0}
AreFound For judged given mapping answer found = ⊥

-- of the products that were opened
abbrev pub AreFoundOf : {F R : Type 0} → (Products R → (GroundSet → Type 0) → Type 0) → JudgedProducts R → Given → Mapping → Result Outcome Refusal → Option (Findings F) → Type 0
AreFoundOf For (products.Five ps) = AreFound (For ps) AllWithRanks
AreFoundOf For (products.Four ps judged) = AreFound (For (as_five ps)) judged

-- the map, if there is one, was saved with this result as a raster that lies as this header says; else nothing was done
abbrev pub IsMapSaved : {B : Type 0} → (Fields → List ℕ → B → B → Result (Unit {0}) MapFault → Type 0) → Fields → Option FaultMap → B → B → Result (Unit {0}) MapFault → Type 0
IsMapSaved has_saved like None old new result = (result ≡ Ok tt) × (new ≡ old)
IsMapSaved has_saved like (Some drawn) old new result = has_saved like drawn.pixels.items old new result

-- that of the findings, if there are any
abbrev pub IsSaved : {F B : Type 0} → (Fields → List ℕ → B → B → Result (Unit {0}) MapFault → Type 0) → (F → Fields) → Option (Findings F) → B → B → Result (Unit {0}) MapFault → Type 0
IsSaved has_saved place None old new result = (result ≡ Ok tt) × (new ≡ old)
IsSaved has_saved place (Some f) old new result = IsMapSaved has_saved (place f.layout) f.map old new result

-- What is printed.

-- memory ran out for the page, or its map wasn't saved
abbrev pub IsCause : Result (Unit {0}) MapFault → PageFailure → Type 0
IsCause saved why = (why ≡ no_page.OutOfMemory) ⊎ ((fault : MapFault) × (saved ≡ Err fault) × (why ≡ no_page_of fault))

-- the page of the answer with its status, if the map was saved; or why there is none, with the status of a failure
abbrev pub IsExplained : Result (Unit {0}) MapFault → Form → Result Outcome Refusal → List ℕ → Status → Type 0
IsExplained saved form answer text status =
    ((saved ≡ Ok tt) × BeginsWith form (outcome_report_line answer) text × (status ≡ outcome_status answer))
    ⊎ ((why : PageFailure) × IsCause saved why × IsNoPage form why text × (status ≡ Failed))

-- that was printed, and the run ends with this number
pub record Explains {W : Type 0} (sink : Sink W) (old new : W) (saved : Result (Unit {0}) MapFault) (form : Form) (answer : Result Outcome Refusal) (code : ℕ) : Type 0 where
  pub text : List ℕ
  pub status : Status
  pub explained : IsExplained saved form answer text status
  pub printed : PrintsText sink old new text status code

-- how a run ends: the answer, what was found, whether its map was saved, and what was printed
pub record IsExplainedRun {F B W : Type 0} (IsAnswer : Result Outcome Refusal → Type 0) (IsFound : Result Outcome Refusal → Option (Findings F) → Type 0)
    (place : F → Fields) (has_saved : Fields → List ℕ → B → B → Result (Unit {0}) MapFault → Type 0) (beside : B)
    (sink : Sink W) (out_old out_new : W) (form : Form) (code : ℕ) : Type 0 where
  pub answer : Result Outcome Refusal
  pub findings : Option (Findings F)
  pub before : B
  pub saved : Result (Unit {0}) MapFault
  pub answer_is : IsAnswer answer
  pub found : IsFound answer findings
  pub map : IsSaved has_saved place findings before beside saved
  pub explained : Explains sink out_old out_new saved form answer code

-- a map of a mosaic lies as its directions do
abbrev pub place_on_tiles : Tiling → Fields
place_on_tiles t = made_header t product.Dir

-- how a run on a ground ends, whose map lies at this place of its frame
abbrev pub IsExplainedAt : {F R B W : Type 0} → (F → Fields) → (Products R → (GroundSet → Type 0) → Type 0) → ((P : Type 0) → (P → Products R) → P → P → Option Refusal → Type 0) → Given → JudgedProducts R → JudgedProducts R → Mapping → (Fields → List ℕ → B → B → Result (Unit {0}) MapFault → Type 0) → B → Sink W → W → W → Form → ℕ → Type 0
IsExplainedAt place For Uses given old new mapping has_saved beside sink out_old out_new form code =
    IsExplainedRun (IsOutcomeOf For Uses old new) (AreFoundOf For old given mapping) place has_saved beside sink out_old out_new form code

-- on the elevations that were opened: tiles, or one raster, as which its map lies
abbrev pub IsExplainedOn : {R B W : Type 0} → Source R → OpenElevations R → OpenElevations R → Given → JudgedProducts R → JudgedProducts R → Mapping → (Fields → List ℕ → B → B → Result (Unit {0}) MapFault → Type 0) → B → Sink W → W → W → Form → ℕ → Type 0
IsExplainedOn source (Tiles old) (Tiles new) given products_old products_new mapping has_saved beside sink out_old out_new form code =
    IsExplainedAt place_on_tiles (ForOpened source.bytes_left (Tiles old) given) (UsesOpened source (Tiles old) (Tiles new)) given products_old products_new mapping has_saved beside sink out_old out_new form code
IsExplainedOn source (Dem old) (Dem new) given products_old products_new mapping has_saved beside sink out_old out_new form code =
    IsExplainedAt {F = Fields} (λ h. h) (ForOpened source.bytes_left (Dem old) given) (UsesOpened source (Dem old) (Dem new)) given products_old products_new mapping has_saved beside sink out_old out_new form code
IsExplainedOn source old new given products_old products_new mapping has_saved beside sink out_old out_new form code = ⊥
