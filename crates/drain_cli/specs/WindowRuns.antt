-- How the first part of a run of `drain window` ends: with what is to be reported, or with the reason why there is none.
use Rattle.std.specs.Prelude.{◌≡◌}
use Rattle.drain_cli.specs.Names.{ℕ, List, Option, Result, Ok, Err, IfOk, codes, SetFault, WriteFailed, Status, Done, Failed, ContentsFit, contents_of, report_text, Agree, WindowReport, Sink, Source, OpenElevations, Tiles, Dem, Cell, Corner, names_of, Prints, Refusal, refusal_status, told_by, GroundSet, as_five, AuditProducts, IsOfDem, IsOfTiles, IsWindowIn, as_refused, WindowRefusal, Place, IsOrigin}
use Rattle.drain_cli.specs.OpenedInputs.{ForOpened, UsesOpened}
use Rattle.drain_sets.specs.declared.set_files.SetFault.TheVariants.{OutOfMemory}
use Rattle.drain_answer.specs.declared.outcome.Status.TheVariants.{Rejected, Refused}
use Rattle.drain_union.specs.VerdictLines.{verdict_line}
use Rattle.drain_union.specs.declared.verdict.UnionVerdict.{UnionVerdict}
use Rattle.drain_union.specs.declared.union_grid.UnionGrid.{UnionGrid}
use Rattle.drain_verdict.specs.Given.{Given}
use Rattle.drain_verdict.specs.Inputs.{Products}
use Rattle.drain_window.specs.WindowLines.{refusal_line}
use Rattle.drain_window.specs.declared.answered.WindowRefusal.TheVariants.{Inputs, OutsideMosaic}
use Rattle.drain_union.specs.declared.verdict.UnionVerdict.TheVariants as window

-- The line and the status for a report that was written, or couldn't be. The words are this project's own.

-- the text of what is reported of a window
unfoldable pub text_of : WindowReport → List ℕ
text_of w = report_text (contents_of w)

-- what was written is read again, if the report agrees with the verdict
abbrev pub IsReadable : WindowReport → Result (Unit {0}) SetFault → Type 0
IsReadable w (Ok done) = Agree w.verdict w.report → ContentsFit (contents_of w)
IsReadable w (Err fault) = Unit {0}

-- the line of the verdict, if its report was written
abbrev pub reported_line : UnionVerdict → Result (Unit {0}) SetFault → List ℕ
reported_line v (Ok done) = verdict_line v
reported_line v (Err WriteFailed) = codes "failed WriteFailed"
reported_line v (Err OutOfMemory) = codes "failed OutOfMemory"

-- the status of a verdict
abbrev pub verdict_status : UnionVerdict → Status
verdict_status (window.Accepted counts) = Done
verdict_status (window.Rejected fault) = Rejected

-- its status, if its report was written
abbrev pub reported_status : UnionVerdict → Result (Unit {0}) SetFault → Status
reported_status v (Ok done) = verdict_status v
reported_status v (Err fault) = Failed

-- the outcome is the answer to the bytes that the devices had left, if they are known, and what is reported names the ground;
-- they are read as by an audit
pub record IsWindowOutcome {R : Type 0} (For : Products R → (GroundSet → Type 0) → Type 0) (Uses : (P : Type 0) → (P → Products R) → P → P → Option Refusal → Type 0)
    (InRange : Type 0) (Names : UnionGrid → List Corner → Type 0) (p : Place) (products_old products_new : AuditProducts R) (outcome : Result WindowReport WindowRefusal) : Type 0 where
  pub answer : For (as_five products_old) (λ s. IsWindowIn InRange p s outcome)
  pub named : IfOk outcome (λ a. Names a.grid a.tiles.items)
  pub uses : Uses (AuditProducts R) as_five products_old products_new (told_by (as_refused outcome))

-- the status of a refusal
abbrev pub refusal_code : WindowRefusal → Status
refusal_code (Inputs refusal) = refusal_status refusal
refusal_code OutsideMosaic = Refused

-- what is to be reported is returned, and nothing printed; or the reason is printed, and its status returned
abbrev pub IsWindowHandedOver : {W : Type 0} → Sink W → W → W → Result WindowReport WindowRefusal → Result WindowReport ℕ → Type 0
IsWindowHandedOver sink old new (Ok window) result = (result ≡ Ok window) × (new ≡ old)
IsWindowHandedOver sink old new (Err refusal) result = (code : ℕ) × (result ≡ Err code) × Prints sink old new (refusal_line refusal) (refusal_code refusal) code

-- a run on a ground
abbrev pub IsWindowRunOn : {R W : Type 0} → (Products R → (GroundSet → Type 0) → Type 0) → ((P : Type 0) → (P → Products R) → P → P → Option Refusal → Type 0) → Type 0 → (UnionGrid → List Corner → Type 0) → Sink W → Place → AuditProducts R → AuditProducts R → W → W → Result WindowReport ℕ → Type 0
IsWindowRunOn For Uses InRange Names sink p products_old products_new out_old out_new result = (outcome : Result WindowReport WindowRefusal)
    × IsWindowOutcome For Uses InRange Names p products_old products_new outcome
    × IsWindowHandedOver sink out_old out_new outcome result

-- a run on the tiles that were opened, or on the raster, which begins at this cell of the whole
abbrev pub IsWindowRun : {R W : Type 0} → Source R → Sink W → Place → Cell → OpenElevations R → OpenElevations R → Given → AuditProducts R → AuditProducts R → W → W → Result WindowReport ℕ → Type 0
IsWindowRun source sink p at (Tiles old) (Tiles new) given =
    IsWindowRunOn (ForOpened source.bytes_left (Tiles old) given) (UsesOpened source (Tiles old) (Tiles new)) (Unit {0}) (IsOfTiles old.side (names_of old.tiles.items)) sink p
IsWindowRun source sink p at (Dem old) (Dem new) given =
    IsWindowRunOn (ForOpened source.bytes_left (Dem old) given) (UsesOpened source (Dem old) (Dem new)) (IsOrigin at) (IsOfDem at old) sink p
IsWindowRun source sink p at old new given = λ products_old products_new out_old out_new result. ⊥
