-- How a run of `drain derive` ends: with files that were written, or with the reason why nothing was derived.
use Rattle.std.specs.Prelude.{◌≡◌}
use Rattle.drain_cli.specs.Names.{ℕ, List, Option, Result, Ok, Err, IfOk, IfErr, codes, outcome_report_line, Refusal, Derived, DeriveRefusal, Sink, Source, Dir, OpenElevations, Tiles, Dem, made_header, Extent, Fields, names_of, SetFault, Tiling, GroundSet, IsDemInput, as_five, told_by, AuditProducts, Prints}
use Rattle.drain_cli.specs.OpenedInputs.{ForOpened, UsesOpened}
use Rattle.drain_cli.specs.JudgedRuns.{outcome_status}
use Rattle.drain_maker.specs.Derived.{AreDerivedIn, IsDeriveRefusalIn, outcome_for, reading_in}
use Rattle.drain_grid.specs.declared.product.Product.TheVariants.{Con}
use Rattle.drain_verdict.specs.Stages.{IsLayoutOf}
use Rattle.drain_verdict.specs.Given.{plain}
use Rattle.drain_verdict.specs.Inputs.{Products}
use Rattle.drain_cli.specs.MadeSets.{written_line}

-- the line for the result of writing: derived rows=R cols=C
abbrev pub derived_line : Extent → Result (Unit {0}) SetFault → List ℕ
derived_line = written_line (codes "derived rows=")

-- what follows from directions on the ground that is judged, or the first reason why nothing does; they are read as by an
-- audit
pub record IsDerivation {F R : Type 0} (For : Products R → (GroundSet → Type 0) → Type 0) (Uses : (P : Type 0) → (P → Products R) → P → P → Option Refusal → Type 0)
    (old new : AuditProducts R) (outcome : Result (F × Derived) DeriveRefusal) : Type 0 where
  pub derived : IfOk outcome (λ set. For (as_five old) (λ s. AreDerivedIn s set.1))
  pub err : IfErr outcome (λ why. For (as_five old) (λ s. IsDeriveRefusalIn s why))
  pub uses : Uses (AuditProducts R) as_five old new (told_by (reading_in outcome))

-- what was derived is returned, and nothing printed; or the reason is printed, and its status returned
abbrev pub IsSetHandedOver : {F W : Type 0} → Sink W → W → W → Result (F × Derived) DeriveRefusal → Result (F × Derived) ℕ → Type 0
IsSetHandedOver sink old new (Ok set) result = (result ≡ Ok set) × (new ≡ old)
IsSetHandedOver sink old new (Err why) result = (code : ℕ) × (result ≡ Err code) × Prints sink old new (outcome_report_line (outcome_for why)) (outcome_status (outcome_for why)) code

-- what was derived on a mosaic, with con's header on it
abbrev pub with_header : Result (Tiling × Derived) ℕ → Result (Fields × Derived) ℕ
with_header (Ok set) = Ok (made_header set.0 Con, set.1)
with_header (Err code) = Err code

-- a run on a ground, whose frame is this one where something was derived: that is returned, and nothing printed; or the
-- reason is printed, and its status returned
abbrev pub IsDerivedOn : {F R W : Type 0} → (Products R → (GroundSet → Type 0) → Type 0) → ((P : Type 0) → (P → Products R) → P → P → Option Refusal → Type 0) → (F → Type 0) → Sink W → AuditProducts R → AuditProducts R → W → W → Result (F × Derived) ℕ → Type 0
IsDerivedOn {F = F} For Uses IsFrame sink products_old products_new out_old out_new result = (outcome : Result (F × Derived) DeriveRefusal)
    × IfOk outcome (λ set. IsFrame set.0) × IsDerivation For Uses products_old products_new outcome × IsSetHandedOver sink out_old out_new outcome result

-- a run on the tiles or the raster that were opened: what was derived is returned with the elevations' header, con's on a
-- mosaic
abbrev pub IsDerivedRun : {R W : Type 0} → Source R → Sink W → OpenElevations R → OpenElevations R → List ℕ → AuditProducts R → AuditProducts R → W → W → Result (Fields × Derived) ℕ → Type 0
IsDerivedRun source sink (Tiles old) (Tiles new) sinks products_old products_new out_old out_new result = (set : Result (Tiling × Derived) ℕ)
    × IsDerivedOn (ForOpened source.bytes_left (Tiles old) (plain sinks)) (UsesOpened source (Tiles old) (Tiles new)) (IsLayoutOf old.side (names_of old.tiles.items)) sink products_old products_new out_old out_new set
    × (result ≡ with_header set)
IsDerivedRun source sink (Dem old) (Dem new) sinks products_old products_new out_old out_new result =
    IsDerivedOn (ForOpened source.bytes_left (Dem old) (plain sinks)) (UsesOpened source (Dem old) (Dem new)) (λ h. IsDemInput h old) sink products_old products_new out_old out_new result
IsDerivedRun source sink old new sinks products_old products_new out_old out_new result = ⊥
