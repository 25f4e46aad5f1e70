-- A run of `drain derive` on a ground, as one on what was opened.
use Rattle.drain_cli.proofs.Names.{ℕ, Option, IfOk, Refusal, Sink, GroundSet, subst, sym}
use Rattle.std.proofs.Common.{Result, Ok, Err}
use Rattle.std.proofs.lemmas.Result.{IfOk-weaker}
use Rattle.drain_cli.specs.DerivedSets.{IsDerivedOn, IsSetHandedOver, with_header}
use Rattle.drain_grid.specs.declared.product.Product.TheVariants.{Con}
use Rattle.drain_maker.specs.Derived.{AreCounts}
use Rattle.drain_maker.specs.ProductFiles.{DerivedFit, made_header}
use Rattle.drain_maker.specs.declared.derivation.Derived.{Derived}
use Rattle.drain_maker.proofs.FileLemmas.{DerivedFit-counts}
use Rattle.drain_mosaic.specs.Tiling.{Tiling, extent_of}
use Rattle.drain_maker.specs.declared.derivation.DeriveRefusal.{DeriveRefusal}
use Rattle.drain_cli.specs.Names.{AuditProducts}
use Rattle.drain_verdict.specs.Inputs.{Products}

-- what is known of a frame, in other words
pub with_frame : {F R W : Type 0} (For : Products R → (GroundSet → Type 0) → Type 0) (Uses : (P : Type 0) → (P → Products R) → P → P → Option Refusal → Type 0) (Is Known : F → Type 0) (sink : Sink W)
    (products_old products_new : AuditProducts R) (out_old out_new : W) (set : Result (F × Derived) ℕ) → ((frame : F) → Is frame → Known frame) →
    IsDerivedOn For Uses Is sink products_old products_new out_old out_new set → IsDerivedOn For Uses Known sink products_old products_new out_old out_new set
with_frame For Uses Is Known sink products_old products_new out_old out_new set known run =
    (run.0, IfOk-weaker run.0 (λ made. Is made.0) (λ made. Known made.0) (λ made is. known made.0 is) run.1, run.2, run.3)

-- what was derived on a mosaic can be written with con's header for it
pub header_fits : (set : Result (Tiling × Derived) ℕ) → IfOk set (λ made. AreCounts (extent_of made.0) made.1) → IfOk (with_header set) (λ made. DerivedFit made.0 made.1)
header_fits (Ok made) counts = DerivedFit-counts (made_header made.0 Con) made.1 counts
header_fits (Err code) counts = tt

-- what holds of what was derived holds of what is returned
pub handed_over : {F W : Type 0} (sink : Sink W) (old new : W) (outcome : Result (F × Derived) DeriveRefusal) (result : Result (F × Derived) ℕ) (P : F × Derived → Type 0) →
    IsSetHandedOver sink old new outcome result → IfOk outcome P → IfOk result P
handed_over sink old new (Ok set) result P over holds = subst (λ r. IfOk r P) (sym over.0) holds
handed_over sink old new (Err why) result P over holds = subst (λ r. IfOk r P) (sym over.1) tt
