use Rattle.drain_explain.proofs.Names.{◌≡◌, ℕ, List, [], ◌∷◌, Option, Some, None, IfSome, length, ◌<◌, arith, subst, IsDemDetailOf}
use Rattle.std.specs.Prelude.{get_or}
use Rattle.drain_answer.specs.declared.refusal.Refusal.{Refusal}
use Rattle.drain_explain.specs.RefusalDetails.{IsDetailOfDem}
use Rattle.drain_findings.specs.declared.refusal_detail.RefusalDetail.{RefusalDetail}
use Rattle.drain_grid.specs.declared.set_product.SetProduct.{SetProduct}
use Rattle.drain_grid.specs.PerProduct.{of_product}
use Rattle.drain_sets.specs.declared.raster_input.RasterInput.{RasterInput}
use Rattle.drain_verdict.specs.Given.{Given}
use Rattle.drain_explain.proofs.refused.RasterInputExplainedInput.detail_of.Goals as goal

-- the details of the first raster are those of the inputs, where there is no other
of_one : {R : Type 0} (inputs : List (RasterInput R)) (dem : RasterInput R) (texts : SetProduct → List ℕ) (given : Given) (r : Refusal) (told : Option RefusalDetail) → 0 < length inputs → length inputs < 2 →
    dem ≡ get_or inputs 0 dem → IfSome told (IsDemDetailOf dem.header texts given r) → IfSome told (IsDetailOfDem inputs texts given r)
of_one inputs dem texts given r None some one is details = tt
of_one [] dem texts given r (Some detail) some one is details = absurd (omega (arith, some))
of_one {R = R} (first ∷ []) dem texts given r (Some detail) some one is details = subst (λ (d : RasterInput R). IsDemDetailOf d.header texts given r detail) is details
of_one (first ∷ second ∷ more) dem texts given r (Some detail) some one is details = absurd (omega (arith, one))

pub returns : goal.returns
returns g c =
    of_one c.args.inputs.now c.dem-item.result (λ p. (of_product c.args.headers.now p).now) c.args.given.now c.args.refusal c.dem_detail.result (omega (arith, c.in-len1.len_at_least)) c.in-len1.len_below c.dem-item.is c.dem_detail.ensures
