-- What the status of a run of `drain check` or `drain audit` says of the rasters.
use Rattle.std.specs.Prelude.{◌≡◌}
use Rattle.drain_cli.specs.Names.{false, JudgedProducts, Five, Four, has_rnk, GroundSet, ProductsAreRight, as_five, AreRightIn, OpenElevations, Tiles, Dem, Option, ℕ, List}
use Rattle.drain_cli.specs.OpenedInputs.{ForOpened}
use Rattle.drain_verdict.specs.Given.{Given}
use Rattle.drain_verdict.specs.Inputs.{Products}

-- status 0 says of five products that they are right, of four that those that are judged are; ranks are none of these
abbrev pub AcceptedOf : {R : Type 0} → (Products R → (GroundSet → Type 0) → Type 0) → JudgedProducts R → Type 0
AcceptedOf For (Five products) = For products ProductsAreRight
AcceptedOf For (Four products judged) = has_rnk judged ≡ false → For (as_five products) (AreRightIn judged)

-- status 1 says of four products that those that are judged aren't right; a check may blame its ranks
abbrev pub RejectedOf : {R : Type 0} → (Products R → (GroundSet → Type 0) → Type 0) → JudgedProducts R → Type 0
RejectedOf For (Five products) = Unit {0}
RejectedOf For (Four products judged) = has_rnk judged ≡ false → For (as_five products) (λ s. ¬ AreRightIn judged s)

-- so beside the elevations that were opened
abbrev pub AcceptedMeans : {R : Type 0} → (R → Option (List ℕ)) → OpenElevations R → Given → JudgedProducts R → Type 0
AcceptedMeans bytes_left (Tiles opened) given products = AcceptedOf (ForOpened bytes_left (Tiles opened) given) products
AcceptedMeans bytes_left (Dem dem) given products = AcceptedOf (ForOpened bytes_left (Dem dem) given) products

abbrev pub RejectedMeans : {R : Type 0} → (R → Option (List ℕ)) → OpenElevations R → Given → JudgedProducts R → Type 0
RejectedMeans bytes_left (Tiles opened) given products = RejectedOf (ForOpened bytes_left (Tiles opened) given) products
RejectedMeans bytes_left (Dem dem) given products = RejectedOf (ForOpened bytes_left (Dem dem) given) products
