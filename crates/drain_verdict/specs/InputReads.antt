-- What was read of a ground and its products between two of their rows, and which device failed for good.
use Rattle.std.specs.Prelude.{◌≡◌, ◌⊎◌, ◌↔◌}
use Rattle.drain_verdict.specs.Names.{ℕ, List, Option, Some, Bool, IsTrue, PartFails, ReadsWithin, FaultCounts, SetProduct, PerProduct, of_product, RasterRows, raster_most_bytes, Refusal, ReadFailed}
use Rattle.drain_verdict.specs.Inputs.{Products}
use Rattle.drain_verdict.specs.declared.input_rows.InputRows.{InputRows}
use Rattle.drain_verdict.specs.Reading.{IsOfReading}

-- calls for a raster: its device gave at most what was to be read, less what still is; this number of its faults was
-- retried; and the last call failed exactly if the device failed for good
pub record RasterHasRead (known_before known_after : Option (List ℕ)) (before after : FaultCounts) (old new : RasterRows) (Fails : Type 0) : Type 0 where
  pub within : ReadsWithin (raster_most_bytes old) (raster_most_bytes new) known_before known_after
  pub faults : PartFails before after old.patience new.patience Fails

-- the readers, and the inputs of the ground and the products that they borrow
abbrev pub Reading : Type 0 → Type 0 → Type 0 → Type 0
Reading M X R = InputRows R M × List X × Products R

abbrev pub readers : {M X R : Type 0} → Reading M X R → InputRows R M
readers s = s.0

abbrev pub inputs_lent : {M X R : Type 0} → Reading M X R → List X
inputs_lent s = s.1

abbrev pub products_lent : {M X R : Type 0} → Reading M X R → Products R
products_lent s = s.2

-- the reader of elevations, and the inputs that it borrows
abbrev pub elevations_at : {M X R : Type 0} → Reading M X R → M × List X
elevations_at s = ((readers s).elevations, inputs_lent s)

-- these readers with others of the rasters
abbrev pub with_rasters : {R M : Type 0} → (PerProduct RasterRows → PerProduct RasterRows) → InputRows R M → InputRows R M
with_rasters readers_of rows = record { elevations = rows.elevations; rasters = readers_of rows.rasters; source = rows.source }

-- readers, and the inputs and products that they borrow, as five products are read whichever are given
abbrev pub as_read : {M X R P : Type 0} → (PerProduct RasterRows → PerProduct RasterRows) → (P → Products R) → InputRows R M × List X × P → Reading M X R
as_read readers_of inputs_of s = (with_rasters readers_of s.0, s.1, inputs_of s.2)

-- the body of a product
abbrev pub product_body : {M X R : Type 0} → Reading M X R → SetProduct → R
product_body s p = (of_product (products_lent s) p).body

-- calls for all products, from one state to the other: a device that failed for good ended the last
pub record RastersHaveRead {R : Type 0} (bytes_left : R → Option (List ℕ)) (counts : R → FaultCounts) (old new : PerProduct RasterRows) (lent lent_then : Products R) (told : Option Refusal) : Type 0 where
  pub failed : SetProduct → Bool
  pub exactly : (told ≡ Some ReadFailed) ↔ ((p : SetProduct) × IsTrue (failed p))
  pub each : (p : SetProduct) →
      RasterHasRead (bytes_left (of_product lent p).body) (bytes_left (of_product lent_then p).body) (counts (of_product lent p).body) (counts (of_product lent_then p).body)
      (of_product old p) (of_product new p) (IsTrue (failed p))
  pub headers : (p : SetProduct) → (of_product lent_then p).header ≡ (of_product lent p).header

-- calls for all of them, from one state to the other: a device that failed for good ended the last. What a ground's reader
-- has read is said by `has_read`
pub record InputsHaveRead {M X R : Type 0} (has_read : M × List X → M × List X → Bool → Type 0) (bytes_left : R → Option (List ℕ)) (counts : R → FaultCounts) (start now : Reading M X R) (told : Option Refusal) : Type 0 where
  pub elevations_failed : Bool
  pub product_failed : SetProduct → Bool
  pub exactly : (told ≡ Some ReadFailed) ↔ (IsTrue elevations_failed ⊎ ((p : SetProduct) × IsTrue (product_failed p)))
  pub of_reading : IsOfReading told
  pub elevations : has_read (elevations_at start) (elevations_at now) elevations_failed
  pub products : (p : SetProduct) →
      RasterHasRead (bytes_left (product_body start p)) (bytes_left (product_body now p)) (counts (product_body start p)) (counts (product_body now p))
      (of_product (readers start).rasters p) (of_product (readers now).rasters p) (IsTrue (product_failed p))
  pub headers : (p : SetProduct) → (of_product (products_lent now) p).header ≡ (of_product (products_lent start) p).header

-- the same where an answer says whether some device failed for good
pub record HaveBeenRead {M X R : Type 0} (has_read : M × List X → M × List X → Bool → Type 0) (bytes_left : R → Option (List ℕ)) (counts : R → FaultCounts) (start now : Reading M X R) (Fails : Type 0) : Type 0 where
  pub told : Option Refusal
  pub exactly : (told ≡ Some ReadFailed) ↔ Fails
  pub reads : InputsHaveRead has_read bytes_left counts start now told
