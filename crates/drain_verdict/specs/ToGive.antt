-- What a ground and its products are to give, row by row.
use Rattle.std.specs.Prelude.{◌≡◌, ◌+◌, ◌↔◌}
use Rattle.drain_verdict.specs.Names.{ℕ, ℤ, List, Option, None, MatchOption, Bool, Coming, after_rows, nth_row, Wrong, FaultCounts, Stopped, SetProduct, of_product, per_product, RasterRows, raster_coming, RowNumbers, blank, Refusal}
use Rattle.drain_rows.specs.RowBuffers.{IsEven}
use Rattle.drain_verdict.specs.Ground.{GroundToGive, ground_row}
use Rattle.drain_verdict.specs.InputReads.{InputsHaveRead, Reading, inputs_lent, products_lent, readers}
use Rattle.drain_verdict.specs.Inputs.{Products}
use Rattle.drain_verdict.specs.declared.input_rows.InputRows.{InputRows}

-- what the ground is to give, and the rows of each product
pub record ToGive : Type 0 where
  pub elevations : GroundToGive
  pub product : SetProduct → Coming

-- the rows of this number
abbrev pub given : ToGive → ℕ → RowNumbers
given t n = record { z = ground_row t.elevations n; products = per_product (λ p. nth_row n (t.product p)) }

-- that row; and no row if some product has not as many numbers as there are elevations
pub record IsRowGiven (t : ToGive) (n : ℕ) (row : RowNumbers) : Type 0 where
  pub even : IsEven (given t n) → row ≡ given t n
  pub uneven : ¬ IsEven (given t n) → row ≡ blank

-- n rows of a raster were requested: the others are to come, and it has stopped exactly if the last one was wrong
pub record IsRasterAfter (raster : RasterRows) (bytes : List ℕ) (start : Coming) (n : ℕ) : Type 0 where
  pub coming_is : raster_coming raster bytes ≡ after_rows n start
  pub stopped : (m : ℕ) → n ≡ m + 1 → (raster.progress ≡ Stopped) ↔ (after_rows m start ≡ Wrong)

-- the same where the bytes of the device are known
abbrev pub IsAfterTold : RasterRows → Option (List ℕ) → Coming → ℕ → Type 0
IsAfterTold raster known start n = MatchOption known ⊥ (λ bytes. IsRasterAfter raster bytes start n)

-- one row more was requested, and this came
pub record IsNextRow (raster : RasterRows) (known : Option (List ℕ)) (start : Coming) (n : ℕ) (out : List ℤ) : Type 0 where
  pub after : IsAfterTold raster known start (n + 1)
  pub out_is : out ≡ nth_row n start

-- this number of rows of all was requested; of a ground's reader `after` says it
pub record IsAfter {M X R : Type 0} (after : M → List X → GroundToGive → ℕ → Type 0) (bytes_left : R → Option (List ℕ)) (rows : InputRows R M) (inputs : List X) (ps : Products R) (t : ToGive) (n : ℕ) : Type 0 where
  pub elevations : after rows.elevations inputs t.elevations n
  pub product : (p : SetProduct) → IsAfterTold (of_product rows.rasters p) (bytes_left (of_product ps p).body) (t.product p) n

-- these are the rows to give, from this one on
pub record AreGiven {M X R : Type 0} (after : M → List X → GroundToGive → ℕ → Type 0) (bytes_left : R → Option (List ℕ)) (s : Reading M X R) (rows : ℕ → RowNumbers) (n : ℕ) : Type 0 where
  pub to_give : ToGive
  pub are_after : IsAfter after bytes_left (readers s) (inputs_lent s) (products_lent s) to_give n
  pub rows_are : (k : ℕ) → IsRowGiven to_give k (rows k)

-- n calls for all of them, from one state to the other: what they read, and that n rows more were requested
pub record HaveCome {M X R : Type 0} (after : M → List X → GroundToGive → ℕ → Type 0) (has_read : M × List X → M × List X → Bool → Type 0)
    (bytes_left : R → Option (List ℕ)) (counts : R → FaultCounts) (start now : Reading M X R) (calls : ℕ) (told : Option Refusal) : Type 0 where
  pub reads : InputsHaveRead has_read bytes_left counts start now told
  pub came : told ≡ None → (t : ToGive) (n : ℕ) → IsAfter after bytes_left (readers start) (inputs_lent start) (products_lent start) t n →
      IsAfter after bytes_left (readers now) (inputs_lent now) (products_lent now) t (n + calls)
