-- Readers of a set's rows at their start, and what they report once all rows are read.
use Rattle.std.specs.Prelude.{◌≡◌, ◌<◌, ◌⊎◌}
use Rattle.drain_verdict.specs.Names.{Option, Some, None, MatchOption, full_patience, Going, Stopped, PerProduct, SetProduct, of_product, OfSetProduct, rank_of, AreWithinBounds, Fields, RasterRows, Refusal, RasterShort}
use Rattle.drain_verdict.specs.Ground.{Ground, IsToldOf}
use Rattle.drain_verdict.specs.Inputs.{Products}
use Rattle.drain_verdict.specs.declared.input_rows.InputRows.{InputRows}

-- the first row of a raster with this header is to come
pub record IsRasterBegun (h : Fields) (raster : RasterRows) : Type 0 where
  pub header_is : raster.header ≡ h
  pub left_is : raster.left ≡ h.rows
  pub gap_is : raster.gap ≡ h.skip
  pub going : raster.progress ≡ Going
  pub patience_is : raster.patience ≡ full_patience

-- the first row of each is to come; of a ground's reader `Begun` says it
pub record AreBegun {R M : Type 0} (Begun : M → Type 0) (hs : PerProduct Fields) (rows : InputRows R M) : Type 0 where
  pub elevations : Begun rows.elevations
  pub bounds : (p : SetProduct) → AreWithinBounds (of_product hs p)
  pub raster : (p : SetProduct) → IsRasterBegun (of_product hs p) (of_product rows.rasters p)

-- headers of dir and of what is read as ranks are one if their texts are
abbrev pub AreAlike : {R : Type 0} → Products R → PerProduct Fields → Type 0
AreAlike ps hs = ps.rnk.header ≡ ps.dir.header → hs.rnk ≡ hs.dir

-- the rows of the product have stopped
abbrev pub HasStopped : {R M : Type 0} → InputRows R M → SetProduct → Type 0
HasStopped rows p = (of_product rows.rasters p).progress ≡ Stopped

-- it holds of this product and of none before it
pub record IsFirstOf (Holds : SetProduct → Type 0) (p : SetProduct) : Type 0 where
  pub holds : Holds p
  pub before : (q : SetProduct) → rank_of q < rank_of p → ¬ Holds q

-- the first product of which it holds, if there is one
abbrev pub IsFirstProduct : (SetProduct → Type 0) → Option SetProduct → Type 0
IsFirstProduct Holds found = MatchOption found ((p : SetProduct) → ¬ Holds p) (IsFirstOf Holds)

-- the refusal for the first short product
abbrev pub IsShortRefusal : (SetProduct → Type 0) → Refusal → Type 0
IsShortRefusal Short (RasterShort p) = OfSetProduct (IsFirstOf Short) p
IsShortRefusal Short refusal = ⊥

-- the refusal of the ground's lengths, else for the first short product, else of its values; none if there is none of them
abbrev pub IsToldRefusal : Ground → (SetProduct → Type 0) → Option Refusal → Type 0
IsToldRefusal g Short None = IsToldOf g 5 None × ((p : SetProduct) → ¬ Short p) × IsToldOf g 7 None
IsToldRefusal g Short (Some refusal) =
    IsToldOf g 5 (Some refusal) ⊎ ((IsToldOf g 5 None × IsShortRefusal Short refusal) ⊎ (IsToldOf g 5 None × ((p : SetProduct) → ¬ Short p) × IsToldOf g 7 (Some refusal)))
