-- The header of a product is within the bounds of a header.
use Rattle.drain_sets.proofs.Names.{◌≡◌, ℕ, ◌*◌, ◌/◌, ◌≤◌, inl, inr, ℤ, Bool, false, refl, sym, subst, arith, rules, IsFloatNumber, HeightKind, Whole, Single, IsNoData, Fields, IsPixelSize, IsCoordinate, AreWithinBounds, bits_of, header_beside, header_on, no_height}
use Rattle.std.specs.Prelude.{Option, Some, None, IfSome, unwrap_or}
use Rattle.std.proofs.Math.Bridge.{le_prop}
use Rattle.std.proofs.Math.Logic.{∥∥₁_elim}
use Rattle.drain_grid.specs.declared.product.Product.{Product}
use Rattle.drain_grid.specs.declared.product.Product.TheVariants.{Con, Dir, Acc, Bas, Spl, Rnk}
use Rattle.drain_grid.specs.Product.{default_no_data}
use Rattle.drain_header.specs.declared.header.ByteOrdering.TheVariants.{Least}
use Rattle.drain_header.specs.declared.header.Place.{Place}
use Rattle.drain_header.proofs.Bounds.{float_known}

size_ok : (p : Product) → IsPixelSize (bits_of p)
size_ok Con = inr (inl refl)
size_ok Dir = inl refl
size_ok Acc = inr (inr refl)
size_ok Bas = inr (inr refl)
size_ok Spl = inl refl
size_ok Rnk = inr (inr refl)

nodata_ok : (p : Product) → IsNoData (default_no_data p)
nodata_ok Con = record { low = search rules; high = search rules }
nodata_ok Dir = record { low = search rules; high = search rules }
nodata_ok Acc = record { low = search rules; high = search rules }
nodata_ok Bas = record { low = search rules; high = search rules }
nodata_ok Spl = record { low = search rules; high = search rules }
nodata_ok Rnk = record { low = search rules; high = search rules }

-- rows without padding hold their pixels, and aren't too long for a header
row_holds : (p : Product) (cols : ℕ) → cols * bits_of p / 8 ≤ cols * (bits_of p / 8)
row_holds Con cols = omega arith
row_holds Dir cols = omega arith
row_holds Acc cols = omega arith
row_holds Bas cols = omega arith
row_holds Spl cols = omega arith
row_holds Rnk cols = omega arith

row_fits : (p : Product) (cols : ℕ) → cols ≤ 28801 → cols * (bits_of p / 8) ≤ 4294967295
row_fits Con cols few = omega arith
row_fits Dir cols few = omega arith
row_fits Acc cols few = omega arith
row_fits Bas cols few = omega arith
row_fits Spl cols few = omega arith
row_fits Rnk cols few = omega arith

-- the same of pixels of any header
pub packed_holds : (bits cols : ℕ) → ∥ IsPixelSize bits ∥₁ → cols * bits / 8 ≤ cols * (bits / 8)
packed_holds bits cols size = ∥∥₁_elim size le_prop (λ is. elim is [
  | inl it ↦ subst (λ b. cols * b / 8 ≤ cols * (b / 8)) (sym it) (omega arith)
  | inr wider ↦ elim wider [
    | inl it ↦ subst (λ b. cols * b / 8 ≤ cols * (b / 8)) (sym it) (omega arith)
    | inr it ↦ subst (λ b. cols * b / 8 ≤ cols * (b / 8)) (sym it) (omega arith)
  ]
])

pub packed_fits : (bits cols : ℕ) → ∥ IsPixelSize bits ∥₁ → cols ≤ 28801 → cols * (bits / 8) ≤ 4294967295
packed_fits bits cols size few = ∥∥₁_elim size le_prop (λ is. elim is [
  | inl it ↦ subst (λ b. cols * (b / 8) ≤ 4294967295) (sym it) (omega (arith, few))
  | inr wider ↦ elim wider [
    | inl it ↦ subst (λ b. cols * (b / 8) ≤ 4294967295) (sym it) (omega (arith, few))
    | inr it ↦ subst (λ b. cols * (b / 8) ≤ 4294967295) (sym it) (omega (arith, few))
  ]
])

-- the number of a header, or one that no height is, can be a header's
pub con_number : (kind : HeightKind) (o : Option ℤ) → ∥ IfSome o IsNoData ∥₁ → ∥ IsNoData (unwrap_or o (no_height kind)) ∥₁
con_number Whole None ok = ∣ record { low = search rules; high = search rules } ∣₁
con_number Single None ok = ∣ record { low = search rules; high = search rules } ∣₁
con_number kind (Some z) ok = ok

-- whole heights are no floats
pub no_float : {X : Type 0} → Whole ≡ Single → X
no_float is = absurd (let no : ⊥ = cc in no)

-- the no-data number of a header of floats, or that of NaN, is a float's
pub con_float : (kind : HeightKind) (o : Option ℤ) → (kind ≡ Single → ∥ IfSome o IsFloatNumber ∥₁) → kind ≡ Single → IsFloatNumber (unwrap_or o (no_height kind))
con_float Whole o ok single = cc
con_float Single None ok single = inr refl
con_float Single (Some z) ok single = float_known (Some z) (ok single)

-- a header of whole numbers, with the pixels of a product and rows without padding
pub product_bounds : (p : Product) (rows cols bits row_bytes : ℕ) (signed : Bool) (place : Place) (nodata : ℤ) →
    bits ≡ bits_of p → row_bytes ≡ cols * (bits_of p / 8) → nodata ≡ default_no_data p → 1 ≤ rows → rows ≤ 28801 → 1 ≤ cols → cols ≤ 28801 →
    IsCoordinate place.ulx → IsCoordinate place.uly → IsCoordinate place.xdim → IsCoordinate place.ydim →
    AreWithinBounds (record { rows = rows; cols = cols; bits = bits; order = Least; signed = signed; skip = 0; row_bytes = row_bytes; place = place; nodata = Some nodata; kind = Whole })
product_bounds p rows cols bits row_bytes signed place nodata is_bits is_row is_nodata some_row rows_fit some_col cols_fit ulx uly xdim ydim = record {
  some_row = some_row;
  rows_fit = rows_fit;
  some_col = some_col;
  cols_fit = cols_fit;
  bits_ok = ∣ subst IsPixelSize (sym is_bits) (size_ok p) ∣₁;
  skip_fits = omega arith;
  row_bytes_fit = subst (λ n. n ≤ 4294967295) (sym is_row) (row_fits p cols cols_fit);
  row_holds = subst (λ n. cols * bits / 8 ≤ n) (sym is_row) (subst (λ b. cols * b / 8 ≤ cols * (bits_of p / 8)) (sym is_bits) (row_holds p cols));
  ulx_ok = ulx;
  uly_ok = uly;
  xdim_ok = xdim;
  ydim_ok = ydim;
  nodata_ok = ∣ subst IsNoData (sym is_nodata) (nodata_ok p) ∣₁;
  float_bits = no_float;
  float_signed = no_float;
  float_nodata = no_float;
}

-- the header of a product on elevations within the bounds of a header is within them too
beside_bounds : (h : Fields) (p : Product) → AreWithinBounds h → AreWithinBounds (header_beside h p)
beside_bounds h p ok =
    product_bounds p h.rows h.cols (bits_of p) (h.cols * (bits_of p / 8)) false h.place (default_no_data p) refl refl refl ok.some_row ok.rows_fit ok.some_col ok.cols_fit
    ok.ulx_ok ok.uly_ok ok.xdim_ok ok.ydim_ok

pub bounds_on : (h : Fields) (p : Product) → AreWithinBounds h → AreWithinBounds (header_on h p)
bounds_on h Con ok = record {
  some_row = ok.some_row;
  rows_fit = ok.rows_fit;
  some_col = ok.some_col;
  cols_fit = ok.cols_fit;
  bits_ok = ok.bits_ok;
  skip_fits = omega arith;
  row_bytes_fit = packed_fits h.bits h.cols ok.bits_ok ok.cols_fit;
  row_holds = packed_holds h.bits h.cols ok.bits_ok;
  ulx_ok = ok.ulx_ok;
  uly_ok = ok.uly_ok;
  xdim_ok = ok.xdim_ok;
  ydim_ok = ok.ydim_ok;
  nodata_ok = con_number h.kind h.nodata ok.nodata_ok;
  float_bits = ok.float_bits;
  float_signed = ok.float_signed;
  float_nodata = λ single. ∣ con_float h.kind h.nodata ok.float_nodata single ∣₁;
}
bounds_on h Dir ok = beside_bounds h Dir ok
bounds_on h Acc ok = beside_bounds h Acc ok
bounds_on h Bas ok = beside_bounds h Bas ok
bounds_on h Spl ok = beside_bounds h Spl ok
bounds_on h Rnk ok = beside_bounds h Rnk ok
