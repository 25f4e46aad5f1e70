-- What new readers of a set are to give: the rows of the bytes.
use Rattle.drain_verdict.proofs.Names.{◌≡◌, List, length, Some, arith, refl, sym, ap, subst, ◌∙◌, ◌⊎◌, inl, inr, coming_at, cases_eq, PerProduct, SetProduct, Dir, Acc, Bas, Rnk, of_product, Fields, raster_coming, raster_rows, RasterRows, RowNumbers, blank, GroundToGive, AreBegun, IsRasterBegun, AreGiven, IsAfter, IsAfterTold, IsRasterAfter, IsRowGiven, ToGive, given, InputRows, by_set_product}
use Rattle.std.proofs.Common.{ℕ, Option}
use Rattle.drain_grid.specs.declared.set_product.SetProduct.TheVariants.{Con}
use Rattle.drain_verdict.specs.Inputs.{Products}

-- what a ground and its products are to give
abbrev pub to_give : GroundToGive → PerProduct Fields → (SetProduct → List ℕ) → ToGive
to_give t hs rasters = record {
  elevations = t;
  product = λ p. raster_rows (of_product hs p) (of_product hs p).rows (of_product hs p).skip (rasters p);
}

-- it holds of all products, or it doesn't, where that is so of each
abbrev all_or_not : (P : SetProduct → Type 0) → ((p : SetProduct) → P p ⊎ ¬ P p) → ((p : SetProduct) → P p) ⊎ ¬ ((p : SetProduct) → P p)
all_or_not P each = elim (each Con) [
  | inr not ↦ inr (λ all. not (all Con))
  | inl con ↦ elim (each Dir) [
    | inr not ↦ inr (λ all. not (all Dir))
    | inl dir ↦ elim (each Acc) [
      | inr not ↦ inr (λ all. not (all Acc))
      | inl acc ↦ elim (each Bas) [
        | inr not ↦ inr (λ all. not (all Bas))
        | inl bas ↦ elim (each Rnk) [
          | inr not ↦ inr (λ all. not (all Rnk))
          | inl rnk ↦ inl (by_set_product P con dir acc bas rnk)
        ]
      ]
    ]
  ]
]

-- some row is the one of that number
abbrev some_row : (t : ToGive) (n : ℕ) → (row : RowNumbers) × IsRowGiven t n row
some_row t n = elim (all_or_not (λ p. length (of_product (given t n).products p) ≡ length (given t n).z) (λ p. cases_eq (length (of_product (given t n).products p)) (length (given t n).z))) [
  | inl even ↦ (given t n, record { even = λ is. refl; uneven = λ no. absurd (no even) })
  | inr uneven ↦ (blank, record { even = λ is. absurd (uneven is); uneven = λ no. refl })
]

abbrev pub row_given : ToGive → ℕ → RowNumbers
row_given t n = (some_row t n).0

pub is_row_given : (t : ToGive) (n : ℕ) → IsRowGiven t n (row_given t n)
is_row_given t n = (some_row t n).1

-- all rows of a raster are to come
raster_starts : (h : Fields) (raster : RasterRows) (bytes : List ℕ) → IsRasterBegun h raster → raster_coming raster bytes ≡ raster_rows h h.rows h.skip bytes
raster_starts h raster bytes begun =
    ap (λ progress. coming_at progress (raster_rows raster.header raster.left raster.gap bytes)) begun.going
    ∙ ap (λ left. raster_rows raster.header left raster.gap bytes) begun.left_is
    ∙ ap (λ gap. raster_rows raster.header h.rows gap bytes) begun.gap_is
    ∙ ap (λ (k : Fields). raster_rows k h.rows h.skip bytes) begun.header_is

raster_after_none : (h : Fields) (raster : RasterRows) (bytes : List ℕ) (known : Option (List ℕ)) → IsRasterBegun h raster → known ≡ Some bytes → IsAfterTold raster known (raster_rows h h.rows h.skip bytes) 0
raster_after_none h raster bytes known begun told =
    let start : IsRasterAfter raster bytes (raster_rows h h.rows h.skip bytes) 0 = record {
      coming_is = raster_starts h raster bytes begun;
      stopped = λ m none. absurd (omega (arith, none));
    } in
    subst (λ (k : Option (List ℕ)). IsAfterTold raster k (raster_rows h h.rows h.skip bytes) 0) (sym told) start

module _ {M X R : Type 0} (after : M → List X → GroundToGive → ℕ → Type 0) (bl : R → Option (List ℕ)) (Begun : M → Type 0) (t : GroundToGive) (hs : PerProduct Fields)
    (rows : InputRows R M) (inputs : List X) (ps : Products R) (rasters : SetProduct → List ℕ) (begun : AreBegun Begun hs rows) (starts : after rows.elevations inputs t 0)
    (raster_are : (p : SetProduct) → bl (of_product ps p).body ≡ Some (rasters p)) where
  -- no row was requested
  pub after_none : IsAfter after bl rows inputs ps (to_give t hs rasters) 0
  after_none = record {
    elevations = starts;
    product = λ p. raster_after_none (of_product hs p) (of_product rows.rasters p) (rasters p) (bl (of_product ps p).body) (begun.raster p) (raster_are p);
  }

  -- the rows of the bytes are to be given
  pub start_given : AreGiven after bl (rows, inputs, ps) (row_given (to_give t hs rasters)) 0
  start_given = record {
    to_give = to_give t hs rasters;
    are_after = after_none;
    rows_are = is_row_given (to_give t hs rasters);
  }
