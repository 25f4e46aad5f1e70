-- The answer to the bytes of a set, once all rows are read: the first refusal that applies, or the verdict.
use Rattle.drain_verdict.proofs.Names.{◌≡◌, ◌↔◌, ◌+◌, List, length, Some, None, refl, sym, ap, subst, ◌∙◌, ◌<◌, pos, [], inl, inr, arith, after_rows, nth_row, Wrong, Stopped, PerProduct, SetProduct, of_product, Extent, AreWithinBounds, Fields, RasterRowsEnd, IsShort, raster_rows, RasterRows, Dir, Acc, Bas, Rnk, Spl, set_number_in, OfSetProduct, AreNumbersOf, blank, place, SinkLine, is_listed, Distances, AreRowsOf, IsEven, Refusal, RasterShort, by_set_product, by_set_product_or_spill, of_held, AreGroundRows, GroundToGive, GroundSet, IsRefusalIn, NoneStandsIn, set_grid, set_numbers, set_products, nodata_in, nodata_number, set_fields, set_listed, set_nodata, HasStopped, IsFirstOf, IsShortRefusal, IsToldRefusal, RasterLaws, IsAfter, IsAfterTold, ToGive, given, InputRows}
use Rattle.std.proofs.Common.{ℕ, Option}
use Rattle.drain_raster.specs.Pixels as pixels
use Rattle.std.specs.Prelude.{slice_index_or}
use Rattle.drain_grid.specs.declared.set_product.SetProduct.TheVariants.{Con}
use Rattle.drain_grid.specs.Product.{default_no_data}
use Rattle.drain_verdict.specs.Given.{row_spacing}
use Rattle.drain_verdict.specs.Inputs.{Products}
use Rattle.drain_verdict.proofs.BodyAnswers.{length_none, length_refused, raster_refused, rasters_none, values_none, values_refused}
use Rattle.drain_verdict.proofs.RowGiven.{same_numbers}
use Rattle.drain_verdict.proofs.RowStart.{to_give, is_row_given, row_given}

-- What the rows of a set say of the bytes, once all were read.

-- what the readers hold once all rows were read: the short products
pub record AreAtEnd (e : Extent) (hs : PerProduct Fields) (raster : SetProduct → List ℕ) (Short : SetProduct → Type 0) : Type 0 where
  pub bounds : (p : SetProduct) → AreWithinBounds (of_product hs p)
  pub shapes : (p : SetProduct) → pixels.header_extent (of_product hs p) ≡ e
  pub short_is : (p : SetProduct) → Short p ↔ IsShort (of_product hs p) (raster p)

-- a product's rows have stopped exactly where its body is short
stopped_is_short : RasterRowsEnd → (h : Fields) (body : List ℕ) (raster : RasterRows) (known : Option (List ℕ)) (rows : ℕ) → AreWithinBounds h → h.rows ≡ rows →
    IsAfterTold raster known (raster_rows h h.rows h.skip body) (rows + 1) → (raster.progress ≡ Stopped) ↔ IsShort h body
stopped_is_short law h body raster None rows ok same after = absurd after
stopped_is_short law h body raster (Some bytes) rows ok same after =
    let told = after.stopped rows refl in
    let short = (law h body ok).short in (
      λ stopped. short.0 (subst (λ n. after_rows n (raster_rows h h.rows h.skip body) ≡ Wrong) (sym same) (told.0 stopped)),
      λ is. told.1 (subst (λ n. after_rows n (raster_rows h h.rows h.skip body) ≡ Wrong) same (short.1 is)),
    )

-- so of readers after their last row
pub at_end : {M X R : Type 0} (after : M → List X → GroundToGive → ℕ → Type 0) (bl : R → Option (List ℕ)) (t : GroundToGive) (e : Extent) (hs : PerProduct Fields) (raster : SetProduct → List ℕ)
    (rows : InputRows R M) (inputs : List X) (ps : Products R) → IsAfter after bl rows inputs ps (to_give t hs raster) (e.rows + 1) → RasterLaws → ((p : SetProduct) → AreWithinBounds (of_product hs p)) →
    ((p : SetProduct) → pixels.header_extent (of_product hs p) ≡ e) → AreAtEnd e hs raster (HasStopped rows)
at_end after bl t e hs raster rows inputs ps is_after laws bounds shapes = record {
  bounds = bounds;
  shapes = shapes;
  short_is = λ p. stopped_is_short laws.raster_end (of_product hs p) (raster p) (of_product rows.rasters p) (bl (of_product ps p).body) e.rows (bounds p) (ap (λ (x : Extent). x.rows) (shapes p)) (is_after.product p);
}

module _ (laws : RasterLaws) (s : GroundSet) (hs : PerProduct Fields) (fields : (p : SetProduct) → of_product hs p ≡ set_fields s.terrain.kind s.texts p) {Short : SetProduct → Type 0}
    (at : AreAtEnd s.terrain.extent hs s.texts.raster Short) where
  short_there : (p : SetProduct) → Short p → IsShort (set_fields s.terrain.kind s.texts p) (s.texts.raster p)
  short_there p short = subst (λ (h : Fields). IsShort h (s.texts.raster p)) (fields p) ((at.short_is p).0 short)

  short_back : (p : SetProduct) → IsShort (set_fields s.terrain.kind s.texts p) (s.texts.raster p) → Short p
  short_back p short = (at.short_is p).1 (subst (λ (h : Fields). IsShort h (s.texts.raster p)) (sym (fields p)) short)

  long_enough : ((p : SetProduct) → ¬ Short p) → (p : SetProduct) → ¬ IsShort (of_product hs p) (s.texts.raster p)
  long_enough none p short = none p ((at.short_is p).1 short)

  none_short : ((p : SetProduct) → ¬ Short p) → (p : SetProduct) → ¬ IsShort (set_fields s.terrain.kind s.texts p) (s.texts.raster p)
  none_short none p short = none p (short_back p short)

  short_refused : (refusal : Refusal) → IsShortRefusal Short refusal → NoneStandsIn s 6 → IsRefusalIn s refusal
  short_refused (RasterShort p) first none =
      by_set_product_or_spill (λ p. OfSetProduct (IsFirstOf Short) p → IsRefusalIn s (RasterShort p))
      (λ p is. let first = (of_held (IsFirstOf Short) p).0 is in
      raster_refused s p (short_there p first.holds) (λ q less short. first.before q less (short_back q short)) none)
      (λ no. absurd no) p first
  short_refused refusal bad none = absurd bad

  -- the reported refusal is the first that applies
  pub told_refusal : (refusal : Refusal) → IsToldRefusal s.terrain Short (Some refusal) → NoneStandsIn s 5 → IsRefusalIn s refusal
  told_refusal refusal told none = elim told [
    | inl length ↦ length_refused s refusal length none
    | inr (inl short) ↦ short_refused refusal short.1 (length_none s short.0 none)
    | inr (inr values) ↦ values_refused s refusal values.2 (rasters_none s (none_short values.1) (length_none s values.0 none))
  ]

  -- if nothing is reported, no refusal before the list of sinks applies
  pub told_none : IsToldRefusal s.terrain Short None → NoneStandsIn s 5 → NoneStandsIn s 8
  told_none told before = values_none s told.2 (rasters_none s (none_short told.1) (length_none s told.0 before))

  module _ (t : GroundToGive) (ground_rows : AreGroundRows s.terrain t) (none : (p : SetProduct) → ¬ Short p) where
    abbrev pub rows_to_give : ToGive
    rows_to_give = to_give t hs s.texts.raster

    -- a row of the grid: as many numbers of each as there are columns
    cols_are : (p : SetProduct) → (of_product hs p).cols ≡ s.terrain.extent.cols
    cols_are p = ap (λ (e : Extent). e.cols) (at.shapes p)

    rows_are : (p : SetProduct) → (of_product hs p).rows ≡ s.terrain.extent.rows
    rows_are p = ap (λ (e : Extent). e.rows) (at.shapes p)

    raster_long : (r : ℕ) → r < s.terrain.extent.rows → (p : SetProduct) → length (nth_row r (rows_to_give.product p)) ≡ s.terrain.extent.cols
    raster_long r inside p =
        let same = rows_are p in
        (laws.raster_end (of_product hs p) (s.texts.raster p) (at.bounds p)).long r (omega (arith, inside, same)) (long_enough none p) ∙ cols_are p

    even : (r : ℕ) → r < s.terrain.extent.rows → IsEven (given rows_to_give r)
    even r inside =
        let wide = ground_rows.long r inside in
        let each = λ (p : SetProduct). raster_long r inside p ∙ sym wide in
        by_set_product (λ p. length (of_product (given rows_to_give r).products p) ≡ length (given rows_to_give r).z) (each Con) (each Dir) (each Acc) (each Bas) (each Rnk)

    number_given : (r col : ℕ) → r < s.terrain.extent.rows → col < s.terrain.extent.cols → (p : SetProduct) →
        slice_index_or (nth_row r (rows_to_give.product p)) col (pos 0) ≡ set_number_in (set_products s) p (place r col)
    number_given r col inside across p =
        let down = rows_are p in
        let over = cols_are p in
        laws.raster_pixels (of_product hs p) (s.texts.raster p) r col (at.bounds p) (long_enough none p) (omega (arith, inside, down)) (omega (arith, across, over))
        ∙ ap (λ (h : Fields). pixels.pixel_at h (s.texts.raster p) (place r col)) (fields p) ∙ number_is p
      where
        number_is : (p : SetProduct) → pixels.pixel_at (set_fields s.terrain.kind s.texts p) (s.texts.raster p) (place r col) ≡ set_number_in (set_products s) p (place r col)
        number_is = by_set_product (λ p. pixels.pixel_at (set_fields s.terrain.kind s.texts p) (s.texts.raster p) (place r col) ≡ set_number_in (set_products s) p (place r col)) refl refl refl refl refl

    numbers_given : (r : ℕ) → r < s.terrain.extent.rows → AreNumbersOf (set_grid s) (set_products s) r (given rows_to_give r)
    numbers_given r inside = record {
      inside = inside;
      cols_are = ground_rows.long r inside;
      elevation = λ col across. ground_rows.heights r col inside across;
      products = λ p col across. (let each = number_given r col inside across in
          by_set_product (λ p. slice_index_or (of_product (given rows_to_give r).products p) col (pos 0) ≡ set_number_in (set_products s) p (place r col)) (each Con) (each Dir) (each Acc) (each Bas) (each Rnk) p);
      no_spill = λ col across. refl;
    }

    -- after the last row there is none
    none_given : given rows_to_give s.terrain.extent.rows ≡ blank
    none_given =
        let each = λ (p : SetProduct). subst (λ n. nth_row n (rows_to_give.product p) ≡ []) (rows_are p) (laws.raster_end (of_product hs p) (s.texts.raster p) (at.bounds p)).none_behind in
        same_numbers (given rows_to_give s.terrain.extent.rows) blank ground_rows.none_behind
        (by_set_product (λ p. of_product (given rows_to_give s.terrain.extent.rows).products p ≡ of_product blank.products p) (each Con) (each Dir) (each Acc) (each Bas) (each Rnk))

    blank_even : IsEven blank
    blank_even = by_set_product (λ p. length (of_product blank.products p) ≡ length blank.z) refl refl refl refl refl

    -- the rows that were given are those of the grid and of the products
    pub rows_of_bytes : (sinks : List SinkLine) (spacing : ℕ → Distances) → sinks ≡ set_listed s.texts → ((row : ℕ) → spacing row ≡ row_spacing s.terrain.kind s.texts.given.spacing row) → AreRowsOf (set_grid s) (set_products s) sinks spacing (row_given rows_to_give)
    rows_of_bytes sinks spacing sinks_are spacing_is = record {
      row = λ r inside. subst (AreNumbersOf (set_grid s) (set_products s) r) (sym ((is_row_given rows_to_give r).even (even r inside))) (numbers_given r inside);
      last = (is_row_given rows_to_give s.terrain.extent.rows).even (subst IsEven (sym none_given) blank_even) ∙ none_given;
      sinks_are = λ c inside. ap (λ (lines : List SinkLine). is_listed lines c) (sym sinks_are);
      spaced = λ r inside. sym (spacing_is r);
    }

-- the numbers for no data are the headers'
pub nodata_are : (s : GroundSet) (hs : PerProduct Fields) → ((p : SetProduct) → of_product hs p ≡ set_fields s.terrain.kind s.texts p) → nodata_in hs ≡ set_numbers s
nodata_are s hs fields = λ k. record {
  con = nodata_at Con k;
  dir = nodata_at Dir k;
  acc = nodata_at Acc k;
  bas = nodata_at Bas k;
  spl = default_no_data Spl;
  rnk = nodata_at Rnk k;
}
  where
    nodata_at : (p : SetProduct) → nodata_number (of_product hs p) p ≡ set_nodata s.terrain.kind s.texts p
    nodata_at p = ap (λ (h : Fields). nodata_number h p) (fields p)
