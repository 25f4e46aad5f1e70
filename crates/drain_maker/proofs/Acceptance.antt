-- The files of products that were made: no refusal of them applies, and they are accepted.
use Rattle.drain_maker.proofs.Names.{◌≡◌, ℕ, ◌*◌, ◌<◌, ◌≤◌, ℤ, ◌-ℤ◌, nat_abs, pos, get_or, inl, inr, List, Option, Some, IsSome, Result, Ok, Err, refl, sym, ap, subst, ◌∙◌, arith, Cell, HeightKind, SetProduct, ProductSet, SinkLine, IsCellOf, index_of, Extent, RulesHold, check_rules, IsAnyRule, IsOffData, default_no_data, Grid, Heights, Pixels, NoDataNumbers, Distances, RowSpacings, spacing_of, unit_spacing, grid_of, number_at, products_of, raster_in, HeaderFault, AnswersOf, DescribesOf, AreWithinBounds, Fields, raster_bytes, ReadBack, BytesReadBack, NumbersArePixels, IsShort, header_extent, pixel_at, AreWithinPixel, LiesOn, Refusal, BadSide, BadName, BoxTooLarge, BadHeader, WrongShape, Misplaced, RasterShort, BadSinkLine, SinkNotData, BadSpacingLine, SpacingRows, ReadFailed, dem_ground, GroundSet, HasShapeIn, IsReadable, set_grid, set_numbers, set_products, Inputs, tiling_of, TilesRefuse, set_of, IsMosaicOf, IsAnswerIn, SetFits, made_header, con_no_data, header_on, dem_elevation, AreRasters, made_numbers, bounds_on}
use Rattle.std.proofs.Common.{slice_get}
use Rattle.drain_grid.specs.declared.product.Product.TheVariants as product
use Rattle.drain_grid.specs.declared.set_product.SetProduct.TheVariants.{Con, Dir, Acc, Bas, Rnk}
use Rattle.drain_grid.specs.SetProduct.{product_of}
use Rattle.drain_grid.specs.SinkTexts.{is_listed, sinks_of}
use Rattle.drain_header.specs.Laws.{TextReadsBack}
use Rattle.drain_mosaic.specs.Tiling as tiling
use Rattle.drain_grid.specs.declared.verdict.Verdict.{Verdict}
use Rattle.drain_grid.specs.declared.verdict.Verdict.TheVariants.{Accepted, Rejected}
use Rattle.drain_rules.specs.Verdicts.{counts_of, IsVerdict}
use Rattle.drain_rules.specs.Laws.{AreEqual, EqualGridsHaveOneVerdict}
use Rattle.drain_answer.specs.declared.refusal.Refusal.TheVariants.{OutOfMemory}
use Rattle.drain_verdict.specs.Given.{HasOtherRows}
use Rattle.drain_verdict.specs.Texts.{kind_in, lines_in, nodata_number, set_fields, set_listed, set_number}
use Rattle.drain_maker.specs.Accepted.{AreGivenSpacings, AreNamed, AreFilesOf, IsMadeAcceptance, MadeIsAccepted, MadeOnDemIsAccepted}
use Rattle.drain_grid.proofs.ByProduct.{none_of_held}
use Rattle.drain_maker.proofs.FileLemmas.{FitHeaders-set}
use Rattle.drain_maker.proofs.Placing.{near_by_names, no_way, side_by_readable}
use Rattle.drain_maker.proofs.MosaicHeaders.{IsSmall, within_bounds, placed}

-- all headers of products have the size and the place of the elevations
one_size : (h : Fields) (p : SetProduct) → header_extent (header_on h (product_of p)) ≡ header_extent h
one_size h Con = refl
one_size h Dir = refl
one_size h Acc = refl
one_size h Bas = refl
one_size h Rnk = refl

one_place : (h : Fields) (p : SetProduct) → (header_on h (product_of p)).place ≡ h.place
one_place h Con = refl
one_place h Dir = refl
one_place h Acc = refl
one_place h Bas = refl
one_place h Rnk = refl

-- con's has their kind of heights, the others whole numbers
one_kind : (h : Fields) (p : SetProduct) → (header_on h (product_of p)).kind ≡ kind_in h.kind p
one_kind h Con = refl
one_kind h Dir = refl
one_kind h Acc = refl
one_kind h Bas = refl
one_kind h Rnk = refl

-- the number of a raster that is read back is that of its bytes
number_in_bytes : NumbersArePixels → (h : Fields) (p : Pixels) (c : Cell) → p.extent ≡ header_extent h → ReadBack h p →
    IsCellOf (header_extent h) c → number_at p c ≡ pixel_at h (raster_bytes h p) c
number_in_bytes numbers h p c shape back inside =
    ap (λ (e : Extent). get_or p.numbers (index_of e c) (pos 0)) shape
    ∙ ap (λ (xs : List ℤ). get_or xs (index_of (header_extent h) c) (pos 0)) (sym back.numbers)
    ∙ numbers h p.nodata (raster_bytes h p) c inside

-- the grid of elevations in memory and of listed sinks, whose rows are spaced so
abbrev grid_with : Extent → (Cell → Option ℤ) → List SinkLine → (ℕ → Distances) → Grid
grid_with e elevation sinks spacing = record { extent = e; elevation = elevation; sink = is_listed sinks; spacing = spacing }

-- that of square cells
abbrev square_with : Extent → (Cell → Option ℤ) → List SinkLine → Grid
square_with e elevation sinks = grid_with e elevation sinks (λ row. unit_spacing)

-- products made for elevations in memory that are those of a ground, whose rasters have this header; and their files
record AreMadeFor (s : GroundSet) (h : Fields) (e : Extent) (elevation : Cell → Option ℤ) (sinks : List SinkLine) (spacings : RowSpacings) (ps : ProductSet) : Type 0 where
  bounds : (p : SetProduct) → AreWithinBounds (header_on h (product_of p))
  readable : (refusal : Refusal) → ¬ s.terrain.Refuses refusal
  kind : h.kind ≡ s.terrain.kind
  size : header_extent h ≡ s.terrain.extent
  shape : e ≡ s.terrain.extent
  elevation_is : (c : Cell) → IsCellOf e c → elevation c ≡ s.terrain.elevation c
  holds : s.terrain.Holds h.place
  listed : sinks_of s.texts.given.sinks ≡ Ok sinks
  given : AreGivenSpacings s.terrain.kind s.texts.given.spacing e spacings
  on_data : (line : ℕ) → ¬ IsOffData (square_with e elevation sinks) sinks line
  fits : SetFits h ps
  pixels : AreRasters ps
  rules : RulesHold (check_rules (made_numbers (con_no_data h))) IsAnyRule (grid_with e elevation sinks (spacing_of spacings)) (products_of ps)
  files : AreFilesOf h s.texts ps

module _ (text : TextReadsBack) (bytes : BytesReadBack) (s : GroundSet) (h : Fields) (e : Extent) (elevation : Cell → Option ℤ) (sinks : List SinkLine) (spacings : RowSpacings) (ps : ProductSet)
    (made : AreMadeFor s h e elevation sinks spacings ps) where
  abbrev at : SetProduct → Fields
  at p = header_on h (product_of p)

  -- each header is read back as what was to be written, and each raster as its numbers
  described : (p : SetProduct) → DescribesOf (kind_in s.terrain.kind p) (s.texts.header p) (at p)
  described p =
      subst (λ (kind : HeightKind). DescribesOf kind (s.texts.header p) (at p)) (one_kind h p ∙ ap (λ (kind : HeightKind). kind_in kind p) made.kind)
      (text (at p) (made.bounds p) (s.texts.header p) (made.files.headers_are p))

  says : (p : SetProduct) → at p ≡ set_fields s.terrain.kind s.texts p
  says p = (described p).fields

  back : (p : SetProduct) → ReadBack (at p) (raster_in ps p)
  back p = let fits = made.fits p tt in bytes (at p) (raster_in ps p) (made.bounds p) (made.pixels p) fits.extent fits.spelled

  -- the lines that list a cell are those of the text
  lines_are : set_listed s.texts ≡ sinks
  lines_are = ap lines_in made.listed

  -- no refusal of a header or a raster
  no_fault : (p : SetProduct) (fault : HeaderFault) → ¬ AnswersOf (kind_in s.terrain.kind p) (s.texts.header p) (Err fault)
  no_fault p fault stands = (described p).sound fault stands.holds

  shaped : (p : SetProduct) → ¬ ¬ HasShapeIn s p
  shaped p stands = stands (ap (λ (k : Fields). header_extent k) (sym (says p)) ∙ (one_size h p ∙ made.size))

  placed_there : (p : SetProduct) → ¬ ¬ s.terrain.Holds (set_fields s.terrain.kind s.texts p).place
  placed_there p stands = stands (subst s.terrain.Holds (sym (one_place h p) ∙ ap (λ (k : Fields). k.place) (says p)) made.holds)

  long : (p : SetProduct) → ¬ IsShort (set_fields s.terrain.kind s.texts p) (s.texts.raster p)
  long p stands =
      (back p).long (subst (λ (k : Fields). IsShort k (raster_bytes (at p) (raster_in ps p))) (sym (says p))
      (subst (λ (body : List ℕ). IsShort (set_fields s.terrain.kind s.texts p) body) (made.files.rasters_are p) stands))

  -- no refusal applies
  none_stands : IsReadable s
  none_stands (BadHeader p fault) stands = none_of_held (λ q. AnswersOf (kind_in s.terrain.kind q) (s.texts.header q) (Err fault)) (λ q. no_fault q fault) p stands
  none_stands (WrongShape p) stands = none_of_held (λ q. ¬ HasShapeIn s q) shaped p stands
  none_stands (Misplaced p) stands = none_of_held (λ q. ¬ s.terrain.Holds (set_fields s.terrain.kind s.texts q).place) placed_there p stands
  none_stands (RasterShort p) stands = none_of_held (λ q. IsShort (set_fields s.terrain.kind s.texts q) (s.texts.raster q)) long p stands
  none_stands (BadSinkLine n) stands = let no : Ok sinks ≡ Err n = sym made.listed ∙ stands in cc
  none_stands (SinkNotData n) stands =
      made.on_data n (record {
        place = stands.place;
        listed = stands.listed;
        is_there = subst (λ (lines : List SinkLine). slice_get lines stands.place ≡ Some stands.listed) lines_are stands.is_there;
        line_is = stands.line_is;
        no_data = λ has. stands.no_data (record {
          inside = subst (λ (x : Extent). IsCellOf x stands.listed.cell) made.shape has.inside;
          is_data = subst (λ (z : Option ℤ). IsSome z) (made.elevation_is stands.listed.cell has.inside) has.is_data;
        });
      })
  none_stands (BadSpacingLine n) stands = made.given.good n stands
  none_stands (SpacingRows n) stands =
      made.given.rows n (subst (λ (x : Extent). HasOtherRows s.texts.given.spacing x n) (sym made.shape) stands)
  none_stands OutOfMemory stands = stands
  none_stands ReadFailed stands = stands
  none_stands refusal stands = made.readable refusal stands

  -- the number of a product at a cell is that of its file
  number_kept : NumbersArePixels → (p : SetProduct) (c : Cell) → IsCellOf e c → number_at (raster_in ps p) c ≡ set_number s.terrain.kind s.texts p c
  number_kept numbers p c inside =
      number_in_bytes numbers (at p) (raster_in ps p) c (made.fits p tt).extent (back p)
      (subst (λ (x : Extent). IsCellOf x c) (made.shape ∙ (sym made.size ∙ sym (one_size h p))) inside)
      ∙ ap (λ (k : Fields). pixel_at k (raster_bytes (at p) (raster_in ps p)) c) (says p)
      ∙ ap (λ (body : List ℕ). pixel_at (set_fields s.terrain.kind s.texts p) body c) (sym (made.files.rasters_are p))

  -- the grid and the products are those of the files
  grids_equal : NumbersArePixels → AreEqual (grid_with e elevation sinks (spacing_of spacings)) (set_grid s) (products_of ps) (set_products s)
  grids_equal numbers = record {
    extent = made.shape;
    values = λ c inside. λ k. record {
      z = made.elevation_is c inside k;
      sink = ap (λ (lines : List SinkLine). is_listed lines c) (sym lines_are) k;
      con = number_kept numbers Con c inside k;
      dir = number_kept numbers Dir c inside k;
      acc = number_kept numbers Acc c inside k;
      bas = number_kept numbers Bas c inside k;
      spl = pos 0;
      rnk = number_kept numbers Rnk c inside k;
    };
    spacing = λ row less. made.given.are row;
  }

  -- the no-data numbers are those of the headers
  numbers_said : made_numbers (con_no_data h) ≡ set_numbers s
  numbers_said = λ k. record {
    con = ap (λ (f : Fields). nodata_number f Con) (says Con) k;
    dir = ap (λ (f : Fields). nodata_number f Dir) (says Dir) k;
    acc = ap (λ (f : Fields). nodata_number f Acc) (says Acc) k;
    bas = ap (λ (f : Fields). nodata_number f Bas) (says Bas) k;
    spl = default_no_data product.Spl;
    rnk = ap (λ (f : Fields). nodata_number f Rnk) (says Rnk) k;
  }

  module _ (numbers : NumbersArePixels) (one_verdict : EqualGridsHaveOneVerdict) where
    -- so the verdict on what was made, an acceptance with its counts, is that on the files
    verdict_kept : IsVerdict (set_grid s) (set_products s) (set_numbers s) (Accepted (counts_of (grid_with e elevation sinks (spacing_of spacings)) (products_of ps)))
    verdict_kept =
        let accepted : Verdict = Accepted (counts_of (grid_with e elevation sinks (spacing_of spacings)) (products_of ps)) in
        subst (λ (n : NoDataNumbers). IsVerdict (set_grid s) (set_products s) n accepted) numbers_said
        (one_verdict (grid_with e elevation sinks (spacing_of spacings)) (set_grid s) (products_of ps) (set_products s) (made_numbers (con_no_data h)) (grids_equal numbers) accepted (made.rules, refl))

    -- and the answer is an acceptance
    answer_is : (answer : Result Verdict Refusal) → IsAnswerIn s answer → IsMadeAcceptance (grid_with e elevation sinks (spacing_of spacings)) (products_of ps) answer
    answer_is (Ok (Accepted counts)) is = is.1.1 ∙ sym verdict_kept.1
    answer_is (Ok (Rejected rule row col)) is =
        let c : Cell = record { row = row; col = col } in
        is.1.fails (verdict_kept.0 c rule is.1.inside is.1.is_own)
    answer_is (Err OutOfMemory) is = tt
    answer_is (Err ReadFailed) is = tt
    answer_is (Err refusal) is = none_stands refusal is.holds

-- Tiles.

-- a mosaic that can be read is of at most 8 by 8 tiles, and on the map
small : (i : Inputs) (e : Heights) → AreNamed i → IsMosaicOf i (tiling_of i) e → IsSmall (tiling_of i)
small i e named mosaic =
    let not_tall : 8 < tiling.tiles_down (tiling_of i) → ⊥ = λ more. mosaic.readable BoxTooLarge (tt, inl more) in
    let not_wide : 8 < tiling.tiles_across (tiling_of i) → ⊥ = λ more. mosaic.readable BoxTooLarge (tt, inr more) in
    record {
      side = side_by_readable i.side (λ no. mosaic.readable BadSide (tt, no));
      down = omega (arith, not_tall);
      across = omega (arith, not_wide);
      near = near_by_names i.side i.names i.corners (λ k bad. mosaic.readable (BadName k) (tt, bad)) named;
    }

tile_bounds : (t : tiling.Tiling) → IsSmall t → (p : SetProduct) → AreWithinBounds (header_on (made_header t product.Con) (product_of p))
tile_bounds t fits Con = within_bounds t product.Con fits
tile_bounds t fits Dir = within_bounds t product.Dir fits
tile_bounds t fits Acc = within_bounds t product.Acc fits
tile_bounds t fits Bas = within_bounds t product.Bas fits
tile_bounds t fits Rnk = within_bounds t product.Rnk fits

tiles_readable : (i : Inputs) (e : Heights) → IsMosaicOf i (tiling_of i) e → (refusal : Refusal) → ¬ TilesRefuse i refusal
tiles_readable i e mosaic (BadHeader p fault) stands = stands
tiles_readable i e mosaic (WrongShape p) stands = stands
tiles_readable i e mosaic (Misplaced p) stands = stands
tiles_readable i e mosaic (RasterShort p) stands = stands
tiles_readable i e mosaic (BadSinkLine n) stands = stands
tiles_readable i e mosaic (SinkNotData n) stands = stands
tiles_readable i e mosaic (BadSpacingLine n) stands = stands
tiles_readable i e mosaic (SpacingRows n) stands = stands
tiles_readable i e mosaic refusal stands = mosaic.readable refusal (tt, stands)

pub made_is_accepted : TextReadsBack → BytesReadBack → NumbersArePixels → EqualGridsHaveOneVerdict → MadeIsAccepted
made_is_accepted text bytes numbers one_verdict i e sinks spacings ps named mosaic listed given made files =
    let fits = small i e named mosaic in
    answer_is text bytes (set_of i) (made_header (tiling_of i) product.Con) e.extent (grid_of e sinks).elevation sinks spacings ps (record {
      bounds = tile_bounds (tiling_of i) fits;
      readable = tiles_readable i e mosaic;
      kind = refl;
      size = refl;
      shape = mosaic.extent_is;
      elevation_is = mosaic.elevation_is;
      holds = placed (tiling_of i) fits.side;
      listed = listed;
      given = given;
      on_data = made.on_data;
      fits = FitHeaders-set (tiling_of i) ps (made.shape ∙ mosaic.extent_is) made.written;
      pixels = made.rasters;
      rules = made.rules;
      files = files;
    }) numbers one_verdict

-- One raster of elevations.

-- a raster lies on itself
on_itself : (times : ℕ) (z size : ℤ) → AreWithinPixel times size z z
on_itself times z size =
    let none : nat_abs (z -ℤ z) ≡ 0 = (let least = no_way 0 z in omega (arith, least)) in
    subst (λ n. times * n ≤ nat_abs size) (sym none) (omega arith)

lies_there : (h : Fields) → LiesOn h h.place
lies_there h = record {
  ulx = on_itself 100 h.place.ulx h.place.xdim;
  uly = on_itself 100 h.place.uly h.place.ydim;
  xdim = on_itself (100 * h.cols) h.place.xdim h.place.xdim;
  ydim = on_itself (100 * h.rows) h.place.ydim h.place.ydim;
}

pub made_on_dem_is_accepted : TextReadsBack → BytesReadBack → NumbersArePixels → EqualGridsHaveOneVerdict → MadeOnDemIsAccepted
made_on_dem_is_accepted text bytes numbers one_verdict d t h p sinks spacings ps dem listed given made files =
    let same = dem.header.described.fields in
    let kind : h.kind ≡ (dem_ground d).kind = ap (λ (k : Fields). k.kind) same in
    answer_is text bytes (record { terrain = dem_ground d; texts = t }) h p.extent (dem_elevation p) sinks spacings ps (record {
      bounds = λ q. bounds_on h (product_of q) dem.header.bounds;
      readable = dem.readable;
      kind = kind;
      size = ap header_extent same;
      shape = dem.extent_is;
      elevation_is = dem.elevation_is;
      holds = subst (λ (k : Fields). LiesOn k h.place) same (lies_there h);
      listed = listed;
      given = subst (λ (k : HeightKind). AreGivenSpacings k t.given.spacing p.extent spacings) kind given;
      on_data = made.on_data;
      fits = made.written;
      pixels = made.rasters;
      rules = made.rules;
      files = files;
    }) numbers one_verdict
