-- One more row of a mosaic, and what tiles are to give and have read.
use Rattle.drain_verdict.proofs.Names.{◌≡◌, ◌<◌, ◌+◌, ℤ, Bool, false, IsTrue, List, length, Some, None, Ok, arith, refl, sym, ap, subst, ◌∙◌, slice_get, map, get_or-map, length-map, AllZip-long, SomeReadFails, Coming, after_rows, coming_at, nth_row, IsEmptyUnlessRow, Steps, Next, End, Wrong, FaultCounts, Progress, Stopped, RowStep, Row, Ended, VOID, AgreementGivesElevation, OneName, TilesTakeAtMost, names_of, tile_devices, TileInput, IsToldAtEnd, coming_of, seam_to_tell, wrong_to_tell, mosaic_coming, NewRowsAreOfBodies, Tile, TilesAgree, first_value, Corner, Cell, BadTileLength, SeamMismatch, Tiling, extent_of, elevations, height_with, whole_voids, place, AreGroundRows, GroundToGive, IsLaidOn, IsToldOf, NoneRefusesBefore, AreOneElevation, Inputs, input_tiles, set_of, TellTiles, IsPlaced, tile_ground, IsLayoutOf, tiling_of, IsMosaicAfter, IsMosaicBegun, IsMosaicOneMore, IsTilingOf, TileRowLaws, TilesHaveRead, tile_rows_of}
use Rattle.std.proofs.Common.{ℕ, Option}
use Rattle.std.proofs.Math.IntN.{ℤ_discrete}
use Rattle.drain_grid.specs.declared.height_kind.HeightKind.TheVariants.{Whole}
use Rattle.drain_mosaic.specs.PlacedRows.{AreTold, HaveRead, first_stopped}
use Rattle.drain_mosaic.specs.declared.mosaic_rows.MosaicRows.{MosaicRows}
use Rattle.drain_mosaic.proofs.TileReads.{reads-fail, reads-none, reads-told, reads-then, reads-within}
use Rattle.drain_mosaic.proofs.MosaicSteps.{have-so}
use Rattle.drain_verdict.proofs.LayoutAnswers.{layout_is, layout_none}
use Rattle.drain_verdict.proofs.Order.{own_early}
use Rattle.drain_verdict.proofs.RasterSteps.{IsTaken, row_taken, end_taken}
use Rattle.drain_verdict.proofs.TileBodies.{all_given, first_bad_length, first_seam, no_bad_length, no_seam}

-- One more call of a mosaic's rows, after a given number.

-- what a call took of what was to come
taken_by : (step : RowStep) (before left start : Coming) (n : ℕ) (out : List ℤ) → before ≡ after_rows n start → Steps before (Ok step) out left → IsEmptyUnlessRow (Ok step) out → IsTaken start n out left
taken_by Row before left start n out is steps empty = row_taken n start left out (sym is ∙ steps)
taken_by Ended before left start n out is steps empty =
    let taken = end_taken n start (sym is ∙ steps.0) in record { out_is = empty ∙ taken.out_is; left_is = steps.1 ∙ taken.left_is }

-- where no row was to come the call has ended
last : (step : RowStep) (before left : Coming) (out : List ℤ) → before ≡ End → Steps before (Ok step) out left → step ≡ Ended
last Row before left out is steps = absurd (let no : End ≡ Next out left = sym is ∙ steps in cc)
last Ended before left out is steps = refl

pub mosaic_more : {R : Type 0} (bl : R → Option (List ℕ)) (ct : R → FaultCounts) (old new : MosaicRows) (from now : List (TileInput R)) (step : RowStep) (out : List ℤ) (t : GroundToGive) (n : ℕ) (F : Type 0) →
    length now ≡ length from → length from ≡ length old.tiles.items → HaveRead bl ct old.tiles.items new.tiles.items from now F →
    (AreTold bl from → Steps (coming_of bl old from) (Ok step) out (coming_of bl new now)) → IsEmptyUnlessRow (Ok step) out →
    (AreTold bl from → seam_to_tell bl new now ≡ seam_to_tell bl old from) → (AreTold bl from → wrong_to_tell bl new now ≡ wrong_to_tell bl old from) →
    (step ≡ Ended → IsToldAtEnd bl new now) → IsMosaicAfter bl old from t n → IsMosaicOneMore bl new now t n out
mosaic_more {R} bl ct old new from now step out t n F as_many counted read steps empty seam wrong at_end before =
    let told = before.told in
    let taken = taken_by step (coming_of bl old from) (coming_of bl new now) t.rows n out before.coming_is (steps told) empty in
    record {
      after = record {
        voids_are = before.voids_are;
        told = reads-told R bl ct old.tiles.items new.tiles.items from now F as_many counted read told;
        coming_is = taken.left_is;
        seam_is = seam told ∙ before.seam_is;
        wrong_is = wrong told ∙ before.wrong_is;
        at_end = λ m same ended.
            let here : n ≡ m = omega (arith, same) in
            at_end (last step (coming_of bl old from) (coming_of bl new now) out (before.coming_is ∙ subst (λ k. after_rows k t.rows ≡ End) (sym here) ended) (steps told));
      };
      out_is = taken.out_is;
    }

-- What names and bodies mean.

-- the layout of the tiles is that of the inputs
pub tiling_told : OneName → {R : Type 0} (bl : R → Option (List ℕ)) (t : Tiling) (tiles : List (TileInput R)) (i : Inputs) → IsLayoutOf t.side (names_of tiles) t → TellTiles bl t.side tiles i → IsLayoutOf i.side i.names t
tiling_told one bl t tiles i is tell = subst (λ (side : ℕ). IsLayoutOf side i.names t) (sym tell.side_is) (subst (λ (names : List (List ℕ)). IsLayoutOf t.side names t) (sym tell.names_are) is)

-- as many tiles as corners
pub tiles_named : {R : Type 0} (t : Tiling) (tiles : List (TileInput R)) → IsLayoutOf t.side (names_of tiles) t → length tiles ≡ length t.corners
tiles_named t tiles is = sym (AllZip-long _ (names_of tiles) t.corners is.named ∙ length-map tiles (λ t. t.name))

-- and they make its mosaic
pub is_tiling : OneName → {R : Type 0} (bl : R → Option (List ℕ)) (t : Tiling) (tiles : List (TileInput R)) (i : Inputs) → IsLayoutOf t.side (names_of tiles) t → TellTiles bl t.side tiles i → IsTilingOf t i
is_tiling one bl t tiles i is tell = record {
  layout = record { side = is.in_range; sound = is.sound };
  tiling_is = layout_is one i tell.corners_are t (tiling_told one bl t tiles i is tell);
  counted = AllZip-long _ tiles i.tiles tell.tiles_are ∙ tiles_named t tiles is;
}

-- no refusal of a name or of the layout applies
pub tiles_none_early : OneName → {R : Type 0} (bl : R → Option (List ℕ)) (t : Tiling) (tiles : List (TileInput R)) (i : Inputs) → IsLayoutOf t.side (names_of tiles) t → TellTiles bl t.side tiles i → NoneRefusesBefore (tile_ground i) 4
tiles_none_early one bl t tiles i is tell b less refuses =
    layout_none one i tell.corners_are t (tiling_told one bl t tiles i is tell) b less ((own_early (set_of i) b less).refuses refuses)

-- rasters that lie on the layout lie on the ground
pub tiles_laid : (t : Tiling) (i : Inputs) → IsTilingOf t i → IsLaidOn Whole (extent_of t) (IsPlaced t) (tile_ground i)
tiles_laid t i is = record {
  kind_is = refl;
  extent_is = ap extent_of (sym is.tiling_is);
  holds_is = λ place. (
    subst (λ (u : Tiling). IsPlaced u place) (sym is.tiling_is),
    subst (λ (u : Tiling). IsPlaced u place) is.tiling_is,
  );
}

-- new readers are to give the rows of the bodies
pub mosaic_starts : {R : Type 0} (bl : R → Option (List ℕ)) → NewRowsAreOfBodies bl → (t : Tiling) (m : MosaicRows) (tiles : List (TileInput R)) (i : Inputs) → TellTiles bl t.side tiles i → IsTilingOf t i → IsMosaicBegun t m →
    IsMosaicAfter bl m tiles (tile_rows_of i) 0
mosaic_starts bl law t m tiles i tell is begun =
    let here = subst (λ (u : Tiling). IsMosaicBegun u m) is.tiling_is begun in
    let mosaic = law (tiling_of i) m tiles i.tiles here.begun tell.tiles_are in
    record {
      voids_are = refl;
      told = mosaic.told;
      coming_is = mosaic.rows_are;
      seam_is = mosaic.seam_is;
      wrong_is = mosaic.wrong_is;
      at_end = λ m none. absurd (omega (arith, none));
    }

same_value : (v w : ℤ) → ¬ (¬ (v ≡ w)) → v ≡ w
same_value v w h = elim (ℤ_discrete v w) [ yes same ↦ same | no differ ↦ absurd (h differ) ]

-- if no seam has two values, the tiles agree on one elevation raster
pub tiles_agree : AgreementGivesElevation → (i : Inputs) → IsToldOf (tile_ground i) 7 None → AreOneElevation i
tiles_agree law i none = record { tiles_agree = agree; elevation = law (tiling_of i) (input_tiles i) agree }
  where
    agree : TilesAgree (tiling_of i) (input_tiles i)
    agree c v w inside is_v is_w = same_value v w (λ differ. none (SeamMismatch c) refl (inside, record { one = v; other = w; is_one = is_v; is_other = is_w; differ = differ }))

-- the rows of tiles of the right length are those of the ground
pub tiles_rows : TileRowLaws → (t : Tiling) (i : Inputs) → IsTilingOf t i → IsToldOf (tile_ground i) 5 None → AreGroundRows (tile_ground i) (tile_rows_of i)
tiles_rows laws t i is none =
    let here = subst (λ (u : Tiling). IsTilingOf u i) is.tiling_is is in
    record {
      long = λ row inside. length-map (nth_row row (tile_rows_of i).rows) (height_with (whole_voids (Some VOID))) ∙ (laws.rows_whole (tiling_of i) i.tiles).long row inside;
      heights = λ row col inside across.
          get_or-map (height_with (whole_voids (Some VOID))) (nth_row row (tile_rows_of i).rows) col VOID None (subst (λ n. col < n) (sym ((laws.rows_whole (tiling_of i) i.tiles).long row inside)) across)
          ∙ laws.first_values (tiling_of i) i.tiles row col here.layout inside across
          ∙ ap (λ (tiles : List Tile). first_value (tiling_of i) tiles (place row col)) (all_given laws i here.layout here.counted none);
      none_behind = ap (elevations (whole_voids (Some VOID))) (laws.rows_whole (tiling_of i) i.tiles).none_behind;
    }

-- After the last row.

-- a mosaic that has reached its end has not been stopped
not_stopped : (progress : Progress) (rest : Coming) → coming_at progress rest ≡ End → (progress ≡ Stopped → ⊥)
not_stopped progress rest ended stopped =
    let wrong : Wrong ≡ coming_at progress rest = ap (λ (p : Progress). coming_at p rest) (sym stopped) in
    (let no : Wrong ≡ End = wrong ∙ ended in cc)

module _ {R : Type 0} (bl : R → Option (List ℕ)) (laws : TileRowLaws) (t : Tiling) (m : MosaicRows) (tiles : List (TileInput R)) (i : Inputs) (is : IsTilingOf t i)
    (after : IsMosaicAfter bl m tiles (tile_rows_of i) ((extent_of t).rows + 1)) where
  here : IsMosaicAfter bl m tiles (tile_rows_of i) ((extent_of (tiling_of i)).rows + 1)
  here = subst (λ (u : Tiling). IsMosaicAfter bl m tiles (tile_rows_of i) ((extent_of u).rows + 1)) is.tiling_is after

  pub mosaic_goes : (m.progress ≡ Stopped → ⊥)
  mosaic_goes = not_stopped m.progress _ (here.coming_is ∙ sym (end_taken (extent_of (tiling_of i)).rows (mosaic_coming (tiling_of i) i.tiles) (laws.rows_end (tiling_of i) i.tiles)).left_is)

  pub told_at_end : IsToldAtEnd bl m tiles
  told_at_end = here.at_end (extent_of (tiling_of i)).rows refl (laws.rows_end (tiling_of i) i.tiles)

  tiling : IsTilingOf (tiling_of i) i
  tiling = subst (λ (u : Tiling). IsTilingOf u i) is.tiling_is is

  -- the tile that is found is the one to report
  module _ (found : Option ℕ) (told : (m.progress ≡ Stopped → ⊥) → found ≡ first_stopped 0 m.tiles.items) where
    found_is : found ≡ (tile_rows_of i).wrong
    found_is = told mosaic_goes ∙ sym told_at_end.wrong_is ∙ after.wrong_is

    pub length_some : (k : ℕ) (c : Corner) → found ≡ Some k → Some c ≡ slice_get t.corners k → IsToldOf (tile_ground i) 5 (Some (BadTileLength c))
    length_some k c some named =
        first_bad_length laws i tiling.layout tiling.counted found k c found_is some (subst (λ (u : Tiling). slice_get u.corners k ≡ Some c) is.tiling_is (sym named))

    pub length_none : found ≡ None → IsToldOf (tile_ground i) 5 None
    length_none none = no_bad_length laws i tiling.layout tiling.counted found found_is none

  -- and so is the seam
  module _ (whole : IsToldOf (tile_ground i) 5 None) (found : Option Cell) (told : found ≡ m.seam) where
    seam_found : found ≡ (tile_rows_of i).conflict
    seam_found = told ∙ sym told_at_end.seam_is ∙ after.seam_is

    pub seam_some : (c : Cell) → found ≡ Some c → IsToldOf (tile_ground i) 7 (Some (SeamMismatch c))
    seam_some c some = first_seam laws i tiling.layout tiling.counted whole found c seam_found some

    pub seam_none : found ≡ None → IsToldOf (tile_ground i) 7 None
    seam_none none = no_seam laws i tiling.layout tiling.counted whole found seam_found none

-- What was read of tiles.

module _ {R : Type 0} (bl : R → Option (List ℕ)) (ct : R → FaultCounts) where
  -- no call was made
  pub tiles_read_none : (s : MosaicRows × List (TileInput R)) → TilesHaveRead bl ct s s false
  tiles_read_none s = record {
    counted = refl;
    as_many = refl;
    tiles = have-so bl ct s.0.tiles.items s.0.tiles.items s.0.tiles.items s.1 s.1 ⊥ (IsTrue false) refl (λ no. absurd no) (λ no. let wrong = no in cc)
        (reads-none R bl ct s.0.tiles.items s.1);
    names = refl;
  }

  -- calls that didn't fail, and then more
  pub tiles_read_then : (a b c : MosaicRows × List (TileInput R)) (failed : Bool) → TilesHaveRead bl ct a b false → TilesHaveRead bl ct b c failed → TilesHaveRead bl ct a c failed
  tiles_read_then a b c failed one other = record {
    counted = other.counted ∙ one.counted;
    as_many = other.as_many ∙ one.as_many;
    tiles = reads-then R bl ct a.0.tiles.items b.0.tiles.items c.0.tiles.items a.1 b.1 c.1 (IsTrue false) (IsTrue failed) (λ no. cc) one.counted one.tiles other.tiles;
    names = other.names ∙ one.names;
  }

  module _ (t : Tiling) (a b : MosaicRows × List (TileInput R)) (failed : Bool) (begun : IsMosaicBegun t a.0) (fit : IsLayoutOf t.side (names_of a.1) t) (read : TilesHaveRead bl ct a b failed) where
    named : length a.1 ≡ length a.0.tiles.items
    named = tiles_named t a.1 fit ∙ sym begun.counted

    pub tiles_taken : TilesTakeAtMost bl t.side a.1 b.1
    tiles_taken = reads-within R bl ct t a.0.tiles.items b.0.tiles.items a.1 b.1 (IsTrue failed) begun.begun.tiles_are read.counted named (read.as_many ∙ named) read.tiles

    pub tiles_fail : SomeReadFails (map ct (tile_devices a.1)) (map ct (tile_devices b.1)) (IsTrue failed)
    tiles_fail = reads-fail R bl ct t a.0.tiles.items b.0.tiles.items a.1 b.1 (IsTrue failed) begun.begun.tiles_are read.counted named (read.as_many ∙ named) read.tiles
