-- One more row of a raster of elevations, and what its header and its body are to give and have read.
use Rattle.drain_verdict.proofs.Names.{◌≡◌, ◌↔◌, ◌∙◌, ◌+◌, ℤ, Bool, false, IsTrue, List, [], ◌∷◌, length, map, slice_set, Some, None, arith, refl, sym, ap, subst, BadSide, BadName, NoTiles, RepeatedTile, BoxTooLarge, BadDemHeader, BadPixelSize, DemShort, SomeReadFails, TakesAtMost, Coming, coming_at, nth_row, FaultCounts, Stopped, SomeReadFails-one, takes-none, AreWithinBounds, Fields, header_of, RasterRowsEnd, RasterRowsTakeWhatIsNeeded, IsShort, header_extent, needed_len, HasPixelSize, LiesOn, raster_coming, raster_rows, RasterRows, elevations, height_with, length-map, lines_of, DemHasRead, DemRefuses, DemTakesAtMost, DemTexts, EncodesDem, IsDemAfter, IsDemBegun, IsDemHeader, IsDemInput, dem_devices, dem_fields, dem_ground, dem_rows_of, RasterInput, AreGroundRows, GroundToGive, IsLaidOn, IsToldOf, NoneRefusesBefore, ground_row, RasterHasRead, IsRasterBegun, IsAfterTold}
use Rattle.std.proofs.Common.{ℕ, slice_index_or, Option}
use Rattle.drain_pixels.specs.declared.voids.Voids.{Voids}
use Rattle.drain_raster.specs.Elevations.{ElevationRowsArePixels, voids_of}
use Rattle.drain_verdict.proofs.Order.{at_seam, at_tile}
use Rattle.drain_verdict.proofs.RowDevices.{as_one_read, raster_taken}
use Rattle.drain_verdict.proofs.RowReads.{raster_none, raster_then}

-- One more row.

module _ {R : Type 0} (bl : R → Option (List ℕ)) (old new : RasterRows) (voids : Voids) (body : R) (out : List (Option ℤ)) where
  -- of one raster a row more was requested, and this came
  pub dem_more : (from : List (RasterInput R)) (d : RasterInput R) (t : GroundToGive) (n : ℕ) → length from ≡ 1 →
      ((start : Coming) (k : ℕ) → IsAfterTold old (bl (slice_index_or from 0 d).body) start k → IsAfterTold new (bl body) start (k + 1) × (out ≡ elevations voids (nth_row k start))) →
      IsDemAfter bl old voids from t n →
      IsDemAfter bl new voids (slice_set from 0 (record { header = (slice_index_or from 0 d).header; body = body })) t (n + 1) × (out ≡ ground_row t n)
  dem_more [] d t n one step before = absurd before
  dem_more (input ∷ []) d t n one step before =
      let came = step t.rows n before.1 in
      ((before.0, came.0), came.1 ∙ ap (λ (v : Voids). elevations v (nth_row n t.rows)) (sym before.0))
  dem_more (input ∷ other ∷ more) d t n one step before = absurd before

module _ {R : Type 0} (bl : R → Option (List ℕ)) (ct : R → FaultCounts) where
  -- what one call has read
  pub dem_reads : (old new : RasterRows) (body : R) (failed : Bool) (from : List (RasterInput R)) (d : RasterInput R) → length from ≡ 1 →
      RasterHasRead (bl (slice_index_or from 0 d).body) (bl body) (ct (slice_index_or from 0 d).body) (ct body) old new (IsTrue failed) →
      DemHasRead bl ct (old, from) (new, slice_set from 0 (record { header = (slice_index_or from 0 d).header; body = body })) failed
  dem_reads old new body failed [] d one read = absurd (omega (arith, one))
  dem_reads old new body failed (input ∷ []) d one read = record {
    as_many = refl;
    headers = refl;
    raster = λ was now was_is now_is.
        let first : input ≡ was = cc in
        let last : record { header = input.header; body = body } ≡ now = cc in
        subst (λ (y : RasterInput R). RasterHasRead (bl was.body) (bl y.body) (ct was.body) (ct y.body) old new (IsTrue failed)) last
        (subst (λ (x : RasterInput R). RasterHasRead (bl x.body) (bl body) (ct x.body) (ct body) old new (IsTrue failed)) first read);
  }
  dem_reads old new body failed (input ∷ other ∷ more) d one read = absurd (omega (arith, one))

  -- no call was made
  pub dem_read_none : (s : RasterRows × List (RasterInput R)) → DemHasRead bl ct s s false
  dem_read_none s = record {
    as_many = refl;
    headers = refl;
    raster = λ old new old_is new_is.
        let same : old ≡ new = cc in
        subst (λ (y : RasterInput R). RasterHasRead (bl old.body) (bl y.body) (ct old.body) (ct y.body) s.0 s.0 (IsTrue false)) same
        (raster_none (bl old.body) (ct old.body) s.0 (IsTrue false) (λ no. cc));
  }

  -- a list as long as a list of one is a list of one
  only : (xs ys : List (RasterInput R)) (y : RasterInput R) → length xs ≡ length ys → ys ≡ y ∷ [] → (x : RasterInput R) × (xs ≡ x ∷ [])
  only [] ys y same is = let one = ap length is in absurd (omega (arith, same, one))
  only (x ∷ []) ys y same is = (x, refl)
  only (x ∷ z ∷ more) ys y same is = let one = ap length is in absurd (omega (arith, same, one))

  -- calls that didn't fail, and then more
  pub dem_read_then : (a b c : RasterRows × List (RasterInput R)) (failed : Bool) → DemHasRead bl ct a b false → DemHasRead bl ct b c failed → DemHasRead bl ct a c failed
  dem_read_then a b c failed one other = record {
    as_many = other.as_many ∙ one.as_many;
    headers = other.headers ∙ one.headers;
    raster = λ old new old_is new_is.
        let mid = only b.1 a.1 old one.as_many old_is in
        raster_then (bl old.body) (bl mid.0.body) (bl new.body) (ct old.body) (ct mid.0.body) (ct new.body) a.0 b.0 c.0 (IsTrue false) (IsTrue failed) (λ no. cc)
        (one.raster old mid.0 old_is mid.1) (other.raster mid.0 new mid.1 new_is);
  }

  -- nothing was taken
  pub dem_takes_none : (xs : List (RasterInput R)) → DemTakesAtMost bl xs xs
  dem_takes_none xs old new old_is new_is =
      let same : old ≡ new = cc in
      subst (λ (y : RasterInput R). TakesAtMost (needed_len (header_of (lines_of old.header))) (bl old.body) (bl y.body)) same (takes-none _ (bl old.body))

  -- there is one raster, with this header
  pub dem_input : (h : Fields) (xs : List (RasterInput R)) → IsDemInput h xs → (x : RasterInput R) × (xs ≡ x ∷ []) × IsDemHeader h x.header
  dem_input h [] is = absurd is
  dem_input h (x ∷ []) is = (x, refl, is)
  dem_input h (x ∷ y ∷ more) is = absurd is

  pub dem_sized : (h : Fields) (xs : List (RasterInput R)) → IsDemInput h xs → length xs ≡ 1
  dem_sized h xs is = ap length (dem_input h xs is).1

  module _ (h : Fields) (a b : RasterRows × List (RasterInput R)) (failed : Bool) (begun : IsRasterBegun h a.0) (fit : IsDemInput h a.1) (read : DemHasRead bl ct a b failed) where
    -- of a raster from its first row on at most the needed bytes were taken
    pub dem_taken : RasterRowsTakeWhatIsNeeded → DemTakesAtMost bl a.1 b.1
    dem_taken law old new old_is new_is =
        let input = dem_input h a.1 fit in
        let same : input.0 ≡ old = let both = sym input.1 ∙ old_is in cc in
        let is : IsDemHeader h old.header = subst (λ (x : RasterInput R). IsDemHeader h x.header) same input.2 in
        subst (λ (k : Fields). TakesAtMost (needed_len k) (bl old.body) (bl new.body)) is.described.fields
        (raster_taken law h a.0 b.0 (bl old.body) (bl new.body) (ct old.body) (ct new.body) (IsTrue failed) is.bounds begun (read.raster old new old_is new_is))

    -- and a read failed exactly if the device failed for good
    pub dem_fails : SomeReadFails (map ct (dem_devices a.1)) (map ct (dem_devices b.1)) (IsTrue failed)
    dem_fails =
        let old = dem_input h a.1 fit in
        let new = only b.1 a.1 old.0 read.as_many old.1 in
        let one : SomeReadFails (ct old.0.body ∷ []) (ct new.0.body ∷ []) (IsTrue failed) =
        SomeReadFails-one (as_one_read (ct old.0.body) (ct new.0.body) a.0.patience b.0.patience (IsTrue failed) begun.patience_is (read.raster old.0 new.0 old.1 new.1).faults) in
        subst (λ (xs : List (RasterInput R)). SomeReadFails (map ct (dem_devices xs)) (map ct (dem_devices b.1)) (IsTrue failed)) (sym old.1)
        (subst (λ (ys : List (RasterInput R)). SomeReadFails (ct old.0.body ∷ []) (map ct (dem_devices ys)) (IsTrue failed)) (sym new.1) one)

-- What header and body mean.

-- the header of the inputs is that of the texts
pub dem_framed : {R : Type 0} (bl : R → Option (List ℕ)) (h : Fields) (xs : List (RasterInput R)) (d : DemTexts) → IsDemInput h xs → EncodesDem bl xs d → IsDemHeader h d.header
dem_framed bl h [] d is tell = absurd tell
dem_framed bl h (x ∷ []) d is tell = subst (IsDemHeader h) (sym tell.0) is
dem_framed bl h (x ∷ y ∷ more) d is tell = absurd tell

-- no refusal of the header applies
pub dem_none_early : (h : Fields) (d : DemTexts) → IsDemHeader h d.header → NoneRefusesBefore (dem_ground d) 4
dem_none_early h d is BadSide less refuses = refuses
dem_none_early h d is (BadName k) less refuses = refuses
dem_none_early h d is NoTiles less refuses = refuses
dem_none_early h d is (RepeatedTile c) less refuses = refuses
dem_none_early h d is BoxTooLarge less refuses = refuses
dem_none_early h d is (BadDemHeader fault) less refuses = is.described.sound fault refuses.holds
dem_none_early h d is BadPixelSize less refuses = refuses (subst (λ (k : Fields). HasPixelSize k.place) is.described.fields is.sized)
dem_none_early h d is b less refuses = absurd (omega (arith, less))

-- rasters that lie on the header's lie on the ground
pub dem_laid : (h : Fields) (d : DemTexts) → IsDemHeader h d.header → IsLaidOn h.kind (header_extent h) (LiesOn h) (dem_ground d)
dem_laid h d is = record {
  kind_is = ap (λ (k : Fields). k.kind) (sym is.described.fields);
  extent_is = ap header_extent (sym is.described.fields);
  holds_is = λ place. (
    subst (λ (k : Fields). LiesOn k place) (sym is.described.fields),
    subst (λ (k : Fields). LiesOn k place) is.described.fields,
  );
}

-- new readers are to give the rows of the body
pub dem_starts : {R : Type 0} (bl : R → Option (List ℕ)) (h : Fields) (raster : RasterRows) (voids : Voids) (xs : List (RasterInput R)) (d : DemTexts) → EncodesDem bl xs d → IsDemHeader h d.header → IsDemBegun h raster voids →
    IsDemAfter bl raster voids xs (dem_rows_of d) 0
dem_starts bl h raster voids [] d tell is begun = absurd tell
dem_starts bl h raster voids (x ∷ y ∷ more) d tell is begun = absurd tell
dem_starts bl h raster voids (x ∷ []) d tell is begun = (
  ap voids_of (sym is.described.fields) ∙ sym begun.voids_are,
  subst (λ (known : Option (List ℕ)). IsAfterTold raster known (dem_rows_of d).rows 0) (sym tell.1)
      (record { coming_is = raster_starts; stopped = λ m none. absurd (omega (arith, none)) }),
)
  where
    raster_starts : raster_coming raster d.body ≡ (dem_rows_of d).rows
    raster_starts =
        ap (λ progress. coming_at progress (raster_rows raster.header raster.left raster.gap d.body)) begun.begun.going
        ∙ ap (λ left. raster_rows raster.header left raster.gap d.body) begun.begun.left_is ∙ ap (λ gap. raster_rows raster.header h.rows gap d.body) begun.begun.gap_is
        ∙ ap (λ (k : Fields). raster_rows k h.rows h.skip d.body) begun.begun.header_is ∙ ap (λ (k : Fields). raster_rows k k.rows k.skip d.body) is.described.fields

-- the bounds are those of what the text says
dem_bounds : (h : Fields) (d : DemTexts) → IsDemHeader h d.header → AreWithinBounds (dem_fields d)
dem_bounds h d is = subst AreWithinBounds is.described.fields is.bounds

-- if the raster isn't short, no refusal of its length applies
pub dem_whole : (d : DemTexts) → ¬ IsShort (dem_fields d) d.body → IsToldOf (dem_ground d) 5 None
dem_whole d whole = at_tile (λ b. ¬ DemRefuses d b) (λ c no. no) whole

-- else that one
pub dem_short : (d : DemTexts) → IsShort (dem_fields d) d.body → IsToldOf (dem_ground d) 5 (Some DemShort)
dem_short d short = record { kind_is = refl; refuses = short; first = λ b kind less. absurd (omega (arith, less)) }

-- none of values ever applies
pub dem_no_values : (d : DemTexts) → IsToldOf (dem_ground d) 7 None
dem_no_values d = at_seam (λ b. ¬ DemRefuses d b) (λ c no. no)

-- the rows of a raster that isn't short are those of the ground
pub dem_rows : RasterRowsEnd → ElevationRowsArePixels → (h : Fields) (d : DemTexts) → IsDemHeader h d.header → IsToldOf (dem_ground d) 5 None → AreGroundRows (dem_ground d) (dem_rows_of d)
dem_rows ends pixels h d is none =
    let whole : ¬ IsShort (dem_fields d) d.body = none DemShort refl in
    let all = ends (dem_fields d) d.body (dem_bounds h d is) in
    record {
      long = λ row inside. length-map (nth_row row (dem_rows_of d).rows) (height_with (voids_of (dem_fields d))) ∙ all.long row inside whole;
      heights = λ row col inside across. pixels (dem_fields d) d.body row col (dem_bounds h d is) whole inside across;
      none_behind = ap (elevations (voids_of (dem_fields d))) all.none_behind;
    }

-- after all rows the reader has stopped exactly if the raster is short
pub dem_stopped : RasterRowsEnd → {R : Type 0} (bl : R → Option (List ℕ)) (h : Fields) (raster : RasterRows) (voids : Voids) (xs : List (RasterInput R)) (d : DemTexts) → IsDemHeader h d.header →
    IsDemAfter bl raster voids xs (dem_rows_of d) (h.rows + 1) → (raster.progress ≡ Stopped) ↔ IsShort (dem_fields d) d.body
dem_stopped ends bl h raster voids [] d is after = absurd after
dem_stopped ends bl h raster voids (x ∷ y ∷ more) d is after = absurd after
dem_stopped ends bl h raster voids (x ∷ []) d is after =
    told (bl x.body) (subst (λ (k : Fields). IsAfterTold raster (bl x.body) (dem_rows_of d).rows (k.rows + 1)) is.described.fields after.1)
  where
    told : (known : Option (List ℕ)) → IsAfterTold raster known (dem_rows_of d).rows ((dem_fields d).rows + 1) → (raster.progress ≡ Stopped) ↔ IsShort (dem_fields d) d.body
    told None at = absurd at
    told (Some bytes) at =
        let stopped = at.stopped (dem_fields d).rows refl in
        let short = (ends (dem_fields d) d.body (dem_bounds h d is)).short in
        (λ here. short.0 (stopped.0 here), λ here. stopped.1 (short.1 here))
