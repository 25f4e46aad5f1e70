-- What the stages of tiles alone say of the inputs: their mosaic, or the first refusal of the tiles, in the order of a
-- check without the products.
use Rattle.drain_maker.proofs.Names.{◌≡◌, is_some, ℕ, true, false, List, length, Option, inl, inr, arith, refl, sym, ◌∙◌, ℤ, Some, None, map, subst, ◌≢◌, ◌+◌, take, ap, ◌<◌, cases_lt, Cell, SinkLine, HasData, Heights, FoundOffDataIsRight, IsLeastOff, IsOffAnswer, has_data, elevation_at, grid_of, IsCellOf, Extent, index_of, samples_of, IsTile, tile_length, Tiling, extent_of, first_value, Refusal, Inputs, set_of, TellTiles, place_among, IsSeamFaultAs, IsSeamRefusal, AreSamplesOf, IsElevationOf, IsOfTiles, StandsOfTiles, IsMosaicOf, IsMosaicRefusal, length-take, take_all, ReadsUpTo, IsFirst, TileInput, names_of, BadSide, BadName, NoTiles, RepeatedTile, BoxTooLarge, BadTileLength, SeamMismatch, ReadFailed, refusal_kind, place_in, input_tiles, tiling_of, IsRefusal, IsLayoutOf, IsLayoutRefusal, IsTileRefusal, told_of_inputs}
use Rattle.std.proofs.lemmas.Bool.{lt-ltb, le-ltb}
use Rattle.drain_mosaic.specs.declared.seams.SeamFault.{SeamFault}
use Rattle.drain_mosaic.specs.Laws.{AgreementGivesElevation}
use Rattle.std.specs.List.{All}
use Rattle.drain_hgt.specs.Laws.{OneName}
use Rattle.drain_answer.specs.declared.refusal.Refusal.TheVariants.{OutOfMemory}
use Rattle.drain_verdict.specs.Refusals.{Stands, NoneStandsBefore, refusal_order}
use Rattle.drain_verdict.proofs.Order.{at_header, at_tile, at_raster, at_seam, at_bad_line, at_off_data, none_more, first_of}
use Rattle.drain_verdict.proofs.LayoutAnswers.{layout_is, layout_none, layout_refused}
use Rattle.drain_verdict.proofs.TileBodies.{none_of_another_length, first_of_another_length, none_of_two_values, first_of_two_values}
use Rattle.drain_mosaic.specs.declared.seams.SeamFault.TheVariants as seam
use Rattle.drain_mosaic.specs.Mosaic as mosaic

-- What elevations in memory say of listed sinks.

-- the test of a cell is whether it has data
told : (e : Heights) (sinks : List SinkLine) (c : Cell) → (has_data e c ≡ true → HasData (grid_of e sinks) c) × (has_data e c ≡ false → ¬ HasData (grid_of e sinks) c)
told e sinks c = elim (cases_lt c.row e.extent.rows) [
  | inr past ↦ (
    λ is. absurd (let no : false ≡ true = sym (rw (le-ltb c.row e.extent.rows past) refl) ∙ is in cc),
    λ is has. (let row = has.inside.row in omega (arith, past, row)),
  )
  | inl row ↦ elim (cases_lt c.col e.extent.cols) [
    | inr past ↦ (
      λ is. absurd (let no : false ≡ true = sym (rw (lt-ltb c.row e.extent.rows row, le-ltb c.col e.extent.cols past) refl) ∙ is in cc),
      λ is has. (let col = has.inside.col in omega (arith, past, col)),
    )
    | inl col ↦ (let said : has_data e c ≡ is_some (elevation_at e c) = rw (lt-ltb c.row e.extent.rows row, lt-ltb c.col e.extent.cols col) refl in (
      λ is. record { inside = record { row = row; col = col }; is_data = sym said ∙ is },
      λ is has. (let no : true ≡ false = sym has.is_data ∙ sym said ∙ is in cc),
    ))
  ]
]

-- so the least line that was found is the grid's
pub found_there : FoundOffDataIsRight → (e : Heights) (sinks : List SinkLine) (found : Option ℕ) → IsLeastOff (has_data e) sinks (length sinks) found → IsOffAnswer (grid_of e sinks) sinks found
found_there law e sinks found least = law (grid_of e sinks) sinks (has_data e) found (λ k s at. told e sinks s.cell) least

-- What joined tiles say of the inputs; their elevation is at each cell the first value that a tile gives.

-- what holds of the tiling and its tiles holds of the inputs
pub of_inputs : (P : Tiling → List mosaic.Tile → Type 0) (i : Inputs) (t : Tiling) (samples : List (List ℤ)) → t ≡ tiling_of i → samples ≡ map samples_of i.tiles →
    P t (mosaic.tiles_of t.corners samples) → P (tiling_of i) (input_tiles i)
of_inputs P i t samples tiling_is samples_are holds =
    subst (λ (s : List (List ℤ)). P (tiling_of i) (mosaic.tiles_of i.corners s)) samples_are
    (subst (λ (u : Tiling). P u (mosaic.tiles_of u.corners samples)) tiling_is holds)

-- a fault of the seams gives their refusal
pub fault_refused : (t : Tiling) (samples : List (List ℤ)) (fault : SeamFault) (refusal : Refusal) → IsSeamFaultAs fault refusal →
    ((c : Cell) → fault ≡ seam.SeamMismatch c → mosaic.IsFirstSeam t (mosaic.tiles_of t.corners samples) c) →
    (fault ≡ seam.OutOfMemory → mosaic.TilesAgree t (mosaic.tiles_of t.corners samples)) → IsSeamRefusal t samples refusal
fault_refused t samples (seam.SeamMismatch c) refusal told first agree = subst (IsSeamRefusal t samples) (sym told) (first c refl)
fault_refused t samples seam.OutOfMemory refusal told first agree = subst (IsSeamRefusal t samples) (sym told) (agree refl)

-- two options that are the same value where either is one
options_same : (o p : Option ℤ) → ((v : ℤ) → o ≡ Some v → p ≡ Some v) → ((v : ℤ) → p ≡ Some v → o ≡ Some v) → o ≡ p
options_same None None forth back = refl
options_same None (Some x) forth back = back x refl
options_same (Some x) p forth back = sym (forth x refl)

pub elevation_is_first_value : (t : Tiling) (tiles : List mosaic.Tile) (e : Heights) → AgreementGivesElevation → mosaic.TilesAgree t tiles →
    mosaic.IsElevation t tiles (elevation_at e) → (c : Cell) → IsCellOf (extent_of t) c → elevation_at e c ≡ first_value t tiles c
elevation_is_first_value t tiles e law agree is c inside =
    options_same (elevation_at e c) (first_value t tiles c)
    (λ v at. (law t tiles agree c v inside).1 ((is c v inside).0 at))
    (λ v at. (is c v inside).1 ((law t tiles agree c v inside).0 at))

-- The meaning of a tile's bytes, if they were read up to one byte more than a tile has.

-- what came is the front of the bytes that were left
pub reads-front : (limit : ℕ) (old new : Option (List ℕ)) (body : List ℕ) → ReadsUpTo limit old new body → (bytes : List ℕ) → old ≡ Some bytes → body ≡ take limit bytes
reads-front limit None new body reads bytes is = cc
reads-front limit (Some xs) None body reads bytes is = absurd reads
reads-front limit (Some xs) (Some ys) body reads bytes is = let same : xs ≡ bytes = cc in reads.0 ∙ ap (take limit) same

-- one byte more than a tile has shows that it is longer
front-tile : (n : ℕ) (bytes : List ℕ) → length (take (n + 1) bytes) ≡ n → length bytes ≡ n
front-tile n bytes is = omega (arith, length-take (n + 1) bytes, is)

-- a length that isn't another one is this one
pub length-is : (a b : ℕ) → ((a ≢ b) → ⊥) → a ≡ b
length-is a b not_other = elim (cases_lt a b) [
  | inl less ↦ absurd (not_other (λ e. omega arith))
  | inr not_less ↦ elim (cases_lt b a) [ inl more ↦ absurd (not_other (λ e. omega arith)) | inr not_more ↦ omega arith ]
]

-- the samples of what came are those of the bytes
pub tile-samples : (side n : ℕ) (old new : Option (List ℕ)) (body : List ℕ) (samples : List ℤ) → n ≡ tile_length side → ReadsUpTo (n + 1) old new body →
    IsTile side body → samples ≡ samples_of body → (bytes : List ℕ) → old ≡ Some bytes → IsTile side bytes × (samples ≡ samples_of bytes)
tile-samples side n old new body samples n_is reads whole are bytes is =
    let front = reads-front (n + 1) old new body reads bytes is in
    let long : length bytes ≡ n = front-tile n bytes (ap length (sym front) ∙ whole ∙ sym n_is) in
    let same : body ≡ bytes = front ∙ take_all (n + 1) bytes (omega (arith, long)) in
    (long ∙ n_is, are ∙ ap samples_of same)

-- the lengths of the tiles, said of the inputs
lengths_of : (i : Inputs) (t : Tiling) (samples : List (List ℤ)) → t ≡ tiling_of i → AreSamplesOf t.side i.tiles samples → AreSamplesOf i.side i.tiles samples
lengths_of i t samples is those = subst (λ (u : Tiling). AreSamplesOf u.side i.tiles samples) is those

-- no refusal of the tiles of a kind before this one applies
abbrev pub NoneOfTilesBefore : Inputs → ℕ → Type 0
NoneOfTilesBefore i kind = (refusal : Refusal) → refusal_kind refusal < kind → ¬ StandsOfTiles i refusal

-- the kinds of tiles and seams come after those of headers and rasters, which are no tiles'
past_headers : (i : Inputs) → NoneStandsBefore i 4 → NoneOfTilesBefore i 5
past_headers i none =
    none_more (StandsOfTiles i) 4 (λ b less stands. none b less stands.1)
    (at_header (set_of i) (λ b. ¬ StandsOfTiles i b) (λ b no stands. no stands.1) (λ p fault stands. stands.0) (λ p stands. stands.0) (λ p stands. stands.0))

past_tiles : (i : Inputs) → All (IsTile i.side) i.tiles → NoneOfTilesBefore i 5 → NoneOfTilesBefore i 7
past_tiles i all none =
    none_more (StandsOfTiles i) 6
    (none_more (StandsOfTiles i) 5 none (at_tile (λ b. ¬ StandsOfTiles i b) (λ c stands. none_of_another_length i all c stands.1) (λ stands. stands.1)))
    (at_raster (set_of i) (λ b. ¬ StandsOfTiles i b) (λ b no stands. no stands.1) (λ p stands. stands.0))

past_seams : (i : Inputs) → mosaic.TilesAgree (tiling_of i) (input_tiles i) → NoneOfTilesBefore i 7 → (refusal : Refusal) → ¬ StandsOfTiles i refusal
past_seams i agree none =
    let seams : NoneOfTilesBefore i 8 = none_more (StandsOfTiles i) 7 none (at_seam (λ b. ¬ StandsOfTiles i b) (λ c stands. none_of_two_values i agree c stands.1)) in
    let lines : NoneOfTilesBefore i 9 = none_more (StandsOfTiles i) 8 seams (at_bad_line (λ b. ¬ StandsOfTiles i b) (λ n stands. stands.0)) in
    at_last (none_more (StandsOfTiles i) 9 lines (at_off_data (λ b. ¬ StandsOfTiles i b) (λ n stands. stands.0)))
  where
    at_last : NoneOfTilesBefore i 10 → (refusal : Refusal) → ¬ StandsOfTiles i refusal
    at_last before OutOfMemory stands = stands.1
    at_last before ReadFailed stands = stands.1
    at_last before b stands = before b (omega arith) stands

-- a refusal of the tiles is the first of theirs where it is the first of all
first_of_theirs : (i : Inputs) (refusal : Refusal) → IsOfTiles refusal → IsFirst (refusal_order i) (Stands i) refusal → IsFirst (refusal_order i) (StandsOfTiles i) refusal
first_of_theirs i refusal theirs first = record { holds = (theirs, first.holds); first = λ b before stands. first.first b before stands.1 }

-- so is that of side or names
layout_theirs : (i : Inputs) (side : ℕ) (names : List (List ℕ)) (refusal : Refusal) → IsLayoutRefusal side names refusal → IsRefusal i refusal → IsMosaicRefusal i refusal
layout_theirs i side names OutOfMemory bad first = tt
layout_theirs i side names BadSide bad first = first_of_theirs i BadSide tt first
layout_theirs i side names (BadName k) bad first = first_of_theirs i (BadName k) tt first
layout_theirs i side names NoTiles bad first = first_of_theirs i NoTiles tt first
layout_theirs i side names (RepeatedTile c) bad first = first_of_theirs i (RepeatedTile c) tt first
layout_theirs i side names BoxTooLarge bad first = first_of_theirs i BoxTooLarge tt first
layout_theirs i side names refusal bad first = absurd bad

-- the refusal of the layout is that of the mosaic
pub layout_told : OneName → {R : Type 0} (bytes_left : R → Option (List ℕ)) (side : ℕ) (tiles : List (TileInput R)) (i : Inputs) (refusal : Refusal) →
    TellTiles bytes_left side tiles i → IsLayoutRefusal side (names_of tiles) refusal → IsMosaicRefusal i refusal
layout_told one bytes_left side tiles i refusal tell bad =
    layout_theirs i side (names_of tiles) refusal bad
    (layout_refused one i tell.corners_are refusal (told_of_inputs (λ side names. IsLayoutRefusal side names refusal) i side (names_of tiles) tell.side_is tell.names_are bad))

-- the layout is that of the inputs, and no refusal of the tiles before their lengths applies
pub laid_out : OneName → {R : Type 0} (bytes_left : R → Option (List ℕ)) (side : ℕ) (tiles : List (TileInput R)) (i : Inputs) (t : Tiling) → TellTiles bytes_left side tiles i →
    IsLayoutOf side (names_of tiles) t → (t ≡ tiling_of i) × NoneOfTilesBefore i 5
laid_out one bytes_left side tiles i t tell is =
    let there = told_of_inputs (λ side names. IsLayoutOf side names t) i side (names_of tiles) tell.side_is tell.names_are is in
    (layout_is one i tell.corners_are t there, past_headers i (layout_none one i tell.corners_are t there))

-- the refusal of a tile is that of the mosaic
pub tile_told : (i : Inputs) (t : Tiling) (refusal : Refusal) → t ≡ tiling_of i → IsTileRefusal t i.tiles refusal → NoneOfTilesBefore i 5 → IsMosaicRefusal i refusal
tile_told i t refusal is bad none = here refusal (subst (λ (u : Tiling). IsTileRefusal u i.tiles refusal) is bad)
  where
    here : (refusal : Refusal) → IsTileRefusal (tiling_of i) i.tiles refusal → IsMosaicRefusal i refusal
    here (BadTileLength c) bad =
        let told = first_of_another_length i c bad.0 (λ d repeated. none (RepeatedTile d) (omega arith) (tt, repeated)) bad.1 bad.2 in
        first_of (set_of i) (StandsOfTiles i) 5 (place_among i.corners c) (BadTileLength c) refl (tt, told.0) none
        (at_tile (λ b. place_in (set_of i) b < place_among i.corners c → ¬ StandsOfTiles i b) (λ d less stands. told.1 d less stands.1) (λ less stands. stands.1))
    here OutOfMemory bad = tt
    here ReadFailed bad = tt
    here refusal bad = absurd bad

-- the refusal of a seam is that of the mosaic
pub seam_told : (i : Inputs) (t : Tiling) (samples : List (List ℤ)) (refusal : Refusal) → t ≡ tiling_of i → AreSamplesOf t.side i.tiles samples → IsSeamRefusal t samples refusal →
    NoneOfTilesBefore i 5 → IsMosaicRefusal i refusal
seam_told i t samples (SeamMismatch c) is those first none =
    let e = extent_of (tiling_of i) in
    let told = first_of_two_values i c (of_inputs (λ u tiles. mosaic.IsFirstSeam u tiles c) i t samples is those.samples_are first) in
    first_of (set_of i) (StandsOfTiles i) 7 (index_of e c) (SeamMismatch c) refl (tt, told.0) (past_tiles i (lengths_of i t samples is those).lengths none)
    (at_seam (λ b. place_in (set_of i) b < index_of e c → ¬ StandsOfTiles i b) (λ b less stands. told.1 b less stands.1))
seam_told i t samples OutOfMemory is those bad none = tt
seam_told i t samples ReadFailed is those bad none = tt
seam_told i t samples refusal is those bad none = absurd bad

-- the elevation that was joined is that of the mosaic
pub mosaic_told : AgreementGivesElevation → (i : Inputs) (t : Tiling) (samples : List (List ℤ)) (e : Heights) → t ≡ tiling_of i → AreSamplesOf t.side i.tiles samples →
    IsElevationOf t samples e → NoneOfTilesBefore i 5 → IsMosaicOf i t e
mosaic_told law i t samples e is those joined none =
    let agree = of_inputs mosaic.TilesAgree i t samples is those.samples_are joined.agree in
    let extent : e.extent ≡ extent_of (tiling_of i) = joined.shape ∙ ap extent_of is in
    record {
      readable = past_seams i agree (past_tiles i (lengths_of i t samples is those).lengths none);
      tiling_is = is;
      extent_is = joined.shape;
      elevation_is = λ c inside.
          elevation_is_first_value (tiling_of i) (input_tiles i) e law agree
          (of_inputs (λ u tiles. mosaic.IsElevation u tiles (elevation_at e)) i t samples is those.samples_are joined.values) c
          (subst (λ (x : Extent). IsCellOf x c) extent inside);
    }
