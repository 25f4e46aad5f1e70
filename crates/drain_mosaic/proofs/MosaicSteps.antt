-- The rows of a new mosaic are those of the bodies that the devices give.
use Rattle.drain_mosaic.proofs.Names.{◌≡◌, ℕ, ◌-◌, List, [], ◌∷◌, Option, Some, arith, refl, sym, ap, ◌∙◌, subst, zero, suc, ◌+◌, ◌*◌, ◌/◌, ◌<◌, ◌≤◌, ℤ, ◌++◌, length, map, take, drop, inl, inr, ◌≢◌, get_or, IsTrue, MatchOption, true, false, IsSome, slice_index_or, AllZip, All, option_or, All-nil, All-cons, All-tail, coming_at, nth_row, after_rows, ends_wrong, Coming, Progress, Going, Done, Stopped, Extent, Cell, TileInput, Corner, AreBodies, tile_rows, Tiling, extent_of, top_left_of, Stream, Frame, mosaic_rows, seam_from, wrong_from, cell_at, end_stream, first_from, is_over, is_seam, mosaic_row, next_stream, frame_of, stream_at, tile_streams, given_samples, whole_rows, AreTold, IsAtStart, stream_of, streams_of, HasEnded, HaveEnded, HaveRead, IsRowLaid, first_stopped, if_stopped, NewRowsAreOfBodies, WholeTilesGiveTheirSamples, PlacedRows, cases_lt, lt-ltb, le-ltb, length-take-le, length-drop, get_or_append_left, get_or-append-add, take_all, div-eq-sub-div, div-eq_of_lt, div-eq_of_eq-mul_left, VOID, IsSide, IsTile, samples_of, tile_sample_at, tiles_of, FaultCounts, IsLeastOf, Next, End, Wrong}
use Rattle.std.proofs.Common.{None, cond}
use Rattle.std.proofs.Math.Seq.{take-add}
use Rattle.drain_hgt.proofs.TileSamples.{samples-append, samples-length}
use Rattle.drain_mosaic.proofs.Values.{or_assoc, or_none}
use Rattle.drain_mosaic.proofs.Laying.{first_from-least, row-is}

-- a stream by its place and what is to come
stream : Cell → Progress → ℕ → ℕ → List ℕ → Stream
stream place progress side left body = record { place = place; coming = coming_at progress (tile_rows side left body) }

-- a tile at its start
begins : (t : Tiling) (c : Corner) (p : PlacedRows) (known : Option (List ℕ)) (body : List ℕ) → IsAtStart t c p → known ≡ Some body → stream_of p known ≡ stream_at t c body
unfolding stream
begins t c p known body start told =
    ap (stream_of p) told
    ∙ ap (λ place. stream place p.rows.progress p.rows.side p.rows.left body) start.place_is
    ∙ ap (λ progress. stream (top_left_of t c) progress p.rows.side p.rows.left body) start.going
    ∙ ap (λ side. stream (top_left_of t c) Going side p.rows.left body) start.side_is
    ∙ ap (λ left. stream (top_left_of t c) Going t.side left body) start.left_is

module _ (R : Type 0) (bytes_left : R → Option (List ℕ)) where
  streams-begin : (t : Tiling) (corners : List Corner) (tiles : List PlacedRows) (from : List (TileInput R)) (bodies : List (List ℕ)) → AllZip (IsAtStart t) corners tiles → AreBodies bytes_left from bodies →
      streams_of bytes_left tiles from ≡ tile_streams t corners bodies
  streams-begin t [] [] from bodies starts bodies_are = refl
  streams-begin t [] (p ∷ tiles) from bodies starts bodies_are = absurd starts
  streams-begin t (c ∷ corners) [] from bodies starts bodies_are = absurd starts
  streams-begin t (c ∷ corners) (p ∷ tiles) [] [] starts bodies_are = refl
  streams-begin t (c ∷ corners) (p ∷ tiles) [] (body ∷ bodies) starts bodies_are = absurd bodies_are
  streams-begin t (c ∷ corners) (p ∷ tiles) (x ∷ from) [] starts bodies_are = absurd bodies_are
  streams-begin t (c ∷ corners) (p ∷ tiles) (x ∷ from) (body ∷ bodies) starts bodies_are =
      ap (λ s. s ∷ streams_of bytes_left tiles from) (begins t c p (bytes_left x.body) body starts.0 bodies_are.0)
      ∙ ap (λ ss. stream_at t c body ∷ ss) (streams-begin t corners tiles from bodies starts.1 bodies_are.1)

  told : (from : List (TileInput R)) (bodies : List (List ℕ)) → AreBodies bytes_left from bodies → AreTold bytes_left from
  told [] [] all = All-nil (λ t. IsSome (bytes_left t.body))
  told [] (body ∷ bodies) all = absurd all
  told (x ∷ from) [] all = absurd all
  told (x ∷ from) (body ∷ bodies) all = All-cons (λ t. IsSome (bytes_left t.body)) x from (subst IsSome (sym all.0) refl) (told from bodies all.1)

  pub new_rows_are_of_bodies : NewRowsAreOfBodies bytes_left
  new_rows_are_of_bodies t m from bodies begun all = record {
    told = told from bodies all;
    rows_are = ap (λ progress. coming_at progress (mosaic_rows (frame m.side m.shape) (m.shape.rows - m.row) m.row ss)) begun.going ∙ sized (λ side shape row. mosaic_rows (frame side shape) (shape.rows - row) row ss) ∙ ap (λ n. mosaic_rows (frame_of t) n 0 ss) all_rows ∙ ap (mosaic_rows (frame_of t) (extent_of t).rows 0) is;
    seam_is = ap (λ seam. option_or seam (seam_from (frame m.side m.shape) (m.shape.rows - m.row) m.row ss)) begun.no_seam ∙ sized (λ side shape row. seam_from (frame side shape) (shape.rows - row) row ss) ∙ ap (λ n. seam_from (frame_of t) n 0 ss) all_rows ∙ ap (seam_from (frame_of t) (extent_of t).rows 0) is;
    wrong_is = ap (wrong_from 0) is;
  }
    where
      ss : List Stream
      ss = streams_of bytes_left m.tiles.items from

      is : ss ≡ tile_streams t t.corners bodies
      is = streams-begin t t.corners m.tiles.items from bodies begun.tiles_are all

      all_rows : (extent_of t).rows - 0 ≡ (extent_of t).rows
      all_rows = omega arith

      frame : ℕ → Extent → Frame
      frame side shape = record { side = side; rows = shape.rows; cols = shape.cols }

      sized : {A : Type 0} (f : ℕ → Extent → ℕ → A) → f m.side m.shape m.row ≡ f t.side (extent_of t) 0
      sized f = ap (λ side. f side m.shape m.row) begun.side_is ∙ ap (λ shape. f t.side shape m.row) begun.shape_is ∙ ap (f t.side (extent_of t)) begun.row_is

-- What a tile gives, whatever its length: the samples of its whole rows, and voids past them.

-- a body without a whole row
none_whole : (side : ℕ) (body : List ℕ) → length body < 2 * side → whole_rows side body ≡ []
none_whole side body short = let none : length body / (2 * side) ≡ 0 = div-eq_of_lt short in let nothing : 0 * (2 * side) ≡ 0 = omega arith in ap (λ n. take (n * (2 * side)) body) none ∙ ap (λ n. take n body) nothing

-- a row, and the whole rows after it
one_more : (side : ℕ) (body : List ℕ) → 0 < side → 2 * side ≤ length body → whole_rows side body ≡ take (2 * side) body ++ whole_rows side (drop (2 * side) body)
one_more side body some long =
    let d = 2 * side in
    let positive : 0 < d = omega arith in
    let counted : length body / d ≡ (length body - d) / d + 1 = div-eq-sub-div positive long in
    let behind : length (drop d body) ≡ length body - d = length-drop d body in
    let n = length (drop d body) / d in
    let split : length body / d * d ≡ d + n * d = ap (λ k. k * d) counted ∙ ap (λ k. (k / d + 1) * d) (sym behind) ∙ more n d in
    ap (λ k. take k body) split ∙ take-add d (n * d) body
  where
    more : (n d : ℕ) → (n + 1) * d ≡ d + n * d
    more n d = omega arith

-- the sample of a row at a column
pub row-gives : (side left k col : ℕ) (body : List ℕ) → k < left → col < side → slice_index_or (nth_row k (tile_rows side left body)) col VOID ≡ tile_sample_at side (given_samples side body) k col
row-gives side zero k col body above inside = absurd (omega arith)
row-gives side (suc left) zero col body above inside = elim (cases_lt (length body) (2 * side)) [
  | inl short ↦ rw (lt-ltb (length body) (2 * side) short, none_whole side body short) refl
  | inr long ↦ (
      let even = length-take-le (2 * side) body (omega (arith, long)) in
      let wide = samples-length side (take (2 * side) body) even in
      let place : zero * side + col ≡ col = omega arith in
      rw (le-ltb (length body) (2 * side) (omega (arith, long)), place, one_more side body (omega (arith, inside)) (omega (arith, long)), samples-append side (take (2 * side) body) (whole_rows side (drop (2 * side) body)) even)
      (sym (get_or_append_left (samples_of (take (2 * side) body)) (given_samples side (drop (2 * side) body)) VOID col (omega (arith, wide)))))
]
row-gives side (suc left) (suc k) col body above inside = elim (cases_lt (length body) (2 * side)) [
  | inl short ↦ rw (lt-ltb (length body) (2 * side) short, none_whole side body short) refl
  | inr long ↦ (
      let even = length-take-le (2 * side) body (omega (arith, long)) in
      let wide = samples-length side (take (2 * side) body) even in
      let place : suc k * side + col ≡ length (samples_of (take (2 * side) body)) + (k * side + col) = omega (arith, wide) in
      rw (le-ltb (length body) (2 * side) (omega (arith, long)), place, one_more side body (omega (arith, inside)) (omega (arith, long)), samples-append side (take (2 * side) body) (whole_rows side (drop (2 * side) body)) even)
      (row-gives side left k col (drop (2 * side) body) (omega arith) inside
      ∙ sym (get_or-append-add (samples_of (take (2 * side) body)) (given_samples side (drop (2 * side) body)) (k * side + col) VOID)))
]

-- a tile of the right length gives all its samples
all_whole : (side : ℕ) (body : List ℕ) → IsSide side → IsTile side body → whole_rows side body ≡ body
all_whole side body ok is =
    let d = 2 * side in
    let positive : 0 < d = omega (arith, ok.least) in
    let square : length body ≡ side * d = omega (arith, is) in
    let counted : length body / d ≡ side = div-eq_of_eq-mul_left positive square in
    ap (λ n. take (n * d) body) counted ∙ take_all (side * d) body (omega (arith, square))

all_given : (side : ℕ) (bodies : List (List ℕ)) → IsSide side → All (IsTile side) bodies → map (given_samples side) bodies ≡ map samples_of bodies
all_given side [] ok all = refl
all_given side (body ∷ more) ok all =
    ap (λ (xs : List ℕ). samples_of xs ∷ map (given_samples side) more) (all_whole side body ok (all 0 body (omega arith)))
    ∙ ap (λ (xs : List (List ℤ)). samples_of body ∷ xs) (all_given side more ok (All-tail (IsTile side) body more all))

pub whole_tiles_give_their_samples : WholeTilesGiveTheirSamples
whole_tiles_give_their_samples t bodies layout all = ap (tiles_of t.corners) (all_given t.side bodies layout.side all)

-- One step of a mosaic.

-- the same calls, stated otherwise
pub have-so : {R : Type 0} (bl : R → Option (List ℕ)) (ct : R → FaultCounts) (old cur new : List PlacedRows) (from now : List (TileInput R)) (F G : Type 0) → new ≡ cur → (F → G) → (G → F) → HaveRead bl ct old cur from now F → HaveRead bl ct old new from now G
have-so bl ct old cur new from now F G is there back read = subst (λ (x : List PlacedRows). HaveRead bl ct old x from now G) (sym is) (record {
  failed = read.failed;
  exactly = exactly read.failed read.exactly;
  each = read.each;
})
  where
    exactly : (failed : Option ℕ) → MatchOption failed (F → ⊥) (λ k. (k < length old) × F) → MatchOption failed (G → ⊥) (λ k. (k < length old) × G)
    exactly None never = λ x. never (back x)
    exactly (Some k) h = (h.0, there h.1)

-- the rows to go, with one less
less-one : (rows row : ℕ) → row < rows → rows - row ≡ suc (rows - (row + 1))
less-one rows row inside = omega arith

pub rows-row : (f : Frame) (rows row : ℕ) (xs ys : List Stream) (out : List ℤ) → row < rows → ys ≡ map (next_stream f.side row) xs → out ≡ mosaic_row f row xs →
    mosaic_rows f (rows - row) row xs ≡ Next out (mosaic_rows f (rows - (row + 1)) (row + 1) ys)
rows-row f rows row xs ys out inside next made =
    ap (λ n. mosaic_rows f n row xs) (less-one rows row inside)
    ∙ ap (λ (r : List ℤ). Next r (mosaic_rows f (rows - (row + 1)) (row + 1) (map (next_stream f.side row) xs))) (sym made)
    ∙ ap (λ (ss : List Stream). Next out (mosaic_rows f (rows - (row + 1)) (row + 1) ss)) (sym next)

pub seam-row : (f : Frame) (rows row : ℕ) (xs ys : List Stream) (seam both : Option Cell) (found : Option ℕ) → row < rows → ys ≡ map (next_stream f.side row) xs → first_from (is_seam f.side row xs) 0 f.cols ≡ found →
    both ≡ option_or seam (cell_at row found) → option_or both (seam_from f (rows - (row + 1)) (row + 1) ys) ≡ option_or seam (seam_from f (rows - row) row xs)
seam-row f rows row xs ys seam both found inside next first is =
    ap (λ (o : Option Cell). option_or o (seam_from f (rows - (row + 1)) (row + 1) ys)) is
    ∙ sym (or_assoc seam (cell_at row found) (seam_from f (rows - (row + 1)) (row + 1) ys))
    ∙ ap (λ (o : Option ℕ). option_or seam (option_or (cell_at row o) (seam_from f (rows - (row + 1)) (row + 1) ys))) (sym first)
    ∙ ap (λ (ss : List Stream). option_or seam (option_or (cell_at row (first_from (is_seam f.side row xs) 0 f.cols)) (seam_from f (rows - (row + 1)) (row + 1) ss))) next
    ∙ sym (ap (λ n. option_or seam (seam_from f n row xs)) (less-one rows row inside))

-- after the last row
pub rows-end : (f : Frame) (rows row : ℕ) (xs : List Stream) → row ≡ rows → mosaic_rows f (rows - row) row xs ≡ End
rows-end f rows row xs is = let none : rows - row ≡ 0 = omega arith in ap (λ n. mosaic_rows f n row xs) none

pub seam-end : (f : Frame) (rows row : ℕ) (xs : List Stream) (seam : Option Cell) → row ≡ rows → option_or seam (seam_from f (rows - row) row xs) ≡ seam
seam-end f rows row xs seam is = let none : rows - row ≡ 0 = omega arith in ap (λ n. option_or seam (seam_from f n row xs)) none ∙ or_none seam

-- a row given doesn't change how a tile ends
ends-after : (c : Coming) → ends_wrong (after_rows 1 c) ≡ ends_wrong c
ends-after (Next row more) = refl
ends-after End = refl
ends-after Wrong = refl

ends-next : (side row : ℕ) (s : Stream) → ends_wrong (next_stream side row s).coming ≡ ends_wrong s.coming
ends-next side row s = elim (is_over side row s) as (λ b. ends_wrong (cond b (after_rows 1 s.coming) s.coming) ≡ ends_wrong s.coming) [
  | true ↦ ends-after s.coming
  | false ↦ refl
]

wrong-same : (f : Stream → Stream) → ((s : Stream) → ends_wrong (f s).coming ≡ ends_wrong s.coming) → (k : ℕ) (xs : List Stream) → wrong_from k (map f xs) ≡ wrong_from k xs
wrong-same f same k [] = refl
wrong-same f same k (s ∷ xs) =
    ap (λ b. cond b (Some k) (wrong_from (k + 1) (map f xs))) (same s) ∙ ap (λ (o : Option ℕ). cond (ends_wrong s.coming) (Some k) o) (wrong-same f same (k + 1) xs)

pub wrong-row : (side row : ℕ) (xs ys : List Stream) → ys ≡ map (next_stream side row) xs → wrong_from 0 ys ≡ wrong_from 0 xs
wrong-row side row xs ys next = ap (wrong_from 0) next ∙ wrong-same (next_stream side row) (ends-next side row) 0 xs

pub wrong-end : (xs ys : List Stream) → ys ≡ map end_stream xs → wrong_from 0 ys ≡ wrong_from 0 xs
wrong-end xs ys next = ap (wrong_from 0) next ∙ wrong-same end_stream (λ s. ends-after s.coming) 0 xs

-- a tile that was read to its end is of wrong length exactly where it has stopped
pub wrong-stopped : {R : Type 0} (bl : R → Option (List ℕ)) (tiles : List PlacedRows) (from : List (TileInput R)) (k : ℕ) → length from ≡ length tiles → HaveEnded tiles → wrong_from k (streams_of bl tiles from) ≡ first_stopped k tiles
wrong-stopped bl [] from k same ended = refl
wrong-stopped bl (p ∷ tiles) [] k same ended = absurd (omega arith)
wrong-stopped bl (p ∷ tiles) (t ∷ from) k same ended =
    by_progress p.rows.progress (ended 0 p (omega arith)) _
    ∙ ap (λ (o : Option ℕ). if_stopped k p.rows.progress o) (wrong-stopped bl tiles from (k + 1) (omega arith) (All-tail HasEnded p tiles ended))
  where
    by_progress : (progress : Progress) → progress ≢ Going → (c : Coming) → cond (ends_wrong (coming_at progress c)) (Some k) (wrong_from (k + 1) (streams_of bl tiles from)) ≡ if_stopped k progress (wrong_from (k + 1) (streams_of bl tiles from))
    by_progress Going not c = absurd (not refl)
    by_progress Done not c = refl
    by_progress Stopped not c = refl

-- the first tile that has stopped, by search
pub stopped-skip : (tiles : List PlacedRows) (k i : ℕ) → ((j : ℕ) (p : PlacedRows) → j < i → (get_or tiles j p).rows.progress ≢ Stopped) → length tiles ≤ i → first_stopped k tiles ≡ None
stopped-skip [] k i none whole = refl
stopped-skip (p ∷ tiles) k zero none whole = absurd (omega arith)
stopped-skip (p ∷ tiles) k (suc i) none whole = by_progress p.rows.progress (none 0 p (omega arith)) ∙ stopped-skip tiles (k + 1) i (λ j d less. none (suc j) d (omega arith)) (omega arith)
  where
    by_progress : (progress : Progress) → progress ≢ Stopped → if_stopped k progress (first_stopped (k + 1) tiles) ≡ first_stopped (k + 1) tiles
    by_progress Going not = refl
    by_progress Done not = refl
    by_progress Stopped not = absurd (not refl)

pub stopped-here : (tiles : List PlacedRows) (k i n : ℕ) (d : PlacedRows) → ((j : ℕ) (p : PlacedRows) → j < i → (get_or tiles j p).rows.progress ≢ Stopped) → i < length tiles → (get_or tiles i d).rows.progress ≡ Stopped → k + i ≡ n → first_stopped k tiles ≡ Some n
stopped-here [] k i n d none inside is at = absurd (omega arith)
stopped-here (p ∷ tiles) k zero n d none inside is at = let same : k ≡ n = omega arith in ap (λ (s : Progress). if_stopped k s (first_stopped (k + 1) tiles)) is ∙ ap Some same
stopped-here (p ∷ tiles) k (suc i) n d none inside is at = by_progress p.rows.progress (none 0 p (omega arith)) ∙ stopped-here tiles (k + 1) i n d (λ j e less. none (suc j) e (omega arith)) (omega arith) is (omega arith)
  where
    by_progress : (progress : Progress) → progress ≢ Stopped → if_stopped k progress (first_stopped (k + 1) tiles) ≡ first_stopped (k + 1) tiles
    by_progress Going not = refl
    by_progress Done not = refl
    by_progress Stopped not = absurd (not refl)

-- a row was given
pub mosaic-step : (progress : Progress) (f : Frame) (row : ℕ) (xs ys : List Stream) (out made : List ℤ) (found : Option ℕ) → progress ≡ Going → row < f.rows → ys ≡ map (next_stream f.side row) xs → made ≡ out → length out ≡ f.cols → IsRowLaid f.side row xs out found →
    coming_at progress (mosaic_rows f (f.rows - row) row xs) ≡ Next made (coming_at progress (mosaic_rows f (f.rows - (row + 1)) (row + 1) ys))
mosaic-step progress f row xs ys out made found going inside next is wide laid =
    ap (λ (s : Progress). coming_at s (mosaic_rows f (f.rows - row) row xs)) going
    ∙ rows-row f f.rows row xs ys made inside next (is ∙ row-is f row xs out wide laid.values)
    ∙ ap (λ (y : Coming). Next made y) (sym (ap (λ (s : Progress). coming_at s (mosaic_rows f (f.rows - (row + 1)) (row + 1) ys)) going))

pub seam-step : (f : Frame) (row : ℕ) (xs ys : List Stream) (out : List ℤ) (seam both : Option Cell) (found : Option ℕ) → row < f.rows → ys ≡ map (next_stream f.side row) xs → length out ≡ f.cols → IsRowLaid f.side row xs out found →
    both ≡ option_or seam (cell_at row found) → option_or both (seam_from f (f.rows - (row + 1)) (row + 1) ys) ≡ option_or seam (seam_from f (f.rows - row) row xs)
seam-step f row xs ys out seam both found inside next wide laid is =
    seam-row f f.rows row xs ys seam both found inside next
    (first_from-least (is_seam f.side row xs) f.cols found (subst (λ n. IsLeastOf (λ col. IsTrue (is_seam f.side row xs col)) n found) wide laid.first)) is
