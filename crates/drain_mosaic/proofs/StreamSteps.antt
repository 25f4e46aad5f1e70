-- The streams of a mosaic after n rows: each tile goes on while it lies over them.
use Rattle.drain_mosaic.proofs.Names.{◌≡◌, ℕ, zero, suc, ◌+◌, ◌-◌, ◌<◌, ◌≤◌, ℤ, List, [], ◌∷◌, length, map, max, arith, refl, sym, ap, ◌∙◌, inl, inr, slice_index_or, cases_lt, get_or-map-range_with_len, length-map-range_with_len, VOID, Stream, Frame, first_sample, mosaic_row, mosaic_rows, next_stream, Coming, after_rows, nth_row, Next, End, Wrong, extent_of, frame_of, tile_streams, RowsAreWhole, RowsEnd}
use Rattle.std.proofs.Common.{cond}
use Rattle.drain_mosaic.proofs.Laying.{over-is, over-not}

-- a tile after k rows of the mosaic, from this row on
abbrev pub stream_after : ℕ → ℕ → ℕ → Stream → Stream
stream_after side row zero s = s
stream_after side row (suc k) s = stream_after side (row + 1) k (next_stream side row s)

-- each of them
abbrev pub streams_after : ℕ → ℕ → ℕ → List Stream → List Stream
streams_after side row zero ss = ss
streams_after side row (suc k) ss = streams_after side (row + 1) k (map (next_stream side row) ss)

pub after-nil : (side row k : ℕ) → streams_after side row k [] ≡ []
after-nil side row zero = refl
after-nil side row (suc k) = after-nil side (row + 1) k

pub after-cons : (side row k : ℕ) (s : Stream) (ss : List Stream) → streams_after side row k (s ∷ ss) ≡ stream_after side row k s ∷ streams_after side row k ss
after-cons side row zero s ss = refl
after-cons side row (suc k) s ss = after-cons side (row + 1) k (next_stream side row s) (map (next_stream side row) ss)

-- one row more
pub after-more : (side row k at : ℕ) (ss : List Stream) → row + k ≡ at → map (next_stream side at) (streams_after side row k ss) ≡ streams_after side row (suc k) ss
after-more side row zero at ss is = let same : at ≡ row = omega arith in ap (λ n. map (next_stream side n) ss) same
after-more side row (suc k) at ss is = after-more side (row + 1) k at (map (next_stream side row) ss) (omega arith)

-- a tile stays where it is
pub after-place : (side row k : ℕ) (s : Stream) → (stream_after side row k s).place ≡ s.place
after-place side row zero s = refl
after-place side row (suc k) s = after-place side (row + 1) k (next_stream side row s)

-- rows of what is to come
skip_none : (k : ℕ) → after_rows k End ≡ End
skip_none zero = refl
skip_none (suc k) = refl

skip_wrong : (k : ℕ) → after_rows k Wrong ≡ Wrong
skip_wrong zero = refl
skip_wrong (suc k) = refl

skip-more : (k : ℕ) (c : Coming) → after_rows k (after_rows 1 c) ≡ after_rows (suc k) c
skip-more k (Next row more) = refl
skip-more k End = skip_none k
skip-more k Wrong = skip_wrong k

pub row-after : (k : ℕ) (c : Coming) → nth_row 0 (after_rows k c) ≡ nth_row k c
row-after zero (Next row more) = refl
row-after zero End = refl
row-after zero Wrong = refl
row-after (suc k) (Next row more) = row-after k more
row-after (suc k) End = refl
row-after (suc k) Wrong = refl

-- what is to come of a tile, while it lies over the row or the row is above it
pub after-coming : (side row k : ℕ) (s : Stream) → s.place.row ≤ row + k → row + k < s.place.row + side → (stream_after side row k s).coming ≡ after_rows (row + k - max row s.place.row) s.coming
after-coming side row zero s from to = let none : row + zero - max row s.place.row ≡ 0 = omega arith in ap (λ n. after_rows n s.coming) (sym none)
after-coming side row (suc k) s from to = elim (cases_lt row s.place.row) [
  | inl above ↦ (
      let stays : (next_stream side row s).coming ≡ s.coming = ap (λ b. cond b (after_rows 1 s.coming) s.coming) (over-not side row s (inl above)) in
      let count : row + 1 + k - max (row + 1) s.place.row ≡ row + suc k - max row s.place.row = omega (arith, above) in
      after-coming side (row + 1) k (next_stream side row s) (omega arith) (omega arith) ∙ ap (after_rows (row + 1 + k - max (row + 1) s.place.row)) stays ∙ ap (λ n. after_rows n s.coming) count)
  | inr from_top ↦ (
      let goes : (next_stream side row s).coming ≡ after_rows 1 s.coming = ap (λ b. cond b (after_rows 1 s.coming) s.coming) (over-is side row s (omega (arith, from_top)) (omega arith)) in
      let count : row + 1 + k - max (row + 1) s.place.row ≡ k = omega (arith, from_top) in
      let count_then : suc k ≡ row + suc k - max row s.place.row = omega (arith, from_top) in
      after-coming side (row + 1) k (next_stream side row s) (omega arith) (omega arith) ∙ ap (after_rows (row + 1 + k - max (row + 1) s.place.row)) goes ∙ ap (λ n. after_rows n (after_rows 1 s.coming)) count
      ∙ skip-more k s.coming ∙ ap (λ n. after_rows n s.coming) count_then)
]

-- so its next row is that of its number
pub after-row_of : (side row : ℕ) (s : Stream) → s.place.row ≤ row → row < s.place.row + side → nth_row 0 (stream_after side 0 row s).coming ≡ nth_row (row - s.place.row) s.coming
after-row_of side row s from to =
    let count : 0 + row - max 0 s.place.row ≡ row - s.place.row = omega arith in
    ap (nth_row 0) (after-coming side 0 row s (omega arith) (omega arith) ∙ ap (λ n. after_rows n s.coming) count) ∙ row-after (row - s.place.row) s.coming

-- a row of the mosaic by its number
pub mosaic-nth : (f : Frame) (left row k : ℕ) (ss : List Stream) → k < left → nth_row k (mosaic_rows f left row ss) ≡ mosaic_row f (row + k) (streams_after f.side row k ss)
mosaic-nth f zero row k ss inside = absurd (omega arith)
mosaic-nth f (suc left) row zero ss inside = let same : row + zero ≡ row = omega arith in ap (λ n. mosaic_row f n ss) (sym same)
mosaic-nth f (suc left) row (suc k) ss inside =
    let same : row + 1 + k ≡ row + suc k = omega arith in
    mosaic-nth f left (row + 1) k (map (next_stream f.side row) ss) (omega arith) ∙ ap (λ n. mosaic_row f n (streams_after f.side row (suc k) ss)) same

-- and its number at a column
pub mosaic-at : (f : Frame) (row col : ℕ) (ss : List Stream) → row < f.rows → col < f.cols → slice_index_or (nth_row row (mosaic_rows f f.rows 0 ss)) col VOID ≡ first_sample f.side row col (streams_after f.side 0 row ss)
mosaic-at f row col ss above inside =
    let same : 0 + row ≡ row = omega arith in
    ap (λ (xs : List ℤ). slice_index_or xs col VOID) (mosaic-nth f f.rows 0 row ss above)
    ∙ ap (λ n. slice_index_or (mosaic_row f n (streams_after f.side 0 row ss)) col VOID) same
    ∙ get_or-map-range_with_len (λ c. first_sample f.side row c (streams_after f.side 0 row ss)) 0 f.cols col col VOID inside (omega arith)

-- after all rows comes the end
all-rows : (f : Frame) (left row : ℕ) (ss : List Stream) → after_rows left (mosaic_rows f left row ss) ≡ End
all-rows f zero row ss = refl
all-rows f (suc left) row ss = all-rows f left (row + 1) (map (next_stream f.side row) ss)

pub rows_end : RowsEnd
rows_end t bodies = all-rows (frame_of t) (extent_of t).rows 0 (tile_streams t t.corners bodies)

-- after the last there is none
none-behind : (f : Frame) (left row : ℕ) (ss : List Stream) → nth_row left (mosaic_rows f left row ss) ≡ []
none-behind f zero row ss = refl
none-behind f (suc left) row ss = none-behind f left (row + 1) (map (next_stream f.side row) ss)

-- each has a number for each column
long : (f : Frame) (left row k : ℕ) (ss : List Stream) → k < left → length (nth_row k (mosaic_rows f left row ss)) ≡ f.cols
long f zero row k ss inside = absurd (omega arith)
long f (suc left) row zero ss inside = length-map-range_with_len (λ col. first_sample f.side row col ss) 0 f.cols
long f (suc left) row (suc k) ss inside = long f left (row + 1) k (map (next_stream f.side row) ss) (omega arith)

pub rows_are_whole : RowsAreWhole
rows_are_whole t bodies = record {
  long = λ row inside. long (frame_of t) (extent_of t).rows 0 row (tile_streams t t.corners bodies) inside;
  none_behind = none-behind (frame_of t) (extent_of t).rows 0 (tile_streams t t.corners bodies);
}
