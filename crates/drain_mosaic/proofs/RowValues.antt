-- The numbers of a row are samples, as far as tiles were laid over it.
use Rattle.drain_mosaic.proofs.Names.{◌≡◌, ℕ, ◌+◌, ◌-◌, ◌<◌, ◌≤◌, ℤ, List, length, get_or, Option, true, false, int_eq, arith, sym, ◌∙◌, inl, inr, subst, zero, suc, ◌*◌, [], ◌∷◌, Some, slice_get, MatchOption, refl, map, ap, ◌⊎◌, slice_index_or, All, cases_lt, false≢true, VOID, IsSample, IsSide, height_from, IsLaidOver, filled, All-nil, All-cons, same_Some, Corner, IsTile, tile_sample_at, Tiling, top_of, left_of, top_left_of, tile_rows, ends_wrong, nth_row, wrong_from, Stream, first_sample, sample_given, RowsTellLengths, RowsAreFirstValues, tile_streams, frame_of, given_samples, stream_at, IsFirstBadLength, option_or, Cell, Tile, tiles_of, first_value, value_from}
use Rattle.std.proofs.Common.{cond, None}
use Rattle.drain_mosaic.proofs.Places.{any_default}
use Rattle.drain_hgt.proofs.TileEnds.{tile_rows_tell_lengths}
use Rattle.drain_mosaic.proofs.CellValues.{value_is}
use Rattle.drain_mosaic.proofs.Joining.{height_of_filled}
use Rattle.drain_mosaic.proofs.Laying.{over-not, sample-beside, sample-inside, sample-not_over}
use Rattle.drain_mosaic.proofs.StreamSteps.{after-cons, after-nil, after-place, after-row_of, mosaic-at, stream_after, streams_after}
use Rattle.drain_mosaic.proofs.MosaicSteps.{row-gives}

-- a void or the number laid over it
filled-sample : (z s : ℤ) → IsSample z → IsSample s → IsSample (filled z s)
filled-sample z s one other = elim (int_eq z VOID) as (λ b. IsSample (cond b s z)) [
  | true ↦ other
  | false ↦ one
]

pub laid-samples : (left : ℕ) (part old new : List ℤ) (found : Option ℕ) → length new ≡ length old → All IsSample part → All IsSample old → IsLaidOver left part old new found → All IsSample new
laid-samples left part old new found same parts olds laid k d inside = elim (cases_lt k left) [
  | inl before ↦ outside (inl before)
  | inr from ↦ elim (cases_lt k (left + length part)) [
    | inl to ↦ (
        let place : left + (k - left) ≡ k = omega (arith, from) in
        let here = subst (λ c. slice_index_or new c VOID ≡ filled (slice_index_or old c VOID) (slice_index_or part (k - left) VOID)) place (laid.inside (k - left) (omega (arith, from, to))) in
        at (filled (slice_index_or old k VOID) (slice_index_or part (k - left) VOID)) here
        (filled-sample (slice_index_or old k VOID) (slice_index_or part (k - left) VOID) (olds k VOID (omega (arith, same, inside))) (parts (k - left) VOID (omega (arith, from, to)))))
    | inr behind ↦ outside (inr behind)
  ]
]
  where
    at : (z : ℤ) → slice_index_or new k VOID ≡ z → IsSample z → IsSample (get_or new k d)
    at z is sample = subst IsSample (sym (any_default new k d VOID inside ∙ is)) sample

    outside : (k < left) ⊎ (left + length part ≤ k) → IsSample (get_or new k d)
    outside out = at (slice_index_or old k VOID) (laid.outside k out) (olds k VOID (omega (arith, same, inside)))

-- The tile of wrong length that a mosaic reports is the first: by induction on the tiles.

-- a tile that doesn't end wrong is whole
whole : (side : ℕ) (body : List ℕ) → IsSide side → ends_wrong (tile_rows side side body) ≡ false → IsTile side body
whole side body ok right = elim (cases_lt (length body) (2 * (side * side))) [
  | inl less ↦ absurd (false≢true (sym right ∙ (tile_rows_tell_lengths side body).1 (λ is. omega (arith, less, is))))
  | inr at_least ↦ elim (cases_lt (2 * (side * side)) (length body)) [
    | inl more ↦ absurd (false≢true (sym right ∙ (tile_rows_tell_lengths side body).1 (λ is. omega (arith, more, is))))
    | inr at_most ↦ omega (arith, at_least, at_most)
  ]
]

-- what was found of the bodies, counted from k
abbrev IsFoundFrom : ℕ → List (List ℕ) → ℕ → Option ℕ → Type 0
IsFoundFrom side bodies k found = MatchOption found (All (IsTile side) bodies) (λ n. (j : ℕ) × (n ≡ k + j) × IsFirstBadLength side bodies j)

behind : (side : ℕ) (body : List ℕ) (bodies : List (List ℕ)) (k : ℕ) (found : Option ℕ) → IsTile side body → IsFoundFrom side bodies (k + 1) found → IsFoundFrom side (body ∷ bodies) k found
behind side body bodies k None is all = All-cons (IsTile side) body bodies is all
behind side body bodies k (Some n) is h = (
  suc h.0,
  omega (arith, h.1),
  record {
    body = h.2.body;
    body_is = h.2.body_is;
    length_is_not = h.2.length_is_not;
    before = before;
  },
)
  where
    before : (i : ℕ) (earlier : List ℕ) → i < suc h.0 → slice_get (body ∷ bodies) i ≡ Some earlier → IsTile side earlier
    before zero earlier less at = subst (IsTile side) (same_Some body earlier at) is
    before (suc i) earlier less at = h.2.before i earlier (omega (arith, less)) at

found : (t : Tiling) → IsSide t.side → (corners : List Corner) (bodies : List (List ℕ)) (k : ℕ) → length bodies ≡ length corners → IsFoundFrom t.side bodies k (wrong_from k (tile_streams t corners bodies))
found t ok [] [] k same = All-nil (IsTile t.side)
found t ok [] (b ∷ bodies) k same = absurd (omega arith)
found t ok (c ∷ corners) [] k same = absurd (omega arith)
found t ok (c ∷ corners) (b ∷ bodies) k same =
    elim (ends_wrong (tile_rows t.side t.side b)) as (λ w. ends_wrong (tile_rows t.side t.side b) ≡ w → IsFoundFrom t.side (b ∷ bodies) k (cond w (Some k) (wrong_from (k + 1) (tile_streams t corners bodies)))) [
      | true ↦ λ e. (
        0,
        omega arith,
        record {
          body = b;
          body_is = refl;
          length_is_not = (tile_rows_tell_lengths t.side b).0 e;
          before = λ i earlier less at. absurd (omega (arith, less));
        },
      )
      | false ↦ λ e. behind t.side b bodies k (wrong_from (k + 1) (tile_streams t corners bodies)) (whole t.side b ok e) (found t ok corners bodies (k + 1) (omega arith))
    ] refl

from_start : (side : ℕ) (bodies : List (List ℕ)) (o : Option ℕ) → IsFoundFrom side bodies 0 o → MatchOption o (All (IsTile side) bodies) (λ k. IsFirstBadLength side bodies k)
from_start side bodies None all = all
from_start side bodies (Some n) h = let is : h.0 ≡ n = omega (arith, h.1) in subst (IsFirstBadLength side bodies) is h.2

pub rows_tell_lengths : RowsTellLengths
rows_tell_lengths t bodies layout same = from_start t.side bodies (wrong_from 0 (tile_streams t t.corners bodies)) (found t layout.side t.corners bodies 0 same)

-- The rows of a mosaic are the first values of its cells.

-- the tile that gives the samples of a body's whole rows
abbrev pub given_tile : Tiling → Corner → List ℕ → Tile
given_tile t c body = record { corner = c; samples = given_samples t.side body }

-- what a tile gives to a row, after the rows above it
pub stream-value : (t : Tiling) (c : Corner) (body : List ℕ) (row col : ℕ) →
    height_from (sample_given t.side row col (stream_after t.side 0 row (stream_at t c body))) ≡ value_from t (given_tile t c body) (record { row = row; col = col })
stream-value t c body row col = value_is t (given_tile t c body) (record { row = row; col = col }) (height_from sample) (record {
  over = λ from_top to_bottom from_left to_right. ap height_from (here from_top to_bottom from_left to_right);
  beside = λ out. ap height_from (aside out);
})
  where
    begun : Stream
    begun = stream_at t c body

    s : Stream
    s = stream_after t.side 0 row begun

    sample : ℤ
    sample = sample_given t.side row col s

    place : s.place ≡ top_left_of t c
    place = after-place t.side 0 row begun

    top : s.place.row ≡ top_of t c
    top = ap (λ (p : Cell). p.row) place

    left : s.place.col ≡ left_of t c
    left = ap (λ (p : Cell). p.col) place

    here : top_of t c ≤ row → row < top_of t c + t.side → left_of t c ≤ col → col < left_of t c + t.side → sample ≡ tile_sample_at t.side (given_samples t.side body) (row - top_of t c) (col - left_of t c)
    here from_top to_bottom from_left to_right =
        sample-inside t.side row col s (omega (arith, top)) (omega (arith, top)) (omega (arith, left)) (omega (arith, left))
        ∙ ap (λ (xs : List ℤ). slice_index_or xs (col - s.place.col) VOID) (after-row_of t.side row begun from_top to_bottom)
        ∙ ap (λ n. slice_index_or (nth_row (row - top_of t c) (tile_rows t.side t.side body)) (col - n) VOID) left
        ∙ row-gives t.side t.side (row - top_of t c) (col - left_of t c) body (omega arith) (omega arith)

    aside : (row < top_of t c) ⊎ (top_of t c + t.side ≤ row) ⊎ (col < left_of t c) ⊎ (left_of t c + t.side ≤ col) → sample ≡ VOID
    aside (inl above) = sample-not_over t.side row col s (over-not t.side row s (inl (omega (arith, top, above))))
    aside (inr (inl below)) = sample-not_over t.side row col s (over-not t.side row s (inr (omega (arith, top, below))))
    aside (inr (inr (inl before))) = sample-beside t.side row col s (inl (omega (arith, left, before)))
    aside (inr (inr (inr behind))) = sample-beside t.side row col s (inr (omega (arith, left, behind)))

-- the first sample of all tiles
pub first-value : (t : Tiling) (corners : List Corner) (bodies : List (List ℕ)) (row col : ℕ) →
    height_from (first_sample t.side row col (streams_after t.side 0 row (tile_streams t corners bodies))) ≡ first_value t (tiles_of corners (map (given_samples t.side) bodies)) (record { row = row; col = col })
first-value t [] bodies row col = ap (λ (ss : List Stream). height_from (first_sample t.side row col ss)) (after-nil t.side 0 row)
first-value t (c ∷ corners) [] row col = ap (λ (ss : List Stream). height_from (first_sample t.side row col ss)) (after-nil t.side 0 row)
first-value t (c ∷ corners) (body ∷ bodies) row col =
    let s = stream_after t.side 0 row (stream_at t c body) in
    let rest = streams_after t.side 0 row (tile_streams t corners bodies) in
    let cell : Cell = record { row = row; col = col } in
    ap (λ (ss : List Stream). height_from (first_sample t.side row col ss)) (after-cons t.side 0 row (stream_at t c body) (tile_streams t corners bodies))
    ∙ height_of_filled (sample_given t.side row col s) (first_sample t.side row col rest)
    ∙ ap (λ o. option_or o (height_from (first_sample t.side row col rest))) (stream-value t c body row col)
    ∙ ap (option_or (value_from t (given_tile t c body) cell)) (first-value t corners bodies row col)

pub rows_are_first_values : RowsAreFirstValues
rows_are_first_values t bodies row col layout above inside =
    ap height_from (mosaic-at (frame_of t) row col (tile_streams t t.corners bodies) above inside) ∙ first-value t t.corners bodies row col
