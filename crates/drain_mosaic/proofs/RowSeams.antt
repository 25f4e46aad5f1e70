-- The seam that a mosaic's rows report is the first: a row's seams are its cells with two values; rows come in order.
use Rattle.drain_mosaic.proofs.Names.{◌≡◌, ◌≢◌, ℕ, zero, suc, ◌+◌, ◌<◌, ◌≤◌, ℤ, List, [], ◌∷◌, map, Option, Some, Bool, true, false, ◌||◌, int_eq, IsTrue, MatchOption, arith, refl, sym, ap, ◌∙◌, inl, inr, subst, list_any, option_or, false≢true, cases_lt, or_left, or_right, Decides-int_eq, Cell, VOID, Corner, Tiling, extent_of, ShowsSample, HasTwoValues, IsFirstSeam, IsValue, Tile, TilesAgree, tiles_of, first_value, value_from, AgreeAbove, IsLeastOf, IsSeamAlong, Stream, cell_at, first_from, first_sample, in_conflict, is_seam, next_stream, sample_given, seam_from, RowsTellSeams, frame_of, given_samples, given_tiles, stream_at, tile_streams}
use Rattle.std.proofs.Common.{None, cond}
use Rattle.drain_mosaic.proofs.Agreement.{any_here, any_later, from_gives, gives_from, is_some_first, value_of_first}
use Rattle.drain_mosaic.proofs.Joining.{data_of_height, height_of_data}
use Rattle.drain_mosaic.proofs.Rows.{agree_more, first_seam, tiles_agree}
use Rattle.drain_mosaic.proofs.Laying.{conflict-tests, least-same, tests-conflict}
use Rattle.drain_mosaic.proofs.StreamSteps.{after-cons, after-more, after-nil, stream_after, streams_after}
use Rattle.drain_mosaic.proofs.RowValues.{first-value, given_tile, stream-value}

-- some tile gives the row a sample that is in conflict with z: it gives a value, and z is another
conflict-gives : (t : Tiling) (corners : List Corner) (bodies : List (List ℕ)) (row col : ℕ) (z : ℤ) →
    IsTrue (list_any (λ s. in_conflict z (sample_given t.side row col s)) (streams_after t.side 0 row (tile_streams t corners bodies))) →
    (v : ℤ) × IsValue t (tiles_of corners (map (given_samples t.side) bodies)) (record { row = row; col = col }) v × (z ≢ VOID) × (z ≢ v)
conflict-gives t [] bodies row col z some = absurd (false≢true (sym (ap (list_any (λ s. in_conflict z (sample_given t.side row col s))) (after-nil t.side 0 row)) ∙ some))
conflict-gives t (c ∷ corners) [] row col z some = absurd (false≢true (sym (ap (list_any (λ s. in_conflict z (sample_given t.side row col s))) (after-nil t.side 0 row)) ∙ some))
conflict-gives t (c ∷ corners) (body ∷ bodies) row col z some =
    split (in_conflict z sample) refl (conflict-gives t corners bodies row col z) (sym (ap (list_any (λ s. in_conflict z (sample_given t.side row col s))) (after-cons t.side 0 row (stream_at t c body) (tile_streams t corners bodies))) ∙ some)
  where
    cell : Cell
    cell = record { row = row; col = col }

    tile : Tile
    tile = given_tile t c body

    more : List Tile
    more = tiles_of corners (map (given_samples t.side) bodies)

    sample : ℤ
    sample = sample_given t.side row col (stream_after t.side 0 row (stream_at t c body))

    rest : Bool
    rest = list_any (λ s. in_conflict z (sample_given t.side row col s)) (streams_after t.side 0 row (tile_streams t corners bodies))

    split : (b : Bool) → in_conflict z sample ≡ b → (rest ≡ true → (v : ℤ) × IsValue t more cell v × (z ≢ VOID) × (z ≢ v)) → (b || rest) ≡ true → (v : ℤ) × IsValue t (tile ∷ more) cell v × (z ≢ VOID) × (z ≢ v)
    split true here later any =
        let conflict = tests-conflict z sample here in
        let gives : value_from t tile cell ≡ Some sample = sym (stream-value t c body row col) ∙ height_of_data sample conflict.1 in
        (sample, any_here (λ s. ShowsSample t s cell sample) tile more (gives_from t tile cell sample gives), conflict.0, conflict.2)
    split false here later any =
        let found = later any in
        (found.0, any_later (λ s. ShowsSample t s cell found.0) tile more found.1, found.2, found.3)

-- and the other way round
gives-conflict : (t : Tiling) (corners : List Corner) (bodies : List (List ℕ)) (row col : ℕ) (z v : ℤ) → z ≢ VOID → z ≢ v →
    IsValue t (tiles_of corners (map (given_samples t.side) bodies)) (record { row = row; col = col }) v →
    IsTrue (list_any (λ s. in_conflict z (sample_given t.side row col s)) (streams_after t.side 0 row (tile_streams t corners bodies)))
gives-conflict t [] bodies row col z v solid differ is = absurd (omega (arith, is.2))
gives-conflict t (c ∷ corners) [] row col z v solid differ is = absurd (omega (arith, is.2))
gives-conflict t (c ∷ corners) (body ∷ bodies) row col z v solid differ (zero, x, below, at, gives) =
    let cell : Cell = record { row = row; col = col } in
    let sample = sample_given t.side row col (stream_after t.side 0 row (stream_at t c body)) in
    let rest = list_any (λ s. in_conflict z (sample_given t.side row col s)) (streams_after t.side 0 row (tile_streams t corners bodies)) in
    let here : ShowsSample t (given_tile t c body) cell v = subst (λ (y : Tile). ShowsSample t y cell v) (sym at) gives in
    let is = data_of_height sample v (stream-value t c body row col ∙ from_gives t (given_tile t c body) cell v here) in
    ap (list_any (λ s. in_conflict z (sample_given t.side row col s))) (after-cons t.side 0 row (stream_at t c body) (tile_streams t corners bodies))
    ∙ or_left (in_conflict z sample) rest (conflict-tests z sample (solid, is.1, λ e. differ (e ∙ is.0)))
gives-conflict t (c ∷ corners) (body ∷ bodies) row col z v solid differ (suc k, x, below, at, gives) =
    let sample = sample_given t.side row col (stream_after t.side 0 row (stream_at t c body)) in
    let rest = list_any (λ s. in_conflict z (sample_given t.side row col s)) (streams_after t.side 0 row (tile_streams t corners bodies)) in
    ap (list_any (λ s. in_conflict z (sample_given t.side row col s))) (after-cons t.side 0 row (stream_at t c body) (tile_streams t corners bodies))
    ∙ or_right (in_conflict z sample) rest (gives-conflict t corners bodies row col z v solid differ (k, x, omega (arith, below), at, gives))

-- of the n places from k on this is the first that p holds at, or there is none
abbrev IsFirstFrom : (ℕ → Bool) → ℕ → ℕ → Option ℕ → Type 0
IsFirstFrom p n k found = MatchOption found ((j : ℕ) → k ≤ j → j < k + n → ¬ IsTrue (p j)) (λ s. (k ≤ s) × (s < k + n) × IsTrue (p s) × ((j : ℕ) → k ≤ j → j < s → ¬ IsTrue (p j)))

-- the first place that a search finds is the least
first-from_least : (p : ℕ → Bool) (n k : ℕ) → IsFirstFrom p n k (first_from p k n)
first-from_least p zero k = λ j from to. absurd (omega (arith, from, to))
first-from_least p (suc n) k = elim (p k) as (λ b. p k ≡ b → IsFirstFrom p (suc n) k (cond b (Some k) (first_from p (k + 1) n))) [
  | true ↦ λ e. (omega arith, omega arith, e, λ j from to. absurd (omega (arith, from, to)))
  | false ↦ λ e. behind (first_from p (k + 1) n) e (first-from_least p n (k + 1))
] refl
  where
    not_here : p k ≡ false → (j : ℕ) → k ≤ j → (k + 1 ≤ j → ¬ IsTrue (p j)) → ¬ IsTrue (p j)
    not_here e j from later = elim (cases_lt k j) [
      | inl less ↦ later (omega (arith, less))
      | inr not_less ↦ (let is : j ≡ k = omega (arith, from, not_less) in λ h. false≢true (sym e ∙ sym (ap p is) ∙ h))
    ]

    behind : (found : Option ℕ) → p k ≡ false → IsFirstFrom p n (k + 1) found → IsFirstFrom p (suc n) k found
    behind None e none = λ j from to. not_here e j from (λ later. none j later (omega (arith, to)))
    behind (Some s) e h = (omega (arith, h.0), omega (arith, h.1), h.2, λ j from to. not_here e j from (λ later. h.3 j later to))

first-is_least : (p : ℕ → Bool) (n : ℕ) → IsLeastOf (λ k. IsTrue (p k)) n (first_from p 0 n)
first-is_least p n = from_start (first_from p 0 n) (first-from_least p n 0)
  where
    from_start : (found : Option ℕ) → IsFirstFrom p n 0 found → IsLeastOf (λ k. IsTrue (p k)) n found
    from_start None none = λ k inside. none k (omega arith) (omega arith)
    from_start (Some s) h = (omega (arith, h.1), h.2, λ k before. h.3 k (omega arith) before)

module _ (t : Tiling) (bodies : List (List ℕ)) where
  abbrev begun : List Stream
  begun = tile_streams t t.corners bodies

  abbrev tiles : List Tile
  tiles = given_tiles t bodies

  -- a seam of a row is a cell with two values
  seam-two : (row col : ℕ) → IsTrue (is_seam t.side row (streams_after t.side 0 row begun) col) → HasTwoValues t tiles (record { row = row; col = col })
  seam-two row col seam =
      let z = first_sample t.side row col (streams_after t.side 0 row begun) in
      let cell : Cell = record { row = row; col = col } in
      let other = conflict-gives t t.corners bodies row col z seam in
      let first : first_value t tiles cell ≡ Some z = sym (first-value t t.corners bodies row col) ∙ height_of_data z other.2 in
      record { one = z; other = other.0; is_one = value_of_first t tiles cell z first; is_other = other.1; differ = other.3 }

  two-seam : (row col : ℕ) → HasTwoValues t tiles (record { row = row; col = col }) → IsTrue (is_seam t.side row (streams_after t.side 0 row begun) col)
  two-seam row col two =
      let z = first_sample t.side row col (streams_after t.side 0 row begun) in
      let cell : Cell = record { row = row; col = col } in
      let first = is_some_first t tiles cell two.one two.is_one in
      let is = data_of_height z first.0 (first-value t t.corners bodies row col ∙ first.1) in
      elim (int_eq z two.one) as (λ b. int_eq z two.one ≡ b → IsTrue (is_seam t.side row (streams_after t.side 0 row begun) col)) [
        | true ↦ λ e. gives-conflict t t.corners bodies row col z two.other is.1 (λ p. two.differ (sym ((Decides-int_eq z two.one).0 e) ∙ p)) two.is_other
        | false ↦ λ e. gives-conflict t t.corners bodies row col z two.one is.1 (λ p. false≢true (sym e ∙ (Decides-int_eq z two.one).1 p)) two.is_one
      ] refl

  -- the seam of a row
  along : (row : ℕ) → IsSeamAlong t tiles row (first_from (is_seam t.side row (streams_after t.side 0 row begun)) 0 (extent_of t).cols)
  along row =
      let found = first_from (is_seam t.side row (streams_after t.side 0 row begun)) 0 (extent_of t).cols in
      least-same (λ col. IsTrue (is_seam t.side row (streams_after t.side 0 row begun) col)) (λ col. HasTwoValues t tiles (record { row = row; col = col })) (extent_of t).cols found
      (first-is_least (is_seam t.side row (streams_after t.side 0 row begun)) (extent_of t).cols) (λ col inside. seam-two row col) (λ col inside. two-seam row col)

  -- the seam of the rows from this one on
  from-row : (left row : ℕ) → left + row ≡ (extent_of t).rows → AgreeAbove t tiles row → MatchOption (seam_from (frame_of t) left row (streams_after t.side 0 row begun)) (TilesAgree t tiles) (IsFirstSeam t tiles)
  from-row zero row all above = tiles_agree t tiles row (omega (arith, all)) above
  from-row (suc left) row all above =
      by_row (first_from (is_seam t.side row (streams_after t.side 0 row begun)) 0 (extent_of t).cols) (along row) (λ more. from-row left (row + 1) (omega (arith, all)) more)
    where
      next : List Stream
      next = map (next_stream t.side row) (streams_after t.side 0 row begun)

      next_is : next ≡ streams_after t.side 0 (row + 1) begun
      next_is = let longer : suc row ≡ row + 1 = omega arith in after-more t.side 0 row row begun (omega arith) ∙ ap (λ n. streams_after t.side 0 n begun) longer

      by_row : (found : Option ℕ) → IsSeamAlong t tiles row found →
          (AgreeAbove t tiles (row + 1) → MatchOption (seam_from (frame_of t) left (row + 1) (streams_after t.side 0 (row + 1) begun)) (TilesAgree t tiles) (IsFirstSeam t tiles)) →
          MatchOption (option_or (cell_at row found) (seam_from (frame_of t) left (row + 1) next)) (TilesAgree t tiles) (IsFirstSeam t tiles)
      by_row (Some col) here below = first_seam t tiles row col (omega (arith, all)) above here
      by_row None here below =
          subst (λ (ss : List Stream). MatchOption (seam_from (frame_of t) left (row + 1) ss) (TilesAgree t tiles) (IsFirstSeam t tiles)) (sym next_is) (below (agree_more t tiles row above here))

pub rows_tell_seams : RowsTellSeams
rows_tell_seams t bodies layout = from-row t bodies (extent_of t).rows 0 (omega arith) (λ row col below. absurd (omega (arith, below)))
