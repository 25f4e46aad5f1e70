-- Three rows with their lanes: the patch that the lanes show round an inner column is that of the rows.
use Rattle.drain_rules.proofs.Names.{◌≡◌, ℕ, zero, suc, ◌+◌, ◌-◌, ◌≤◌, ◌<◌, Bool, cond, IsSome, map, refl, sym, ◌∙◌, ap, arith, false, length, slice_index_or, Some, count_by, range_with_len, sum_by-cons, Patch, raised_lanes, AreLanesOf, raised_between, shows_raised, MarkedRow, beside, values_in, west_neighbor, lt-ltb, Direction, East, SouthEast, South, SouthWest, West, NorthWest, North, NorthEast, Values, ThreeRows, patch_in}
use Rattle.std.proofs.Common.{◌&&◌}
use Rattle.drain_kernel.specs.declared.lanes.Lanes.{Lanes}
use Rattle.drain_kernel.specs.Laws.{RaisedAreCounted, is_above_ground, LanesShowNumbers}
use Rattle.drain_kernel.specs.Shown.{Shows, IsInner, IsShown, IsShownAt, IsShownRound}

-- As many cells are raised by their lanes as by the patches that are shown, where all have data.

-- as many columns pass a test as patches do, where each does
count_same : (p : Patch → Bool) (q : ℕ → Bool) (shown : ℕ → Patch) (from n : ℕ) → ((col : ℕ) → from ≤ col → col < from + n → p (shown col) ≡ q col) →
    count_by q (range_with_len from n) ≡ count_by p (map shown (range_with_len from n))
count_same p q shown from zero same = refl
count_same p q shown from (suc n) same =
    let here : q from ≡ p (shown from) = sym (same from (omega arith) (omega arith)) in
    let rest = count_same p q shown (from + 1) n (λ col past less. same col (omega (arith, past)) (omega (arith, less))) in
    sum_by-cons (λ col. cond (q col) 1 0) from (range_with_len (from + 1) n)
    ∙ ap (λ b. cond b 1 0 + count_by q (range_with_len (from + 1) n)) here
    ∙ ap (λ m. cond (p (shown from)) 1 0 + m) rest
    ∙ sym (sum_by-cons (λ shows. cond (p shows) 1 0) (shown from) (map shown (range_with_len (from + 1) n)))

pub raised_counts : RaisedAreCounted → (lanes : Lanes) (shown : ℕ → Patch) (from end : ℕ) → from ≤ end →
    ((col : ℕ) → from ≤ col → col < end → Shows lanes col (shown col).here × IsSome (shown col).here.z) →
    raised_lanes lanes from end ≡ raised_between shown from end
raised_counts counted lanes shown from end forward each =
    counted lanes from end (λ col. (shown col).here) (λ col past less. (each col past less).0) (λ col past less. (each col past less).1)
    ∙ count_same shows_raised (λ col. is_above_ground (shown col).here) shown from (end - from)
    (λ col past less. ap (λ b. b && is_above_ground (shown col).here) (each col past (omega (arith, less, forward))).1)

-- the lanes are those of a row's numbers
abbrev pub AreTaken : Lanes → MarkedRow → Type 0
AreTaken lanes row = AreLanesOf lanes row.numbers.z row.numbers.products

-- a neighbour that is there
beside_is : (row : MarkedRow) (col : ℕ) → col < length row.numbers.z → beside row col ≡ Some (values_in row col)
beside_is row col less = rw (lt-ltb col (length row.numbers.z) less) refl

west_is : (row : MarkedRow) (col : ℕ) → 1 ≤ col → col < length row.numbers.z → west_neighbor row col ≡ Some (values_in row (col - 1))
west_is row zero some less = absurd (omega (arith, some))
west_is row (suc c) some less =
    let back : suc c - 1 ≡ c = omega arith in
    rw back (beside_is row c (omega (arith, less)))

-- the lanes show what the row says
pub row_shown : LanesShowNumbers → (lanes : Lanes) (row : MarkedRow) → AreTaken lanes row → (col : ℕ) → col < length row.numbers.z → Shows lanes col (values_in row col)
row_shown show lanes row taken col less = show lanes row.numbers.z row.numbers.products taken col less (slice_index_or row.sinks col false)

module _ (show : LanesShowNumbers) (rows : ThreeRows) (above here below : Lanes) (over : AreTaken above rows.above) (at : AreTaken here rows.here) (under : AreTaken below rows.below) (col : ℕ) (inner : IsInner above here below col) where
  -- each neighbour is what its lanes show
  around : (d : Direction) → (v : Values) × IsShownAt above here below col (patch_in rows col) d v
  around East =
      let less : col + 1 < length rows.here.numbers.z = omega (arith, inner.here_right, at.len) in
      (values_in rows.here (col + 1), record { is = beside_is rows.here (col + 1) less; shown = row_shown show here rows.here at (col + 1) less })
  around SouthEast =
      let less : col + 1 < length rows.below.numbers.z = omega (arith, inner.below_right, under.len) in
      (values_in rows.below (col + 1), record { is = beside_is rows.below (col + 1) less; shown = row_shown show below rows.below under (col + 1) less })
  around South =
      let less : col < length rows.below.numbers.z = omega (arith, inner.below_right, under.len) in
      (values_in rows.below col, record { is = beside_is rows.below col less; shown = row_shown show below rows.below under col less })
  around SouthWest =
      let less : col < length rows.below.numbers.z = omega (arith, inner.below_right, under.len) in
      (values_in rows.below (col - 1), record { is = west_is rows.below col inner.left less; shown = row_shown show below rows.below under (col - 1) (omega (arith, less)) })
  around West =
      let less : col < length rows.here.numbers.z = omega (arith, inner.here_right, at.len) in
      (values_in rows.here (col - 1), record { is = west_is rows.here col inner.left less; shown = row_shown show here rows.here at (col - 1) (omega (arith, less)) })
  around NorthWest =
      let less : col < length rows.above.numbers.z = omega (arith, inner.above_right, over.len) in
      (values_in rows.above (col - 1), record { is = west_is rows.above col inner.left less; shown = row_shown show above rows.above over (col - 1) (omega (arith, less)) })
  around North =
      let less : col < length rows.above.numbers.z = omega (arith, inner.above_right, over.len) in
      (values_in rows.above col, record { is = beside_is rows.above col less; shown = row_shown show above rows.above over col less })
  around NorthEast =
      let less : col + 1 < length rows.above.numbers.z = omega (arith, inner.above_right, over.len) in
      (values_in rows.above (col + 1), record { is = beside_is rows.above (col + 1) less; shown = row_shown show above rows.above over (col + 1) less })

  -- so the patch is
  pub patch_shown_round : IsShownRound above here below col (patch_in rows col)
  patch_shown_round = record { cell = row_shown show here rows.here at col (omega (arith, inner.here_right, at.len)); around_is = around }

  -- and of a cell that isn't marked
  pub patch_shown : slice_index_or rows.here.sinks col false ≡ false → IsShown above here below col (patch_in rows col)
  patch_shown unmarked = record {
    cell = row_shown show here rows.here at col (omega (arith, inner.here_right, at.len));
    not_listed = unmarked;
    around_is = around;
  }
