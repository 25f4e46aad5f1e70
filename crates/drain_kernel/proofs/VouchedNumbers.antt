-- Numbers of a cell that keeps the rules, and no-data numbers that they can't be.
use Rattle.drain_kernel.proofs.Names.{ℕ, ◌+◌, ◌-◌, ◌≤◌, Bool, ◌&&◌, IsTrue, below_more, inl, inr, arith, ◌≢◌, pos, List, ◌≡◌, ◌<◌, true, false, ◌==◌, slice_index, if◌then◌else◌, and_parts, cases_lt, ThreeLanes, Along, AreDataAt, IsInlandAt, HasWayAt, KeepsWayAt, Decides-eqb, NoDataNumbers, is_direction_code, around_in, named_in, lowered, EachHasImage}
use Rattle.drain_kernel.specs.Tests.{adds_up, keeps_surface}
use Rattle.drain_kernel.proofs.Inland.{le_from}

-- What holds along some columns and at the next holds along one more; what holds with the columns beside them.

pub along_more : (P : ℕ → Type 0) (from k : ℕ) (all now : Bool) → (IsTrue all → Along from k P) → (IsTrue now → P k) →
    IsTrue (all && now) → Along from (k + 1) P
along_more P from k all now before here h =
    let parts = and_parts all now h in
    λ i low high. below_more (λ j. from ≤ j → P j) k (λ j less low. before parts.0 j low less) (λ low. here parts.1) i high low

-- two stretches make one
pub along_both : (P : ℕ → Type 0) (from mid end : ℕ) → Along from mid P → Along mid end P → Along from end P
along_both P from mid end first second k low high =
    elim (cases_lt k mid) [ inl before ↦ first k low before | inr after ↦ second k after high ]

-- where there are no voids, nor in the columns beside, cells are inland
pub inland : (rows : ThreeLanes) (from end : ℕ) → 1 ≤ from → Along (from - 1) (end + 1) (AreDataAt rows) → Along from end (IsInlandAt rows)
inland rows from end inner all k low high =
    let left = all (k - 1) (omega (arith, low)) (omega (arith, high)) in
    let middle = all k (omega (arith, low)) (omega (arith, high)) in
    let right = all (k + 1) (omega (arith, low)) (omega (arith, high)) in
    record {
      above_is = record { left = left.above_has; middle = middle.above_has; right = right.above_has };
      here_is = record { left = left.here_has; middle = middle.here_has; right = right.here_has };
      below_is = record { left = left.below_has; middle = middle.below_has; right = right.below_has };
    }

-- what adds up is at least 1
pub some_sum : (acc : ℕ) (codes accs : List ℕ) → IsTrue (adds_up acc codes accs) → 1 ≤ acc
unfolding adds_up
some_sum acc codes accs h =
    let sum = (Decides-eqb _ _).0 h in
    omega (arith, sum)

-- a cell with data that keeps the rules on con and dir
pub has_way : (nodata : NoDataNumbers) (rows : ThreeLanes) (k : ℕ) → ((con : ℕ) → 1 ≤ con → lowered rows.here.bias con ≢ nodata.con) →
    ((code : ℕ) → IsTrue (is_direction_code code) → pos code ≢ nodata.dir) → IsInlandAt rows k → KeepsWayAt rows k → HasWayAt nodata rows.here k
unfolding keeps_surface
has_way nodata rows k no_con no_dir inland ways = record {
  con_differs = no_con _ (some_con _ _ inland.here_is.middle (le_from _ _ (and_parts _ _ ways.surface).0));
  dir_differs = no_dir _ (and_parts _ _ ways.direction).0;
}
  where
    some_con : (z con : ℕ) → z ≢ 0 → z ≤ con → 1 ≤ con
    some_con z con there h = omega (arith, there, h)

-- Numbers round a column, and their images: capped numbers, or halves.

-- the first numbers have these images
abbrev pub HaveImages : (ℕ → ℕ) → List ℕ → List ℕ → ℕ → Type 0
HaveImages f numbers images count = (k : ℕ) → k < count → slice_index images k ≡ f (slice_index numbers k)

pub around_images : (f : ℕ → ℕ) (above here below above2 here2 below2 : List ℕ) (a h b k : ℕ) → HaveImages f above above2 a → HaveImages f here here2 h →
    HaveImages f below below2 b → k + 1 < a → k + 1 < h → k + 1 < b →
    EachHasImage f (around_in above here below k) (around_in above2 here2 below2 k)
around_images f above here below above2 here2 below2 a h b k above_is here_is below_is in_above in_here in_below = record {
  at_0 = here_is (k + 1) in_here;
  at_1 = below_is (k + 1) in_below;
  at_2 = below_is k (omega (arith, in_below));
  at_3 = below_is (k - 1) (omega (arith, in_below));
  at_4 = here_is (k - 1) (omega (arith, in_here));
  at_5 = above_is (k - 1) (omega (arith, in_above));
  at_6 = above_is k (omega (arith, in_above));
  at_7 = above_is (k + 1) in_above;
}

either : (f : ℕ → ℕ) (b : Bool) (x y x2 y2 : ℕ) → y ≡ f x → y2 ≡ f x2 → (if b then y else y2) ≡ f (if b then x else x2)
either f true x y x2 y2 one two = one
either f false x y x2 y2 one two = two

-- a code names the image of what it names
pub named_image : (f : ℕ → ℕ) (code : ℕ) (numbers images : List ℕ) → EachHasImage f numbers images → named_in code images ≡ f (named_in code numbers)
named_image f code numbers images is =
    let one = either f (code == 2) _ _ _ _ is.at_1 is.at_0 in
    let two = either f (code == 4) _ _ _ _ is.at_2 one in
    let three = either f (code == 8) _ _ _ _ is.at_3 two in
    let four = either f (code == 16) _ _ _ _ is.at_4 three in
    let five = either f (code == 32) _ _ _ _ is.at_5 four in
    let six = either f (code == 64) _ _ _ _ is.at_6 five in
    either f (code == 128) _ _ _ _ is.at_7 six
