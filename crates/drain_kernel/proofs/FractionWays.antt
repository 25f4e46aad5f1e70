-- What the test by fractions gives: no way of another class is steeper, so no way is.
use Rattle.drain_kernel.proofs.Names.{◌≡◌, ℕ, ◌-◌, ◌*◌, ◌≤◌, ◌<◌, pos, true, map, arith, mul-le-mul_left, mul-le, Direction, East, SouthEast, South, directions, Names, Distances, weight_of, by_fraction_below, Slopes, AreSound, falls_by_fractions, is_no_steeper_by_fraction}
use Rattle.drain_kernel.proofs.ClassWays.{ComparesWays, steepest_by}
use Rattle.drain_kernel.proofs.Inland.{le_from}

-- a squared drop counts by its weight
abbrev pub counted : Distances → ℕ → Direction → ℕ → ℕ
counted s con d low = weight_of s d * ((con - low) * (con - low))

-- a lower number has the greater squared drop
under : (w con low x most : ℕ) → low ≤ x → w * ((con - low) * (con - low)) ≤ most → w * ((con - x) * (con - x)) ≤ most
under w con low x most h least =
    let less : con - x ≤ con - low = omega arith in
    let square = mul-le (con - x) (con - x) (con - low) (con - low) less less in
    trans (mul-le-mul_left w square) least
  where
    trans : {a b c : ℕ} → a ≤ b → b ≤ c → a ≤ c
    trans h k = omega (arith, h, k)

-- the test by fractions compares what counts of ways
by_fractions : (s : Slopes) (con : ℕ) → AreSound s →
    ComparesWays (is_no_steeper_by_fraction s con) s.spacing (λ w y v x. w * ((con - y) * (con - y)) ≤ v * ((con - x) * (con - x)))
by_fractions s con sound =
    let shows = λ (e way : Direction). by_fraction_below s.spacing e way in
    record {
      itself = λ w x. omega arith;
      higher = λ w low x v y. under w con low x _;
      row_col = λ y x h. shows East South s.row_col _ _ sound.valid sound.row_col (le_from _ _ h);
      row_corner = λ y x h. shows East SouthEast s.row_corner _ _ sound.valid sound.row_corner (le_from _ _ h);
      col_row = λ y x h. shows South East s.col_row _ _ sound.valid sound.col_row (le_from _ _ h);
      col_corner = λ y x h. shows South SouthEast s.col_corner _ _ sound.valid sound.col_corner (le_from _ _ h);
      corner_row = λ y x h. shows SouthEast East s.corner_row _ _ sound.valid sound.corner_row (le_from _ _ h);
      corner_col = λ y x h. shows SouthEast South s.corner_col _ _ sound.valid sound.corner_col (le_from _ _ h);
    }

-- the code leads down the steepest way between cells of any width and height
pub steepest_by_fractions : (s : Slopes) (con code : ℕ) (cons : Direction → ℕ) (d : Direction) → AreSound s → Names (pos code) d →
    falls_by_fractions s con code (map cons directions) ≡ true →
    (cons d < con) × ((e : Direction) → counted s.spacing con e (cons e) ≤ counted s.spacing con d (cons d))
steepest_by_fractions s con code cons d sound named h = steepest_by _ s.spacing _ (by_fractions s con sound) con code cons d named h
