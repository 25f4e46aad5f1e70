-- The numbers of a row in lanes, and those of three rows, whatever bits the lanes have.
use Rattle.std.specs.Prelude.{◌≡◌, ℕ, List}
use Rattle.drain_kernel.specs.declared.slopes.Slopes.{Slopes}

-- an elevation and a conditioned elevation with the bias added, 0 at a void, and the other products' numbers; no ranks if none were taken
pub record LaneNumbers : Type 0 where
  pub bias : ℕ
  pub z : List ℕ
  pub con : List ℕ
  pub dir : List ℕ
  pub acc : List ℕ
  pub bas : List ℕ
  pub rnk : List ℕ

-- a row, and those above and below it; and how steepness is compared in it
pub record ThreeLanes : Type 0 where
  pub above : LaneNumbers
  pub here : LaneNumbers
  pub below : LaneNumbers
  pub slopes : Slopes

-- they have one bias
pub record HaveOneBias (bias : ℕ) (rows : ThreeLanes) : Type 0 where
  pub above_is : rows.above.bias ≡ bias
  pub here_is : rows.here.bias ≡ bias
  pub below_is : rows.below.bias ≡ bias
