-- Places that fill a box, and how they are laid. These definitions are this project's own.
use Rattle.std.specs.Prelude.{◌≡◌, ◌+◌, ◌-◌, ◌*◌, ◌<◌, ◌≤◌, ◌⊎◌, ◌&&◌}
use Rattle.drain_merge.specs.Names.{ℕ, List, cond, nat_le, nat_lt, length, slice_index, All, AllPairs, Contains, Cell, Place, BothJudgeOne, IsJudgedAt, IsJudgedAtSome, judged_top, judged_left, judged_bottom, judged_right}
use Rattle.std.specs.List.{sum_by}

-- the places judge each cell that the box judges, and none in common
pub record Fill (box : Place) (places : List Place) : Type 0 where
  pub apart : AllPairs (λ p q. ¬ BothJudgeOne p q) places
  pub whole : (c : Cell) → IsJudgedAt box c → IsJudgedAtSome places c

-- 1 where the number is one from here up to the end, else 0
abbrev pub within : ℕ → ℕ → ℕ → ℕ
within from end x = cond (nat_le from x && nat_lt x end) 1 0

-- how often the place judges the cell: once or not at all
abbrev pub times : Cell → Place → ℕ
times c p = within (judged_top p) (judged_bottom p) c.row * within (judged_left p) (judged_right p) c.col

-- the ends begin and end where the judged columns of the box do
pub record AreEndsOf (box : Place) (ends : List ℕ) : Type 0 where
  pub some : 0 < length ends
  pub first : slice_index ends 0 ≡ judged_left box
  pub last : slice_index ends (length ends - 1) ≡ judged_right box

-- the judged columns of the place begin at one of the ends, and end at one
pub record IsBetweenEnds (ends : List ℕ) (p : Place) : Type 0 where
  pub from : Contains ends (judged_left p)
  pub to : Contains ends (judged_right p)

-- in the columns from each end up to the next, the rows from the start up to the level there are judged once, others not
pub record AreLaid (start : ℕ) (ends levels : List ℕ) (places : List Place) : Type 0 where
  pub sized : length levels ≡ length ends
  pub between : All (IsBetweenEnds ends) places
  pub down : (k : ℕ) → k + 1 < length ends → start ≤ slice_index levels k
  pub once : (k : ℕ) (c : Cell) → k + 1 < length ends → slice_index ends k ≤ c.col → c.col < slice_index ends (k + 1) →
      sum_by (times c) places ≡ within start (slice_index levels k) c.row

-- the columns from this end up to the next are columns of the place, whose rows begin at the old level and end at the new
pub record IsLaidOn (ends old : List ℕ) (p : Place) (new : List ℕ) (k : ℕ) : Type 0 where
  pub from : judged_left p ≤ slice_index ends k
  pub to : slice_index ends (k + 1) ≤ judged_right p
  pub old_level : slice_index old k ≡ judged_top p
  pub new_level : slice_index new k ≡ judged_bottom p

-- none of them is one of its columns, and the level stays
pub record IsPassedBy (ends old : List ℕ) (p : Place) (new : List ℕ) (k : ℕ) : Type 0 where
  pub apart : (slice_index ends (k + 1) ≤ judged_left p) ⊎ (judged_right p ≤ slice_index ends k)
  pub level : slice_index new k ≡ slice_index old k

-- the place is laid on what lies there: it begins at these old levels, and these new ones are where it ends
pub record IsLaid (ends old : List ℕ) (p : Place) (new : List ℕ) : Type 0 where
  pub rows : judged_top p ≤ judged_bottom p
  pub between : IsBetweenEnds ends p
  pub parts : (k : ℕ) → k + 1 < length ends → IsLaidOn ends old p new k ⊎ IsPassedBy ends old p new k

-- levels from one up to another were the top and are the bottom, and the others stay
pub record IsMoved (from to top bottom : ℕ) (old new : List ℕ) : Type 0 where
  pub before : (k : ℕ) → from ≤ k → k < to → slice_index old k ≡ top
  pub behind : (k : ℕ) → from ≤ k → k < to → slice_index new k ≡ bottom
  pub others : (k : ℕ) → (k < from) ⊎ (to ≤ k) → slice_index new k ≡ slice_index old k

-- each level but the last is the bottom
abbrev pub ReachAllOver : List ℕ → ℕ → List ℕ → Type 0
ReachAllOver ends bottom levels = (k : ℕ) → k + 1 < length ends → slice_index levels k ≡ bottom
