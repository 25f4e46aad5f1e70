-- The walk along flats: what each call changes, and what holds before and after.
use Rattle.std.specs.Prelude.{◌≡◌, ◌≢◌, ◌+◌, ◌*◌, ◌<◌, ◌≤◌, ◌⊎◌, ◌∷◌}
use Rattle.drain_flood.specs.Names.{ℕ, ℤ, List, [], length, Some, get_or, Cell, Direction, East, directions, code_of, opposite, IsCellOf, index_of, step, Extent, Grid}
use Rattle.std.specs.List.{All}
use Rattle.drain_flood.specs.declared.layers.TheConstants.{REACHED, VOID}
use Rattle.drain_flood.specs.declared.level_queue.TheConstants.{MAX_CELLS}
use Rattle.drain_flood.specs.Floods.{Flooding, con_at}
use Rattle.drain_flood.specs.Flats.{Laying, way_at, rank_at, wayless, IsSettled, IsFlat, AreLaid, Settles}

-- a code and a rank for each cell; the trail has places of cells, those before its head are done
pub record AreLaidOut (e : Extent) (way rnk trail : List ℕ) (head : ℕ) : Type 0 where
  pub few : e.rows * e.cols ≤ MAX_CELLS
  pub way_long : length way ≡ e.rows * e.cols
  pub rank_long : length rnk ≡ e.rows * e.cols
  pub head_in : head ≤ length trail
  pub places : All (λ place. place < e.rows * e.cols) trail

-- n is the neighbour in this direction, has no way yet, and is at this level
pub record IsFlatAt (e : Extent) (f : Flooding) (w : Laying) (c : Cell) (d : Direction) (level : ℤ) (n : Cell) : Type 0 where
  pub there : step e c d ≡ Some n
  pub flat : way_at e w n ≡ REACHED
  pub height : con_at e f n ≡ level

abbrev pub IsFlatPlace : Extent → Flooding → Laying → Cell → Direction → ℤ → ℕ → Type 0
IsFlatPlace e f w c d level place = (n : Cell) × IsFlatAt e f w c d level n × IsCellOf e n × (place ≡ index_of e n)

-- n is the neighbour in this direction, is a low edge of a flat, and is at this level
pub record IsLowEdgeAt (e : Extent) (f : Flooding) (w : Laying) (c : Cell) (d : Direction) (level : ℤ) (n : Cell) : Type 0 where
  pub there : step e c d ≡ Some n
  pub coded : way_at e w n ≢ REACHED
  pub no_void : way_at e w n ≢ VOID
  pub height : con_at e f n ≡ level
  pub low : rank_at e w n ≡ 0

abbrev pub IsLowEdgeThere : Extent → Flooding → Laying → Cell → ℤ → Direction → Type 0
IsLowEdgeThere e f w c level d = (n : Cell) × IsLowEdgeAt e f w c d level n

-- there is nothing to settle in this direction, and nothing changed
pub record Stays (e : Extent) (f : Flooding) (old new : Laying) (c : Cell) (d : Direction) (level : ℤ) : Type 0 where
  pub none : (n : Cell) → IsFlatAt e f old c d level n → ⊥
  pub same : new ≡ old

-- a cell is there, and was settled
pub record Goes (e : Extent) (f : Flooding) (old new : Laying) (c : Cell) (d : Direction) (level : ℤ) (rank : ℕ) (n : Cell) : Type 0 where
  pub is : IsFlatAt e f old c d level n
  pub settles : Settles e old new n (code_of (opposite d)) rank

abbrev pub IsWalk : Extent → Flooding → Laying → Laying → Cell → Direction → ℤ → ℕ → Type 0
IsWalk e f old new c d level rank = Stays e f old new c d level ⊎ ((n : Cell) × Goes e f old new c d level rank n)

-- no cell of the height without a way is there
abbrev pub NoneAt : Grid → Flooding → Laying → Cell → Direction → Type 0
NoneAt g f w c d = (n : Cell) → IsFlat g w n → step g.extent c d ≡ Some n → con_at g.extent f n ≡ con_at g.extent f c → ⊥

-- a settled cell whose neighbours in the first i directions were looked at
pub record IsWalked (g : Grid) (f : Flooding) (w : Laying) (k : ℕ) (busy : List ℕ) (c : Cell) (rank : ℕ) (i : ℕ) : Type 0 where
  pub laid : AreLaid g f w k busy
  pub settled : IsSettled g w c
  pub rank_is : rank ≡ rank_at g.extent w c + 1
  pub passed : (j : ℕ) → j < i → NoneAt g f w c (get_or directions j East)

-- and in all
pub record IsPassed (g : Grid) (f : Flooding) (w : Laying) (k : ℕ) (busy : List ℕ) (c : Cell) : Type 0 where
  pub laid : AreLaid g f w k busy
  pub settled : IsSettled g w c
  pub none : (d : Direction) → NoneAt g f w c d

-- no more is left to do than before
pub record IsLessWalk (old new : Laying) : Type 0 where
  pub fewer : wayless new ≤ wayless old
  pub same : wayless new + length new.ahead ≡ wayless old + length old.ahead

-- the same codes and ranks, with another trail
abbrev pub with_ahead : Laying → List ℕ → Laying
with_ahead w ahead = record { extent = w.extent; way = w.way; rnk = w.rnk; ahead = ahead }

-- the next cell of the trail is taken
pub record IsNextPlace (old new : Laying) (c : Cell) : Type 0 where
  pub inside : IsCellOf old.extent c
  pub first : old.ahead ≡ index_of old.extent c ∷ new.ahead
  pub rest : new ≡ with_ahead old new.ahead

-- the trail was empty, and nothing changed
pub record IsDonePlaces (old new : Laying) : Type 0 where
  pub none : old.ahead ≡ []
  pub same : new ≡ old
