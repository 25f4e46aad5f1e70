-- What each call does to a flood under way.
use Rattle.std.specs.Prelude.{◌≡◌, ◌≤◌, ◌<◌, ◌≤ℤ◌, ◌<ℤ◌, ◌∷◌, ◌++◌, ◌*◌, ◌+◌}
use Rattle.drain_flood.specs.Names.{ℕ, ℤ, List, Contains, length, get_or, [], IsPermutation, Extent, IsCellOf, index_of, Cell}
use Rattle.std.specs.List.{All}
use Rattle.drain_flood.specs.declared.level_queue.TheConstants.{MAX_CELLS}
use Rattle.drain_flood.specs.Floods.{Flooding, unreached}
use Rattle.drain_flood.specs.Looks.{AreInside}

-- Pairs of a level and an item, by rising level: the contents of a queue of levels.

-- the pairs in the queue, the first to come out first, of items below a number of cells
pub record Waiting : Type 0 where
  pub cells : ℕ
  pub pairs : List (ℤ × ℕ)

-- a pair with this item is in the queue
abbrev pub Holds : Waiting → ℕ → Type 0
Holds w item = (level : ℤ) × Contains w.pairs (level, item)

-- no level is above that of a later pair
abbrev pub Rises : List (ℤ × ℕ) → Type 0
Rises pairs = (i j : ℕ) (d : ℤ × ℕ) → i ≤ j → j < length pairs → (get_or pairs i d).0 ≤ℤ (get_or pairs j d).0

-- the new pairs are the old ones with one more, after the last pair of its level or a lower one
pub record IsPut (level : ℤ) (item : ℕ) (old new : List (ℤ × ℕ)) : Type 0 where
  pub before : List (ℤ × ℕ)
  pub after : List (ℤ × ℕ)
  pub old_are : old ≡ before ++ after
  pub new_are : new ≡ before ++ (level, item) ∷ after
  pub not_higher : All (λ p. p.0 ≤ℤ level) before
  pub higher : All (λ p. level <ℤ p.0) after

-- How the parts of a flood, or of a surface, fit together, whatever is flooded.

-- a number for each cell; the trail and what waits are places of cells; no closed cell is on the edge
pub record AreTogether (e : Extent) (con : List ℤ) (mark trail : List ℕ) (waiting : List (ℤ × ℕ)) : Type 0 where
  pub few : e.rows * e.cols ≤ MAX_CELLS
  pub con_long : length con ≡ e.rows * e.cols
  pub mark_long : length mark ≡ e.rows * e.cols
  pub places : All (λ place. place < e.rows * e.cols) trail
  pub waiting_places : All (λ (pair : ℤ × ℕ). pair.1 < e.rows * e.cols) waiting
  pub inside : AreInside e mark

-- a height and a mark for each cell
pub record AreCells (e : Extent) (con : List ℤ) (mark : List ℕ) : Type 0 where
  pub few : e.rows * e.cols ≤ MAX_CELLS
  pub con_long : length con ≡ e.rows * e.cols
  pub mark_long : length mark ≡ e.rows * e.cols

-- the same numbers, with another trail and other waiting cells
abbrev pub with_lists : Flooding → List ℕ → List (ℤ × ℕ) → Flooding
with_lists f ahead waiting = record { extent = f.extent; con = f.con; mark = f.mark; ahead = ahead; waiting = waiting }

-- one is taken out of a list, from anywhere in it
pub record IsOut (place : ℕ) (old new : List ℕ) : Type 0 where
  pub before : List ℕ
  pub after : List ℕ
  pub old_are : old ≡ before ++ place ∷ after
  pub new_are : new ≡ before ++ after

-- some cell is taken from the trail
pub record IsNextTurn (old new : Flooding) (c : Cell) : Type 0 where
  pub inside : IsCellOf old.extent c
  pub out : IsOut (index_of old.extent c) old.ahead new.ahead
  pub rest : new ≡ with_lists old new.ahead old.waiting

-- the trail was empty, and nothing changed
pub record IsDone (old new : Flooding) : Type 0 where
  pub none : old.ahead ≡ []
  pub same : new ≡ old

-- a waiting place is taken, below which none waits
pub record IsPopped (old new : Flooding) (level : ℤ) (place : ℕ) : Type 0 where
  pub out : IsPermutation old.waiting ((level, place) ∷ new.waiting)
  pub lowest : All (λ (p : ℤ × ℕ). level ≤ℤ p.0) new.waiting
  pub rest : new ≡ with_lists old old.ahead new.waiting

pub record IsEmptied (old new : Flooding) : Type 0 where
  pub none : old.waiting ≡ []
  pub same : new ≡ old

-- the place waits at this level
pub record IsLeftWaiting (old new : Flooding) (level : ℤ) (place : ℕ) : Type 0 where
  pub put : IsPermutation ((level, place) ∷ old.waiting) new.waiting
  pub rest : new ≡ with_lists old old.ahead new.waiting

-- no more is left to do than before: each reached cell is on the trail once
pub record IsLessWork (old new : Flooding) : Type 0 where
  pub fewer : unreached new ≤ unreached old
  pub same : unreached new + length new.ahead ≡ unreached old + length old.ahead
  pub waiting : new.waiting ≡ old.waiting
