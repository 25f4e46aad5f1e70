-- What waits at heights: stacks of items, one for each level, and a heap of items.
use Rattle.std.specs.Prelude.{◌≡◌, ℕ, ◌<◌, ◌≤◌, ◌-ℤ◌, ℤ, List, [], length, map, pos, slice_index_or, Vec}
use Rattle.std.specs.declared.alloc.Global.{Global}
use Rattle.drain_flood.specs.declared.level_queue.TheConstants.{LEVELS}
use Rattle.drain_flood.specs.Ways.{pairs_from}

-- the items of the level at a place
abbrev pub stack_at : List (Vec ℕ Global) → ℕ → List ℕ
stack_at stacks place = slice_index_or (map (λ v. v.items) stacks) place []

-- each item with its level
unfoldable pub stacked : List (Vec ℕ Global) → List (ℤ × ℕ)
stacked stacks = pairs_from (stack_at stacks) 0 LEVELS

-- a stack for each level; none of a level below the lowest has an item
pub record AreStacks (stacks : List (Vec ℕ Global)) (lowest : ℕ) : Type 0 where
  pub counted : length stacks ≡ LEVELS
  pub low : lowest ≤ LEVELS
  pub none_below : (place : ℕ) → place < lowest → stack_at stacks place ≡ []

-- the height and the item of an item of the heap, which is kept with how far its height is below the highest of 64 bits
abbrev pub waiting_pair : ℕ × ℕ → ℤ × ℕ
waiting_pair p = (pos 9223372036854775807 -ℤ pos p.0, p.1)
