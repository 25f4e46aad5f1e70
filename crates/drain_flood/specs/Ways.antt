-- The way of each cell of a filled surface that has a lower neighbour: the first steepest one down.
-- Source: D8 (O'Callaghan and Mark 1984).
use Rattle.std.specs.Prelude.{◌≡◌, ◌*◌, ◌<◌, ◌-ℤ◌, ◌≤ℤ◌, ◌<ℤ◌, ◌≢◌, ◌+◌, ◌≤◌, ◌==◌, if◌then◌else◌, ◌∷◌, ◌++◌}
use Rattle.drain_flood.specs.Names.{ℕ, ℤ, List, length, slice_index_or, Option, Some, None, IsNone, zero, suc, pos, nat_lt, [], map, get_or, Contains, Cell, Direction, code_of, order_of, Extent, index_of, step, Grid, HasData, IsInside, Products, no_sink, Distances, weight_of}
use Rattle.drain_grid.specs.HeightKinds.{height_of}
use Rattle.drain_grid.specs.Slope.{slope_key}
use Rattle.drain_flood.specs.declared.layers.TheConstants.{VOID}
use Rattle.drain_flood.specs.Floods.{Flooding, con_at, mark_at}
use Rattle.std.specs.List.{All}
use Rattle.drain_flood.specs.declared.level_queue.TheConstants.{ABSENT, END, LEVELS, MAX_CELLS}

-- n lies in this direction, has data and is lower
pub record IsLowerNeighbor (g : Grid) (f : Flooding) (c : Cell) (d : Direction) (n : Cell) : Type 0 where
  pub there : step g.extent c d ≡ Some n
  pub has_data : HasData g n
  pub below : con_at g.extent f n <ℤ con_at g.extent f c

-- the rows of the grid are spaced so
abbrev pub IsSpaced : Grid → (ℕ → Distances) → Type 0
IsSpaced g spacing = (row : ℕ) → row < g.extent.rows → g.spacing row ≡ spacing row

-- the key of the slope down to it, on the spacing of the row that the water leaves
abbrev pub key_down : Grid → Flooding → Cell → Direction → Cell → ℤ
key_down g f c d n =
    slope_key (weight_of (g.spacing c.row) d) (height_of (g.spacing c.row).kind (con_at g.extent f c) -ℤ height_of (g.spacing c.row).kind (con_at g.extent f n))

-- no lower cell has a greater key, and none in an earlier direction as great a one
pub record IsSteepestNeighbor (g : Grid) (f : Flooding) (c : Cell) (d : Direction) (n : Cell) : Type 0 where
  pub lower : IsLowerNeighbor g f c d n
  pub greatest : (e : Direction) (m : Cell) → IsLowerNeighbor g f c e m → key_down g f c e m ≤ℤ key_down g f c d n
  pub first : (e : Direction) (m : Cell) → order_of e < order_of d → IsLowerNeighbor g f c e m → key_down g f c e m <ℤ key_down g f c d n

-- the first steepest way down, none if no neighbour is lower
abbrev pub IsWayDown : Grid → Flooding → Cell → Option Direction → Type 0
IsWayDown g f c None = (d : Direction) (n : Cell) → IsLowerNeighbor g f c d n → ⊥
IsWayDown g f c (Some d) = (n : Cell) × IsSteepestNeighbor g f c d n

-- the code of the way down, else the mark: that of an outlet, or of a cell from which no way leads on yet
abbrev pub way_code : ℕ → Option Direction → ℕ
way_code parent None = parent
way_code parent (Some d) = code_of d

-- a data cell's code
pub record IsWayCode (g : Grid) (f : Flooding) (c : Cell) (code : ℕ) : Type 0 where
  pub way : Option Direction
  pub down : IsWayDown g f c way
  pub is : code ≡ way_code (mark_at g.extent f c) way

-- the code at a cell: VOID at a void, else that of its way
pub record IsCodeAt (g : Grid) (f : Flooding) (c : Cell) (code : ℕ) : Type 0 where
  pub void : IsNone (g.elevation c) → code ≡ VOID
  pub way : HasData g c → IsWayCode g f c code

-- a code for each cell, VOID at voids
pub record AreFirstCodes (g : Grid) (f : Flooding) (dirs : List ℕ) : Type 0 where
  pub counted : length dirs ≡ g.extent.rows * g.extent.cols
  pub voids : (c : Cell) → IsInside g c → IsNone (g.elevation c) → slice_index_or dirs (index_of g.extent c) 0 ≡ VOID
  pub ways : (c : Cell) → HasData g c → IsWayCode g f c (slice_index_or dirs (index_of g.extent c) 0)

-- The surface alone as a grid with one product: what the rule on slopes looks at.

-- a cell has data unless its mark is that of a void; all rows have one spacing
abbrev pub marked_grid : Distances → Extent → Flooding → Grid
marked_grid spacing e f = record {
  extent = e;
  elevation = λ c. if mark_at e f c == VOID then None else Some (con_at e f c);
  sink = no_sink;
  spacing = λ row. spacing;
}

abbrev pub marked_products : Extent → Flooding → Products
marked_products e f = record {
  con = con_at e f;
  dir = λ c. pos 0;
  acc = λ c. pos 0;
  bas = λ c. pos 0;
  spl = λ c. pos 0;
  rnk = λ c. pos 0;
}

-- How linked items encode the queue of each level.

-- the items from `at` on, each followed by the next, at most the given number
abbrev pub chain : List ℕ → ℕ → ℕ → List ℕ
chain behind zero at = []
chain behind (suc n) at = if nat_lt at (length behind) then at ∷ chain behind n (get_or behind at END) else []

-- the items of a level, by its place among the levels
unfoldable pub items_at : List ℕ → List ℕ → ℕ → List ℕ
items_at firsts behind place = chain behind (length behind) (get_or firsts place END)

-- the level of a place
abbrev pub level_of : ℕ → ℤ
level_of place = pos place -ℤ pos 32768

-- items as pairs of the level of a place
abbrev pub pairs_at : ℕ → List ℕ → List (ℤ × ℕ)
pairs_at place items = map (λ item. (level_of place, item)) items

-- the pairs of n levels from a place on, given the items of each
abbrev pub pairs_from : (ℕ → List ℕ) → ℕ → ℕ → List (ℤ × ℕ)
pairs_from items place zero = []
pairs_from items place (suc n) = pairs_at place (items place) ++ pairs_from items (place + 1) n

-- all pairs
unfoldable pub pairs_of : List ℕ → List ℕ → List (ℤ × ℕ)
pairs_of firsts behind = pairs_from (items_at firsts behind) 0 (length firsts)

-- the items are linked one to the next and to the end, and no two are equal
abbrev pub IsChain : List ℕ → ℕ → List ℕ → Type 0
IsChain behind at [] = at ≡ END
IsChain behind at (x ∷ xs) = (at ≡ x) × (x < length behind) × (get_or behind x END ≢ ABSENT) × All (λ y. y ≢ x) xs × IsChain behind (get_or behind x END) xs

-- the last of a list, or the number given
abbrev pub last_or : ℕ → List ℕ → ℕ
last_or d [] = d
last_or d (x ∷ xs) = last_or x xs

-- each level's items are a chain from its first to its last, no item is in two, and each that isn't absent is in one
pub record AreLinked (items : ℕ → List ℕ) (firsts lasts behind : List ℕ) (lowest : ℕ) : Type 0 where
  pub firsts_are : length firsts ≡ LEVELS
  pub lasts_are : length lasts ≡ LEVELS
  pub few : length behind ≤ MAX_CELLS
  pub linked : (place : ℕ) → IsChain behind (get_or firsts place END) (items place)
  pub ended : (place : ℕ) → last_or (get_or lasts place END) (items place) ≡ get_or lasts place END
  pub apart : (l m : ℕ) → l ≢ m → (x : ℕ) → Contains (items l) x → Contains (items m) x → ⊥
  pub placed : (item : ℕ) → item < length behind → get_or behind item END ≢ ABSENT → (place : ℕ) × (place < LEVELS) × Contains (items place) item
  pub low : lowest ≤ LEVELS
  pub none_below : (place : ℕ) → place < lowest → get_or firsts place END ≡ END

abbrev pub IsLinked : List ℕ → List ℕ → List ℕ → ℕ → Type 0
IsLinked firsts lasts behind lowest = AreLinked (items_at firsts behind) firsts lasts behind lowest
