-- A flood for the filled surface: the numbers of each cell, the trail, the waiting cells, and what holds of them.
--
-- Cells are reached from the open ones inwards. A reached cell has a path of reached cells to an open one, along which the
-- surface never rises. At each moment the surface covers the ground, and no surface that covers the ground and drains is
-- lower. So once all cells are reached it is the least of these. It may begin at any such surface: the ground is one. No cell
-- has a parent or a rank, and the order of the trail doesn't matter.
-- Source: Priority-Flood (Barnes, Lehman and Mulla 2014), with traces as in Zhou, Sun and Fu (2016); these facts are
-- this project's own.
use Rattle.std.specs.Prelude.{◌≡◌, ◌≢◌, ◌+◌, ◌*◌, ◌⊎◌, ◌==◌, ◌≤ℤ◌, ◌<ℤ◌, ◌∷◌, ◌++◌}
use Rattle.drain_flood.specs.Names.{ℕ, ℤ, pos, List, [], Contains, length, slice_index_or, Option, Some, IsNone, count_by, AllByRecursion, int_max, Cell, Direction, IsCellOf, index_of, step, Extent, Grid, HasData, IsInside, IsOpenCell, height_at, IsPath, NeverRises, CoversGround, Drains, Surface}
use Rattle.std.specs.List.{All}
use Rattle.drain_flood.specs.declared.layers.TheConstants.{OPEN, REACHED, UNREACHED, VOID, NO_HEIGHT}

-- the height and mark of each cell in row order; the places of the cells on the trail; the waiting cells, as pairs of a
-- level and a place
pub record Flooding : Type 0 where
  pub extent : Extent
  pub con : List ℤ
  pub mark : List ℕ
  pub ahead : List ℕ
  pub waiting : List (ℤ × ℕ)

-- the numbers of a cell of a grid of this size
abbrev pub con_at : Extent → Flooding → Cell → ℤ
con_at e f c = slice_index_or f.con (index_of e c) (pos 0)

abbrev pub mark_at : Extent → Flooding → Cell → ℕ
mark_at e f c = slice_index_or f.mark (index_of e c) 0

-- how many cells aren't reached
abbrev pub unreached : Flooding → ℕ
unreached f = count_by (λ mark. mark == UNREACHED) f.mark

-- a data cell that is reached, and one that isn't
pub record IsReachedCell (g : Grid) (f : Flooding) (c : Cell) : Type 0 where
  pub here : HasData g c
  pub code : mark_at g.extent f c ≢ UNREACHED

pub record IsUnreached (g : Grid) (f : Flooding) (c : Cell) : Type 0 where
  pub here : HasData g c
  pub code : mark_at g.extent f c ≡ UNREACHED

-- an open cell is reached, at its ground
pub record IsOpenIn (g : Grid) (f : Flooding) (c : Cell) : Type 0 where
  pub con : con_at g.extent f c ≡ height_at g c
  pub mark : mark_at g.extent f c ≡ OPEN

-- a path of reached cells to an open one, along which the surface never rises
pub record HasDescent (g : Grid) (f : Flooding) (c : Cell) : Type 0 where
  pub rest : List Cell
  pub path : IsPath g c rest
  pub falls : NeverRises (con_at g.extent f) c rest
  pub reached : AllByRecursion (λ x. mark_at g.extent f x ≢ UNREACHED) rest

-- the surface covers the ground, and none that covers the ground and drains is lower at a data cell
pub record IsBetween (g : Grid) (s : Surface) : Type 0 where
  pub covers : CoversGround g s
  pub low : (t : Surface) → CoversGround g t → Drains g t → (c : Cell) → HasData g c → s c ≤ℤ t c

-- the place of a reached cell
pub record IsReachedPlace (g : Grid) (f : Flooding) (place : ℕ) : Type 0 where
  pub cell : Cell
  pub reached : IsReachedCell g f cell
  pub place_is : place ≡ index_of g.extent cell

-- the height and the place of a reached cell
pub record IsReachedPair (g : Grid) (f : Flooding) (pair : ℤ × ℕ) : Type 0 where
  pub cell : Cell
  pub reached : IsReachedCell g f cell
  pub place_is : pair.1 ≡ index_of g.extent cell
  pub con : con_at g.extent f cell ≡ pair.0

-- the cell is busy, on the trail, or waits at its height
abbrev pub IsHeld : Extent → Flooding → List ℕ → Cell → Type 0
IsHeld e f busy c = Contains busy (index_of e c) ⊎ (Contains f.ahead (index_of e c) ⊎ Contains f.waiting (con_at e f c, index_of e c))

-- no reached cell with an unreached neighbour is below the level
abbrev pub HasFloor : Grid → Flooding → ℤ → Type 0
HasFloor g f level =
    (c n : Cell) (d : Direction) → IsReachedCell g f c → IsUnreached g f n → step g.extent c d ≡ Some n → level ≤ℤ con_at g.extent f c

-- the marks of the cells that aren't unreached
pub record HasMarks (g : Grid) (f : Flooding) : Type 0 where
  pub voids : (c : Cell) → IsInside g c → IsNone (g.elevation c) → mark_at g.extent f c ≡ VOID
  pub opened : (c : Cell) → IsOpenCell g c → mark_at g.extent f c ≡ OPEN
  pub closed : (c : Cell) → IsReachedCell g f c → ¬ IsOpenCell g c → mark_at g.extent f c ≡ REACHED

-- a number for each cell
pub record IsCounted (g : Grid) (f : Flooding) : Type 0 where
  pub con : length f.con ≡ g.extent.rows * g.extent.cols
  pub mark : length f.mark ≡ g.extent.rows * g.extent.cols

-- what holds of a flood of a grid that began at a surface, while the neighbours of the cells at the busy places are looked at;
-- it stands at no level at first, then at that of the last cell that waited
pub record IsFloodOf (g : Grid) (first : Surface) (f : Flooding) (stand : Option ℤ) (busy : List ℕ) : Type 0 where
  pub counted : IsCounted g f
  pub marks : HasMarks g f
  pub voids : (c : Cell) → IsInside g c → IsNone (g.elevation c) → con_at g.extent f c ≡ first c
  pub between : IsBetween g (con_at g.extent f)
  pub drains : (c : Cell) → IsReachedCell g f c → HasDescent g f c
  -- no reached cell with an unreached neighbour is forgotten
  pub held : (c n : Cell) (d : Direction) → IsReachedCell g f c → IsUnreached g f n → step g.extent c d ≡ Some n → IsHeld g.extent f busy c
  pub floor : (level : ℤ) → stand ≡ Some level → HasFloor g f level
  pub busy_places : All (IsReachedPlace g f) busy
  pub ahead : All (IsReachedPlace g f) f.ahead
  pub waiting : All (IsReachedPair g f) f.waiting

-- the flood reached one more cell, at this height, and put it at the end of the trail
pub record Reaches (e : Extent) (old new : Flooding) (n : Cell) (con : ℤ) : Type 0 where
  pub inside : IsCellOf e n
  pub con_there : con_at e new n ≡ con
  pub mark_there : mark_at e new n ≡ REACHED
  pub con_same : (c : Cell) → IsCellOf e c → c ≢ n → con_at e new c ≡ con_at e old c
  pub mark_same : (c : Cell) → IsCellOf e c → c ≢ n → mark_at e new c ≡ mark_at e old c
  pub con_long : length new.con ≡ length old.con
  pub mark_long : length new.mark ≡ length old.mark
  pub fewer : unreached new + 1 ≡ unreached old
  pub ahead : new.ahead ≡ old.ahead ++ index_of e n ∷ []
  pub waiting : new.waiting ≡ old.waiting

-- c is reached; its unreached neighbour n is reached from c, raised to c if it is lower, which is allowed only if the flood
-- stands at c's height
pub record IsReachedFrom (g : Grid) (f : Flooding) (stand : Option ℤ) (c : Cell) (d : Direction) (n : Cell) (con : ℤ) : Type 0 where
  pub from : IsReachedCell g f c
  pub there : step g.extent c d ≡ Some n
  pub new : mark_at g.extent f n ≡ UNREACHED
  pub con_is : con ≡ int_max (con_at g.extent f n) (con_at g.extent f c)
  pub raises : (con_at g.extent f c ≤ℤ con_at g.extent f n) ⊎ (stand ≡ Some (con_at g.extent f c))

-- a filled surface of a grid with the marks of its cells: the height at a void plays no part
pub record IsSurfaceOf (g : Grid) (f : Flooding) : Type 0 where
  pub counted : IsCounted g f
  pub voids : (c : Cell) → IsInside g c → IsNone (g.elevation c) → mark_at g.extent f c ≡ VOID
  pub opened : (c : Cell) → IsOpenCell g c → IsOpenIn g f c
  pub closed : (c : Cell) → HasData g c → ¬ IsOpenCell g c → mark_at g.extent f c ≡ REACHED
  pub covers : CoversGround g (con_at g.extent f)
  pub drains : Drains g (con_at g.extent f)
  pub least : (c n : Cell) (d : Direction) → HasData g c → HasData g n → step g.extent c d ≡ Some n →
      con_at g.extent f c ≤ℤ int_max (height_at g c) (con_at g.extent f n)

-- the filled surface of a grid, flooded from a surface whose heights at voids stay
pub record IsFilledFrom (g : Grid) (first : Surface) (f : Flooding) : Type 0 where
  pub surface : IsSurfaceOf g f
  pub voids : (c : Cell) → IsInside g c → IsNone (g.elevation c) → con_at g.extent f c ≡ first c

-- at a cell the height is this number exactly where there is no data
pub record ShowsVoids (g : Grid) (f : Flooding) (void : ℤ) : Type 0 where
  pub voids : (c : Cell) → IsInside g c → IsNone (g.elevation c) → con_at g.extent f c ≡ void
  pub differs : (c : Cell) → HasData g c → con_at g.extent f c ≢ void

-- a grid that was flooded: every data cell is reached, and voids have the no-data height, which is below all ground
pub record IsFlooded (g : Grid) (f : Flooding) : Type 0 where
  pub surface : IsSurfaceOf g f
  pub blank : (c : Cell) → IsInside g c → IsNone (g.elevation c) → con_at g.extent f c ≡ NO_HEIGHT
  pub heights : (c : Cell) → HasData g c → NO_HEIGHT <ℤ height_at g c

-- the first mark of a cell: only an open cell is reached
pub record IsFirstMark (g : Grid) (c : Cell) (mark : ℕ) : Type 0 where
  pub void : IsNone (g.elevation c) → mark ≡ VOID
  pub opened : IsOpenCell g c → mark ≡ OPEN
  pub closed : HasData g c → ¬ IsOpenCell g c → mark ≡ UNREACHED

-- a grid of this size has these first marks, in row order
pub record HasFirstMarks (g : Grid) (e : Extent) (marks : List ℕ) : Type 0 where
  pub extent : g.extent ≡ e
  pub each : (c : Cell) → IsInside g c → IsFirstMark g c (slice_index_or marks (index_of g.extent c) 0)

-- the number of a cell in a list in row order
abbrev pub listed_at : Extent → List ℤ → Cell → ℤ
listed_at e numbers c = slice_index_or numbers (index_of e c) (pos 0)
