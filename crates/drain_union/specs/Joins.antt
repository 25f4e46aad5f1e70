-- Windows of a map that fill a box of it, and the report that theirs make of the box. These definitions are this
-- project's own.
use Rattle.std.specs.Prelude.{◌≡◌, ◌↔◌, ◌+◌, ◌≤◌, ◌⊎◌}
use Rattle.drain_union.specs.Names.{ℕ, IsTrue, List, map, Contains, AllPairs, Cell, Grid, Products, NoDataNumbers}
use Rattle.drain_union.specs.declared.place.Place.{Place}
use Rattle.drain_union.specs.declared.report.Shown.{Shown}
use Rattle.drain_union.specs.Reports.{IsOnSeam, IsSortedByLabel, HoldsAllOf, OverlapInSeams, Report, ShowTheSame, SpacedAlike}
use Rattle.drain_union.specs.Windows.{Window, in_union, place_from, cut_grid, cut_products, IsJudgedAt, IsJudgedAtSome}

-- what a union that begins at this cell of the map shows at a place of the map
abbrev pub shown_at : Cell → Place → Grid → Products → Window
shown_at origin p u ps = record { place = p; grid = cut_grid (place_from origin p) u; products = cut_products (place_from origin p) ps }

-- the place lies in the box, and each of its sides is inner, or is the box's and not inner there
pub record LiesInBox (box p : Place) : Type 0 where
  pub rows_from : box.top ≤ p.top
  pub rows_to : p.top + p.extent.rows ≤ box.top + box.extent.rows
  pub cols_from : box.left ≤ p.left
  pub cols_to : p.left + p.extent.cols ≤ box.left + box.extent.cols
  pub north : IsTrue p.inner.north ⊎ ((p.top ≡ box.top) × ¬ IsTrue box.inner.north)
  pub south : IsTrue p.inner.south ⊎ ((p.top + p.extent.rows ≡ box.top + box.extent.rows) × ¬ IsTrue box.inner.south)
  pub west : IsTrue p.inner.west ⊎ ((p.left ≡ box.left) × ¬ IsTrue box.inner.west)
  pub east : IsTrue p.inner.east ⊎ ((p.left + p.extent.cols ≡ box.left + box.extent.cols) × ¬ IsTrue box.inner.east)

-- the map's cell is one of the outermost so many rows or columns of an inner side of the place
abbrev pub IsOuter : ℕ → Place → Cell → Type 0
IsOuter depth p x = (c : Cell) × IsOnSeam depth p c × (in_union p c ≡ x)

-- the places judge what the box judges, and nothing else; and each cell of its seams is on the seams of one of them
pub record FillPlace (depth : ℕ) (box : Place) (places : List Place) : Type 0 where
  pub within : (c : Cell) → IsJudgedAtSome places c → IsJudgedAt box c
  pub whole : (c : Cell) → IsJudgedAt box c → IsJudgedAtSome places c
  pub seams : (c : Cell) → IsOnSeam depth box c → (p : Place) × Contains places p × IsOuter depth p (in_union box c)

-- the list holds what the reports show at the seams of the box, and nothing else
abbrev pub HoldsOuterSeams : ℕ → Place → List Report → List Shown → Type 0
HoldsOuterSeams depth box reports ys =
    (x : Shown) → Contains ys x ↔ (IsOuter depth box x.cell × ((q : Report) × Contains reports q × Contains q.seams x))

-- the list holds the sinks of the reports, and nothing else
abbrev pub HoldsAllSinks : List Report → List Cell → Type 0
HoldsAllSinks reports ys = (x : Cell) → Contains ys x ↔ ((q : Report) × Contains reports q × Contains q.sinks x)

-- the report that reports make of a box
pub record IsJoined (depth : ℕ) (box : Place) (nodata : NoDataNumbers) (reports : List Report) (r : Report) : Type 0 where
  pub place : r.place ≡ box
  pub spaced : (q : Report) → Contains reports q → SpacedAlike r q
  pub numbers : r.nodata ≡ nodata
  pub holds : IsTrue r.holds ↔ ((q : Report) → Contains reports q → IsTrue q.holds)
  pub sorted : IsTrue r.holds → IsSortedByLabel r.outlets
  pub outlets : IsTrue r.holds → HoldsAllOf (map (λ q. q.outlets) reports) r.outlets
  pub seams : IsTrue r.holds → HoldsOuterSeams depth box reports r.seams
  pub sinks : IsTrue r.holds → HoldsAllSinks reports r.sinks

-- the reports are of places that fill that of the joined one, overlap in their seams, agree there and on the spacing of
-- their rows, and make it
pub record IsGroup (depth : ℕ) (nodata : NoDataNumbers) (reports : List Report) (joined : Report) : Type 0 where
  pub lie : (q : Report) → Contains reports q → LiesInBox joined.place q.place
  pub one_nodata : (q : Report) → Contains reports q → q.nodata ≡ nodata
  pub spaced : AllPairs SpacedAlike reports
  pub fills : FillPlace depth joined.place (map (λ q. q.place) reports)
  pub overlaps : AllPairs (λ q r. OverlapInSeams depth q.place r.place) reports
  pub agree : AllPairs (λ q r. ShowTheSame q.seams r.seams) reports
  pub made : IsJoined depth joined.place nodata reports joined
