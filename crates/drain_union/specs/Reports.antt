-- What a run on one window reports, and when reports can be put together.
-- Source: what each tile of a large raster reports is its edge (Barnes 2016); these facts are this project's own.
use Rattle.std.specs.Prelude.{◌≡◌, ◌≢◌, ◌-◌, ◌<◌, ◌≤ℤ◌, ◌↔◌, ◌+◌, ◌≤◌, ◌⊎◌}
use Rattle.drain_union.specs.Names.{pos, ℕ, min, Option, Some, None, List, length, slice_index_or, Bool, true, IsTrue, map, false, NoDataNumbers, Contains, AllAdjacentBelow, AllPairs, Cell, Extent, IsCellOf, values_at}
use Rattle.drain_union.specs.declared.report.Outlet.{Outlet}
use Rattle.drain_union.specs.Windows.{Window, in_union, IsJudgedOutlet, IsPlaceIn, IsJudgedIn, IsJudgedAtSome, RulesHoldInside}
use Rattle.drain_grid.specs.Spacing.{Distances, unit_spacing}
use Rattle.drain_union.specs.declared.place.Place.{Place}
use Rattle.drain_union.specs.declared.report.Shown.{Shown}
use Rattle.drain_union.specs.declared.verdict.UnionVerdict.{UnionVerdict}
use Rattle.drain_union.specs.declared.verdict.UnionVerdict.TheVariants.{Accepted, Rejected}

-- The no-data numbers that a report has. Source: this project's own.

-- those of con, dir, acc and bas, the only ones at which the rules without ranks look; the others are 0
abbrev pub audited : NoDataNumbers → NoDataNumbers
audited n = record { con = n.con; dir = n.dir; acc = n.acc; bas = n.bas; spl = pos 0; rnk = pos 0 }

-- What windows list of their outlets, and what a merge of sorted lists sees. Source: this project's own.

-- labels never fall along the list
abbrev pub IsSortedByLabel : List Outlet → Type 0
IsSortedByLabel xs = AllAdjacentBelow (λ x y. x.label ≤ℤ y.label) xs (length xs)

-- of two outlets side by side, those with one label are one cell
abbrev pub NoneBesideShares : List Outlet → Type 0
NoneBesideShares xs = AllAdjacentBelow (λ x y. x.label ≡ y.label → x.cell ≡ y.cell) xs (length xs)

-- outlets of the two lists with one label are one cell
abbrev pub ShareNoLabel : List Outlet → List Outlet → Type 0
ShareNoLabel xs ys = (x y : Outlet) → Contains xs x → Contains ys y → x.label ≡ y.label → x.cell ≡ y.cell

-- the list holds the label and the union's cell of each outlet that the window judges, and nothing else
pub record ListsOutlets (w : Window) (xs : List Outlet) : Type 0 where
  pub sorted : IsSortedByLabel xs
  pub sound : (x : Outlet) → Contains xs x →
      (c : Cell) × IsJudgedOutlet w c × (w.products.bas c ≡ x.label) × (in_union w.place c ≡ x.cell)
  pub complete : (c : Cell) → IsJudgedOutlet w c → Contains xs (record { label = w.products.bas c; cell = in_union w.place c })

-- ys holds what the lists hold, and nothing else
abbrev pub HoldsAllOf : List (List Outlet) → List Outlet → Type 0
HoldsAllOf lists ys = (x : Outlet) → Contains ys x ↔ ((xs : List Outlet) × Contains lists xs × Contains xs x)

-- the outlet at this place has the label of the one before it, and is another cell
abbrev pub SharesAt : List Outlet → ℕ → Type 0
SharesAt xs k =
    (d : Outlet) → ((slice_index_or xs (k - 1) d).label ≡ (slice_index_or xs k d).label)
    × ((slice_index_or xs (k - 1) d).cell ≢ (slice_index_or xs k d).cell)

-- up to this place, of two outlets side by side those with one label are one cell
abbrev pub NoneShareBelow : List Outlet → ℕ → Type 0
NoneShareBelow xs high = AllAdjacentBelow (λ x y. x.label ≡ y.label → x.cell ≡ y.cell) xs high

-- the first place at which one does, none where none does
abbrev pub IsFirstShared : List Outlet → Option ℕ → Type 0
IsFirstShared xs None = NoneBesideShares xs
IsFirstShared xs (Some k) = (0 < k) × (k < length xs) × SharesAt xs k × NoneShareBelow xs k

-- one of the outermost so many rows or columns of an inner side
pub record IsOnSeam (depth : ℕ) (p : Place) (c : Cell) : Type 0 where
  pub inside : IsCellOf p.extent c
  pub beside :
      ((IsTrue p.inner.north × (c.row < depth)) ⊎ (IsTrue p.inner.south × (p.extent.rows ≤ c.row + depth)))
      ⊎ ((IsTrue p.inner.west × (c.col < depth)) ⊎ (IsTrue p.inner.east × (p.extent.cols ≤ c.col + depth)))

-- the list holds what the window shows at each cell of its seams, and nothing else
pub record ListsSeams (depth : ℕ) (w : Window) (xs : List Shown) : Type 0 where
  pub sound : (x : Shown) → Contains xs x →
      (c : Cell) × IsOnSeam depth w.place c × (in_union w.place c ≡ x.cell) × (values_at w.grid w.products c ≡ x.values)
  pub complete : (c : Cell) → IsOnSeam depth w.place c →
      Contains xs (record { cell = in_union w.place c; values = values_at w.grid w.products c })

-- the list holds the union's cell of each listed sink that the window judges, and nothing else
pub record ListsSinks (w : Window) (xs : List Cell) : Type 0 where
  pub sound : (x : Cell) → Contains xs x → (c : Cell) × IsJudgedIn w.place c × (w.grid.sink c ≡ true) × (in_union w.place c ≡ x)
  pub complete : (c : Cell) → IsJudgedIn w.place c → w.grid.sink c ≡ true → Contains xs (in_union w.place c)

-- How far apart the cells of a window's rows are, as a report lists it. Source: this project's own.

-- the spacing of a row, counted from the window's first one: a row after the last one listed is as that one, and where
-- none is listed cells are square
abbrev pub spacing_at : List Distances → ℕ → Distances
spacing_at listed row = slice_index_or listed (min row (length listed - 1)) unit_spacing

-- the list gives the spacing of each row of the window
abbrev pub ListsSpacings : Window → List Distances → Type 0
ListsSpacings w listed = (row : ℕ) → row < w.grid.extent.rows → w.grid.spacing row ≡ spacing_at listed row

-- a report on one window: where it lies, how far apart the cells of its rows are, the no-data numbers, whether the rules
-- hold at its judged cells, and where they do, the outlets that it judged, what it shows along its seams, and the listed
-- sinks that it judged
pub record Report : Type 0 where
  pub place : Place
  pub spacings : List Distances
  pub nodata : NoDataNumbers
  pub holds : Bool
  pub outlets : List Outlet
  pub seams : List Shown
  pub sinks : List Cell

-- what a run on a window promises of its report: a rejected window is read to its first fault alone
pub record IsReportOf (depth : ℕ) (w : Window) (r : Report) : Type 0 where
  pub place : r.place ≡ w.place
  pub extent : w.grid.extent ≡ w.place.extent
  pub spacings : ListsSpacings w r.spacings
  pub holds : IsTrue r.holds ↔ RulesHoldInside r.nodata w
  pub outlets : IsTrue r.holds → ListsOutlets w r.outlets
  pub seams : IsTrue r.holds → ListsSeams depth w r.seams
  pub sinks : IsTrue r.holds → ListsSinks w r.sinks

-- two windows overlap along their seams alone
abbrev pub OverlapInSeams : ℕ → Place → Place → Type 0
OverlapInSeams depth p q =
    (a b : Cell) → IsCellOf p.extent a → IsCellOf q.extent b → in_union p a ≡ in_union q b → IsOnSeam depth p a × IsOnSeam depth q b

-- at the cells that both lists hold they show the same
abbrev pub ShowTheSame : List Shown → List Shown → Type 0
ShowTheSame xs ys = (x y : Shown) → Contains xs x → Contains ys y → x.cell ≡ y.cell → x.values ≡ y.values

-- the rows of the union that both have, in whichever columns, are listed as spaced the same
abbrev pub SpacedAlike : Report → Report → Type 0
SpacedAlike q r =
    (a b : ℕ) → a < q.place.extent.rows → b < r.place.extent.rows → q.place.top + a ≡ r.place.top + b →
    spacing_at q.spacings a ≡ spacing_at r.spacings b

-- what a merge asks before it looks at labels: where one of these is missing it refuses
pub record CanMerge (depth : ℕ) (e : Extent) (nodata : NoDataNumbers) (reports : List Report) : Type 0 where
  pub placed : (r : Report) → Contains reports r → IsPlaceIn e r.place
  pub one_nodata : (r : Report) → Contains reports r → r.nodata ≡ nodata
  pub spaced : AllPairs SpacedAlike reports
  pub whole : (c : Cell) → IsCellOf e c → IsJudgedAtSome (map (λ r. r.place) reports) c
  pub overlaps : AllPairs (λ q r. OverlapInSeams depth q.place r.place) reports
  pub agree : AllPairs (λ q r. ShowTheSame q.seams r.seams) reports

-- What a verdict on a window says of its report.

abbrev pub is_accepted : UnionVerdict → Bool
is_accepted (Accepted counts) = true
is_accepted (Rejected fault) = false

-- the report says that the rules hold exactly where the verdict accepts
abbrev pub Agree : UnionVerdict → Report → Type 0
Agree v r = r.holds ≡ is_accepted v
