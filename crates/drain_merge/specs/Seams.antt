-- What windows show along their seams. These definitions are this project's own.
use Rattle.std.specs.Prelude.{◌≡◌, ◌<◌, ◌⊎◌, ◌<ℤ◌, ◌≢◌, ◌-◌, ◌+◌, ◌^◌}
use Rattle.drain_merge.specs.Names.{ℕ, Option, Some, None, List, length, slice_index_or, min, AllAdjacentBelow, Contains, Cell, IsEarlier, Outlet, SharesAt, ShareNoLabel, ShowTheSame, Place, Shown, IsEarlierPair, UnionVerdict, Accepted, Rejected, Fault, WindowReport}

-- Labels that two outlets share. These definitions are this project's own.

-- x and y have one label, and x is at an earlier cell
abbrev pub SharesWithEarlier : Outlet → Outlet → Type 0
SharesWithEarlier x y = (x.label ≡ y.label) × IsEarlier x.cell y.cell

-- the first cell in row order of an outlet with the label of one at an earlier cell, none where no label is shared
abbrev pub IsFirstSharing : List Outlet → Option Cell → Type 0
IsFirstSharing xs None = ShareNoLabel xs xs
IsFirstSharing xs (Some c) =
    ((x : Outlet) × (y : Outlet) × Contains xs x × Contains xs y × SharesWithEarlier x y × (y.cell ≡ c))
    × ((x y : Outlet) → Contains xs x → Contains xs y → SharesWithEarlier x y → ¬ IsEarlier y.cell c)

-- y has a greater label, or the same and is no earlier cell
abbrev pub IsNoSooner : Outlet → Outlet → Type 0
IsNoSooner x y = (x.label <ℤ y.label) ⊎ ((x.label ≡ y.label) × (IsEarlier x.cell y.cell ⊎ (x.cell ≡ y.cell)))

-- labels never fall along the list, and outlets with one label are in row order
abbrev pub AreInOrder : List Outlet → Type 0
AreInOrder xs = AllAdjacentBelow IsNoSooner xs (length xs)

-- up to this place, the first cell of the outlets that have the label of the one before them and are another cell
abbrev pub IsLeastSharing : List Outlet → ℕ → Option Cell → Type 0
IsLeastSharing xs high None = (k : ℕ) → 0 < k → k < high → ¬ SharesAt xs k
IsLeastSharing xs high (Some c) =
    ((k : ℕ) × (0 < k) × (k < high) × SharesAt xs k × ((d : Outlet) → (slice_index_or xs k d).cell ≡ c))
    × ((k : ℕ) (d : Outlet) → 0 < k → k < high → SharesAt xs k → ¬ IsEarlier (slice_index_or xs k d).cell c)

-- of a cell that may be missing and another the earlier one
abbrev pub IsEarlierOf : Option Cell → Cell → Cell → Type 0
IsEarlierOf None c e = e ≡ c
IsEarlierOf (Some b) c e = ((e ≡ b) × ¬ IsEarlier c b) ⊎ ((e ≡ c) × IsEarlier c b)

-- x and y are of one cell and show other values
abbrev pub Differ : Shown → Shown → Type 0
Differ x y = (x.cell ≡ y.cell) × (x.values ≢ y.values)

-- the first cell in row order at which two of these show other values, none where there is no such cell
abbrev pub IsFirstDifference : List Shown → Option Cell → Type 0
IsFirstDifference xs None = ShowTheSame xs xs
IsFirstDifference xs (Some c) =
    ((x : Shown) × (y : Shown) × Contains xs x × Contains xs y × Differ x y × (y.cell ≡ c))
    × ((x y : Shown) → Contains xs x → Contains xs y → IsEarlier y.cell c → x.cell ≡ y.cell → x.values ≡ y.values)

-- they are in row order
abbrev pub AreInRowOrder : List Shown → Type 0
AreInRowOrder xs = AllAdjacentBelow (λ x y. IsEarlier x.cell y.cell ⊎ (x.cell ≡ y.cell)) xs (length xs)

-- the one at this place and the one before differ
abbrev pub DiffersAt : List Shown → ℕ → Type 0
DiffersAt xs k = (d : Shown) → Differ (slice_index_or xs (k - 1) d) (slice_index_or xs k d)

-- neighbours of one cell show the same up to this place
abbrev pub NoneDiffersBelow : List Shown → ℕ → Type 0
NoneDiffersBelow xs high = AllAdjacentBelow (λ x y. x.cell ≡ y.cell → x.values ≡ y.values) xs high

-- the first place that differs from the one before, none where none does
abbrev pub IsFirstDiffering : List Shown → Option ℕ → Type 0
IsFirstDiffering xs None = NoneDiffersBelow xs (length xs)
IsFirstDiffering xs (Some k) = (0 < k) × (k < length xs) × DiffersAt xs k × NoneDiffersBelow xs k

-- The first faults of windows, at the union's cells. These definitions are this project's own.

-- the union's cell that is the place's cell; one that no union has where the numbers don't fit
abbrev pub cell_there : Place → Cell → Cell
cell_there p c = record { row = min (p.top + c.row) (2 ^ 32 - 1); col = min (p.left + c.col) (2 ^ 32 - 1) }

-- the fault of a rejected window
abbrev pub fault_in : Place → UnionVerdict → Option Fault
fault_in p (Accepted counts) = None
fault_in p (Rejected fault) = Some (record { cell = cell_there p fault.cell; rule = fault.rule })

abbrev pub union_fault : WindowReport → Option Fault
union_fault w = fault_in w.report.place w.verdict

-- at an earlier cell, or at one cell of an earlier rule
abbrev pub ComesBefore : Fault → Fault → Type 0
ComesBefore a b = IsEarlierPair a.cell a.rule b.cell b.rule

-- of two faults that may be missing, one before which the other doesn't come
abbrev pub IsEarlierFault : Option Fault → Option Fault → Option Fault → Type 0
IsEarlierFault None second found = found ≡ second
IsEarlierFault (Some a) None found = found ≡ Some a
IsEarlierFault (Some a) (Some b) found = ((found ≡ Some b) × ComesBefore b a) ⊎ ((found ≡ Some a) × ¬ ComesBefore b a)

-- a fault of some window before which none of another comes, none where each window is accepted
abbrev pub IsFirstOfFaults : List WindowReport → Option Fault → Type 0
IsFirstOfFaults windows None = (w : WindowReport) → Contains windows w → union_fault w ≡ None
IsFirstOfFaults windows (Some fault) =
    ((w : WindowReport) × Contains windows w × (union_fault w ≡ Some fault))
    × ((w : WindowReport) (other : Fault) → Contains windows w → union_fault w ≡ Some other → ¬ ComesBefore other fault)
