-- How far apart the cells of the rows of a place are, as they are listed. Source: this project's own.
use Rattle.std.specs.Prelude.{◌≡◌, ◌+◌, ◌<◌, ◌≤◌}
use Rattle.drain_window.specs.Names.{ℕ, zero, suc, List, Distances, unit_spacing, Place, spacing_at}

-- the list gives the spacing of each row of the place in a grid whose rows are spaced so
abbrev pub AreRowsOf : (ℕ → Distances) → Place → List Distances → Type 0
AreRowsOf spacing p listed = (row : ℕ) → row < p.extent.rows → spacing (p.top + row) ≡ spacing_at listed row

-- the spacing of the last of so many rows of a place; that of square cells if there is none
abbrev pub last_spacing : (ℕ → Distances) → Place → ℕ → Distances
last_spacing spacing p zero = unit_spacing
last_spacing spacing p (suc rows) = spacing (p.top + rows)

-- the rows of the place after so many, up to an end, are spaced as the last of these
abbrev pub AreAlikeTo : (ℕ → Distances) → Place → ℕ → ℕ → Type 0
AreAlikeTo spacing p rows end = (row : ℕ) → rows ≤ row → row < end → spacing (p.top + row) ≡ last_spacing spacing p rows

-- it is enough to list so many rows of the place
abbrev pub IsEnough : (ℕ → Distances) → Place → ℕ → Type 0
IsEnough spacing p rows = AreAlikeTo spacing p rows p.extent.rows
