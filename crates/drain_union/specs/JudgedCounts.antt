-- The counts of the judged cells of a window. These definitions are this project's own.
use Rattle.std.specs.Prelude.{◌≡◌, ◌-◌, if◌then◌else◌}
use Rattle.drain_union.specs.Names.{ℕ, Bool, List, map, count_by, flat_map, range_with_len, Cell, is_data, is_raised, has_outlet_code}
use Rattle.drain_union.specs.declared.verdict.UnionCounts.{UnionCounts}
use Rattle.drain_rules.specs.Rows.{place}
use Rattle.drain_union.specs.declared.place.Place.{Place}
use Rattle.drain_union.specs.Windows.{Window}

-- 1 for an inner side, where the ring lies
abbrev pub ring : Bool → ℕ
ring is_inner = if is_inner then 1 else 0

-- the cells that the place judges, in row order
abbrev pub judged_row : Place → ℕ → List Cell
judged_row p r = map (place r) (range_with_len (ring p.inner.west) (p.extent.cols - ring p.inner.west - ring p.inner.east))

abbrev pub judged_cells : Place → List Cell
judged_cells p = flat_map (judged_row p) (range_with_len (ring p.inner.north) (p.extent.rows - ring p.inner.north - ring p.inner.south))

-- how many of a window's judged cells have data, are raised, and are outlets by their code
abbrev pub judged_data : Window → ℕ
judged_data w = count_by (is_data w.grid) (judged_cells w.place)

abbrev pub judged_raised : Window → ℕ
judged_raised w = count_by (is_raised w.grid w.products) (judged_cells w.place)

abbrev pub judged_outlets : Window → ℕ
judged_outlets w = count_by (has_outlet_code w.grid w.products) (judged_cells w.place)

-- the counts of an accepted window: its size, and those of its judged cells
pub record AreCountsInside (w : Window) (k : UnionCounts) : Type 0 where
  pub rows : k.rows ≡ w.place.extent.rows
  pub cols : k.cols ≡ w.place.extent.cols
  pub data_cells : k.data_cells ≡ judged_data w
  pub raised : k.raised ≡ judged_raised w
  pub outlets : k.outlets ≡ judged_outlets w
