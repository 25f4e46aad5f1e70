-- Labels of basins: the outlets are numbered in row order, and each cell has the number of the outlet where its run
-- ends.
use Rattle.std.specs.Prelude.{◌≡◌, ◌≢◌, ◌↔◌, ◌+◌, ◌<◌, ◌&&◌}
use Rattle.drain_paths.specs.Names.{ℕ, pos, Bool, nat_lt, List, is_some, IsNone, int_eq, Cell, index_of, cells, Extent, Grid, Products, IsInside, HasData, run_end, ShareBasin}
use Rattle.std.specs.List.{count_by}
use Rattle.drain_paths.specs.CellNumbers.{cell_number}
use Rattle.drain_paths.specs.Flows.{AllFlowsEnd}

-- a data cell with code 0
abbrev pub is_end : Grid → Products → Cell → Bool
is_end g ps c = is_some (g.elevation c) && int_eq (ps.dir c) (pos 0)

-- how many of the first k cells in row order are data cells with code 0
unfoldable pub ends_before : Grid → Products → ℕ → ℕ
ends_before g ps k = count_by (λ x. is_end g ps x && nat_lt (index_of g.extent x) k) (cells g.extent)

-- how many data cells with code 0 there are up to this cell in row order, itself included: the first has 1, the second
-- 2 and so on
abbrev pub end_number : Grid → Products → Cell → ℕ
end_number g ps c = ends_before g ps (index_of g.extent c + 1)

-- the outlets among the first k cells have their numbers, and no other cell has one
pub record AreEndLabels (g : Grid) (ps : Products) (e : Extent) (k ends : ℕ) (labels : List ℕ) : Type 0 where
  pub extent : g.extent ≡ e
  pub counted : ends ≡ ends_before g ps k
  pub numbered : (c : Cell) → HasData g c → ps.dir c ≡ pos 0 → index_of e c < k → cell_number e labels c ≡ end_number g ps c
  pub others : (c : Cell) → IsInside g c → cell_number e labels c ≢ 0 → HasData g c × (ps.dir c ≡ pos 0) × (index_of e c < k)

-- the label of a cell whose run ends: the number of the outlet where it ends
abbrev pub basin_label : Grid → Products → Cell → ℕ
basin_label g ps c = end_number g ps (run_end g ps c)

-- every run ends; each data cell has the number of the outlet where its run ends, so two labels are equal exactly if
-- the cells share a basin; each void has 0
pub record AreBasinLabels (g : Grid) (ps : Products) (e : Extent) (labels : List ℕ) : Type 0 where
  pub extent : g.extent ≡ e
  pub ends : AllFlowsEnd g ps
  pub labels_are : (c : Cell) → HasData g c → cell_number e labels c ≡ end_number g ps (run_end g ps c)
  pub some : (c : Cell) → HasData g c → cell_number e labels c ≢ 0
  pub shared : (a b : Cell) → HasData g a → HasData g b → (cell_number e labels a ≡ cell_number e labels b) ↔ ShareBasin g ps a b
  pub voids : (c : Cell) → IsInside g c → IsNone (g.elevation c) → cell_number e labels c ≡ 0
