-- Small grids and products on them, which definitions and rules are worked on.
use Rattle.drain_grid.proofs.Names.{ℕ, ℤ, pos, ◌==◌, ◌&&◌, if◌then◌else◌, List, [], ◌∷◌, Some, None, slice_index_or, Cell, NoDataNumbers, unit_spacing, Grid, Products, no_sink}
use Rattle.drain_grid.specs.Product.{default_numbers}

abbrev pub cell : ℕ → ℕ → Cell
cell r k = record { row = r; col = k }

-- a raster by its rows, and 0 elsewhere
abbrev pub raster : List (List ℕ) → Cell → ℤ
raster rows c = pos (slice_index_or (slice_index_or rows c.row []) c.col 0)

-- the raster with another number at one cell
abbrev pub changed : (Cell → ℤ) → Cell → ℕ → Cell → ℤ
changed f at n c = if (c.row == at.row) && (c.col == at.col) then pos n else f c

-- a square grid without voids
abbrev pub square : ℕ → (Cell → ℤ) → Grid
square side heights = record { extent = record { rows = side; cols = side }; elevation = λ c. Some (heights c); sink = no_sink; spacing = λ row. unit_spacing }

-- the default no-data numbers
abbrev pub defaults : NoDataNumbers
defaults = default_numbers

-- side 3, border 5, centre 1: the centre is raised
abbrev pub pit_grid : Grid
pit_grid = square 3 (changed (λ c. pos 5) (cell 1 1) 1)

abbrev pub pit_products : Products
pit_products = record {
  con = λ c. pos 5;
  dir = changed (λ c. pos 0) (cell 1 1) 1;
  acc = changed (λ c. pos 1) (cell 1 2) 2;
  bas = raster ((1 ∷ 2 ∷ 3 ∷ []) ∷ (4 ∷ 5 ∷ 5 ∷ []) ∷ (6 ∷ 7 ∷ 8 ∷ []) ∷ []);
  spl = changed (λ c. pos 0) (cell 1 1) 1;
  rnk = changed (λ c. pos 0) (cell 1 1) 1;
}

-- the same with 7 on the border at (1,2), and the centre raised to 7
abbrev pub overfilled_grid : Grid
overfilled_grid = square 3 (changed (changed (λ c. pos 5) (cell 1 1) 1) (cell 1 2) 7)

abbrev pub overfilled_products : Products
overfilled_products = record {
  con = changed (changed (λ c. pos 5) (cell 1 1) 7) (cell 1 2) 7;
  dir = λ c. pos 0;
  acc = λ c. pos 0;
  bas = λ c. pos 0;
  spl = changed (λ c. pos 0) (cell 1 1) 1;
  rnk = changed (λ c. pos 0) (cell 1 1) 1;
}

-- side 2, all 0
abbrev pub flat_grid : Grid
flat_grid = square 2 (λ c. pos 0)

abbrev pub flat_products : Products
flat_products = record {
  con = λ c. pos 0;
  dir = λ c. pos 0;
  acc = λ c. pos 1;
  bas = raster ((1 ∷ 2 ∷ []) ∷ (3 ∷ 4 ∷ []) ∷ []);
  spl = λ c. pos 0;
  rnk = λ c. pos 0;
}

-- side 2, all void
abbrev pub void_grid : Grid
void_grid = record { extent = record { rows = 2; cols = 2 }; elevation = λ c. None; sink = no_sink; spacing = λ row. unit_spacing }

abbrev pub void_products : Products
void_products = record {
  con = λ c. defaults.con;
  dir = λ c. defaults.dir;
  acc = λ c. defaults.acc;
  bas = λ c. defaults.bas;
  spl = λ c. defaults.spl;
  rnk = λ c. defaults.rnk;
}

-- side 4, each row 4 3 2 1: runs go east
abbrev pub each_row : List ℕ → Cell → ℤ
each_row row = raster (row ∷ row ∷ row ∷ row ∷ [])

abbrev pub slope_grid : Grid
slope_grid = square 4 (each_row (4 ∷ 3 ∷ 2 ∷ 1 ∷ []))

abbrev pub slope_products : Products
slope_products = record {
  con = each_row (4 ∷ 3 ∷ 2 ∷ 1 ∷ []);
  dir = each_row (1 ∷ 1 ∷ 1 ∷ 0 ∷ []);
  acc = each_row (1 ∷ 2 ∷ 3 ∷ 4 ∷ []);
  bas = raster (
      (1 ∷ 1 ∷ 1 ∷ 1 ∷ []) ∷
      (2 ∷ 2 ∷ 2 ∷ 2 ∷ []) ∷
      (3 ∷ 3 ∷ 3 ∷ 3 ∷ []) ∷
      (4 ∷ 4 ∷ 4 ∷ 4 ∷ []) ∷
      []);
  spl = raster (
      (0 ∷ 0 ∷ 0 ∷ 0 ∷ []) ∷
      (0 ∷ 1 ∷ 1 ∷ 0 ∷ []) ∷
      (0 ∷ 1 ∷ 1 ∷ 0 ∷ []) ∷
      (0 ∷ 0 ∷ 0 ∷ 0 ∷ []) ∷
      []);
  rnk = each_row (3 ∷ 2 ∷ 1 ∷ 0 ∷ []);
}

-- side 4, all 5, with a ring on the flat: the codes at (1,1) and (1,2) name each other
abbrev pub ring_grid : Grid
ring_grid = square 4 (λ c. pos 5)

abbrev pub ring_products : Products
ring_products = record {
  con = λ c. pos 5;
  dir = raster (
      (0 ∷ 0 ∷ 0 ∷ 0 ∷ []) ∷
      (0 ∷ 1 ∷ 16 ∷ 0 ∷ []) ∷
      (0 ∷ 16 ∷ 1 ∷ 0 ∷ []) ∷
      (0 ∷ 0 ∷ 0 ∷ 0 ∷ []) ∷
      []);
  acc = raster (
      (1 ∷ 1 ∷ 1 ∷ 1 ∷ []) ∷
      (1 ∷ 1 ∷ 1 ∷ 1 ∷ []) ∷
      (2 ∷ 1 ∷ 1 ∷ 2 ∷ []) ∷
      (1 ∷ 1 ∷ 1 ∷ 1 ∷ []) ∷
      []);
  bas = raster (
      (1 ∷ 2 ∷ 3 ∷ 4 ∷ []) ∷
      (5 ∷ 13 ∷ 13 ∷ 6 ∷ []) ∷
      (7 ∷ 7 ∷ 8 ∷ 8 ∷ []) ∷
      (9 ∷ 10 ∷ 11 ∷ 12 ∷ []) ∷
      []);
  spl = raster (
      (0 ∷ 0 ∷ 0 ∷ 0 ∷ []) ∷
      (0 ∷ 64 ∷ 64 ∷ 0 ∷ []) ∷
      (0 ∷ 16 ∷ 1 ∷ 0 ∷ []) ∷
      (0 ∷ 0 ∷ 0 ∷ 0 ∷ []) ∷
      []);
  rnk = raster (
      (0 ∷ 0 ∷ 0 ∷ 0 ∷ []) ∷
      (0 ∷ 1 ∷ 2 ∷ 0 ∷ []) ∷
      (0 ∷ 1 ∷ 1 ∷ 0 ∷ []) ∷
      (0 ∷ 0 ∷ 0 ∷ 0 ∷ []) ∷
      []);
}

-- two tiles of side 3, all 0, with a column of voids between them
abbrev pub gap_grid : Grid
gap_grid = record { extent = record { rows = 3; cols = 7 }; elevation = λ c. if c.col == 3 then None else Some (pos 0); sink = no_sink; spacing = λ row. unit_spacing }

abbrev pub gap_products : Products
gap_products = record {
  con = λ c. if c.col == 3 then defaults.con else pos 0;
  dir = raster (
      (0 ∷ 0 ∷ 0 ∷ 255 ∷ 0 ∷ 0 ∷ 0 ∷ []) ∷
      (0 ∷ 1 ∷ 0 ∷ 255 ∷ 0 ∷ 16 ∷ 0 ∷ []) ∷
      (0 ∷ 0 ∷ 0 ∷ 255 ∷ 0 ∷ 0 ∷ 0 ∷ []) ∷
      []);
  acc = raster (
      (1 ∷ 1 ∷ 1 ∷ 0 ∷ 1 ∷ 1 ∷ 1 ∷ []) ∷
      (1 ∷ 1 ∷ 2 ∷ 0 ∷ 2 ∷ 1 ∷ 1 ∷ []) ∷
      (1 ∷ 1 ∷ 1 ∷ 0 ∷ 1 ∷ 1 ∷ 1 ∷ []) ∷
      []);
  bas = raster (
      (1 ∷ 2 ∷ 3 ∷ 0 ∷ 4 ∷ 5 ∷ 6 ∷ []) ∷
      (7 ∷ 8 ∷ 8 ∷ 0 ∷ 9 ∷ 9 ∷ 10 ∷ []) ∷
      (11 ∷ 12 ∷ 13 ∷ 0 ∷ 14 ∷ 15 ∷ 16 ∷ []) ∷
      []);
  spl = raster (
      (0 ∷ 0 ∷ 0 ∷ 255 ∷ 0 ∷ 0 ∷ 0 ∷ []) ∷
      (0 ∷ 1 ∷ 0 ∷ 255 ∷ 0 ∷ 16 ∷ 0 ∷ []) ∷
      (0 ∷ 0 ∷ 0 ∷ 255 ∷ 0 ∷ 0 ∷ 0 ∷ []) ∷
      []);
  rnk = λ c. if c.col == 3 then defaults.rnk else raster ((0 ∷ []) ∷ (0 ∷ 1 ∷ 0 ∷ 0 ∷ 0 ∷ 1 ∷ []) ∷ []) c;
}
