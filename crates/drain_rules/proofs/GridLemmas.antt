-- One row more of a grid: how many of its cells pass a test; and from rows to the verdict.
use Rattle.drain_rules.proofs.Names.{◌≡◌, ℕ, zero, suc, ◌+◌, ◌<◌, ◌≤◌, ◌*◌, Bool, length, [], ◌∷◌, ◌++◌, refl, sym, ◌∙◌, ap, inl, inr, arith, subst, add-one, count_by, flat_map, range_with_len, sum_by-append, count_by-le-length, flat_map_more, length-map-range_with_len, mul-le-mul_right, Cell, Rule, IsFillRule, row_cells, IsEarlier, Grid, Products, IsInside, is_data, is_raised, HoldsAt, RulesHold, IsEarlierPair, IsFirstFault, Profile, fill_rules, Tally, IsFillVerdict, has_outlet_code, cells_above, CountsAbove, place, HoldAlong, CountsAlong, IsRowFault}
use Rattle.drain_grid.specs.declared.fill_verdict.FillVerdict.TheVariants as fill

range_with_len-more : (a n : ℕ) → range_with_len a (suc n) ≡ range_with_len a n ++ (a + n) ∷ []
range_with_len-more a zero = let e : a + 0 ≡ a = omega arith in rw e refl
range_with_len-more a (suc n) =
    let e : a + suc n ≡ a + 1 + n = omega arith in
    rw e (ap (λ xs. a ∷ xs) (range_with_len-more (a + 1) n))

-- the cells of one row more
pub cells_above-more : (g : Grid) (row : ℕ) → cells_above g (row + 1) ≡ cells_above g row ++ row_cells g.extent.cols row
cells_above-more g row =
    let e : 0 + row ≡ row = omega arith in
    let one_more : range_with_len 0 (row + 1) ≡ range_with_len 0 row ++ row ∷ [] = rw add-one (range_with_len-more 0 row ∙ ap (λ n. range_with_len 0 row ++ n ∷ []) e) in
    ap (flat_map (row_cells g.extent.cols)) one_more ∙ sym (flat_map_more (row_cells g.extent.cols) [] (range_with_len 0 row) row)

count_by-cells_above_more : (p : Cell → Bool) (g : Grid) (row : ℕ) →
    count_by p (cells_above g (row + 1)) ≡ count_by p (cells_above g row) + count_by p (row_cells g.extent.cols row)
count_by-cells_above_more p g row = ap (count_by p) (cells_above-more g row) ∙ sum_by-append _ (cells_above g row) (row_cells g.extent.cols row)

-- the counts with one row more
pub CountsAbove-more : (g : Grid) (ps : Products) (row : ℕ) (old here new : Tally) → CountsAbove g ps row old →
    CountsAlong g ps row g.extent.cols here → new.data_cells ≡ old.data_cells + here.data_cells →
    new.raised ≡ old.raised + here.raised → new.outlets ≡ old.outlets + here.outlets → CountsAbove g ps (row + 1) new
CountsAbove-more g ps row old here new so_far along data_cells raised outlets = record {
  data_cells = omega (arith, count_by-cells_above_more (is_data g) g row, so_far.data_cells, along.data_cells);
  raised = omega (arith, count_by-cells_above_more (is_raised g ps) g row, so_far.raised, along.raised);
  outlets = omega (arith, count_by-cells_above_more (has_outlet_code g ps) g row, so_far.outlets, along.outlets);
}

-- at most all cells of a row, or of the first rows, pass a test
count_by-row_fits : (p : Cell → Bool) (row cols : ℕ) → count_by p (row_cells cols row) ≤ cols
count_by-row_fits p row cols =
    let wide : length (row_cells cols row) ≡ cols = length-map-range_with_len _ 0 cols in
    omega (arith, count_by-le-length p (row_cells cols row), wide)

count_by-above_fits : (p : Cell → Bool) (g : Grid) (rows : ℕ) → count_by p (cells_above g rows) ≤ rows * g.extent.cols
count_by-above_fits p g zero = omega arith
count_by-above_fits p g (suc row) =
    let sum : (row + 1) * g.extent.cols ≡ row * g.extent.cols + g.extent.cols = omega arith in
    let more : count_by p (cells_above g (row + 1)) ≤ (row + 1) * g.extent.cols =
    omega (arith, sum, count_by-cells_above_more p g row, count_by-above_fits p g row, count_by-row_fits p row g.extent.cols) in
    subst (λ n. count_by p (cells_above g n) ≤ n * g.extent.cols) (add-one row) more

-- a count of at most 28,801 rows of at most as many cells, with one row more, fits 32 bits
row_fits : (row rows cols so_far here : ℕ) → row < rows → rows ≤ 28801 → cols ≤ 28801 → so_far ≤ row * cols → here ≤ cols →
    so_far + here < 4294967296
row_fits row rows cols so_far here less few narrow bound more =
    let above : row * cols ≤ 28801 * cols = mul-le-mul_right cols (omega arith) in
    let all : so_far + here ≤ 28801 * cols + cols = omega arith in
    omega arith

count_fits : (p : Cell → Bool) (g : Grid) (row so_far here : ℕ) → row < g.extent.rows → g.extent.rows ≤ 28801 → g.extent.cols ≤ 28801 →
    so_far ≡ count_by p (cells_above g row) → here ≡ count_by p (row_cells g.extent.cols row) → so_far + here < 4294967296
count_fits p g row so_far here inside few narrow above along =
    row_fits row g.extent.rows g.extent.cols so_far here inside few narrow (omega (arith, above, count_by-above_fits p g row))
    (omega (arith, along, count_by-row_fits p row g.extent.cols))

-- the counts of the rows above and of the next row fit 32 bits together
pub tallies_fit : (g : Grid) (ps : Products) (row : ℕ) (total here : Tally) → row < g.extent.rows → g.extent.rows ≤ 28801 →
    g.extent.cols ≤ 28801 → CountsAbove g ps row total → CountsAlong g ps row g.extent.cols here →
    (total.data_cells + here.data_cells < 4294967296) × (total.raised + here.raised < 4294967296) × (total.outlets + here.outlets < 4294967296)
tallies_fit g ps row total here inside few narrow above along = (
  count_fits (is_data g) g row _ _ inside few narrow above.data_cells along.data_cells,
  count_fits (is_raised g ps) g row _ _ inside few narrow above.raised along.raised,
  count_fits (has_outlet_code g ps) g row _ _ inside few narrow above.outlets along.outlets,
)

-- rules that hold in the rows above and before a column hold before the cell there
pub before-cell : (profile : Profile) (IsOwn : Rule → Type 0) (g : Grid) (ps : Products) (row col : ℕ) → ((r : ℕ) → r < row → HoldAlong profile IsOwn g ps r g.extent.cols) →
    ((k : ℕ) (rule : Rule) → k < col → IsOwn rule → HoldsAt profile g ps (place row k) rule) →
    (b : Cell) (rule : Rule) → IsInside g b → IsEarlier b (place row col) → IsOwn rule → HoldsAt profile g ps b rule
before-cell profile IsOwn g ps row col above along b rule in_grid (inl north) own = above b.row north b.col rule in_grid.col own
before-cell profile IsOwn g ps row col above along b rule in_grid (inr west) own =
    subst (λ r. HoldsAt profile g ps (place r b.col) rule) (sym west.0) (along b.col rule west.1 own)

-- the first fault of the first row that has one is the first of the grid
pub IsFirstFault-row : (profile : Profile) (IsOwn : Rule → Type 0) (g : Grid) (ps : Products) (row col : ℕ) (rule : Rule) → row < g.extent.rows →
    ((r : ℕ) → r < row → HoldAlong profile IsOwn g ps r g.extent.cols) → IsRowFault profile IsOwn g ps row col rule →
    IsFirstFault profile IsOwn g ps (place row col) rule
IsFirstFault-row profile IsOwn g ps row col rule inside above here = record {
  inside = record { row = inside; col = here.inside };
  is_own = here.is_own;
  fails = here.fails;
  first = first;
}
  where
    first : (b : Cell) (q : Rule) → IsInside g b → IsOwn q → IsEarlierPair b q (place row col) rule → HoldsAt profile g ps b q
    first b q in_grid own (inl earlier) = before-cell profile IsOwn g ps row col above here.before b q in_grid earlier own
    first b q in_grid own (inr same) = subst (λ c. HoldsAt profile g ps c q) (sym same.0) (here.smaller q own same.1)

-- rules that hold along every row hold at every cell
RulesHold-rows : (profile : Profile) (IsOwn : Rule → Type 0) (g : Grid) (ps : Products) →
    ((row : ℕ) → row < g.extent.rows → HoldAlong profile IsOwn g ps row g.extent.cols) → RulesHold profile IsOwn g ps
RulesHold-rows profile IsOwn g ps holds c r inside own = holds c.row inside.row c.col r inside.col own

-- with the counts of all rows, they make the acceptance of a fill input
pub IsFillVerdict-above : (g : Grid) (ps : Products) (total : Tally) → CountsAbove g ps g.extent.rows total →
    ((row : ℕ) → row < g.extent.rows → HoldAlong fill_rules IsFillRule g ps row g.extent.cols) →
    IsFillVerdict g ps (fill.Accepted (record {
      rows = g.extent.rows;
      cols = g.extent.cols;
      data_cells = total.data_cells;
      raised = total.raised;
    }))
IsFillVerdict-above g ps total counted holds = (RulesHold-rows fill_rules IsFillRule g ps holds, rw (counted.data_cells, counted.raised) refl)
