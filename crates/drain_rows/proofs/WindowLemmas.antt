-- The window as it moves down the rows.
use Rattle.drain_rows.proofs.Names.{◌≡◌, ℕ, Option, Some, None, Result, Ok, Err, IfErr, OnOk, ◌+◌, ◌<◌, ◌&&◌, ◌||◌, ◌==◌, nat_lt, is_none, true, false, List, [], length, inl, inr, arith, refl, sym, ap, subst, ◌∙◌, ℤ, IsWalkStop, IsRowsStop, ReadsOn, AreListedVoids, AreVoidsBefore, is_listed_void, AreRowsOf, cases_eq, lt-ltb, le-ltb, Cell, Grid, Products, IsRowOf, MarkedRow, place, AreRowPatches, AreNumbersOf, AreRowNumbers, RowNumbers, blank, is_among, Distances, by_set_product, IsPixel, AreRowsAround, ThreeRowsShowPatches, patch_in, IsMarked}
use Rattle.std.proofs.Common.{All}
use Rattle.std.specs.Result.{IsErrAnd}
use Rattle.drain_rows.specs.declared.row_visitor.WalkStop.{WalkStop}
use Rattle.drain_rows.specs.declared.row_visitor.WalkStop.TheVariants.{Source, OutOfMemory}
use Rattle.std.proofs.lemmas.Bool.Decides.{nat_tests}
use Rattle.drain_grid.specs.PerProduct.{of_product}
use Rattle.drain_grid.specs.declared.set_product.SetProduct.{SetProduct}
use Rattle.drain_rules.specs.declared.three_rows.ThreeRows.{ThreeRows}
use Rattle.drain_grid.specs.declared.sink_line.SinkLine.{SinkLine}

-- What follows from the clauses of results, and where a walk over rows stops.

-- an answer that is this error, of which something holds
pub told-of : {T E : Type 0} (r : Result T E) (e : E) (P : E → Type 0) → IsErrAnd r (λ told. told ≡ e) → P e → IfErr r P
told-of (Ok x) e P is holds = absurd is
told-of (Err told) e P is holds = rw is holds

-- what follows from a fact of an answer that isn't an error is one
pub on-ok : {T E : Type 0} (r : Result T E) {P Q : Type 0} → (P → Q) → OnOk r P → OnOk r Q
on-ok (Ok x) follows holds = follows holds
on-ok (Err told) follows holds = tt

-- so is what follows from two
pub on-both-ok : {T E : Type 0} (r : Result T E) {P Q R : Type 0} → (P → Q → R) → OnOk r P → OnOk r Q → OnOk r R
on-both-ok (Ok x) follows one other = follows one other
on-both-ok (Err told) follows one other = tt

-- a stop of one call is one of all calls so far
pub stops_then : {State Stop W V : Type 0} (has_read : State → State → ℕ → Option Stop → Type 0) (before here after : State) (one calls : ℕ) (stop : WalkStop Stop) →
    ((told : Option Stop) → ReadsOn has_read here after one told → ReadsOn has_read before after calls told) → (W → V) →
    IsWalkStop has_read here after one W stop → IsRowsStop has_read before after V stop
stops_then has_read before here after one calls (Source stop) more wants stops = (calls, more (Some stop) stops)
stops_then has_read before here after one calls OutOfMemory more wants stops = (calls, (more None stops.0, wants stops.1))

-- The listed sinks that are voids, noted row by row.

-- before the first row none was noted
pub voids-none : (g : Grid) → AreVoidsBefore g 0 []
voids-none g c inside = rw (le-ltb c.row 0 (omega arith)) refl

-- a cell of the row that is noted
in-row : (g : Grid) (ps : Products) (r col : ℕ) (row : MarkedRow) → IsRowOf g ps r row → col < g.extent.cols →
    is_listed_void r row.numbers.z row.sinks (place r col) ≡ (g.sink (place r col) && is_none (g.elevation (place r col)))
in-row g ps r col row is across =
    let wide = is.numbers.cols_are in
    rw (lt-ltb col (length row.numbers.z) (omega (arith, across, wide)), is.sinks col across, is.numbers.elevation col across)
    (let here : (r == r) ≡ true = grind (arith, nat_tests) in rw here refl)

-- one row more is noted
pub voids-more : (g : Grid) (ps : Products) (r : ℕ) (voids next : List Cell) (row : MarkedRow) → (r < g.extent.rows → IsRowOf g ps r row) → AreVoidsBefore g r voids →
    ((c : Cell) → is_among next c ≡ (is_among voids c || is_listed_void r row.numbers.z row.sinks c)) → AreVoidsBefore g (r + 1) next
voids-more g ps r voids next row is before noted c inside =
    noted c ∙ ap (λ b. b || is_listed_void r row.numbers.z row.sinks c) (before c inside) ∙ elim (cases_eq c.row r) [
      | inl same ↦ here same
      | inr other ↦ (let missed : (c.row == r) ≡ false = grind (arith, nat_tests, other) in
          rw missed (let one : nat_lt c.row (r + 1) ≡ nat_lt c.row r = grind (arith, nat_tests, other) in rw one (grind (arith))))
    ]
  where
    here : c.row ≡ r → ((nat_lt c.row r && (g.sink c && is_none (g.elevation c))) || is_listed_void r row.numbers.z row.sinks c) ≡ (nat_lt c.row (r + 1) && (g.sink c && is_none (g.elevation c)))
    here same =
        let there : r < g.extent.rows = omega (arith, same, inside.row) in
        let at : place r c.col ≡ c = λ k. record { row = sym same k; col = c.col } in
        let own : is_listed_void r row.numbers.z row.sinks c ≡ (g.sink c && is_none (g.elevation c)) =
        subst (λ (d : Cell). is_listed_void r row.numbers.z row.sinks d ≡ (g.sink d && is_none (g.elevation d))) at (in-row g ps r c.col row (is there) inside.col) in
        rw (le-ltb c.row r (omega (arith, same)), lt-ltb c.row (r + 1) (omega (arith, same))) own

-- after the last row all were noted
pub voids-all : (g : Grid) (r : ℕ) (voids : List Cell) → g.extent.rows < r → AreVoidsBefore g r voids → AreListedVoids g voids
voids-all g r voids behind before c inside =
    let passed = inside.row in
    before c inside ∙ rw (lt-ltb c.row r (omega (arith, behind, passed))) refl

-- of these rows two are held: this one, and the one above it, where there is one
pub record AreSetProducts (rows : ℕ → RowNumbers) (row : ℕ) (above here : RowNumbers) : Type 0 where
  pub here_is : here ≡ rows row
  pub above_is : (r : ℕ) → row ≡ r + 1 → above ≡ rows r
  pub none_above : row ≡ 0 → above ≡ blank

-- no row is as many numbers of each
none-of : (p : SetProduct) → of_product blank.products p ≡ []
none-of = by_set_product (λ p. of_product blank.products p ≡ []) refl refl refl refl refl

pub blank-whole : AreRowNumbers blank
blank-whole = record {
  narrow = omega arith;
  long = λ p. ap length (none-of p);
  samples = λ k n less. absurd (omega (arith, less));
  pixels = λ p. subst (λ (ns : List ℤ). All IsPixel ns) (sym (none-of p)) (λ k n less. absurd (omega (arith, less)));
}

-- a row that is marked is a row of the grid
pub row-marked : (g : Grid) (ps : Products) (sinks : List SinkLine) (spacing : ℕ → Distances) (rows : ℕ → RowNumbers) (r : ℕ) (row : MarkedRow) → AreRowsOf g ps sinks spacing rows → row.numbers ≡ rows r →
    IsMarked sinks spacing r row → r < g.extent.rows → IsRowOf g ps r row
row-marked g ps sinks spacing rows r row all is marked inside =
    let numbers = subst (λ n. AreNumbersOf g ps r n) (sym is) (all.row r inside) in
    record {
      numbers = numbers;
      sinks = λ col across.
          (let wide = numbers.cols_are in marked.marks col (omega (arith, across, wide)))
          ∙ sym (all.sinks_are (place r col) (record { row = inside; col = across }));
      spacing = marked.spaced ∙ sym (all.spaced r inside);
    }

-- with the row below, three rows of the grid are in the window
pub rows-around : (g : Grid) (ps : Products) (sinks : List SinkLine) (spacing : ℕ → Distances) (rows : ℕ → RowNumbers) (row : ℕ) (three : ThreeRows) → AreRowsOf g ps sinks spacing rows → row < g.extent.rows →
    AreSetProducts rows row three.above.numbers three.here.numbers → three.below.numbers ≡ rows (row + 1) →
    ((r : ℕ) → row ≡ r + 1 → IsMarked sinks spacing r three.above) → IsMarked sinks spacing row three.here → IsMarked sinks spacing (row + 1) three.below → AreRowsAround g ps row three
rows-around g ps sinks spacing rows row three all inside are below_is above_marked here_marked below_marked = record {
  here = row-marked g ps sinks spacing rows row three.here all are.here_is here_marked inside;
  below = λ more. row-marked g ps sinks spacing rows (row + 1) three.below all below_is below_marked more;
  none_below = λ last. below_is ∙ ap rows (sym last) ∙ all.last;
  above = λ r is. row-marked g ps sinks spacing rows r three.above all (are.above_is r is) (above_marked r is) (omega (arith, is, inside));
  none_above = are.none_above;
}

-- the window turned
pub held-turned : (rows : ℕ → RowNumbers) (row : ℕ) (above here above_now here_now : RowNumbers) → AreSetProducts rows row above here → above_now ≡ above →
    here_now ≡ here → AreSetProducts rows row above_now here_now
held-turned rows row above here above_now here_now are above_is here_is = record {
  here_is = here_is ∙ are.here_is;
  above_is = λ r is. above_is ∙ are.above_is r is;
  none_above = λ none. above_is ∙ are.none_above none;
}

-- so three rows that are those of the window, once it turned, show the patches of the row
pub window-shows : ThreeRowsShowPatches → (g : Grid) (ps : Products) (sinks : List SinkLine) (spacing : ℕ → Distances) (rows : ℕ → RowNumbers) (row : ℕ) (three : ThreeRows) (above here below : MarkedRow) →
    AreRowsOf g ps sinks spacing rows → row < g.extent.rows → three.above ≡ above → three.here ≡ here → three.below ≡ below → AreSetProducts rows row above.numbers here.numbers →
    below.numbers ≡ rows (row + 1) → ((r : ℕ) → row ≡ r + 1 → IsMarked sinks spacing r above) → IsMarked sinks spacing row here → IsMarked sinks spacing (row + 1) below →
    AreRowPatches g ps row (length three.here.numbers.z) (patch_in three)
window-shows law g ps sinks spacing rows row three above here below all inside above_is here_is below_is held next above_marked here_marked below_marked =
    law g ps row three (rows-around g ps sinks spacing rows row three all inside
    (held-turned rows row above.numbers here.numbers three.above.numbers three.here.numbers held (ap (λ (m : MarkedRow). m.numbers) above_is) (ap (λ (m : MarkedRow). m.numbers) here_is))
    (ap (λ (m : MarkedRow). m.numbers) below_is ∙ next)
    (λ r is. subst (IsMarked sinks spacing r) (sym above_is) (above_marked r is))
    (subst (IsMarked sinks spacing row) (sym here_is) here_marked)
    (subst (IsMarked sinks spacing (row + 1)) (sym below_is) below_marked))

-- one row further down
pub held-more : (rows : ℕ → RowNumbers) (row : ℕ) (here below : RowNumbers) → here ≡ rows row → below ≡ rows (row + 1) → AreSetProducts rows (row + 1) here below
held-more rows row here below here_is below_is = record {
  here_is = below_is;
  above_is = λ r is. let same : row ≡ r = omega (arith, is) in here_is ∙ ap rows same;
  none_above = λ none. absurd (omega (arith, none));
}
