-- Cells that aren't on the edge of the grid: which start closed, what keeps them known, and their neighbours' places.
use Rattle.drain_flood.proofs.Names.{Flooding, IsInnerAt, IsInnerPlace, IsLook, IsLookedAround, IsLookedBefore, IsPlaceBeside, LooksAround, IsLessWork, IsNextTurn, same_index, place, cols_right, rows_down, Extent, IsCellOf, index_of, Grid, Surface, Cell, Direction, Bool, Err, IfOk, List, Ok, Option, Result, [], ap, append-nil, arith, inl, inr, refl, subst, sym, ℕ, ℤ, ◌%◌, ◌*◌, ◌++◌, ◌+◌, ◌-◌, ◌/◌, ◌<◌, ◌∙◌, ◌∷◌, ◌≡◌, cases_eq, All-contains, Contains-push, div-add-mod', div_below, All}
use Rattle.drain_flood.proofs.Looking.{inner_beside, less_more}

-- the cell at a place
pub cell_there : (e : Extent) (place : ℕ) → place < e.rows * e.cols → (c : Cell) × IsCellOf e c × (place ≡ index_of e c)
cell_there e place less =
    let some : 0 < e.cols = elim (cases_eq e.cols 0) [
      | inl none ↦ absurd (omega (arith, subst (λ n. place < e.rows * n) none less))
      | inr some ↦ omega (arith, some)
    ] in (
      record { row = place / e.cols; col = place % e.cols },
      record { row = div_below place e.cols e.rows some less; col = omega (arith, some) },
      sym (div-add-mod' place e.cols),
    )

pub inner_cell : (e : Extent) (c : Cell) → IsInnerPlace e c → IsCellOf e c
inner_cell e c inner = let south = inner.south in let east = inner.east in record { row = omega (arith, south); col = omega (arith, east) }

-- the place of a neighbour
pub beside_there : (e : Extent) (place off width : ℕ) (d : Direction) → IsInnerAt e place → off ≡ rows_down d * e.cols + cols_right d → width ≡ e.cols →
    (c : Cell) → IsCellOf e c → place ≡ index_of e c → IsPlaceBeside e c d (place + off - (width + 1))
beside_there e place off width d (n, inner, at) behind wide c inside here =
    let one : n ≡ c = same_index e n c (inner_cell e n inner) inside (sym at ∙ here) in
    inner_beside e c d place off width (subst (IsInnerPlace e) one inner) here behind wide

-- the place that was taken from the trail is that of a cell
pub next_turn : (now : Flooding) (e : Extent) (con : List ℤ) (mark trail rest : List ℕ) (waiting : List (ℤ × ℕ)) →
    record { extent = e; con = con; mark = mark; ahead = trail; waiting = waiting } ≡ now → (place : ℕ) → trail ≡ rest ++ place ∷ [] → All (λ k. k < e.rows * e.cols) trail →
    (c : Cell) × IsNextTurn now (record { extent = e; con = con; mark = mark; ahead = rest; waiting = waiting }) c × (place ≡ index_of now.extent c)
next_turn now e con mark trail rest waiting view place is below =
    let less : place < e.rows * e.cols = All-contains (λ k. k < e.rows * e.cols) (rest ++ place ∷ []) place (subst (All (λ k. k < e.rows * e.cols)) is below) (Contains-push rest place) in
    let at = cell_there e place less in
    subst (λ s. (c : Cell) × IsNextTurn s (record { extent = e; con = con; mark = mark; ahead = rest; waiting = waiting }) c × (place ≡ index_of s.extent c)) view (
      at.0,
      record {
        inside = at.1;
        out = record { before = rest; after = []; old_are = is ∙ ap (λ k. rest ++ k ∷ []) at.2; new_are = sym (append-nil rest) };
        rest = refl;
      },
      at.2,
    )

-- what one look leaves to do
pub less_turn : (e : Extent) (first old new : Flooding) (place next : ℕ) (d : Direction) (level : ℤ) (raises more : Bool) → IsInnerAt e place →
    ((c : Cell) → IsCellOf e c → place ≡ index_of e c → IsPlaceBeside e c d next) →
    ((c : Cell) (way : Direction) → IsPlaceBeside e c way next → IsLook e old new c way level raises more) → IsLessWork first old → IsLessWork first new
less_turn e first old new place next d level raises more (c, inner, at) beside looks less =
    less_more e first old new c d level raises more less (looks c d (beside c (inner_cell e c inner) at))

-- a look around the cell of a place is one around the place
pub around_cell : {E : Type 0} (r : Result Bool E) (e : Extent) (old new : Flooding) (place : ℕ) (cell : Cell) (level : ℤ) (raises : Bool) → IsCellOf e cell → index_of e cell ≡ place →
    IfOk r (λ left. (g : Grid) (first : Surface) (stand : Option ℤ) (busy : List ℕ) → g.extent ≡ e → IsLookedBefore g first old stand busy cell level raises → IsLookedAround g first new stand busy cell level raises left) →
    IfOk r (LooksAround e old new place level raises)
around_cell (Ok left) e old new place cell level raises inside is told = λ g first stand busy c same at before.
    (let one : cell ≡ c = same_index g.extent cell c (subst (λ x. IsCellOf x cell) (sym same) inside) before.reached.here.inside (ap (λ x. index_of x cell) same ∙ is ∙ at) in
    subst (λ x. IsLookedAround g first new stand busy x level raises left) one
    (told g first stand busy same (subst (λ x. IsLookedBefore g first old stand busy x level raises) (sym one) before)))
around_cell (Err x) e old new place cell level raises inside is told = tt
