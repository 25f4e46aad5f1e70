-- A fault of a window that lies in a box is at a cell of the box.
use Rattle.drain_merge.proofs.Names.{◌≡◌, ℕ, ◌+◌, ◌-◌, ◌^◌, ◌<◌, ◌≤◌, min, Some, List, ap, arith, Cell, place, none_some, same_some, JudgesSome, LiesInBox, cell_from, in_union, Place, WindowReport, Fault, UnionVerdict, Accepted, Rejected, MakeBox, box_at, fault_in, IsFirstOfFaults}
use Rattle.drain_merge.specs.Unjudged.{HasCells}
use Rattle.drain_merge.proofs.JudgedWindows.{at_places}

-- the cell from the box's first one on, and back
counted : (box : Place) (c d : Cell) → box.top ≤ c.row → box.left ≤ c.col → d ≡ record { row = c.row - box.top; col = c.col - box.left } → in_union box d ≡ c
counted box c d top left is =
    let row : box.top + d.row ≡ c.row = omega (arith, ap (λ (x : Cell). x.row) is, top) in
    let col : box.left + d.col ≡ c.col = omega (arith, ap (λ (x : Cell). x.col) is, left) in
    λ i. place (row i) (col i)

-- a fault of a place isn't before it
not_before : (p : Place) (v : UnionVerdict) (fault : Fault) → fault_in p v ≡ Some fault → (top left : ℕ) → top ≤ p.top → left ≤ p.left → top < 2 ^ 32 → left < 2 ^ 32 →
    (top ≤ fault.cell.row) × (left ≤ fault.cell.col)
not_before p (Accepted counts) fault is top left above before short_top short_left = absurd (none_some fault is)
not_before p (Rejected told) fault is top left above before short_top short_left =
    let same = same_some _ _ is in
    let row : min (p.top + told.cell.row) (2 ^ 32 - 1) ≡ fault.cell.row = ap (λ (f : Fault). f.cell.row) same in
    let col : min (p.left + told.cell.col) (2 ^ 32 - 1) ≡ fault.cell.col = ap (λ (f : Fault). f.cell.col) same in
    (omega (arith, row, above, short_top), omega (arith, col, before, short_left))

pub fault_counted : (box : Place) (ws : List WindowReport) (fault : Fault) (d : Cell) → MakeBox box ws → HasCells box → IsFirstOfFaults ws (Some fault) →
    d ≡ cell_from (box_at box).origin fault.cell → in_union box d ≡ fault.cell
fault_counted box ws fault d make cells first is =
    let w = first.0.0 in
    let lies = at_places (LiesInBox box) ws make.fills.placed w first.0.1 in
    let judges = at_places JudgesSome ws make.fills.some w first.0.1 in
    let rows : box.top + box.extent.rows ≤ 2 ^ 32 = cells.rows in
    let cols : box.left + box.extent.cols ≤ 2 ^ 32 = cells.cols in
    let within = not_before w.report.place w.verdict fault first.0.2 box.top box.left lies.rows_from lies.cols_from
    (omega (arith, lies.rows_from, lies.rows_to, judges.1.inside.row)) (omega (arith, lies.cols_from, lies.cols_to, judges.1.inside.col)) in
    counted box fault.cell d within.0 within.1 is
