-- Two cells are one where the test of their numbers passes.
use Rattle.drain_merge.proofs.Names.{◌≡◌, ◌&&◌, true, and_parts, Decides-eqb, Cell, place}
use lib.Dec.{eqb}

pub same_cells : (a b : Cell) → (eqb a.row b.row && eqb a.col b.col) ≡ true → a ≡ b
same_cells a b passes =
    let parts = and_parts _ _ passes in
    λ i. place ((Decides-eqb a.row b.row).0 parts.0 i) ((Decides-eqb a.col b.col).0 parts.1 i)
