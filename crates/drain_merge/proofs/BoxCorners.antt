-- From a judged cell the next one east is judged at the same place, or its column is the end of that place's judged
-- ones; south likewise.
use Rattle.drain_merge.proofs.Names.{◌≡◌, ℕ, zero, suc, ◌<◌, ◌≤◌, inl, inr, List, arith, Contains, Cell, cases, less_number, place, Place, IsJudgedAtSome, judged_top, judged_left, judged_bottom, judged_right, IsWithinEdges, edges_within, within_edges, IsCornerRow, IsCornerCol, CornersTellBox}

-- a judged cell of the union, by the edges of the place that judges it
some_within : (places : List Place) (c : Cell) → IsJudgedAtSome places c → (p : Place) × Contains places p × IsWithinEdges p c
some_within places c some = (some.0, some.1, within_edges some.0 c some.2)

within_some : (places : List Place) (c : Cell) → (p : Place) × Contains places p × IsWithinEdges p c → IsJudgedAtSome places c
within_some places c some = (some.0, some.1, edges_within some.0 c some.2)

-- of cells of a kind that goes on to the west and to the north of each of its cells
module _ (box : Place) (places : List Place) (Wanted : Cell → Type 0)
    (west_of : (row col : ℕ) → Wanted (place row (suc col)) → Wanted (place row col))
    (north_of : (row col : ℕ) → Wanted (place (suc row) col) → Wanted (place row col))
    (corners : (c : Cell) → IsWithinEdges box c → Wanted c → IsCornerRow box places c.row → IsCornerCol box places c.col → IsJudgedAtSome places c) where
  along_row : (row : ℕ) → judged_top box ≤ row → row < judged_bottom box → IsCornerRow box places row →
      (col : ℕ) → judged_left box ≤ col → col < judged_right box → Wanted (place row col) → IsJudgedAtSome places (place row col)
  along_row row above below corner zero from to wanted =
      corners (place row 0) (record { top = above; bottom = below; left = from; right = to }) wanted corner (inl (omega arith))
  along_row row above below corner (suc k) from to wanted =
      elim (cases (less_number k (judged_left box))) [
        | inl first ↦
            corners (place row (suc k)) (record { top = above; bottom = below; left = from; right = to }) wanted corner (inl (omega arith))
        | inr later ↦
            (let west = some_within places (place row k) (along_row row above below corner k (omega arith) (omega arith) (west_of row k wanted)) in
            let p = west.0 in
            let at = west.2 in
            elim (cases (less_number (suc k) (judged_right p))) [
              | inl next ↦ within_some places (place row (suc k)) (
                p,
                west.1,
                record { top = at.top; bottom = at.bottom; left = (let before : judged_left p ≤ k = at.left in omega arith); right = next },
              )
              | inr end ↦
                  (let before : k < judged_right p = at.right in
                  let col : suc k ≡ judged_right p = omega arith in
                  corners (place row (suc k)) (record { top = above; bottom = below; left = from; right = to }) wanted corner (inr (p, west.1, col)))
            ])
      ]

  pub judged_if_corners_are : (row : ℕ) → judged_top box ≤ row → row < judged_bottom box →
      (col : ℕ) → judged_left box ≤ col → col < judged_right box → Wanted (place row col) → IsJudgedAtSome places (place row col)
  judged_if_corners_are zero above below col from to wanted = along_row 0 above below (inl (omega arith)) col from to wanted
  judged_if_corners_are (suc k) above below col from to wanted =
      elim (cases (less_number k (judged_top box))) [
        | inl first ↦ along_row (suc k) above below (inl (omega arith)) col from to wanted
        | inr later ↦
            (let north = some_within places (place k col) (judged_if_corners_are k (omega arith) (omega arith) col from to (north_of k col wanted)) in
            let p = north.0 in
            let at = north.2 in
            elim (cases (less_number (suc k) (judged_bottom p))) [
              | inl next ↦ within_some places (place (suc k) col) (
                p,
                north.1,
                record { top = (let before : judged_top p ≤ k = at.top in omega arith); bottom = next; left = at.left; right = at.right },
              )
              | inr end ↦
                  (let before : k < judged_bottom p = at.bottom in
                  let row : suc k ≡ judged_bottom p = omega arith in
                  along_row (suc k) above below (inr (p, north.1, row)) col from to wanted)
            ])
      ]

pub corners_tell_box : CornersTellBox
corners_tell_box box places corners c judged =
    let at = within_edges box c judged in
    judged_if_corners_are box places (λ c. Unit {0}) (λ row col wanted. wanted) (λ row col wanted. wanted)
    (λ c inside wanted. corners c (edges_within box c inside)) c.row at.top at.bottom c.col at.left at.right tt
