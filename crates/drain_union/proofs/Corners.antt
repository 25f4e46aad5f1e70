-- From a judged cell the next one east is judged at the same place, or its column is the end of that place's judged
-- ones; south likewise.
use Rattle.drain_union.proofs.Names.{◌≡◌, ℕ, zero, suc, ◌+◌, ◌-◌, ◌<◌, ◌⊎◌, inl, inr, Bool, true, false, IsTrue, List, if◌then◌else◌, refl, ap, ◌∙◌, arith, false≢true, Cell, Extent, IsCellOf, cases, less_number, place, Place, IsJudgedAtSome, judged_bottom, judged_right, IsCornerRow, IsCornerCol, CornersTellWhole}

-- where a ring takes one from an end, the next step stays before it or comes to it
at_end : (inner : Bool) (start n k : ℕ) → k < n → (IsTrue inner → k + 1 < n) →
    ((k + 1 < n) × (IsTrue inner → k + 1 + 1 < n)) ⊎ (start + k + 1 ≡ start + n - (if inner then 1 else 0))
at_end false start n k below more =
    elim (cases (less_number (k + 1) n)) [
      | inl next ↦ inl (next, λ no. absurd (false≢true no))
      | inr last ↦ inr (omega arith)
    ]
at_end true start n k below more =
    let next : k + 1 < n = more refl in
    elim (cases (less_number (k + 1 + 1) n)) [
      | inl after ↦ inl (next, λ _. after)
      | inr last ↦ inr (omega arith)
    ]

-- of cells of a kind that goes on to the west and to the north of each of its cells
module _ (e : Extent) (places : List Place) (Wanted : Cell → Type 0)
    (west_of : (row col : ℕ) → Wanted (place row (suc col)) → Wanted (place row col))
    (north_of : (row col : ℕ) → Wanted (place (suc row) col) → Wanted (place row col))
    (corners : (c : Cell) → IsCellOf e c → Wanted c → IsCornerRow places c.row → IsCornerCol places c.col → IsJudgedAtSome places c) where
  along_row : (row : ℕ) → row < e.rows → IsCornerRow places row → (col : ℕ) → col < e.cols → Wanted (place row col) → IsJudgedAtSome places (place row col)
  along_row row in_rows corner zero in_cols wanted = corners (place row 0) (record { row = in_rows; col = in_cols }) wanted corner (inl refl)
  along_row row in_rows corner (suc k) in_cols wanted =
      let west = along_row row in_rows corner k (omega arith) (west_of row k wanted) in
      let p = west.0 in
      let x = west.2.0 in
      let judged = west.2.1 in
      let at_row : p.top + x.row ≡ row = ap (λ (c : Cell). c.row) west.2.2 in
      let at_col : p.left + x.col ≡ k = ap (λ (c : Cell). c.col) west.2.2 in
      elim (at_end p.inner.east p.left p.extent.cols x.col judged.inside.col judged.east) [
        | inl next ↦
            (let col : p.left + (x.col + 1) ≡ suc k = omega (arith, at_col) in (
              p,
              west.1,
              (
                place x.row (x.col + 1),
                record {
                  inside = record { row = judged.inside.row; col = next.0 };
                  north = judged.north;
                  south = judged.south;
                  west = λ _. omega arith;
                  east = next.1;
                },
                λ i. place (at_row i) (col i),
              ),
            ))
        | inr end ↦
            (let col : suc k ≡ judged_right p = (let one : suc k ≡ p.left + x.col + 1 = omega (arith, at_col) in one ∙ end) in
            corners (place row (suc k)) (record { row = in_rows; col = in_cols }) wanted corner (inr (p, west.1, col)))
      ]

  pub judged_if_corners_are : (row : ℕ) → row < e.rows → (col : ℕ) → col < e.cols → Wanted (place row col) → IsJudgedAtSome places (place row col)
  judged_if_corners_are zero in_rows col in_cols wanted = along_row 0 in_rows (inl refl) col in_cols wanted
  judged_if_corners_are (suc k) in_rows col in_cols wanted =
      let north = judged_if_corners_are k (omega arith) col in_cols (north_of k col wanted) in
      let p = north.0 in
      let x = north.2.0 in
      let judged = north.2.1 in
      let at_row : p.top + x.row ≡ k = ap (λ (c : Cell). c.row) north.2.2 in
      let at_col : p.left + x.col ≡ col = ap (λ (c : Cell). c.col) north.2.2 in
      elim (at_end p.inner.south p.top p.extent.rows x.row judged.inside.row judged.south) [
        | inl next ↦
            (let row : p.top + (x.row + 1) ≡ suc k = omega (arith, at_row) in (
              p,
              north.1,
              (
                place (x.row + 1) x.col,
                record {
                  inside = record { row = next.0; col = judged.inside.col };
                  north = λ _. omega arith;
                  south = next.1;
                  west = judged.west;
                  east = judged.east;
                },
                λ i. place (row i) (at_col i),
              ),
            ))
        | inr end ↦
            (let row : suc k ≡ judged_bottom p = (let one : suc k ≡ p.top + x.row + 1 = omega (arith, at_row) in one ∙ end) in
            along_row (suc k) in_rows (inr (p, north.1, row)) col in_cols wanted)
      ]

pub corners_tell_whole : CornersTellWhole
corners_tell_whole e places corners c inside =
    judged_if_corners_are e places (λ c. Unit {0}) (λ row col wanted. wanted) (λ row col wanted. wanted) (λ c inside wanted. corners c inside) c.row inside.row c.col
    inside.col tt
