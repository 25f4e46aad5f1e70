-- The codes of a row that are put cell by cell.
use Rattle.drain_flood.proofs.Names.{◌≡◌, ◌≢◌, ℕ, ◌+◌, ◌*◌, ◌<◌, inl, inr, List, length, set, get_or, slice_index, sym, ap, ◌∙◌, subst, arith, get_or-set_other, get_or-set_same, cases_eq, Cell, index_of, Grid, IsInside, Flooding, IsCodeAt}

-- the code of the next cell is put, and those before it stay
pub code_more : (g : Grid) (f : Flooding) (row col place code : ℕ) (dirs : List ℕ) → place ≡ index_of g.extent (record { row = row; col = col }) →
    place < length dirs → IsCodeAt g f (record { row = row; col = col }) code →
    ((c : Cell) → IsInside g c → c.row ≡ row → c.col < col → IsCodeAt g f c (slice_index dirs (index_of g.extent c))) →
    (c : Cell) → IsInside g c → c.row ≡ row → c.col < col + 1 → IsCodeAt g f c (slice_index (set dirs place code) (index_of g.extent c))
code_more g f row col place code dirs there within right before c inside at less =
    elim (cases_eq c.col col) [
      | inl last ↦
          (let same : c ≡ record { row = row; col = col } = λ i. record { row = at i; col = last i } in
          let here : place ≡ index_of g.extent c = there ∙ sym (ap (index_of g.extent) same) in
          subst (IsCodeAt g f c) (sym (ap (λ k. get_or (set dirs place code) k 0) (sym here) ∙ get_or-set_same dirs place code 0 within))
          (subst (λ (x : Cell). IsCodeAt g f x code) (sym same) right))
      | inr other ↦
          subst (IsCodeAt g f c)
          (sym (get_or-set_other dirs place (index_of g.extent c) code 0 (λ same. apart c.row row c.col col g.extent.cols at other (same ∙ there))))
          (before c inside at (earlier c.col col less other))
    ]
  where
    apart : (a b x y cols : ℕ) → a ≡ b → x ≢ y → a * cols + x ≡ b * cols + y → ⊥
    apart a b x y cols at other same = absurd (let rows : a * cols ≡ b * cols = ap (λ r. r * cols) at in omega (arith, rows, same, other))

    earlier : (x y : ℕ) → x < y + 1 → x ≢ y → x < y
    earlier x y less other = omega (arith, less, other)

-- nothing before the row is changed
pub before_stays : (row col cols place code i : ℕ) (old dirs : List ℕ) → place ≡ row * cols + col → i < row * cols →
    slice_index dirs i ≡ slice_index old i → slice_index (set dirs place code) i ≡ slice_index old i
before_stays row col cols place code i old dirs there less before = get_or-set_other dirs place i code 0 (earlier (row * cols) there less) ∙ before
  where
    earlier : (start : ℕ) → place ≡ start + col → i < start → i ≢ place
    earlier start there less same = absurd (omega (arith, there, less, same))
