-- Places that judge no cell both overlap in their seams: along one direction the judged ones of the one end before those
-- of the other begin, and each has one, so that both sides there are inner.
use Rattle.drain_union.proofs.Names.{◌≡◌, ℕ, ◌+◌, ◌-◌, ◌<◌, ◌≤◌, max, ◌⊎◌, inl, inr, Bool, true, false, IsTrue, if◌then◌else◌, refl, sym, ap, ◌∙◌, arith, false≢true, Cell, Extent, cases, less_number, place, Place, IsJudgedAlong, IsJudgedAt, JudgesSome, BothJudgeOne, in_union, IsPlaceIn, judged_top, judged_left, judged_bottom, judged_right, OverlapInSeams, LiesInBox, JudgedApart}
use Rattle.drain_union.proofs.JudgedCounts.{all_of, judged_both, judged_at}

-- a judged cell of the union lies between the edges of the judged rows and columns
pub record IsWithinEdges (p : Place) (c : Cell) : Type 0 where
  pub top : judged_top p ≤ c.row
  pub bottom : c.row < judged_bottom p
  pub left : judged_left p ≤ c.col
  pub right : c.col < judged_right p

along_edges : (s f : Bool) (first count at : ℕ) → IsJudgedAlong first count s f at →
    (first + (if s then 1 else 0) ≤ at) × (at < first + count - (if f then 1 else 0))
along_edges true true first count at is = let a : first < at = is.before refl in let b : at + 1 < first + count = is.behind refl in (omega arith, omega arith)
along_edges true false first count at is = let a : first < at = is.before refl in let b : at < first + count = is.below in (omega arith, omega arith)
along_edges false true first count at is = let a : first ≤ at = is.from in let b : at + 1 < first + count = is.behind refl in (omega arith, omega arith)
along_edges false false first count at is = let a : first ≤ at = is.from in let b : at < first + count = is.below in (omega arith, omega arith)

edges_along : (s f : Bool) (first count at : ℕ) → first + (if s then 1 else 0) ≤ at → at < first + count - (if f then 1 else 0) →
    IsJudgedAlong first count s f at
edges_along true true first count at low high =
    record { from = omega arith; below = omega arith; before = λ _. omega arith; behind = λ _. omega arith }
edges_along true false first count at low high =
    record { from = omega arith; below = omega arith; before = λ _. omega arith; behind = λ no. absurd (false≢true no) }
edges_along false true first count at low high =
    record { from = omega arith; below = omega arith; before = λ no. absurd (false≢true no); behind = λ _. omega arith }
edges_along false false first count at low high =
    record { from = omega arith; below = omega arith; before = λ no. absurd (false≢true no); behind = λ no. absurd (false≢true no) }

pub within_edges : (p : Place) (c : Cell) → IsJudgedAt p c → IsWithinEdges p c
within_edges p c at =
    let both = judged_both p c at in
    let rows = along_edges p.inner.north p.inner.south p.top p.extent.rows c.row both.rows in
    let cols = along_edges p.inner.west p.inner.east p.left p.extent.cols c.col both.cols in
    record { top = rows.0; bottom = rows.1; left = cols.0; right = cols.1 }

pub edges_within : (p : Place) (c : Cell) → IsWithinEdges p c → IsJudgedAt p c
edges_within p c within = judged_at p c (record {
  rows = edges_along p.inner.north p.inner.south p.top p.extent.rows c.row within.top within.bottom;
  cols = edges_along p.inner.west p.inner.east p.left p.extent.cols c.col within.left within.right;
})

-- numbers from a up to b, and from k up to n, begin together at the greater first one
both_begin : (a b k n : ℕ) → a < b → k < n → k < b → a < n → (a ≤ max a k) × (max a k < b) × (k ≤ max a k) × (max a k < n)
both_begin a b k n some other first second = (omega arith, omega arith, omega arith, omega arith)

-- where judged rows meet and judged columns meet, a cell is judged at both places
pub meeting : (p q : Place) → max (judged_top p) (judged_top q) < judged_bottom p → max (judged_top p) (judged_top q) < judged_bottom q →
    max (judged_left p) (judged_left q) < judged_right p → max (judged_left p) (judged_left q) < judged_right q → BothJudgeOne p q
meeting p q bottom_p bottom_q right_p right_q =
    let row = max (judged_top p) (judged_top q) in
    let col = max (judged_left p) (judged_left q) in (
      place row col,
      edges_within p (place row col) (record { top = omega arith; bottom = bottom_p; left = omega arith; right = right_p }),
      edges_within q (place row col) (record { top = omega arith; bottom = bottom_q; left = omega arith; right = right_q }),
    )

abbrev AreEdgesApart : Place → Place → Type 0
AreEdgesApart p q =
    ((judged_bottom p ≤ judged_top q) ⊎ (judged_bottom q ≤ judged_top p))
    ⊎ ((judged_right p ≤ judged_left q) ⊎ (judged_right q ≤ judged_left p))

-- the place's own judged cell, as one of the union
some_within : (p : Place) → JudgesSome p → (judged_top p < judged_bottom p) × (judged_left p < judged_right p)
some_within p (c, judged) =
    let within = within_edges p (in_union p c) (c, judged, refl) in
    let top = within.top in
    let bottom = within.bottom in
    let left = within.left in
    let right = within.right in
    (omega (arith, top, bottom), omega (arith, left, right))

edges_apart : (p q : Place) → JudgesSome p → JudgesSome q → ¬ BothJudgeOne p q → AreEdgesApart p q
edges_apart p q some_p some_q none =
    let of_p = some_within p some_p in
    let of_q = some_within q some_q in
    elim (cases (less_number (judged_top q) (judged_bottom p))) [
      | inr far ↦ inl (inl (omega arith))
      | inl a ↦
          elim (cases (less_number (judged_top p) (judged_bottom q))) [
            | inr far ↦ inl (inr (omega arith))
            | inl b ↦
                elim (cases (less_number (judged_left q) (judged_right p))) [
                  | inr far ↦ inr (inl (omega arith))
                  | inl c ↦
                      elim (cases (less_number (judged_left p) (judged_right q))) [
                        | inr far ↦ inr (inr (omega arith))
                        | inl d ↦
                            (let rows = both_begin (judged_top p) (judged_bottom p) (judged_top q) (judged_bottom q) of_p.0 of_q.0 a b in
                            let cols = both_begin (judged_left p) (judged_right p) (judged_left q) (judged_right q) of_p.1 of_q.1 c d in
                            absurd (none (meeting p q rows.1 rows.3 cols.1 cols.3)))
                      ]
                ]
          ]
    ]

-- what is left where a flag isn't set
other : {X : Type 0} (b : Bool) → b ≡ false → IsTrue b ⊎ X → X
other b unset (inl is) = absurd (false≢true (sym unset ∙ is))
other b unset (inr x) = x

-- along one direction: n numbers from t on, then m numbers from v on, from a start up to an end
along : (s f : Bool) (t n v m begin end a b x y : ℕ) → IsTrue s ⊎ (t + n ≡ end) → IsTrue f ⊎ (v ≡ begin) → begin ≤ t → v + m ≤ end → t + a ≡ v + b →
    a < n → b < m → x < n → (IsTrue s → x + 1 < n) → y < m → (IsTrue f → 0 < y) →
    t + n - (if s then 1 else 0) ≤ v + (if f then 1 else 0) → (IsTrue s × (n ≤ a + 2)) × (IsTrue f × (b < 2))
along true true t n v m begin end a b x y edge start above below same in_a in_b in_x more in_y some apart =
    ((refl, omega (arith, same, in_a, apart)), (refl, omega (arith, same, in_a, apart)))
along true false t n v m begin end a b x y edge start above below same in_a in_b in_x more in_y some apart =
    let next : x + 1 < n = more refl in
    let at_start : v ≡ begin = other false refl start in
    absurd (omega (arith, at_start, above, apart))
along false true t n v m begin end a b x y edge start above below same in_a in_b in_x more in_y some apart =
    let after : 0 < y = some refl in
    let at_end : t + n ≡ end = other false refl edge in
    absurd (omega (arith, at_end, below, in_y, apart))
along false false t n v m begin end a b x y edge start above below same in_a in_b in_x more in_y some apart =
    let at_end : t + n ≡ end = other false refl edge in
    absurd (omega (arith, at_end, below, in_y, apart))

-- what a side that isn't inner is in a box
side : {X Y Z : Type 0} → X ⊎ (Y × Z) → X ⊎ Y
side (inl inner) = inl inner
side (inr outer) = inr outer.0

by_edges : (box p q : Place) → LiesInBox box p → LiesInBox box q → JudgesSome p → JudgesSome q → AreEdgesApart p q → OverlapInSeams 2 p q
by_edges box p q in_p in_q of_p of_q (inl (inl above)) a b at_a at_b same =
    let row : p.top + a.row ≡ q.top + b.row = ap (λ (c : Cell). c.row) same in
    let both = along p.inner.south q.inner.north p.top p.extent.rows q.top q.extent.rows box.top (box.top + box.extent.rows) a.row b.row of_p.0.row of_q.0.row
    (side in_p.south) (side in_q.north) in_p.rows_from in_q.rows_to row at_a.row at_b.row of_p.1.inside.row of_p.1.south of_q.1.inside.row of_q.1.north above in
    (record { inside = at_a; beside = inl (inr both.0) }, record { inside = at_b; beside = inl (inl both.1) })
by_edges box p q in_p in_q of_p of_q (inl (inr below)) a b at_a at_b same =
    let row : q.top + b.row ≡ p.top + a.row = ap (λ (c : Cell). c.row) (sym same) in
    let both = along q.inner.south p.inner.north q.top q.extent.rows p.top p.extent.rows box.top (box.top + box.extent.rows) b.row a.row of_q.0.row of_p.0.row
    (side in_q.south) (side in_p.north) in_q.rows_from in_p.rows_to row at_b.row at_a.row of_q.1.inside.row of_q.1.south of_p.1.inside.row of_p.1.north below in
    (record { inside = at_a; beside = inl (inl both.1) }, record { inside = at_b; beside = inl (inr both.0) })
by_edges box p q in_p in_q of_p of_q (inr (inl before)) a b at_a at_b same =
    let col : p.left + a.col ≡ q.left + b.col = ap (λ (c : Cell). c.col) same in
    let both = along p.inner.east q.inner.west p.left p.extent.cols q.left q.extent.cols box.left (box.left + box.extent.cols) a.col b.col of_p.0.col of_q.0.col
    (side in_p.east) (side in_q.west) in_p.cols_from in_q.cols_to col at_a.col at_b.col of_p.1.inside.col of_p.1.east of_q.1.inside.col of_q.1.west before in
    (record { inside = at_a; beside = inr (inr both.0) }, record { inside = at_b; beside = inr (inl both.1) })
by_edges box p q in_p in_q of_p of_q (inr (inr behind)) a b at_a at_b same =
    let col : q.left + b.col ≡ p.left + a.col = ap (λ (c : Cell). c.col) (sym same) in
    let both = along q.inner.east p.inner.west q.left q.extent.cols p.left p.extent.cols box.left (box.left + box.extent.cols) b.col a.col of_q.0.col of_p.0.col
    (side in_q.east) (side in_p.west) in_q.cols_from in_p.cols_to col at_b.col at_a.col of_q.1.inside.col of_q.1.east of_p.1.inside.col of_p.1.west behind in
    (record { inside = at_a; beside = inr (inl both.1) }, record { inside = at_b; beside = inr (inr both.0) })

pub apart_in_box : (box p q : Place) → LiesInBox box p → LiesInBox box q → JudgesSome p → JudgesSome q → ¬ BothJudgeOne p q → OverlapInSeams 2 p q
apart_in_box box p q in_p in_q some_p some_q none = by_edges box p q in_p in_q some_p some_q (edges_apart p q some_p some_q none)

-- a place in a union lies in the box that is all of it
pub in_all_of : (e : Extent) (p : Place) → IsPlaceIn e p → LiesInBox (all_of e) p
in_all_of e p is = record {
  rows_from = omega arith;
  rows_to = omega (arith, is.rows);
  cols_from = omega arith;
  cols_to = omega (arith, is.cols);
  north = elim is.north [ inl inner ↦ inl inner | inr edge ↦ inr (edge, false≢true) ];
  south = elim is.south [ inl inner ↦ inl inner | inr edge ↦ inr (omega (arith, edge), false≢true) ];
  west = elim is.west [ inl inner ↦ inl inner | inr edge ↦ inr (edge, false≢true) ];
  east = elim is.east [ inl inner ↦ inl inner | inr edge ↦ inr (omega (arith, edge), false≢true) ];
}

pub judged_apart : JudgedApart
judged_apart e p q in_p in_q = apart_in_box (all_of e) p q (in_all_of e p in_p) (in_all_of e q in_q)
