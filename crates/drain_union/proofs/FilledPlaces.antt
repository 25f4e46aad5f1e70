-- Places in a box that judge each cell that it judges show all of its seams along their own.
use Rattle.drain_union.proofs.Names.{◌≡◌, ℕ, ◌+◌, ◌-◌, ◌<◌, ◌≤◌, ◌⊎◌, inl, inr, Bool, true, false, IsTrue, List, refl, ap, arith, Contains, false≢true, Cell, cases, less_number, place, Place, IsOuter, LiesInBox, FillByEdges, IsOnSeam, IsJudgedAlong, IsJudgedAt, IsJudgedAtSome, IsJudgedIn, JudgesSome, in_union}
use Rattle.drain_union.proofs.JudgedCounts.{judged_both, judged_at}

-- k is the number itself, or the next one inside where it is on a ring
abbrev pub IsNear : Bool → Bool → ℕ → ℕ → ℕ → Type 0
IsNear n s count at k = (k ≡ at) ⊎ ((IsTrue n × (at ≡ 0) × (k ≡ 1)) ⊎ (IsTrue s × (at + 1 ≡ count) × (k + 1 ≡ at)))

-- from a number below the count to one that is judged, where one is
pub near : (n s : Bool) (count at j : ℕ) → at < count → j < count → (IsTrue n → 0 < j) → (IsTrue s → j + 1 < count) →
    (k : ℕ) × (k < count) × (IsTrue n → 0 < k) × (IsTrue s → k + 1 < count) × IsNear n s count at k
near false false count at j in_at in_j before behind = (at, in_at, (λ no. absurd (false≢true no)), (λ no. absurd (false≢true no)), inl refl)
near true false count at j in_at in_j before behind =
    let some : 0 < j = before refl in
    elim (cases (less_number at 1)) [
      | inl first ↦ (1, omega arith, (λ is. omega arith), (λ no. absurd (false≢true no)), inr (inl (refl, omega arith, refl)))
      | inr later ↦ (at, in_at, (λ is. omega arith), (λ no. absurd (false≢true no)), inl refl)
    ]
near false true count at j in_at in_j before behind =
    let more : j + 1 < count = behind refl in
    elim (cases (less_number (at + 1) count)) [
      | inl inside ↦ (at, in_at, (λ no. absurd (false≢true no)), (λ is. inside), inl refl)
      | inr last ↦ (at - 1, omega arith, (λ no. absurd (false≢true no)), (λ is. omega arith), inr (inr (refl, omega arith, omega arith)))
    ]
near true true count at j in_at in_j before behind =
    let some : 0 < j = before refl in
    let more : j + 1 < count = behind refl in
    elim (cases (less_number at 1)) [
      | inl first ↦ (1, omega arith, (λ is. omega arith), (λ is. omega arith), inr (inl (refl, omega arith, refl)))
      | inr later ↦
          elim (cases (less_number (at + 1) count)) [
            | inl inside ↦ (at, in_at, (λ is. omega arith), (λ is. inside), inl refl)
            | inr last ↦ (at - 1, omega arith, (λ is. omega arith), (λ is. omega arith), inr (inr (refl, omega arith, omega arith)))
          ]
    ]

-- the box's rows and a place's, or their columns
module _ (n s qn qs : Bool) (from count start size : ℕ) (after : from ≤ start) (within : start + size ≤ from + count)
    (first : IsTrue qn ⊎ ((start ≡ from) × ¬ IsTrue n)) (last : IsTrue qs ⊎ ((start + size ≡ from + count) × ¬ IsTrue s)) where
  judged_in_box : (r : ℕ) → IsJudgedAlong start size qn qs r → IsJudgedAlong from count n s r
  judged_in_box r judged = record {
    from = omega (arith, judged.from, after);
    below = omega (arith, judged.below, within);
    before = λ is. elim first [ inl inner ↦ (let more : start < r = judged.before inner in omega (arith, after)) | inr outer ↦ absurd (outer.1 is) ];
    behind = λ is. elim last [ inl inner ↦ (let more : r + 1 < start + size = judged.behind inner in omega (arith, within)) | inr outer ↦ absurd (outer.1 is) ];
  }

  holds_it : (at k y : ℕ) → at < count → start + y ≡ from + k → y < size → (IsTrue qn → 0 < y) → (IsTrue qs → y + 1 < size) →
      IsNear n s count at k → (start ≤ from + at) × (from + at < start + size)
  holds_it at k y in_at same in_y before behind (inl one) = (omega (arith, same, one), omega (arith, same, one))
  holds_it at k y in_at same in_y before behind (inr (inl ring)) =
      elim first [
        | inl inner ↦ (let some : 0 < y = before inner in (omega (arith, same, ring.1, ring.2), omega (arith, same, ring.1, ring.2)))
        | inr outer ↦ absurd (outer.1 ring.0)
      ]
  holds_it at k y in_at same in_y before behind (inr (inr ring)) =
      elim last [
        | inl inner ↦ (let more : y + 1 < size = behind inner in (omega (arith, same, ring.1, ring.2), omega (arith, same, ring.1, ring.2)))
        | inr outer ↦ absurd (outer.1 ring.0)
      ]

  reach : (at : ℕ) → at < count → (start ≤ from + at) × (from + at < start + size) →
      (x : ℕ) × (x < size) × (start + x ≡ from + at) × ((IsTrue n × (at < 2)) → IsTrue qn × (x < 2))
      × ((IsTrue s × (count ≤ at + 2)) → IsTrue qs × (size ≤ x + 2))
  reach at in_at held = (
    from + at - start,
    omega (arith, held.0, held.1),
    omega (arith, held.0),
    (λ h. elim first [ inl inner ↦ (inner, omega (arith, h.1, after)) | inr outer ↦ absurd (outer.1 h.0) ]),
    (λ h. elim last [ inl inner ↦ (inner, omega (arith, h.1, within, held.0)) | inr outer ↦ absurd (outer.1 h.0) ]),
  )

module _ (p : Place) (places : List Place) (lie : (q : Place) → Contains places q → LiesInBox p q) where
  pub inside : (c : Cell) → IsJudgedAtSome places c → IsJudgedAt p c
  inside c at =
      let q = at.0 in
      let lies = lie q at.1 in
      let both = judged_both q c at.2 in
      judged_at p c (record {
        rows = judged_in_box p.inner.north p.inner.south q.inner.north q.inner.south p.top p.extent.rows q.top q.extent.rows
            lies.rows_from lies.rows_to lies.north lies.south c.row both.rows;
        cols = judged_in_box p.inner.west p.inner.east q.inner.west q.inner.east p.left p.extent.cols q.left q.extent.cols
            lies.cols_from lies.cols_to lies.west lies.east c.col both.cols;
      })

module _ (p : Place) (places : List Place) (some : JudgesSome p) (lie : (q : Place) → Contains places q → LiesInBox p q)
    (whole : (c : Cell) → IsJudgedAt p c → IsJudgedAtSome places c) where
  seam : (c : Cell) → IsOnSeam 2 p c → (q : Place) × Contains places q × IsOuter 2 q (in_union p c)
  seam c on =
      let j = some.1 in
      let k = near p.inner.north p.inner.south p.extent.rows c.row some.0.row on.inside.row j.inside.row j.north j.south in
      let l = near p.inner.west p.inner.east p.extent.cols c.col some.0.col on.inside.col j.inside.col j.west j.east in
      let judged : IsJudgedIn p (place k.0 l.0) =
      record { inside = record { row = k.1; col = l.1 }; north = k.2; south = k.3; west = l.2; east = l.3 } in
      let at = whole (in_union p (place k.0 l.0)) (place k.0 l.0, judged, refl) in
      let q = at.0 in
      let lies = lie q at.1 in
      let y = at.2.1 in
      let row : q.top + at.2.0.row ≡ p.top + k.0 = ap (λ (z : Cell). z.row) at.2.2 in
      let col : q.left + at.2.0.col ≡ p.left + l.0 = ap (λ (z : Cell). z.col) at.2.2 in
      let in_rows = holds_it p.inner.north p.inner.south q.inner.north q.inner.south p.top p.extent.rows q.top q.extent.rows
      lies.rows_from lies.rows_to lies.north lies.south c.row k.0 at.2.0.row on.inside.row row y.inside.row y.north y.south k.4 in
      let in_cols = holds_it p.inner.west p.inner.east q.inner.west q.inner.east p.left p.extent.cols q.left q.extent.cols
      lies.cols_from lies.cols_to lies.west lies.east c.col l.0 at.2.0.col on.inside.col col y.inside.col y.west y.east l.4 in
      let r = reach p.inner.north p.inner.south q.inner.north q.inner.south p.top p.extent.rows q.top q.extent.rows
      lies.rows_from lies.rows_to lies.north lies.south c.row on.inside.row in_rows in
      let t = reach p.inner.west p.inner.east q.inner.west q.inner.east p.left p.extent.cols q.left q.extent.cols
      lies.cols_from lies.cols_to lies.west lies.east c.col on.inside.col in_cols in (
        q,
        at.1,
        (
          place r.0 t.0,
          record {
            inside = record { row = r.1; col = t.1 };
            beside = elim on.beside [
              | inl (inl h) ↦ inl (inl (r.3 h))
              | inl (inr h) ↦ inl (inr (r.4 h))
              | inr (inl h) ↦ inr (inl (t.3 h))
              | inr (inr h) ↦ inr (inr (t.4 h))
            ];
          },
          λ i. place (r.2 i) (t.2 i),
        ),
      )

pub fill_by_edges : FillByEdges
fill_by_edges p places some lie whole = record { within = inside p places lie; whole = whole; seams = seam p places some lie whole }
