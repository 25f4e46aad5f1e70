-- One cell more of a row of the box, and one row more of the grid: what is listed of the seams.
use Rattle.drain_window.proofs.Names.{◌≡◌, ℕ, ◌+◌, ◌-◌, ◌<◌, ◌≤◌, ◌⊎◌, inl, inr, [], ◌∷◌, ◌++◌, List, sym, ◌∙◌, subst, arith, Contains, cases_lt, Contains-append_left, Contains-push, Contains-push_cases, Cell, Grid, Products, Place, SEAM_DEPTH, Shown, IsOnSeam, AddsSeams, IsSeamAbove, IsSeamBefore, IsShownAt, ListsSeamsAbove}
use Rattle.drain_rules.specs.Rows.{place}

-- nothing is shown before the first column
pub seams-none : (origin : Cell) (p : Place) (g : Grid) (ps : Products) (row : ℕ) (xs : List Shown) → AddsSeams origin p g ps row 0 xs xs
seams-none origin p g ps row xs x = (
  (λ has. inl has),
  (λ either. elim either [
    | inl has ↦ has
    | inr before ↦ absurd (omega (arith, before.to))
  ]),
)

wider : (origin : Cell) (p : Place) (g : Grid) (ps : Products) (row col : ℕ) (x : Shown) → IsSeamBefore origin p g ps row col x → IsSeamBefore origin p g ps row (col + 1) x
wider origin p g ps row col x before = record { col = before.col; to = omega (arith, before.to); on_seam = before.on_seam; shown = before.shown }

-- cells that are on no seam
pub seams-past : (origin : Cell) (p : Place) (g : Grid) (ps : Products) (row col next : ℕ) (old new : List Shown) → col ≤ next →
    ((k : ℕ) → col ≤ k → k < next → ¬ IsOnSeam SEAM_DEPTH p (place row k)) → AddsSeams origin p g ps row col old new → AddsSeams origin p g ps row next old new
seams-past origin p g ps row col next old new forward off so_far x = (to, back)
  where
    to : Contains new x → Contains old x ⊎ IsSeamBefore origin p g ps row next x
    to has = elim ((so_far x).0 has) [
      | inl had ↦ inl had
      | inr before ↦ inr (record { col = before.col; to = omega (arith, before.to, forward); on_seam = before.on_seam; shown = before.shown })
    ]

    back : Contains old x ⊎ IsSeamBefore origin p g ps row next x → Contains new x
    back (inl had) = (so_far x).1 (inl had)
    back (inr before) = elim (cases_lt before.col col) [
      | inl earlier ↦ (so_far x).1 (inr (record { col = before.col; to = earlier; on_seam = before.on_seam; shown = before.shown }))
      | inr behind ↦ absurd (off before.col (omega (arith, behind)) before.to before.on_seam)
    ]

-- a cell of a seam
pub seams-more : (origin : Cell) (p : Place) (g : Grid) (ps : Products) (row col : ℕ) (old new : List Shown) (here : Shown) → IsOnSeam SEAM_DEPTH p (place row col) →
    IsShownAt origin p g ps (place row col) here → AddsSeams origin p g ps row col old new → AddsSeams origin p g ps row (col + 1) old (new ++ here ∷ [])
seams-more origin p g ps row col old new here on is so_far x = (to, back)
  where
    to : Contains (new ++ here ∷ []) x → Contains old x ⊎ IsSeamBefore origin p g ps row (col + 1) x
    to has = elim (Contains-push_cases new here x has) [
      | inl before ↦
          (elim ((so_far x).0 before) [
            | inl had ↦ inl had
            | inr earlier ↦ inr (wider origin p g ps row col x earlier)
          ])
      | inr same ↦
          inr (record { col = col; to = omega arith; on_seam = on; shown = subst (λ (y : Shown). IsShownAt origin p g ps (place row col) y) same is })
    ]

    same_shown : (a b : Shown) (c : Cell) → IsShownAt origin p g ps c a → IsShownAt origin p g ps c b → a ≡ b
    same_shown a b c is_a is_b = λ i. record { cell = (is_a.cell ∙ sym is_b.cell) i; values = (is_a.values ∙ sym is_b.values) i }

    at_last : (k : ℕ) → k ≡ col → IsShownAt origin p g ps (place row k) x → Contains (new ++ here ∷ []) x
    at_last k last shown =
        let at_col : IsShownAt origin p g ps (place row col) x = subst (λ n. IsShownAt origin p g ps (place row n) x) last shown in
        subst (Contains (new ++ here ∷ [])) (same_shown here x (place row col) is at_col) (Contains-push new here)

    back : Contains old x ⊎ IsSeamBefore origin p g ps row (col + 1) x → Contains (new ++ here ∷ []) x
    back (inl had) = Contains-append_left new (here ∷ []) x ((so_far x).1 (inl had))
    back (inr before) = elim (cases_lt before.col col) [
      | inl earlier ↦
          Contains-append_left new (here ∷ []) x
          ((so_far x).1 (inr (record { col = before.col; to = earlier; on_seam = before.on_seam; shown = before.shown })))
      | inr behind ↦ at_last before.col (omega (arith, behind, before.to)) before.shown
    ]

-- one row of the box more
pub above-more : (origin : Cell) (p : Place) (g : Grid) (ps : Products) (row : ℕ) (old new : List Shown) → p.top ≤ row → row < p.top + p.extent.rows →
    ListsSeamsAbove origin p g ps row old → AddsSeams origin p g ps (row - p.top) p.extent.cols old new → ListsSeamsAbove origin p g ps (row + 1) new
above-more origin p g ps row old new from to so_far adds x = (there, back)
  where
    there : Contains new x → (c : Cell) × IsSeamAbove p (row + 1) c × IsShownAt origin p g ps c x
    there has = elim ((adds x).0 has) [
      | inl before ↦
          (let found = (so_far x).0 before in
          (found.0, record { on_seam = found.1.on_seam; above = omega (arith, found.1.above) }, found.2))
      | inr here ↦
          (place (row - p.top) here.col, record { on_seam = here.on_seam; above = omega arith }, here.shown)
    ]

    at_row : (r col : ℕ) → r ≡ row - p.top → IsOnSeam SEAM_DEPTH p (place r col) → IsShownAt origin p g ps (place r col) x → Contains new x
    at_row r col is on shown =
        (adds x).1
        (inr (record {
          col = col;
          to = on.inside.col;
          on_seam = subst (λ n. IsOnSeam SEAM_DEPTH p (place n col)) is on;
          shown = subst (λ n. IsShownAt origin p g ps (place n col) x) is shown;
        }))

    back : (c : Cell) × IsSeamAbove p (row + 1) c × IsShownAt origin p g ps c x → Contains new x
    back (c, above, shown) = elim (cases_lt (p.top + c.row) row) [
      | inl before ↦ (adds x).1 (inl ((so_far x).1 (c, record { on_seam = above.on_seam; above = before }, shown)))
      | inr behind ↦ at_row c.row c.col (omega (arith, behind, above.above)) above.on_seam shown
    ]

-- a row above or below the box changes nothing
pub above-past : (origin : Cell) (p : Place) (g : Grid) (ps : Products) (row : ℕ) (xs : List Shown) → (p.top ≤ row → row < p.top + p.extent.rows → ⊥) →
    ListsSeamsAbove origin p g ps row xs → ListsSeamsAbove origin p g ps (row + 1) xs
above-past origin p g ps row xs outside so_far x = (there, back)
  where
    there : Contains xs x → (c : Cell) × IsSeamAbove p (row + 1) c × IsShownAt origin p g ps c x
    there has =
        let found = (so_far x).0 has in
        (found.0, record { on_seam = found.1.on_seam; above = omega (arith, found.1.above) }, found.2)

    back : (c : Cell) × IsSeamAbove p (row + 1) c × IsShownAt origin p g ps c x → Contains xs x
    back (c, above, shown) = elim (cases_lt (p.top + c.row) row) [
      | inl before ↦ (so_far x).1 (c, record { on_seam = above.on_seam; above = before }, shown)
      | inr behind ↦
          (let inside : c.row < p.extent.rows = above.on_seam.inside.row in
          let last : p.top + c.row ≡ row = omega (arith, behind, above.above) in
          absurd (outside (omega arith) (omega arith)))
    ]
