-- A list of the first rows' spacings, of which the last one is that of all rows after it.
use Rattle.drain_window.proofs.Names.{◌≡◌, ℕ, zero, suc, ◌+◌, ◌-◌, ◌<◌, ◌≤◌, min, inl, inr, List, [], ◌∷◌, ◌++◌, length, slice_index_or, length-append, refl, sym, ap, ◌∙◌, arith, cases_lt, get_or_append_left, get_or-append-add, Distances, unit_spacing, Place, AreAlikeTo, AreRowsOf, IsEnough, last_spacing}

-- rows of one spacing are of another that is the same in each row
pub as_spaced : (spacing other : ℕ → Distances) (p : Place) (listed : List Distances) → ((row : ℕ) → spacing row ≡ other row) → AreRowsOf spacing p listed → AreRowsOf other p listed
as_spaced spacing other p listed same are row below = sym (same (p.top + row)) ∙ are row below

-- one row more was looked at: it is as the last one listed, or is listed
alike_more : (spacing : ℕ → Distances) (p : Place) (rows end : ℕ) → AreAlikeTo spacing p rows end →
    spacing (p.top + end) ≡ last_spacing spacing p rows → AreAlikeTo spacing p rows (end + 1)
alike_more spacing p rows end so_far here row from below =
    elim (cases_lt row end) [
      | inl before ↦ so_far row from before
      | inr last ↦ (let is : row ≡ end = omega arith in ap (λ (n : ℕ). spacing (p.top + n)) is ∙ here)
    ]

alike_anew : (spacing : ℕ → Distances) (p : Place) (end : ℕ) → AreAlikeTo spacing p (end + 1) (end + 1)
alike_anew spacing p end row from below = absurd (omega arith)

last_anew : (spacing : ℕ → Distances) (p : Place) (end : ℕ) → spacing (p.top + end) ≡ last_spacing spacing p (end + 1)
last_anew spacing p end = let next : suc end ≡ end + 1 = omega arith in ap (last_spacing spacing p) next

-- so many rows were looked at: so many of them are to be listed, the last of which is spaced so
pub record AreListedSoFar (spacing : ℕ → Distances) (p : Place) (row rows : ℕ) (last : Distances) : Type 0 where
  pub few : rows ≤ row
  pub last_is : last ≡ last_spacing spacing p rows
  pub alike : AreAlikeTo spacing p rows row

pub none_so_far : (spacing : ℕ → Distances) (p : Place) → AreListedSoFar spacing p 0 0 unit_spacing
none_so_far spacing p = record { few = omega arith; last_is = refl; alike = λ row from below. absurd (omega arith) }

pub listed_as_last : (spacing : ℕ → Distances) (p : Place) (row rows : ℕ) (last here : Distances) → AreListedSoFar spacing p row rows last →
    here ≡ spacing (p.top + row) → here ≡ last → AreListedSoFar spacing p (row + 1) rows last
listed_as_last spacing p row rows last here so_far is same = record {
  few = omega (arith, so_far.few);
  last_is = so_far.last_is;
  alike = alike_more spacing p rows row so_far.alike (sym is ∙ same ∙ so_far.last_is);
}

pub listed_anew : (spacing : ℕ → Distances) (p : Place) (row : ℕ) (here : Distances) → here ≡ spacing (p.top + row) →
    AreListedSoFar spacing p (row + 1) (row + 1) here
listed_anew spacing p row here is = record { few = omega arith; last_is = is ∙ last_anew spacing p row; alike = alike_anew spacing p row }

-- the first rows of a place, each listed at its place
pub record AreFirst (spacing : ℕ → Distances) (p : Place) (rows : ℕ) (listed : List Distances) : Type 0 where
  pub len : length listed ≡ rows
  pub each : (row : ℕ) → row < rows → slice_index_or listed row unit_spacing ≡ spacing (p.top + row)

pub first_none : (spacing : ℕ → Distances) (p : Place) → AreFirst spacing p 0 []
first_none spacing p = record { len = refl; each = λ row below. absurd (omega arith) }

pub first_more : (spacing : ℕ → Distances) (p : Place) (rows : ℕ) (listed : List Distances) (s : Distances) → s ≡ spacing (p.top + rows) →
    AreFirst spacing p rows listed → AreFirst spacing p (rows + 1) (listed ++ s ∷ [])
first_more spacing p rows listed s is first = record {
  len = length-append listed (s ∷ []) ∙ omega (arith, first.len);
  each = λ row below.
      elim (cases_lt row rows) [
        | inl before ↦
            get_or_append_left listed (s ∷ []) unit_spacing row (omega (arith, first.len)) ∙ first.each row before
        | inr last ↦
            (let at : row ≡ length listed + 0 = omega (arith, first.len) in
            let same : rows ≡ row = omega arith in
            ap (λ k. slice_index_or (listed ++ s ∷ []) k unit_spacing) at
            ∙ get_or-append-add listed (s ∷ []) 0 unit_spacing
            ∙ is
            ∙ ap (λ (n : ℕ). spacing (p.top + n)) same)
      ];
}

-- such a list gives the spacing of each row, where as many rows are enough
pub are_rows : (spacing : ℕ → Distances) (p : Place) (rows : ℕ) (listed : List Distances) → IsEnough spacing p rows → AreFirst spacing p rows listed →
    AreRowsOf spacing p listed
are_rows spacing p zero [] enough first row below = enough row (omega arith) below
are_rows spacing p zero (s ∷ listed) enough first row below = absurd (omega (arith, first.len))
are_rows spacing p (suc rows) listed enough first row below =
    elim (cases_lt row (suc rows)) [
      | inl before ↦
          (let at : min row (length listed - 1) ≡ row = omega (arith, first.len) in
          sym (ap (λ k. slice_index_or listed k unit_spacing) at ∙ first.each row before))
      | inr after ↦
          (let at : min row (length listed - 1) ≡ rows = omega (arith, first.len) in
          enough row after below ∙ sym (ap (λ k. slice_index_or listed k unit_spacing) at ∙ first.each rows (omega arith)))
    ]
