-- What a walk over all rows of a grid says of a window that was cut out of it. The laws are this project's own.
use Rattle.std.specs.Prelude.{◌≡◌}
use Rattle.drain_window.specs.Names.{List, Contains, Cell, Grid, Products, IsInside, values_at, IsPatchRule, unranked, NoDataNumbers, Values, IsAreaOutcome, CountsAmong, HasCell, IsOutletCell, place, Outlet, Place, SEAM_DEPTH, Shown, window_at, Window, in_union, IsFirstInside, IsJudgedOutlet, IsPlaceIn, RulesHoldInside, ListsSeams, IsEarlier, Area, IsOutletByCode}
use Rattle.drain_rules.specs.declared.walk.RowOutcome.{RowOutcome}
use Rattle.drain_rules.specs.declared.walk.RowOutcome.TheVariants.{Sound, Faulty}
use Rattle.drain_window.specs.JudgedAreas.{AreListed, cells_in, judged_area, AddsOutlet, IsBefore, IsOutletAt, Lists, cell_from}
use Rattle.drain_window.specs.SeamRows.{ListsSeamsAbove}
use Rattle.std.proofs.Common.{ℕ, ◌+◌, ◌↔◌, inl, inr, false, IsTrue, refl, sym, ◌∙◌, ap, subst, arith}
use Rattle.drain_rules.specs.Laws.{earlier-more, earlier-still}

-- the list holds the label and the union's cell of each outlet that the window judges, and nothing else, in any order
pub record ListsJudged (w : Window) (xs : List Outlet) : Type 0 where
  pub sound : (x : Outlet) → Contains xs x →
      (c : Cell) × IsJudgedOutlet w c × (w.products.bas c ≡ x.label) × (in_union w.place c ≡ x.cell)
  pub complete : (c : Cell) → IsJudgedOutlet w c → Contains xs (record { label = w.products.bas c; cell = in_union w.place c })

-- of the window that lies at a place of a grid: the rules hold at the judged cells, which are counted, and their outlets
-- are listed; else this is its first fault
abbrev pub IsOfWindow : NoDataNumbers → Cell → Place → Grid → Products → List Outlet → RowOutcome → Type 0
IsOfWindow nodata origin p g ps outlets (Sound tally) =
    RulesHoldInside nodata (window_at origin p g ps) × ListsJudged (window_at origin p g ps) outlets × CountsAmong g ps (cells_in (judged_area p)) tally
IsOfWindow nodata origin p g ps outlets (Faulty cell rule) = (c : Cell) × (in_union p c ≡ cell) × IsFirstInside nodata (window_at origin p g ps) c rule

-- what was found in the judged area of a place after all rows is so of the window that lies there
abbrev pub WalkJudgesWindow : Type 0
WalkJudgesWindow =
    (nodata : NoDataNumbers) (origin : Cell) (p : Place) (g : Grid) (ps : Products) (outlets : List Outlet) (outcome : RowOutcome) → IsPlaceIn g.extent p →
    IsAreaOutcome (unranked nodata) IsPatchRule (judged_area p) g ps g.extent.rows (AreListed (judged_area p) origin g ps (place g.extent.rows 0) outlets) outcome → IsOfWindow nodata origin p g ps outlets outcome

-- what was listed of the seams after all rows is what the window shows there
abbrev pub WalkListsSeams : Type 0
WalkListsSeams =
    (origin : Cell) (p : Place) (g : Grid) (ps : Products) (xs : List Shown) → IsPlaceIn g.extent p →
    ListsSeamsAbove origin p g ps g.extent.rows xs → ListsSeams SEAM_DEPTH (window_at origin p g ps) xs

-- What listed outlets say, as the place goes on in row order. The laws are this project's own.

-- no list is compared
pub not_compared : {P : Type 0} → IsTrue false → P
not_compared is = absurd (let no : ⊥ = cc in no)

-- with a judged cell the list is that before the next place
one_more : (g : Grid) (ps : Products) (row col : ℕ) (here : Values) (a : Area) (origin : Cell) (old new : List Outlet) → IsInside g (place row col) → HasCell a (place row col) →
    here ≡ values_at g ps (place row col) → Lists here (cell_from origin (place row col)) old new → AreListed a origin g ps (place row col) old → AreListed a origin g ps (place row (col + 1)) new
one_more g ps row col here a origin old new inside judged is lists so_far x = (to, back)
  where
    to : Contains new x → (c : Cell) × IsBefore a (place row (col + 1)) c × IsOutletAt g ps origin c x
    to has = elim ((lists x).0 has) [
      | inl before ↦
          (let f = (so_far x).0 before in
          (f.0, record { inside = f.1.inside; earlier = earlier-still f.0 row col f.1.earlier }, f.2))
      | inr outlet ↦
          (let by_code : IsOutletByCode (values_at g ps (place row col)) = subst (λ (v : Values). IsOutletByCode v) is outlet.outlet in (
            place row col,
            record { inside = judged; earlier = inr (refl, omega arith) },
            record {
              has_data = record { inside = inside; is_data = by_code.has_data };
              code = by_code.code;
              label = outlet.label ∙ ap (λ (v : Values). v.bas) is;
              cell = outlet.cell_is;
            },
          ))
    ]

    at_last : (c : Cell) → c ≡ place row col → IsOutletAt g ps origin c x → Contains new x
    at_last c same outlet =
        let here_is : IsOutletAt g ps origin (place row col) x = subst (λ b. IsOutletAt g ps origin b x) same outlet in
        let by_code : IsOutletByCode (values_at g ps (place row col)) = record { has_data = here_is.has_data.is_data; code = here_is.code } in
        (lists x).1
        (inr (record {
          outlet = subst (λ (v : Values). IsOutletByCode v) (sym is) by_code;
          label = here_is.label ∙ sym (ap (λ (v : Values). v.bas) is);
          cell_is = here_is.cell;
        }))

    back : (c : Cell) × IsBefore a (place row (col + 1)) c × IsOutletAt g ps origin c x → Contains new x
    back (c, before, outlet) = elim (earlier-more c row col before.earlier) [
      | inl same ↦ at_last c same outlet
      | inr earlier ↦ (lists x).1 (inl ((so_far x).1 (c, record { inside = before.inside; earlier = earlier }, outlet)))
    ]

pub listed-more : (g : Grid) (ps : Products) (row col : ℕ) (here : Values) (a b : Area) (origin same : Cell) (old new : List Outlet) → IsInside g (place row col) → HasCell a (place row col) →
    here ≡ values_at g ps (place row col) → AddsOutlet here (place row col) a b origin same old new → AreListed a origin g ps (place row col) old → AreListed b same g ps (place row (col + 1)) new
listed-more g ps row col here a b origin same old new inside judged is adds so_far =
    subst (λ r. AreListed r same g ps (place row (col + 1)) new) (sym adds.area)
    (subst (λ o. AreListed a o g ps (place row (col + 1)) new) (sym adds.origin_is)
    (one_more g ps row col here a origin old new inside judged is adds.lists so_far))

-- cells that aren't judged outlets change nothing
pub listed-passed : (a : Area) (origin : Cell) (g : Grid) (ps : Products) (p q : Cell) (xs : List Outlet) →
    ((c : Cell) → HasCell a c → IsOutletCell g ps c → IsEarlier c p ↔ IsEarlier c q) → AreListed a origin g ps p xs → AreListed a origin g ps q xs
listed-passed a origin g ps p q xs same so_far x = (to, back)
  where
    to : Contains xs x → (c : Cell) × IsBefore a q c × IsOutletAt g ps origin c x
    to has =
        let f = (so_far x).0 has in
        (f.0, record { inside = f.1.inside; earlier = (same f.0 f.1.inside (record { has_data = f.2.has_data; code = f.2.code })).0 f.1.earlier }, f.2)

    back : (c : Cell) × IsBefore a q c × IsOutletAt g ps origin c x → Contains xs x
    back (c, before, outlet) =
        (so_far x).1 (c, record { inside = before.inside; earlier = (same c before.inside (record { has_data = outlet.has_data; code = outlet.code })).1 before.earlier }, outlet)
