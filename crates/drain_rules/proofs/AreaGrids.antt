-- One row more of the judged area.
use Rattle.drain_rules.proofs.Names.{◌≡◌, ℕ, zero, suc, ◌+◌, ◌-◌, ◌<◌, ◌≤◌, min, inl, inr, Bool, [], ◌∷◌, ◌++◌, refl, sym, ◌∙◌, ap, subst, arith, add-one, count_by, flat_map, range_with_len, cases_order, sum_by-append, flat_map_more, Cell, Rule, is_data, is_raised, HoldsAt, IsEarlierPair, Grid, Products, IsInside, Profile, Area, Tally, AreSound, IsAbove, IsAreaTally, IsFaultBetween, CountsAmong, HasCell, HasRow, IsFirstAmong, cells_in_above, row_cells_in, place, has_outlet_code}
use Rattle.std.proofs.Common.{◌⊎◌}

-- the cells of one row more
range_with_len-more : (a n : ℕ) → range_with_len a (n + 1) ≡ range_with_len a n ++ (a + n) ∷ []
range_with_len-more a zero = let e : a + 0 ≡ a = omega arith in rw e refl
range_with_len-more a (suc n) =
    let e : a + suc n ≡ a + 1 + n = omega arith in
    let one_more : range_with_len (a + 1) (suc n) ≡ range_with_len (a + 1) n ++ (a + 1 + n) ∷ [] = subst (λ k. range_with_len (a + 1) k ≡ range_with_len (a + 1) n ++ (a + 1 + n) ∷ []) (add-one n) (range_with_len-more (a + 1) n) in
    rw (add-one, e) (ap (λ xs. a ∷ xs) one_more)

cells_above-more : (a : Area) (cols row : ℕ) → HasRow a row → cells_in_above a cols (row + 1) ≡ cells_in_above a cols row ++ row_cells_in a cols row
cells_above-more a cols row judged =
    let from : a.top ≤ row = judged.from in
    let to : row < a.bottom = judged.to in
    let so_far : min row a.bottom ≡ row = omega arith in
    let with_one : min (row + 1) a.bottom - a.top ≡ row - a.top + 1 = omega arith in
    let at_row : a.top + (row - a.top) ≡ row = omega arith in
    let one_more : range_with_len a.top (row - a.top + 1) ≡ range_with_len a.top (row - a.top) ++ row ∷ [] =
    range_with_len-more a.top (row - a.top) ∙ ap (λ n. range_with_len a.top (row - a.top) ++ n ∷ []) at_row in
    rw (with_one, so_far) (ap (flat_map (row_cells_in a cols)) one_more ∙ sym (flat_map_more (row_cells_in a cols) [] (range_with_len a.top (row - a.top)) row))

count_by-above_more : (p : Cell → Bool) (a : Area) (cols row : ℕ) → HasRow a row →
    count_by p (cells_in_above a cols (row + 1)) ≡ count_by p (cells_in_above a cols row) + count_by p (row_cells_in a cols row)
count_by-above_more p a cols row judged = ap (count_by p) (cells_above-more a cols row judged) ∙ sum_by-append _ (cells_in_above a cols row) (row_cells_in a cols row)

-- no row is judged at first
pub sound-none : (profile : Profile) (IsOwn : Rule → Type 0) (a : Area) (g : Grid) (ps : Products) (IsKept : Type 0) (tally : Tally) →
    IsKept → tally ≡ record { data_cells = 0; raised = 0; outlets = 0 } → AreSound profile IsOwn a g ps 0 IsKept tally
sound-none profile IsOwn a g ps IsKept tally kept zeros =
    let empty : min 0 a.bottom - a.top ≡ 0 = omega arith in
    record {
      holds = λ c r (above : IsAbove a g 0 c) own. absurd (omega (arith, above.above));
      counted = record {
        data_cells = rw empty (ap (λ (t : Tally). t.data_cells) zeros);
        raised = rw empty (ap (λ (t : Tally). t.raised) zeros);
        outlets = rw empty (ap (λ (t : Tally). t.outlets) zeros);
      };
      kept = kept;
    }

-- a cell above the next row is above this one, or in it
split : (a : Area) (g : Grid) (row : ℕ) (c : Cell) → IsAbove a g (row + 1) c → IsAbove a g row c ⊎ (c.row ≡ row)
split a g row c above = elim (cases_order c.row row) [
  | inl same ↦ inr same
  | inr (inl before) ↦ inl (record { inside = above.inside; in_row = above.in_row; above = before })
  | inr (inr behind) ↦ absurd (omega (arith, above.above, behind))
]

-- a judged row that keeps one's own rules
pub sound-more : (profile : Profile) (IsOwn : Rule → Type 0) (a : Area) (g : Grid) (ps : Products) (row : ℕ) (Old New : Type 0) (total here sum : Tally) → HasRow a row →
    AreSound profile IsOwn a g ps row Old total → IsAreaTally profile IsOwn a g ps row here → New →
    sum.data_cells ≡ total.data_cells + here.data_cells → sum.raised ≡ total.raised + here.raised → sum.outlets ≡ total.outlets + here.outlets →
    AreSound profile IsOwn a g ps (row + 1) New sum
sound-more profile IsOwn a g ps row Old New total here sum judged so_far along kept data_cells raised outlets = record {
  holds = holds;
  counted = record {
    data_cells = omega (arith, count_by-above_more (is_data g) a g.extent.cols row judged, so_far.counted.data_cells, along.counted.data_cells, data_cells);
    raised = omega (arith, count_by-above_more (is_raised g ps) a g.extent.cols row judged, so_far.counted.raised, along.counted.raised, raised);
    outlets = omega (arith, count_by-above_more (has_outlet_code g ps) a g.extent.cols row judged, so_far.counted.outlets, along.counted.outlets, outlets);
  };
  kept = kept;
}
  where
    holds : (c : Cell) (r : Rule) → IsAbove a g (row + 1) c → IsOwn r → HoldsAt profile g ps c r
    holds c r above own = elim (split a g row c above) [
      | inl before ↦ so_far.holds c r before own
      | inr same ↦
          (let less : c.col < min a.right g.extent.cols = omega (arith, above.inside.right, above.in_row) in
          subst (λ n. HoldsAt profile g ps (place n c.col) r) (sym same) (along.holds c.col r above.inside.left less own))
    ]

-- a row outside the area changes nothing
pub sound-past : (profile : Profile) (IsOwn : Rule → Type 0) (a : Area) (g : Grid) (ps : Products) (row : ℕ) (Old New : Type 0) (tally : Tally) → ¬ HasRow a row →
    AreSound profile IsOwn a g ps row Old tally → New → AreSound profile IsOwn a g ps (row + 1) New tally
sound-past profile IsOwn a g ps row Old New tally outside so_far kept = record {
  holds = λ c r above own. so_far.holds c r (still c above) own;
  counted = subst (λ n. CountsAmong g ps (flat_map (row_cells_in a g.extent.cols) (range_with_len a.top n)) tally) same so_far.counted;
  kept = kept;
}
  where
    same : min row a.bottom - a.top ≡ min (row + 1) a.bottom - a.top
    same = elim (cases_order row a.bottom) [
      | inl at_end ↦ omega arith
      | inr (inl before) ↦
          (elim (cases_order row a.top) [
            | inl at_top ↦ absurd (outside (record { from = omega arith; to = before }))
            | inr (inl above) ↦ omega arith
            | inr (inr below) ↦ absurd (outside (record { from = omega arith; to = before }))
          ])
      | inr (inr behind) ↦ omega arith
    ]

    still : (c : Cell) → IsAbove a g (row + 1) c → IsAbove a g row c
    still c above = elim (split a g row c above) [
      | inl before ↦ before
      | inr at_row ↦
          absurd (outside (record { from = omega (arith, above.inside.top, at_row); to = omega (arith, above.inside.bottom, at_row) }))
    ]

-- the first fault of the first judged row that has one is that of the area
pub first-row : (profile : Profile) (IsOwn : Rule → Type 0) (a : Area) (g : Grid) (ps : Products) (row col : ℕ) (rule : Rule) (Old : Type 0) (tally : Tally) → HasRow a row → row < g.extent.rows →
    AreSound profile IsOwn a g ps row Old tally → IsFaultBetween profile IsOwn a g ps row col rule → IsFirstAmong profile IsOwn a g ps (place row col) rule
first-row profile IsOwn a g ps row col rule Old tally judged inside so_far here = record {
  inside = record { top = judged.from; bottom = judged.to; left = here.judged.from; right = here.judged.to };
  in_grid = record { row = inside; col = here.judged.inside };
  is_own = here.is_own;
  fails = here.fails;
  first = first;
}
  where
    first : (b : Cell) (q : Rule) → HasCell a b → IsInside g b → IsOwn q → IsEarlierPair b q (place row col) rule → HoldsAt profile g ps b q
    first b q inside in_grid own (inl (inl before)) = so_far.holds b q (record { inside = inside; in_row = in_grid.col; above = before }) own
    first b q inside in_grid own (inl (inr beside)) =
        subst (λ n. HoldsAt profile g ps (place n b.col) q) (sym beside.0) (here.before b.col q inside.left beside.1 own)
    first b q inside in_grid own (inr same) = subst (λ c. HoldsAt profile g ps c q) (sym same.0) (here.smaller q own same.1)
