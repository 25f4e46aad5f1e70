-- Runs on a padded grid. From a cell of the grid a code leads to the same data cell in both, or to none in both. So k
-- steps lead through the same cells in both. A padded grid may have more cells, so the bound in the definition of a run
-- is wider. But a run that is over takes no more steps (steps-many), and what comes to a code 0 in any number of steps
-- is a run that ends (ends_within, by a lemma of drain_paths). Both by induction on the number of steps.
use Rattle.drain_laws.proofs.Names.{◌≡◌, inl, inr, ◌∙◌, ℕ, zero, suc, ◌+◌, ◌-◌, ◌≤◌, ℤ, pos, ◌∷◌, length, Option, Some, None, IsNone, IsSome, is_some, ◌⊎◌, option_and_then, if◌then◌else◌, refl, sym, ap, subst, arith, list_any, Cell, Direction, named_direction, same_cell, step, NoDataNumbers, Grid, Products, IsInside, HasData, only_data, next, continued, steps_from, last_from, run_end, RunEnds, drains_through, HasData-next, steps-more, cell_count, steps-next, ArePadded, PaddingKeepsSteps, PaddingKeepsRuns, PaddingKeepsFirstEndless, PaddingKeepsAccumulation, PaddingKeepsBasins}
use Rattle.std.proofs.lemmas.Nat.{mul-le}
use Rattle.drain_grid.proofs.Walks.{EndsAfter-zero}
use Rattle.drain_paths.proofs.Shorter.{RunEnds-before}
use Rattle.drain_laws.proofs.PaddedCells.{step_alike, within, data_there, data_back}
use Rattle.drain_laws.proofs.PaddedVerdicts.{padding_keeps_tallies}

only_none : (g : Grid) (o : Option Cell) → ((n : Cell) → o ≡ Some n → IsNone (g.elevation n)) → option_and_then (only_data g) o ≡ None
only_none g None none = refl
only_none g (Some n) none = ap (λ b. if b then Some n else None) (none n refl)

-- there is an elevation or none
cases_option : (z : Option ℤ) → IsSome z ⊎ IsNone z
cases_option None = inr refl
cases_option (Some z) = inl refl

-- a run that is over takes no more steps, however many
steps-many : (g : Grid) (ps : Products) (j k : ℕ) (c : Cell) → ps.dir (last_from c (steps_from g ps k c)) ≡ pos 0 →
    steps_from g ps (j + k) c ≡ steps_from g ps k c
steps-many g ps zero k c over = ap (λ n. steps_from g ps n c) (none k)
  where
    none : (k : ℕ) → 0 + k ≡ k
    none k = omega arith
steps-many g ps (suc j) k c over =
    let rest = steps-many g ps j k c over in
    ap (λ n. steps_from g ps n c) (one_more j k)
    ∙ (steps-more g ps (j + k) c (ap (λ xs. ps.dir (last_from c xs)) rest ∙ over) ∙ rest)
  where
    one_more : (j k : ℕ) → suc j + k ≡ suc (j + k)
    one_more j k = omega arith

-- what comes to a code 0 in any number of steps is a run that ends
ends_within : (g : Grid) (ps : Products) (k : ℕ) (c : Cell) → ps.dir (last_from c (steps_from g ps k c)) ≡ pos 0 → RunEnds g ps c
ends_within g ps zero c over = (EndsAfter-zero g ps c over).ends
ends_within g ps (suc k) c over = by_next (next g ps c) refl (λ n over_there. ends_within g ps k n over_there)
  where
    by_next : (o : Option Cell) → next g ps c ≡ o →
        ((n : Cell) → ps.dir (last_from n (steps_from g ps k n)) ≡ pos 0 → RunEnds g ps n) → RunEnds g ps c
    by_next None stops on =
        (EndsAfter-zero g ps c (subst (λ o. ps.dir (last_from c (continued o (steps_from g ps k))) ≡ pos 0) stops over)).ends
    by_next (Some n) leads on =
        RunEnds-before g ps c n leads (on n (subst (λ xs. ps.dir (last_from c xs) ≡ pos 0) (steps-next g ps k c n leads) over))

module _ (g p : Grid) (ps qs : Products) (nodata : NoDataNumbers) (padded : ArePadded g p ps qs nodata) where
  -- where the code of a cell of the grid leads
  next_same : (c : Cell) → IsInside g c → next p qs c ≡ next g ps c
  next_same c inside =
      ap (λ n. option_and_then (only_data p) (option_and_then (step p.extent c) (named_direction n))) (padded.set.same c inside).dir
      ∙ by_code (named_direction (ps.dir c))
    where
      by_code : (o : Option Direction) →
          option_and_then (only_data p) (option_and_then (step p.extent c) o)
          ≡ option_and_then (only_data g) (option_and_then (step g.extent c) o)
      by_code None = refl
      by_code (Some d) =
          elim (step_alike g p padded.grid c d) [
            | inl on ↦
                ap (option_and_then (only_data p)) on.there
                ∙ ap (λ z. if is_some z then Some on.cell else None) (padded.grid.elevations on.cell on.inside)
                ∙ sym (ap (option_and_then (only_data g)) on.here)
            | inr out ↦
                only_none p (step p.extent c d) out.there ∙ sym (ap (option_and_then (only_data g)) out.here)
          ]

  steps_same : (k : ℕ) (c : Cell) → IsInside g c → steps_from p qs k c ≡ steps_from g ps k c
  steps_same zero c inside = refl
  steps_same (suc k) c inside =
      ap (λ o. continued o (steps_from p qs k)) (next_same c inside)
      ∙ by_next (next g ps c) refl (λ n here. steps_same k n here)
    where
      by_next : (o : Option Cell) → next g ps c ≡ o → ((n : Cell) → IsInside g n → steps_from p qs k n ≡ steps_from g ps k n) →
          continued o (steps_from p qs k) ≡ continued o (steps_from g ps k)
      by_next None stops on = refl
      by_next (Some n) leads on = ap (λ xs. n ∷ xs) (on n (HasData-next g ps c n leads).inside)

  last_inside : (k : ℕ) (c : Cell) → IsInside g c → IsInside g (last_from c (steps_from g ps k c))
  last_inside zero c inside = inside
  last_inside (suc k) c inside = by_next (next g ps c) refl (λ n here. last_inside k n here)
    where
      by_next : (o : Option Cell) → next g ps c ≡ o → ((n : Cell) → IsInside g n → IsInside g (last_from n (steps_from g ps k n))) →
          IsInside g (last_from c (continued o (steps_from g ps k)))
      by_next None stops on = inside
      by_next (Some n) leads on = on n (HasData-next g ps c n leads).inside

  more_cells : cell_count g ≤ cell_count p
  more_cells = mul-le g.extent.rows g.extent.cols p.extent.rows p.extent.cols padded.grid.rows padded.grid.cols

  -- after the run's steps the wider bound allows no other
  wide_steps : (c : Cell) → IsInside g c → RunEnds g ps c → steps_from p qs (cell_count p) c ≡ steps_from g ps (cell_count g) c
  wide_steps c inside ends =
      steps_same (cell_count p) c inside
      ∙ (ap (λ n. steps_from g ps n c) (apart (cell_count p) (cell_count g) more_cells)
      ∙ steps-many g ps (cell_count p - cell_count g) (cell_count g) c ends)
    where
      apart : (m n : ℕ) → n ≤ m → m ≡ m - n + n
      apart m n h = omega arith

  run_end_same : (c : Cell) → IsInside g c → RunEnds g ps c → run_end p qs c ≡ run_end g ps c
  run_end_same c inside ends = ap (last_from c) (wide_steps c inside ends)

  ends_there : (c : Cell) → IsInside g c → RunEnds g ps c → RunEnds p qs c
  ends_there c inside ends =
      ap qs.dir (run_end_same c inside ends) ∙ ((padded.set.same (run_end g ps c) (last_inside (cell_count g) c inside)).dir ∙ ends)

  ends_back : (c : Cell) → IsInside g c → RunEnds p qs c → RunEnds g ps c
  ends_back c inside ends =
      let last = last_from c (steps_from g ps (cell_count p) c) in
      let same = ap (last_from c) (steps_same (cell_count p) c inside) in
      ends_within g ps (cell_count p) c
      (sym (padded.set.same last (last_inside (cell_count p) c inside)).dir ∙ (ap qs.dir (sym same) ∙ ends))

pub padding_keeps_runs : PaddingKeepsRuns
padding_keeps_runs g p ps qs nodata padded c here = record {
  ends = (ends_back g p ps qs nodata padded c here.inside, ends_there g p ps qs nodata padded c here.inside);
  same = λ ends. ap (λ xs. c ∷ xs) (wide_steps g p ps qs nodata padded c here.inside ends);
}

pub padding_keeps_first_endless : PaddingKeepsFirstEndless
padding_keeps_first_endless g p ps qs nodata padded c = (
  λ first.
      (let here = data_back g p padded.grid c first.here in
      record {
        here = here;
        endless = λ ends. first.endless (ends_there g p ps qs nodata padded c here.inside ends);
        first = λ b at_b earlier.
            ends_back g p ps qs nodata padded b at_b.inside (first.first b (data_there g p padded.grid b at_b) earlier);
      }),
  λ first. record {
    here = data_there g p padded.grid c first.here;
    endless = λ ends. first.endless (ends_back g p ps qs nodata padded c first.here.inside ends);
    first = λ b at_b earlier.
        (let here = data_back g p padded.grid b at_b in
        ends_there g p ps qs nodata padded b here.inside (first.first b here earlier));
  },
)

-- runs that visit the same cells make as many steps
pub padding_keeps_steps : PaddingKeepsSteps
padding_keeps_steps g p ps qs nodata padded ends here there = record {
  same = λ c inside. of_cell c inside (cases_option (g.elevation c));
  blank = λ c inside outside. there.voids c inside (padded.grid.voids c inside outside);
}
  where
    of_cell : (c : Cell) → IsInside g c → IsSome (g.elevation c) ⊎ IsNone (g.elevation c) → qs.rnk c ≡ ps.rnk c
    of_cell c inside (inl is_data) =
        let at_c : HasData g c = record { inside = inside; is_data = is_data } in
        let steps = ap length (wide_steps g p ps qs nodata padded c inside (ends c at_c)) in
        there.steps c (data_there g p padded.grid c at_c) ∙ (ap pos steps ∙ sym (here.steps c at_c))
    of_cell c inside (inr is_void) =
        there.voids c (within g p padded.grid c inside) (subst IsNone (sym (padded.grid.elevations c inside)) is_void)
        ∙ sym (here.voids c inside is_void)

-- where runs visit the same cells, the same cells drain through a cell
pub padding_keeps_accumulation : PaddingKeepsAccumulation
padding_keeps_accumulation g p ps qs nodata padded ends c here =
    padding_keeps_tallies g p padded.grid (drains_through p qs c) (drains_through g ps c)
    (λ x at_x. ap (λ xs. list_any (same_cell c) (x ∷ xs)) (wide_steps g p ps qs nodata padded x at_x.inside (ends x at_x)))

pub padding_keeps_basins : PaddingKeepsBasins
padding_keeps_basins g p ps qs nodata padded a b at_a at_b ends_a ends_b =
    let same_a = run_end_same g p ps qs nodata padded a at_a.inside ends_a in
    let same_b = run_end_same g p ps qs nodata padded b at_b.inside ends_b in
    (λ h. sym same_a ∙ (h ∙ same_b), λ h. same_a ∙ (h ∙ sym same_b))
