-- A run that ends makes fewer steps than there are cells: so where the next cell's run ends, so does this one's, and the bound in the
-- definition of a run is never in the way.
--
-- No cell stands twice in such a run, as the run from a later cell is shorter. So each step of the run has one cell of the grid more
-- in it (room, by induction on the number of steps): as many are in it as it has, and no more than there are.
use Rattle.drain_paths.proofs.Names.{◌≡◌, ℕ, zero, suc, ◌+◌, ◌<◌, ◌≤◌, ◌⊎◌, inl, inr, Bool, true, false, [], ◌∷◌, length, Option, Some, None, refl, sym, ap, subst, arith, false_from_ne_true, Cell, index_of, Grid, Products, HasData, next, steps_from, run, RunEnds, run_steps, HasData-next, steps-none, ended-run, ended-run_steps, cell_count, cell_at, index_of-below, cell_at-index_of, tally, tally-le, tally-less, Leads, IsWalk, EndsAfter-next, EndsAfter-before}
use Rattle.drain_grid.proofs.Chains.{AreChains, IsAlone, GoesOn, stands, stands_self, stands_onward, stands_no_longer}

-- a data cell whose run ends
pub record IsEnded (g : Grid) (ps : Products) (c : Cell) : Type 0 where
  pub here : HasData g c
  pub ends : RunEnds g ps c

pub IsEnded-next : (g : Grid) (ps : Products) (c n : Cell) → next g ps c ≡ Some n → IsEnded g ps c → IsEnded g ps n
IsEnded-next g ps c n leads ended = record {
  here = HasData-next g ps c n leads;
  ends = (EndsAfter-next g ps c n (run_steps g ps c) leads (record { ends = ended.ends; steps = refl })).0;
}

-- runs that end go along the codes
ended_are_chains : (g : Grid) (ps : Products) → AreChains (IsEnded g ps) (next g ps) (run g ps)
ended_are_chains g ps c ended = by_next (next g ps c) refl
  where
    over : (k : ℕ) → next g ps c ≡ None → steps_from g ps k c ≡ []
    over zero stops = refl
    over (suc k) stops = steps-none g ps k c stops

    by_next : (o : Option Cell) → next g ps c ≡ o →
        IsAlone (next g ps) (run g ps) c ⊎ GoesOn (IsEnded g ps) (next g ps) (run g ps) c
    by_next None stops = inl (record { stops = stops; alone = ap (λ xs. c ∷ xs) (over (cell_count g) stops) })
    by_next (Some n) leads = inr (
      n,
      record {
        leads = leads;
        to_data = IsEnded-next g ps c n leads ended;
        follows = ended-run g ps c n ended.ends leads;
      },
    )

-- whether the cell at a place is in the run
stands_at : (g : Grid) (ps : Products) (c : Cell) → ℕ → Bool
stands_at g ps c k = stands (cell_at g.extent k) (run g ps c)

module _ (g : Grid) (ps : Products) where
  -- the first cell is in its run
  stands_first : (c : Cell) → IsEnded g ps c → stands_at g ps c (index_of g.extent c) ≡ true
  unfolding stands_at
  stands_first c ended =
      subst (λ x. stands x (run g ps c) ≡ true) (sym (cell_at-index_of g.extent c ended.here.inside))
      (stands_self (IsEnded g ps) (next g ps) (run g ps) (ended_are_chains g ps) c ended)

  -- and not in that of the next cell
  not_later : (c n : Cell) → next g ps c ≡ Some n → IsEnded g ps c → stands_at g ps n (index_of g.extent c) ≡ false
  unfolding stands_at
  not_later c n leads ended =
      let place = cell_at-index_of g.extent c ended.here.inside in
      let longer : run_steps g ps c ≡ run_steps g ps n + 1 = ended-run_steps g ps c n ended.ends leads in
      false_from_ne_true (stands_at g ps n (index_of g.extent c)) (λ there.
      (let no_longer : length (run g ps c) ≤ length (run g ps n) =
      stands_no_longer (IsEnded g ps) (next g ps) (run g ps) (ended_are_chains g ps) c n (IsEnded-next g ps c n leads ended)
      (subst (λ x. stands x (run g ps n) ≡ true) place there) in
      absurd (omega (arith, longer, no_longer))))

  -- what is in the run of the next cell is in this one's
  stands_later : (c n : Cell) → next g ps c ≡ Some n → IsEnded g ps c → (k : ℕ) → stands_at g ps n k ≡ true →
      stands_at g ps c k ≡ true
  unfolding stands_at
  stands_later c n leads ended k there =
      stands_onward (IsEnded g ps) (next g ps) (run g ps) (ended_are_chains g ps) (cell_at g.extent k) c n
      (record { leads = leads; to_data = IsEnded-next g ps c n leads ended; follows = ended-run g ps c n ended.ends leads }) there

  -- more cells of the grid are in the run than it makes steps
  room : (j : ℕ) (c : Cell) → IsEnded g ps c → run_steps g ps c ≡ j → j < tally (stands_at g ps c) (cell_count g)
  room zero c ended steps =
      let less = tally-less (λ k. false) (stands_at g ps c) (cell_count g) (index_of g.extent c) (λ k h. absurd (false_true h))
      (index_of-below g.extent c ended.here.inside) refl (stands_first c ended) in
      omega (arith, less)
    where
      false_true : false ≡ true → ⊥
      false_true h = cc
  room (suc j) c ended steps = by_next (next g ps c) refl (λ n leads one. room j n (IsEnded-next g ps c n leads ended) one)
    where
      none_left : (k : ℕ) → next g ps c ≡ None → length (steps_from g ps k c) ≡ 0
      none_left zero stops = refl
      none_left (suc k) stops = ap length (steps-none g ps k c stops)

      by_next : (o : Option Cell) → next g ps c ≡ o →
          ((n : Cell) → next g ps c ≡ Some n → run_steps g ps n ≡ j → j < tally (stands_at g ps n) (cell_count g)) →
          suc j < tally (stands_at g ps c) (cell_count g)
      by_next None stops on = absurd (omega (arith, none_left (cell_count g) stops, steps))
      by_next (Some n) leads on =
          let one = ended-run_steps g ps c n ended.ends leads in
          let rest = on n leads (omega (arith, one, steps)) in
          let less = tally-less (stands_at g ps n) (stands_at g ps c) (cell_count g) (index_of g.extent c)
          (stands_later c n leads ended) (index_of-below g.extent c ended.here.inside) (not_later c n leads ended)
          (stands_first c ended) in
          omega (arith, rest, less)

  -- a run that ends makes fewer steps than there are cells
  pub ended-fewer : (c : Cell) → IsEnded g ps c → run_steps g ps c < cell_count g
  ended-fewer c ended =
      let most = room (run_steps g ps c) c ended refl in
      let bound = tally-le (stands_at g ps c) (cell_count g) in
      omega (arith, most, bound)

  -- where the next cell's run ends, so does this one's
  pub RunEnds-before : (c n : Cell) → next g ps c ≡ Some n → RunEnds g ps n → RunEnds g ps c
  RunEnds-before c n leads ends =
      let fewer = ended-fewer n (record { here = HasData-next g ps c n leads; ends = ends }) in
      (EndsAfter-before g ps c n (run_steps g ps n) leads (record { ends = ends; steps = refl }) fewer).ends

  leads-before : (k : ℕ) (c d : Cell) → Leads g ps k c d → RunEnds g ps d → RunEnds g ps c
  leads-before zero c d same ends = subst (RunEnds g ps) (sym same) ends
  leads-before (suc k) c d way ends = RunEnds-before c way.0 way.1 (leads-before k way.0 d way.2 ends)

  -- where a walk reaches a cell whose run ends, the run that it is on ends
  pub RunEnds-walk : (k : ℕ) (c d : Cell) → IsWalk g ps k c d → RunEnds g ps d → RunEnds g ps c
  RunEnds-walk k c d walk ends = leads-before k c d walk.leads ends
