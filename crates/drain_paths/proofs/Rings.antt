-- Where walks that don't end go round: a walk of as many steps as there are cells reaches a cell that is on a ring.
--
-- Products whose code is 0 at this cell show it. If the walk didn't pass the cell before, its run would end there, after as many steps
-- as there are cells, and a run that ends makes fewer (passes).
use Rattle.drain_paths.proofs.Names.{◌≡◌, ◌≢◌, ◌<◌, ◌+◌, ◌-◌, ◌∙◌, ℕ, zero, suc, ◌⊎◌, inl, inr, pos, false, if◌then◌else◌, Option, Some, None, option_and_then, refl, sym, ap, subst, arith, Result, Ok, Err, IfOk, MatchOption, cases_Bool, cases_order, Cell, EndsAfter, run_steps, named_direction, same_cell, step, Grid, Products, HasData, next, only_data, RunEnds, same_cell_true, same_cell_self, code-not_zero, HasData-next, cell_count, none_some, same_some, Leads, IsWalk, EndsAfter-zero, EndsAfter-next, EndsAfter-before, IsWalk-endless, endless-stuck, IsEndlessPath, IsFarthest, IsLostBy, IsOnNoRing, IsReached, IsRing, IsRingFrom, LeadsOnOrEnds, cell_after, IsKnownWay}
use Rattle.drain_grid.specs.declared.memory.OutOfMemory.{OutOfMemory}
use Rattle.drain_paths.specs.declared.endless_path.EndlessPath.{EndlessPath}
use Rattle.drain_paths.specs.declared.endless_path.EndlessPath.TheVariants.{Ring, Lost}
use Rattle.drain_paths.specs.declared.endless_path.LostBy.{LostBy}
use Rattle.drain_paths.specs.declared.endless_path.LostBy.TheVariants.{NoCode, Outside, Void}
use Rattle.drain_paths.specs.declared.flow.Way.{Way}
use Rattle.drain_paths.specs.declared.flow.Way.TheVariants as way
use Rattle.drain_paths.proofs.EndlessSteps.{HasWalked}
use Rattle.drain_paths.proofs.NextCells.{next-of_no_code, next-outside, next-void}
use Rattle.drain_paths.proofs.Shorter.{IsEnded, ended-fewer, RunEnds-walk}

module _ (g : Grid) (ps : Products) where
  -- some steps, and then more
  after-split : (j m k : ℕ) (c d : Cell) → j + m ≡ k → cell_after g ps j c ≡ Some d → cell_after g ps k c ≡ cell_after g ps m d
  after-split zero m k c d whole led = ap (λ i. cell_after g ps i c) (zero_more m k whole) ∙ ap (cell_after g ps m) (same_some c d led)
    where
      zero_more : (m k : ℕ) → 0 + m ≡ k → k ≡ m
      zero_more m k h = omega arith
  after-split (suc j) m zero c d whole led = absurd (omega (arith, whole))
  after-split (suc j) m (suc k) c d whole led = onward (next g ps c) (λ n h. after-split j m k n d (omega (arith, whole)) h) led
    where
      onward : (o : Option Cell) → ((n : Cell) → cell_after g ps j n ≡ Some d → cell_after g ps k n ≡ cell_after g ps m d) →
          option_and_then (cell_after g ps j) o ≡ Some d → option_and_then (cell_after g ps k) o ≡ cell_after g ps m d
      onward None more h = absurd (none_some d h)
      onward (Some n) more h = more n h

  leads-after : (k : ℕ) (c d : Cell) → cell_after g ps k c ≡ Some d → Leads g ps k c d
  leads-after zero c d led = same_some c d led
  leads-after (suc k) c d led = onward (next g ps c) refl (λ n h. leads-after k n d h) led
    where
      onward : (o : Option Cell) → next g ps c ≡ o → ((n : Cell) → cell_after g ps k n ≡ Some d → Leads g ps k n d) →
          option_and_then (cell_after g ps k) o ≡ Some d → Leads g ps (suc k) c d
      onward None stops more h = absurd (none_some d h)
      onward (Some n) leads more h = (n, leads, more n h)

  -- a run that ends makes as many steps more as lead to a later cell
  leads-steps : (k : ℕ) (c d : Cell) → Leads g ps k c d → RunEnds g ps c → run_steps g ps c ≡ k + run_steps g ps d
  leads-steps zero c d same ends = ap (run_steps g ps) same ∙ omega arith
  leads-steps (suc k) c d way ends =
      let later = EndsAfter-next g ps c way.0 (run_steps g ps c) way.1 (record { ends = ends; steps = refl }) in
      let rest = leads-steps k way.0 d way.2 later.0 in
      omega (arith, later.1, rest)

  -- these products with the code 0 at one cell
  abbrev cut : Cell → Products
  cut d = record {
    con = ps.con;
    dir = λ c. if same_cell c d then pos 0 else ps.dir c;
    acc = ps.acc;
    bas = ps.bas;
    spl = ps.spl;
    rnk = ps.rnk;
  }

  cut-here : (d : Cell) → if same_cell d d then pos 0 else ps.dir d ≡ pos 0
  cut-here d = ap (λ b. if b then pos 0 else ps.dir d) (same_cell_self d)

  cut-other : (c d : Cell) → same_cell c d ≡ false → next g (cut d) c ≡ next g ps c
  cut-other c d other =
      ap (λ b. option_and_then (only_data g) (option_and_then (step g.extent c) (named_direction (if b then pos 0 else ps.dir c)))) other

  -- the walk passes the cell before
  abbrev Passes : ℕ → Cell → Cell → Type 0
  Passes k c d = (j : ℕ) × (j < k) × (cell_after g ps j c ≡ Some d)

  -- a walk to a cell passes it before, or it is the run that ends there with code 0
  passes : (k : ℕ) (c d : Cell) → HasData g c → cell_after g ps k c ≡ Some d → Passes k c d ⊎ EndsAfter g (cut d) c k
  passes zero c d here led =
      inr (subst (λ x. EndsAfter g (cut d) x 0) (sym (same_some c d led)) (EndsAfter-zero g (cut d) d (cut-here d)))
  passes (suc k) c d here led = onward (next g ps c) refl (λ n there h. passes k n d there h) led
    where
      suc_is : (k : ℕ) → k + 1 ≡ suc k
      suc_is k = omega arith

      further : (n : Cell) → next g ps c ≡ Some n → Passes k n d ⊎ EndsAfter g (cut d) n k → Passes (suc k) c d ⊎ EndsAfter g (cut d) c (suc k)
      further n leads (inl before) =
          inl (suc before.0, omega (arith, before.1), ap (option_and_then (cell_after g ps before.0)) leads ∙ before.2)
      further n leads (inr ended) = elim (cases_Bool (same_cell c d)) [
        | inl same ↦ inl (0, omega arith, ap Some (same_cell_true c d same))
        | inr other ↦
            (let there : IsEnded g (cut d) n = record { here = HasData-next g ps c n leads; ends = ended.ends } in
            let fewer = ended-fewer g (cut d) n there in
            inr (subst (EndsAfter g (cut d) c) (suc_is k)
            (EndsAfter-before g (cut d) c n k (cut-other c d other ∙ leads) ended (omega (arith, fewer, ended.steps)))))
      ]

      onward : (o : Option Cell) → next g ps c ≡ o →
          ((n : Cell) → HasData g n → cell_after g ps k n ≡ Some d → Passes k n d ⊎ EndsAfter g (cut d) n k) →
          option_and_then (cell_after g ps k) o ≡ Some d → Passes (suc k) c d ⊎ EndsAfter g (cut d) c (suc k)
      onward None stops more h = absurd (none_some d h)
      onward (Some n) leads more h = further n leads (more n (HasData-next g ps c n leads) h)

  -- the cell that as many steps reach as there are cells is on a ring
  pub on_ring : (c d : Cell) → HasData g c → cell_after g ps (cell_count g) c ≡ Some d → ¬ IsOnNoRing g ps d
  on_ring c d here led none = elim (passes (cell_count g) c d here led) [
    | inl before ↦
        (let whole : before.0 + (cell_count g - before.0) ≡ cell_count g = omega (arith, before.1) in
        let round = sym (after-split before.0 (cell_count g - before.0) (cell_count g) c d whole before.2) ∙ led in
        none (cell_count g - before.0) (omega (arith, before.1)) (omega arith) round)
    | inr ended ↦
        absurd (let fewer = ended-fewer g (cut d) c (record { here = here; ends = ended.ends }) in omega (arith, fewer, ended.steps))
  ]

  after-none : (d : Cell) → next g ps d ≡ None → (m : ℕ) → 0 < m → cell_after g ps m d ≡ None
  after-none d stops zero some = absurd (omega (arith, some))
  after-none d stops (suc m) some = ap (option_and_then (cell_after g ps m)) stops

  -- a walk that stops is on no ring
  pub no_ring-stuck : (first here : Cell) (walked : ℕ) → HasWalked g ps first here walked → next g ps here ≡ None → IsOnNoRing g ps first
  no_ring-stuck first here walked so_far stops = λ k some few back. elim (cases_order k walked) [
    | inl same ↦ so_far.away k some (omega (arith, same)) back
    | inr (inl less) ↦ so_far.away k some (omega (arith, less)) back
    | inr (inr more) ↦
        (let whole : walked + (k - walked) ≡ k = omega (arith, more) in
        let nowhere = after-split walked (k - walked) k first here whole so_far.led ∙ after-none here stops (k - walked) (omega (arith, more)) in
        none_some first (sym nowhere ∙ back))
  ]

  -- nor is one to a cell whose run ends
  pub no_ring-ends : (first here : Cell) (walked : ℕ) → HasWalked g ps first here walked → RunEnds g ps here → IsOnNoRing g ps first
  no_ring-ends first here walked so_far ends = λ k some few back.
      (let walk : IsWalk g ps walked first here = record { leads = leads-after walked first here so_far.led } in
      let steps = leads-steps k first first (leads-after k first first back) (RunEnds-walk g ps walked first here walk ends) in
      absurd (omega (arith, steps, some)))

  -- so nor is one that doesn't go on
  pub no_ring-way : (first here : Cell) (walked : ℕ) (w : Way) → HasWalked g ps first here walked → IsKnownWay g ps here w → ((n : Cell) → w ≢ way.On n) → IsOnNoRing g ps first
  no_ring-way first here walked way.Ends so_far ends other = no_ring-ends first here walked so_far ends
  no_ring-way first here walked (way.On n) so_far on other = absurd (other n refl)
  no_ring-way first here walked way.Lost so_far stuck other = no_ring-stuck first here walked so_far stuck.0

  -- where a walk reaches a cell whose run ends, its own run ends
  pub ends-after : (k : ℕ) (c d : Cell) → cell_after g ps k c ≡ Some d → RunEnds g ps d → RunEnds g ps c
  ends-after k c d led ends = RunEnds-walk g ps k c d (record { leads = leads-after k c d led }) ends

  -- a cell that a walk reaches last, and from which it goes on, is on a ring
  farthest_rings : (start here : Cell) → HasData g start → IsFarthest g ps start here → LeadsOnOrEnds g ps here → IsOnNoRing g ps here → ⊥
  farthest_rings start here has farthest on none = elim farthest.far [
    | inl stuck ↦ (elim on [
      | inl next ↦ none_some next.0 (sym stuck.0 ∙ next.1)
      | inr ends ↦ endless-stuck g ps here stuck.0 stuck.1 ends
    ])
    | inr far ↦ on_ring start here has far none
  ]

  -- a ring that the run of the start reaches
  ring-told : (start here : Cell) → HasData g start → IsFarthest g ps start here → LeadsOnOrEnds g ps here → (told : Option EndlessPath) →
      MatchOption told (IsOnNoRing g ps here) (IsRing g ps here) → MatchOption told (RunEnds g ps start) (IsEndlessPath g ps start)
  ring-told start here has farthest on None none = absurd (farthest_rings start here has farthest on none)
  ring-told start here has farthest on (Some (Ring cells steps)) ring = (here, farthest.reached, ring)
  ring-told start here has farthest on (Some (Lost c by)) ring = absurd ring

  -- what goes nowhere with another code than 0 has no run that ends
  lost-endless : (c : Cell) (by : LostBy) → IsLostBy g ps c by → ¬ RunEnds g ps c
  lost-endless c NoCode h = endless-stuck g ps c (next-of_no_code g ps c h) (λ is. h (inl is))
  lost-endless c Outside h = endless-stuck g ps c (next-outside g ps c h.0 h.1 h.2) (code-not_zero (ps.dir c) h.0 h.1)
  lost-endless c Void h = endless-stuck g ps c (next-void g ps c h.1 h.0 h.2 h.3 h.4) (code-not_zero (ps.dir c) h.0 h.2)

  -- nor what comes back
  ring-endless : (c : Cell) (steps : ℕ) → IsRingFrom g ps c steps → ¬ RunEnds g ps c
  ring-endless c steps ring = λ ends.
      let more = leads-steps steps c c (leads-after steps c c ring.closed) ends in
      absurd (omega (arith, more, ring.some))

  reached-endless : (start c : Cell) → IsReached g ps start c → ¬ RunEnds g ps c → ¬ RunEnds g ps start
  reached-endless start c reached endless =
      IsWalk-endless g ps reached.led.0 start c (record { leads = leads-after reached.led.0 start c reached.led.1 }) endless

  pub reported-endless : (start : Cell) (run : EndlessPath) → IsEndlessPath g ps start run → ¬ RunEnds g ps start
  reported-endless start (Ring cells steps) h = reached-endless start h.0 h.1 (ring-endless h.0 steps h.2.0)
  reported-endless start (Lost c by) h = reached-endless start c h.0 (lost-endless c by h.1)

-- of every grid whose flows are known
pub ring-of : (Known : Grid → Products → Type 0) (start here : Cell) →
    ((g : Grid) (ps : Products) → Known g ps → HasData g start → IsFarthest g ps start here) →
    ((g : Grid) (ps : Products) → Known g ps → HasData g here → LeadsOnOrEnds g ps here) → (result : Result (Option EndlessPath) OutOfMemory) →
    IfOk result (λ told. (g : Grid) (ps : Products) → Known g ps → HasData g here → MatchOption told (IsOnNoRing g ps here) (IsRing g ps here)) →
    IfOk result (λ told. (g : Grid) (ps : Products) → Known g ps → HasData g start → MatchOption told (RunEnds g ps start) (IsEndlessPath g ps start))
ring-of Known start here farthest on (Err e) rings = tt
ring-of Known start here farthest on (Ok told) rings = λ g ps known has.
    let far = farthest g ps known has in
    ring-told g ps start here has far (on g ps known far.reached.has_data) told (rings g ps known far.reached.has_data)
