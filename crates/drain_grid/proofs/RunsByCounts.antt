-- Rules 10 to 13 without ranks: every run ends.
--
-- Take the data cells whose runs aren't over after k steps. By rules 10 to 12 those that aren't over after one step more are exactly the data
-- cells whose codes lead to one of them (GoingOn), and they are among them. Rule 13, added up over them, says that their acc is as many as
-- they are, and the acc of those after one step more (Taken). So where all of them go on for one step more, there are none; else fewer do
-- (none_goes, stopping_sum). A run may take as many steps as there are cells, and by then none is left (dwindles).
--
-- acc may have any sign: it is what is above 0 in it less what is below, so that sums are of numbers from 0 on.
use Rattle.drain_grid.proofs.Names.{◌≡◌, ℕ, zero, suc, ◌+◌, ◌-◌, ◌≤◌, ◌∙◌, inl, inr, pos, Bool, true, false, cond, refl, ap, arith, sum_by, false≢true, ints, up, down, Cell, Accumulation, cells, IsWayRule, IsCountRule, level_rules, Grid, Products, HasData, RulesHold, steps_from, last_from, RunEnds, RunsEndByCounts}
use Rattle.drain_grid.proofs.Decisions.{cases, same}
use Rattle.drain_grid.proofs.CellSums.{sum_by_same, sum_by_add, sum_by_cells_same, sum_by_cells_le, cells_at_most}
use Rattle.drain_grid.proofs.Profiles.{RulesHold-within}
use Rattle.drain_grid.proofs.Runs.{cell_count}
use Rattle.drain_grid.proofs.HandedOn.{handed_on, handed_balance}
use Rattle.drain_grid.proofs.Taken.{taken_sum}
use Rattle.drain_grid.proofs.GoingOn.{goes, goes_yes, goes_is, goes_before, are_step_before}

module _ (g : Grid) (ps : Products) (rules : RulesHold level_rules IsCountRule g ps) where
  ways : RulesHold level_rules IsWayRule g ps
  ways = RulesHold-within level_rules IsWayRule IsCountRule g ps (λ r own. (own.0, omega (arith, own.1))) rules

  -- the sum over what goes on for n steps
  among : ℕ → (Cell → ℕ) → ℕ
  among k f = sum_by (λ c. cond (goes g ps k c) (f c) 0) (cells g.extent)

  -- how many go on
  going_count : ℕ → ℕ
  going_count k = among k (λ c. 1)

  -- rule 13, with nothing below 0 in it
  balance : (c : Cell) → HasData g c → up (ps.acc c) + handed_on g ps c (λ m. down (ps.acc m)) ≡
      1 + handed_on g ps c (λ m. up (ps.acc m)) + down (ps.acc c)
  balance c here =
      let rule = rules c Accumulation here.inside (omega arith, omega arith) here.is_data in
      omega (arith, ints, rule, handed_balance g ps c)

  -- sums of sums of two, and of equal terms
  among_add : (k : ℕ) (f h : Cell → ℕ) → among k (λ c. f c + h c) ≡ among k f + among k h
  unfolding among
  among_add k f h =
      sum_by_same (λ c. cond (goes g ps k c) (f c + h c) 0) (λ c. cond (goes g ps k c) (f c) 0 + cond (goes g ps k c) (h c) 0) (cells g.extent)
      (λ c. parts (goes g ps k c) (f c) (h c))
      ∙ sum_by_add (λ c. cond (goes g ps k c) (f c) 0) (λ c. cond (goes g ps k c) (h c) 0) (cells g.extent)
    where
      parts : (b : Bool) (m n : ℕ) → cond b (m + n) 0 ≡ cond b m 0 + cond b n 0
      parts true m n = refl
      parts false m n = refl

  among_same : (k : ℕ) (f h : Cell → ℕ) → ((c : Cell) → HasData g c → f c ≡ h c) → among k f ≡ among k h
  unfolding among
  among_same k f h is =
      sum_by_same (λ c. cond (goes g ps k c) (f c) 0) (λ c. cond (goes g ps k c) (h c) 0) (cells g.extent)
      (λ c. parts (goes g ps k c) (f c) (h c) (λ goes_c. is c (goes_is g ps k c goes_c).0))
    where
      parts : (b : Bool) (m n : ℕ) → (b ≡ true → m ≡ n) → cond b m 0 ≡ cond b n 0
      parts true m n is = is refl
      parts false m n is = refl

  -- what they take is what those that go on for one step more have
  among_handed : (k : ℕ) (f : Cell → ℕ) → among k (λ c. handed_on g ps c f) ≡ among (suc k) f
  unfolding among
  among_handed k f = taken_sum g ps (goes g ps k) (goes g ps (suc k)) (are_step_before g ps ways k) f

  -- rule 13 summed
  summed : (k : ℕ) → among k (λ c. up (ps.acc c)) + among (suc k) (λ c. down (ps.acc c)) ≡
      going_count k + among (suc k) (λ c. up (ps.acc c)) + among k (λ c. down (ps.acc c))
  unfolding going_count
  summed k =
      let whole = among_same k (λ c. up (ps.acc c) + handed_on g ps c (λ m. down (ps.acc m)))
      (λ c. 1 + handed_on g ps c (λ m. up (ps.acc m)) + down (ps.acc c)) balance in
      let left = among_add k (λ c. up (ps.acc c)) (λ c. handed_on g ps c (λ m. down (ps.acc m))) in
      let right = among_add k (λ c. 1 + handed_on g ps c (λ m. up (ps.acc m))) (λ c. down (ps.acc c)) in
      let first = among_add k (λ c. 1) (λ c. handed_on g ps c (λ m. up (ps.acc m))) in
      omega (arith, whole, left, right, first, among_handed k (λ m. up (ps.acc m)), among_handed k (λ m. down (ps.acc m)))

  -- how many go on for n steps, and no further
  stopping : ℕ → Cell → ℕ
  stopping k c = cond (goes g ps k c) (cond (goes g ps (suc k) c) 0 1) 0

  stopping_sum : (k : ℕ) → going_count k ≡ going_count (suc k) + sum_by (stopping k) (cells g.extent)
  unfolding going_count among stopping
  stopping_sum k =
      sum_by_same (λ c. cond (goes g ps k c) 1 0) (λ c. cond (goes g ps (suc k) c) 1 0 + stopping k c) (cells g.extent)
      (λ c. parts (goes g ps k c) (goes g ps (suc k) c) (goes_before g ps k c))
      ∙ sum_by_add (λ c. cond (goes g ps (suc k) c) 1 0) (stopping k) (cells g.extent)
    where
      parts : (a b : Bool) → (b ≡ true → a ≡ true) → cond a 1 0 ≡ cond b 1 0 + cond a (cond b 0 1) 0
      parts true true h = refl
      parts true false h = refl
      parts false true h = absurd (false≢true (h refl))
      parts false false h = refl

  -- where none stops, as many go on for one step more, and the same cells do
  none_stops : (k : ℕ) (f : Cell → ℕ) → sum_by (stopping k) (cells g.extent) ≡ 0 → among k f ≡ among (suc k) f
  unfolding among stopping
  none_stops k f none =
      sum_by_cells_same (λ c. cond (goes g ps k c) (f c) 0) (λ c. cond (goes g ps (suc k) c) (f c) 0) g.extent
      (λ c inside. parts (goes g ps k c) (goes g ps (suc k) c) (f c) (goes_before g ps k c)
      (no_more _ _ (cells_at_most (stopping k) g.extent c inside) none))
    where
      no_more : (n s : ℕ) → n ≤ s → s ≡ 0 → n ≡ 0
      no_more n s h e = omega arith

      parts : (a b : Bool) (n : ℕ) → (b ≡ true → a ≡ true) → ◌≡◌ {A = ℕ} (cond a (cond b 0 1) 0) 0 → cond a n 0 ≡ cond b n 0
      parts true true n h e = refl
      parts true false n h e = absurd (omega arith)
      parts false true n h e = absurd (false≢true (h refl))
      parts false false n h e = refl

  -- where all go on, rule 13 leaves none
  none_goes : (k : ℕ) → sum_by (stopping k) (cells g.extent) ≡ 0 → going_count k ≡ 0
  none_goes k none =
      omega (arith, summed k, none_stops k (λ c. up (ps.acc c)) none, none_stops k (λ c. down (ps.acc c)) none)

  -- at each step fewer go on, until none does
  dwindles : (k : ℕ) → going_count k ≤ cell_count g - k
  unfolding going_count among
  dwindles zero = by_zero (sum_by_cells_le (λ c. cond (goes g ps zero c) 1 0) g.extent (λ c. at_most_one (goes g ps zero c)))
    where
      by_zero : {s n : ℕ} → s ≤ n → s ≤ n - zero
      by_zero h = omega arith

      at_most_one : (b : Bool) → cond b 1 0 ≤ 1
      at_most_one true = omega arith
      at_most_one false = omega arith
  dwindles (suc k) = fewer _ _ _ (stopping_sum k) (none_goes k) (dwindles k)
    where
      fewer : (n m s : ℕ) → n ≡ m + s → (s ≡ 0 → n ≡ 0) → n ≤ cell_count g - k → m ≤ cell_count g - suc k
      fewer n m zero whole none h = (let e = none refl in omega arith)
      fewer n m (suc s) whole none h = omega arith

  ends_by_counts : (c : Cell) → HasData g c → RunEnds g ps c
  unfolding going_count among
  ends_by_counts c here =
      elim (cases (same (ps.dir (last_from c (steps_from g ps (cell_count g) c))) (pos 0))) [
        | inl ends ↦ ends
        | inr endless ↦
            (let most = cells_at_most (λ x. cond (goes g ps (cell_count g) x) 1 0) g.extent c here.inside in
            let is = ap {B = ℕ} (λ b. cond b 1 0) (goes_yes g ps (cell_count g) c (here, endless)) in
            let none = dwindles (cell_count g) in
            absurd (omega (arith, most, is, none)))
      ]

-- rules 10 to 13 without ranks leave no run without an end
pub runs_end_by_counts : RunsEndByCounts
runs_end_by_counts g ps rules c here = ends_by_counts g ps rules c here
