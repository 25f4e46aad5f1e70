-- Rules 10 to 13: acc is the number of cells that drain through the cell.
--
-- A data cell x drains through c exactly where x is c, or x drains through a cell that flows into c, and then through
-- one only: two such cells are in the run of x, and their runs are longer than that of c by one, so they are one cell
-- (Chains). As numbers: counted at c is self and what the cells that flow in pass on of it (counted_parts). Summed over
-- all x, with the sum over cells and the sum over directions exchanged (CellSums), the number for c is one more than
-- the sum of the numbers for the cells that flow in, and that is rule 13's sum. The induction is on the number itself:
-- what flows into c has a smaller one.
use Rattle.drain_grid.proofs.Names.{◌≡◌, ℕ, zero, suc, ◌+◌, ◌<◌, ◌≤◌, ◌∙◌, inl, inr, pos, ◌+ℤ◌, true, false, cond, ◌&&◌, length, IsSome, is_some, refl, sym, ap, subst, arith, sum_by, pos-+ℤ-pos, cases_Bool, false≢true, false_from_ne_true, and_from, and_left, and_right, Cell, Direction, Accumulation, same_cell, cells, IsWayRule, IsCountRule, flow_rules, Grid, Products, IsInside, HasData, RulesHold, next, run, drains_through, upstream_count, CountsUpstream}
use Rattle.drain_grid.proofs.CellSums.{sum_by_add, sum_by_cells_same, sum_by_cells_one, same_cell_true, same_cell_self}
use Rattle.drain_grid.proofs.Chains.{AreChains, stands_self, one_longer, stands_no_longer, stands_unique, stands_next, stands_before}
use Rattle.drain_grid.proofs.Profiles.{RulesHold-within}
use Rattle.drain_grid.proofs.Runs.{runs_are_chains}
use Rattle.drain_grid.proofs.Inflows.{FlowsFrom, HasData-flow, next-flow, flow-next, flow_unique}
use Rattle.drain_grid.proofs.HandedOn.{handed_on, handed_none, handed_one, handed_at_least, handed_sum, handed_total}

-- 1 where x has data and drains through c
pub counted : Grid → Products → Cell → Cell → ℕ
counted g ps c x = cond (is_some (g.elevation x) && drains_through g ps c x) 1 0

upstream_count-sum : (g : Grid) (ps : Products) (c : Cell) → upstream_count g ps c ≡ sum_by (counted g ps c) (cells g.extent)
unfolding counted
upstream_count-sum g ps c = refl

each_upstream_count : (g : Grid) (ps : Products) → (λ m. sum_by (counted g ps m) (cells g.extent)) ≡ upstream_count g ps
unfolding counted
each_upstream_count g ps = refl

counted_yes : (g : Grid) (ps : Products) (c x : Cell) → IsSome (g.elevation x) → drains_through g ps c x ≡ true →
    counted g ps c x ≡ 1
unfolding counted
counted_yes g ps c x data_x through = ap (λ b. cond b 1 0) (and_from (is_some (g.elevation x)) (drains_through g ps c x) data_x through)

counted_void : (g : Grid) (ps : Products) (c x : Cell) → is_some (g.elevation x) ≡ false → counted g ps c x ≡ 0
unfolding counted
counted_void g ps c x void = ap (λ b. cond b 1 0) (and_left (is_some (g.elevation x)) (drains_through g ps c x) void)

counted_no : (g : Grid) (ps : Products) (c x : Cell) → drains_through g ps c x ≡ false → counted g ps c x ≡ 0
unfolding counted
counted_no g ps c x not_through = ap (λ b. cond b 1 0) (and_right (is_some (g.elevation x)) (drains_through g ps c x) not_through)

-- 1 at the cell itself
pub self : Cell → Cell → ℕ
self c x = cond (same_cell c x) 1 0

self_yes : (c x : Cell) → same_cell c x ≡ true → self c x ≡ 1
unfolding self
self_yes c x same = ap (λ b. cond b 1 0) same

self_no : (c x : Cell) → same_cell c x ≡ false → self c x ≡ 0
unfolding self
self_no c x other = ap (λ b. cond b 1 0) other

self_other : (c x : Cell) → (c ≡ x → ⊥) → self c x ≡ 0
self_other c x differ = self_no c x (false_from_ne_true (same_cell c x) (λ same. differ (same_cell_true c x same)))

join : (a b s n : ℕ) → n ≡ a → b ≡ a → s ≡ 0 → n ≡ b + s
join a b s n whole first rest = omega arith

join_rest : (b s n : ℕ) → n ≡ 1 → b ≡ 0 → s ≡ 1 → n ≡ b + s
join_rest b s n whole first rest = omega arith

module _ (g : Grid) (ps : Products) (chains : AreChains (HasData g) (next g ps) (run g ps)) where
  -- a cell that flows into c isn't in the run of c
  not_from_self : (c : Cell) (d : Direction) (m : Cell) → HasData g c → FlowsFrom g ps c d m → drains_through g ps m c ≡ false
  not_from_self c d m here from_m =
      false_from_ne_true (drains_through g ps m c) (λ reaches.
      (let no_longer = stands_no_longer (HasData g) (next g ps) (run g ps) chains m c here reaches in
      let one = (one_longer (HasData g) (next g ps) (run g ps) chains m c (HasData-flow g ps c d m from_m)
      (next-flow g ps c d m here from_m)).1 in
      absurd (too_long (length (run g ps m)) (length (run g ps c)) no_longer one)))
    where
      too_long : (a b : ℕ) → a ≤ b → a ≡ b + 1 → ⊥
      too_long a b h e = omega arith

  at_void : (c x : Cell) → HasData g c → is_some (g.elevation x) ≡ false →
      counted g ps c x ≡ self c x + handed_on g ps c (λ m. counted g ps m x)
  at_void c x here void =
      join 0 (self c x) (handed_on g ps c (λ m. counted g ps m x)) (counted g ps c x)
      (counted_void g ps c x void)
      (self_other c x (λ same. false≢true (sym void ∙ (ap (λ y. is_some (g.elevation y)) (sym same) ∙ here.is_data))))
      (handed_none g ps c (λ m. counted g ps m x) (λ d m from_m. counted_void g ps m x void))

  at_self : (c x : Cell) → HasData g c → HasData g x → drains_through g ps c x ≡ true → same_cell c x ≡ true →
      counted g ps c x ≡ self c x + handed_on g ps c (λ m. counted g ps m x)
  at_self c x here has through same =
      join 1 (self c x) (handed_on g ps c (λ m. counted g ps m x)) (counted g ps c x)
      (counted_yes g ps c x has.is_data through)
      (self_yes c x same)
      (handed_none g ps c (λ m. counted g ps m x) (λ d m from_m.
      counted_no g ps m x (ap (drains_through g ps m) (sym (same_cell_true c x same)) ∙ not_from_self c d m here from_m)))

  at_upstream : (c x : Cell) → HasData g c → HasData g x → drains_through g ps c x ≡ true → same_cell c x ≡ false →
      counted g ps c x ≡ self c x + handed_on g ps c (λ m. counted g ps m x)
  at_upstream c x here has through other =
      let before = stands_before (HasData g) (next g ps) (run g ps) chains c x has through other in
      let m : Cell = before.0 in
      let way = (flow-next g ps m c before.1.from_data before.1.leads).1 in
      let far_m = (one_longer (HasData g) (next g ps) (run g ps) chains m c before.1.from_data before.1.leads).1 in
      join_rest (self c x) (handed_on g ps c (λ m. counted g ps m x)) (counted g ps c x)
      (counted_yes g ps c x has.is_data through)
      (self_no c x other)
      (handed_one g ps c (λ m. counted g ps m x) way.0 m way.1
      (λ e n from_n differ. counted_no g ps n x (false_from_ne_true (drains_through g ps n x) (λ reaches.
      (let far_n = (one_longer (HasData g) (next g ps) (run g ps) chains n c (HasData-flow g ps c e n from_n)
      (next-flow g ps c e n here from_n)).1 in
      let same : n ≡ m = stands_unique (HasData g) (next g ps) (run g ps) chains n m x has reaches before.1.stands_there
      (far_n ∙ sym far_m) in
      differ (flow_unique g ps c m e way.0 (subst (λ y. FlowsFrom g ps c e y) same from_n) way.1)))))
      ∙ counted_yes g ps m x has.is_data before.1.stands_there)

  at_elsewhere : (c x : Cell) → HasData g c → HasData g x → drains_through g ps c x ≡ false →
      counted g ps c x ≡ self c x + handed_on g ps c (λ m. counted g ps m x)
  at_elsewhere c x here has not_through =
      join 0 (self c x) (handed_on g ps c (λ m. counted g ps m x)) (counted g ps c x)
      (counted_no g ps c x not_through)
      (self_other c x (λ same. false≢true (sym not_through ∙
      (ap (drains_through g ps c) (sym same) ∙ stands_self (HasData g) (next g ps) (run g ps) chains c here))))
      (handed_none g ps c (λ m. counted g ps m x)
      (λ d m from_m. counted_no g ps m x (false_from_ne_true (drains_through g ps m x) (λ reaches.
      false≢true (sym not_through ∙ stands_next (HasData g) (next g ps) (run g ps) chains m c x has
      (next-flow g ps c d m here from_m) reaches)))))

  -- x drains through c exactly where it is c or drains through a cell that flows into c, and then through one only
  pub counted_parts : (c x : Cell) → HasData g c → IsInside g x →
      counted g ps c x ≡ self c x + handed_on g ps c (λ m. counted g ps m x)
  counted_parts c x here inside =
      elim (cases_Bool (is_some (g.elevation x))) [
        | inl data_x ↦
            (let has : HasData g x = record { inside = inside; is_data = data_x } in
            elim (cases_Bool (drains_through g ps c x)) [
              | inl through ↦
                  elim (cases_Bool (same_cell c x)) [
                    | inl same ↦ at_self c x here has through same
                    | inr other ↦ at_upstream c x here has through other
                  ]
              | inr not_through ↦ at_elsewhere c x here has not_through
            ])
        | inr void ↦ at_void c x here void
      ]

  -- one more than the cells that drain through the cells that flow in
  pub upstream_count-parts : (c : Cell) → HasData g c → upstream_count g ps c ≡ 1 + handed_on g ps c (upstream_count g ps)
  upstream_count-parts c here =
      let whole = sum_by_cells_same (counted g ps c) (λ x. self c x + handed_on g ps c (λ m. counted g ps m x)) g.extent
      (λ x inside. counted_parts c x here inside) in
      let parts = sum_by_add (self c) (λ x. handed_on g ps c (λ m. counted g ps m x)) (cells g.extent) in
      let first = sum_by_cells_one (self c) g.extent c here.inside (λ x differ. self_other c x (λ same. differ (sym same))) in
      let rest = handed_sum g ps c (counted g ps) (cells g.extent) in
      let sums = ap (handed_on g ps c) (each_upstream_count g ps) in
      add_up _ _ _ _ _ _ _ (upstream_count-sum g ps c ∙ whole) parts first (self_yes c c (same_cell_self c)) rest sums
    where
      add_up : (u w s t one h k : ℕ) → u ≡ w → w ≡ s + t → s ≡ one → one ≡ 1 → t ≡ h → h ≡ k → u ≡ 1 + k
      add_up u w s t one h k p q r e f z = omega arith

  module _ (rules : RulesHold flow_rules IsCountRule g ps) where
    counts_below : (k : ℕ) (c : Cell) → HasData g c → upstream_count g ps c < k → ps.acc c ≡ pos (upstream_count g ps c)
    counts_below zero c here short = absurd (omega arith)
    counts_below (suc k) c here short =
        let parts = upstream_count-parts c here in
        let rule = rules c Accumulation here.inside (omega arith, omega arith) here.is_data in
        let handed = handed_total g ps c (upstream_count g ps)
        (λ d m from_m. counts_below k m (HasData-flow g ps c d m from_m)
        (smaller _ _ _ k parts (handed_at_least g ps c (upstream_count g ps) d m from_m) short)) in
        rule ∙ (ap (λ z. pos 1 +ℤ z) handed ∙ (pos-+ℤ-pos 1 (handed_on g ps c (upstream_count g ps)) ∙ ap pos (sym parts)))
      where
        smaller : (u m h k : ℕ) → u ≡ 1 + h → m ≤ h → u < suc k → m < k
        smaller u m h k p q r = omega arith

    -- by induction on how many cells drain through it: what flows into a cell has fewer
    pub acc_counts : (c : Cell) → HasData g c → ps.acc c ≡ pos (upstream_count g ps c)
    acc_counts c here = counts_below (upstream_count g ps c + 1) c here (omega arith)

-- rules 10 to 13 make acc the number of cells that drain through the cell
pub counts_upstream : CountsUpstream
counts_upstream g ps rules =
    let ways = RulesHold-within flow_rules IsWayRule IsCountRule g ps (λ r own. (own.0, omega (arith, own.1))) rules in
    acc_counts g ps (runs_are_chains g ps ways) rules
