-- What cells pass on, added up over the cells that take it: each cell's number counts once, at the cell that its code
-- leads to.
use Rattle.drain_grid.proofs.Names.{◌≡◌, ℕ, ◌∙◌, inl, inr, Bool, true, false, cond, List, Some, refl, sym, ap, subst, sum_by, cases_Bool, false≢true, false_from_ne_true, Cell, Extent, IsCellOf, same_cell, cells, Grid, Products, HasData, next}
use Rattle.drain_grid.proofs.Tallies.{same_some}
use Rattle.drain_grid.proofs.CellSums.{sum_by_same, sum_by_zero, sum_by_swap, sum_by_cells_one, same_cell_true, same_cell_self}
use Rattle.drain_grid.proofs.Inflows.{FlowsFrom, HasData-flow, next-flow, flow-next, flow_unique}
use Rattle.drain_grid.proofs.Runs.{HasData-next}
use Rattle.drain_grid.proofs.HandedOn.{handed_on, handed_none, handed_one, handed_same, handed_sum}

-- the number of x where m is x, and else 0
only : (Cell → ℕ) → Cell → Cell → ℕ
only f m x = cond (same_cell m x) (f x) 0

only_self : (f : Cell → ℕ) (x : Cell) → only f x x ≡ f x
unfolding only
only_self f x = ap (λ b. cond b (f x) 0) (same_cell_self x)

only_other : (f : Cell → ℕ) (m x : Cell) → (m ≡ x → ⊥) → only f m x ≡ 0
unfolding only
only_other f m x differ = ap (λ b. cond b (f x) 0) (false_from_ne_true (same_cell m x) (λ same. differ (same_cell_true m x same)))

only_sum : (f : Cell → ℕ) (e : Extent) (m : Cell) → IsCellOf e m → sum_by (only f m) (cells e) ≡ f m
only_sum f e m inside =
    sum_by_cells_one (only f m) e m inside (λ x differ. only_other f m x (λ same. differ (sym same))) ∙ only_self f m

cond_same : (b : Bool) (x y : ℕ) → (b ≡ true → x ≡ y) → cond b x 0 ≡ cond b y 0
cond_same true x y same = same refl
cond_same false x y same = refl

cond_none : (b : Bool) → cond {A = ℕ} b 0 0 ≡ 0
cond_none true = refl
cond_none false = refl

cond_sum : {X : Type 0} (b : Bool) (f : X → ℕ) (xs : List X) → cond b (sum_by f xs) 0 ≡ sum_by (λ x. cond b (f x) 0) xs
cond_sum true f xs = refl
cond_sum false f xs = sym (sum_by_zero (λ x. 0) xs (λ x. refl))

-- `before` passes exactly at the data cells whose codes lead to a cell where `there` passes, and those have data
pub record AreStepBefore (g : Grid) (ps : Products) (there before : Cell → Bool) : Type 0 where
  pub have_data : (c : Cell) → there c ≡ true → HasData g c
  pub back : (c m : Cell) → there c ≡ true → HasData g m → next g ps m ≡ Some c → before m ≡ true
  pub on : (m : Cell) → before m ≡ true → HasData g m × ((c : Cell) × (next g ps m ≡ Some c) × (there c ≡ true))

module _ (g : Grid) (ps : Products) (there before : Cell → Bool) (steps : AreStepBefore g ps there before) (f : Cell → ℕ) where
  -- what c takes of x's number
  taken : Cell → Cell → ℕ
  taken c x = cond (there c) (handed_on g ps c (λ m. only f m x)) 0

  taken_none : (c x : Cell) → (there c ≡ true → HasData g x → next g ps x ≡ Some c → ⊥) → taken c x ≡ 0
  unfolding taken
  taken_none c x apart =
      cond_same (there c) (handed_on g ps c (λ m. only f m x)) 0
      (λ is_there. handed_none g ps c (λ m. only f m x)
      (λ d m from_m. only_other f m x (λ same.
      apart is_there (subst (HasData g) same (HasData-flow g ps c d m from_m))
      (subst (λ y. next g ps y ≡ Some c) same (next-flow g ps c d m (steps.have_data c is_there) from_m)))))
      ∙ cond_none (there c)

  taken_one : (c x : Cell) → there c ≡ true → HasData g x → next g ps x ≡ Some c → taken c x ≡ f x
  unfolding taken
  taken_one c x is_there here leads =
      let way = (flow-next g ps x c here leads).1 in
      ap (λ b. cond b (handed_on g ps c (λ m. only f m x)) 0) is_there ∙
      (handed_one g ps c (λ m. only f m x) way.0 x way.1
      (λ e n from_n differ. only_other f n x (λ same.
      differ (flow_unique g ps c x e way.0 (subst (λ y. FlowsFrom g ps c e y) same from_n) way.1)))
      ∙ only_self f x)

  -- of each cell's number all is taken at one cell, or nothing
  taken_once : (x : Cell) → sum_by (λ c. taken c x) (cells g.extent) ≡ cond (before x) (f x) 0
  taken_once x =
      elim (cases_Bool (before x)) [
        | inl is_before ↦
            (let on = steps.on x is_before in
            let c : Cell = on.1.0 in
            sum_by_cells_one (λ y. taken y x) g.extent c (HasData-next g ps x c on.1.1).inside
            (λ y differ. taken_none y x (λ is_there here leads. differ (same_some y c (sym leads ∙ on.1.1))))
            ∙ (taken_one c x on.1.2 on.0 on.1.1 ∙ sym (ap (λ b. cond b (f x) 0) is_before)))
        | inr idle ↦
            (sum_by_zero (λ c. taken c x) (cells g.extent)
            (λ c. taken_none c x (λ is_there here leads. false≢true (sym idle ∙ steps.back c x is_there here leads)))
            ∙ sym (ap (λ b. cond b (f x) 0) idle))
      ]

  -- what a cell takes is what it takes of each cell's number
  taken_parts : (c : Cell) → cond (there c) (handed_on g ps c f) 0 ≡ sum_by (taken c) (cells g.extent)
  unfolding taken
  taken_parts c =
      cond_same (there c) (handed_on g ps c f) (sum_by (λ x. handed_on g ps c (λ m. only f m x)) (cells g.extent))
      (λ is_there. handed_same g ps c f (λ m. sum_by (only f m) (cells g.extent))
      (λ d m from_m. sym (only_sum f g.extent m (HasData-flow g ps c d m from_m).inside))
      ∙ sym (handed_sum g ps c (only f) (cells g.extent)))
      ∙ cond_sum (there c) (λ x. handed_on g ps c (λ m. only f m x)) (cells g.extent)

  -- what the cells where `there` passes take is what the cells where `before` passes have
  pub taken_sum : sum_by (λ c. cond (there c) (handed_on g ps c f) 0) (cells g.extent) ≡
      sum_by (λ x. cond (before x) (f x) 0) (cells g.extent)
  taken_sum =
      sum_by_same (λ c. cond (there c) (handed_on g ps c f) 0) (λ c. sum_by (taken c) (cells g.extent)) (cells g.extent) taken_parts
      ∙ (sum_by_swap taken (cells g.extent) (cells g.extent)
      ∙ sum_by_same (λ x. sum_by (λ c. taken c x) (cells g.extent)) (λ x. cond (before x) (f x) 0) (cells g.extent) taken_once)
