-- What the cells that flow into a cell pass on: the sum in rule 13.
use Rattle.drain_grid.proofs.Names.{◌≡◌, ℕ, ◌≤◌, ◌∙◌, inl, inr, ℤ, pos, ◌+ℤ◌, Bool, true, false, cond, if◌then◌else◌, ◌&&◌, ◌==◌, Option, Some, None, is_some, option_map, List, [], ◌∷◌, map, refl, sym, ap, subst, arith, sum_by, pos-+ℤ-pos, cases_Bool, false≢true, eqb-true, eq-eqb, sum_by-cons, ints, up, down, Cell, Direction, directions, order_of, opposite, names, step, neighbor, inflow, total, Grid, Products, patch_at, values_at}
use Rattle.drain_grid.proofs.Patches.{neighbor-patch_at}
use Rattle.drain_grid.proofs.CellSums.{sum_by_directions_one, sum_by_same, sum_by_zero, sum_by_swap, directions_at_most, same_place_same}
use Rattle.drain_grid.proofs.Inflows.{FlowsFrom, share, share_cases, share_flow, share_sum, inflow_share}

-- what the cells that flow into c pass on
pub handed_on : Grid → Products → Cell → (Cell → ℕ) → ℕ
handed_on g ps c f = sum_by (λ d. share g ps (step g.extent c d) d f) directions

-- nothing, where each cell that flows in has 0
pub handed_none : (g : Grid) (ps : Products) (c : Cell) (f : Cell → ℕ) →
    ((d : Direction) (m : Cell) → FlowsFrom g ps c d m → f m ≡ 0) → handed_on g ps c f ≡ 0
unfolding handed_on
handed_none g ps c f none =
    sum_by_zero (λ d. share g ps (step g.extent c d) d f) directions
    (λ d. elim (share_cases g ps c d) [ inl h ↦ h.2 f ∙ none d h.0 h.1 | inr h ↦ h f ])

-- the number of one cell that flows in, where each other one has 0
pub handed_one : (g : Grid) (ps : Products) (c : Cell) (f : Cell → ℕ) (d : Direction) (m : Cell) → FlowsFrom g ps c d m →
    ((e : Direction) (n : Cell) → FlowsFrom g ps c e n → (e ≡ d → ⊥) → f n ≡ 0) → handed_on g ps c f ≡ f m
unfolding handed_on
handed_one g ps c f d m from_m others =
    sum_by_directions_one (λ e. share g ps (step g.extent c e) e f) d (f m)
    (λ e. elim (cases_Bool (order_of e == order_of d)) [
      | inl here ↦
          (let same : e ≡ d = same_place_same e d (eqb-true (order_of e) (order_of d) here) in
          ap (λ y. share g ps (step g.extent c y) y f) same ∙ (share_flow g ps c d m f from_m ∙ sym (ap (λ b. cond b (f m) 0) here)))
      | inr apart ↦
          (let differ : e ≡ d → ⊥ = λ same. false≢true (sym apart ∙ eq-eqb (order_of e) (order_of d) (ap order_of same)) in
          elim (share_cases g ps c e) [ inl h ↦ h.2 f ∙ others e h.0 h.1 differ | inr h ↦ h f ] ∙ sym (ap (λ b. cond b (f m) 0) apart))
    ])

-- the same, where each cell that flows in has the same
pub handed_same : (g : Grid) (ps : Products) (c : Cell) (f h : Cell → ℕ) →
    ((d : Direction) (m : Cell) → FlowsFrom g ps c d m → f m ≡ h m) → handed_on g ps c f ≡ handed_on g ps c h
unfolding handed_on
handed_same g ps c f h same =
    sum_by_same (λ d. share g ps (step g.extent c d) d f) (λ d. share g ps (step g.extent c d) d h) directions
    (λ d. elim (share_cases g ps c d) [ inl w ↦ w.2 f ∙ (same d w.0 w.1 ∙ sym (w.2 h)) | inr w ↦ w f ∙ sym (w h) ])

pub handed_at_least : (g : Grid) (ps : Products) (c : Cell) (f : Cell → ℕ) (d : Direction) (m : Cell) → FlowsFrom g ps c d m →
    f m ≤ handed_on g ps c f
unfolding handed_on
handed_at_least g ps c f d m from_m =
    subst (λ n. n ≤ sum_by (λ e. share g ps (step g.extent c e) e f) directions) (share_flow g ps c d m f from_m)
    (directions_at_most (λ e. share g ps (step g.extent c e) e f) d)

-- sums that are passed on are the sum of what is passed on
pub handed_sum : (g : Grid) (ps : Products) (c : Cell) (f : Cell → Cell → ℕ) (xs : List Cell) →
    sum_by (λ x. handed_on g ps c (λ m. f m x)) xs ≡ handed_on g ps c (λ m. sum_by (f m) xs)
unfolding handed_on
handed_sum g ps c f xs =
    sum_by_swap (λ x d. share g ps (step g.extent c d) d (λ m. f m x)) xs directions ∙
    sum_by_same (λ d. sum_by (λ x. share g ps (step g.extent c d) d (λ m. f m x)) xs)
    (λ d. share g ps (step g.extent c d) d (λ m. sum_by (f m) xs)) directions
    (λ d. share_sum g ps (step g.extent c d) d f xs)

-- the sum that rule 13 takes
pub handed_total : (g : Grid) (ps : Products) (c : Cell) (f : Cell → ℕ) →
    ((d : Direction) (m : Cell) → FlowsFrom g ps c d m → ps.acc m ≡ pos (f m)) →
    total (map (λ d. inflow (neighbor (patch_at g ps c) d) d) directions) ≡ pos (handed_on g ps c f)
unfolding handed_on
handed_total g ps c f right =
    total_is (λ d. inflow (neighbor (patch_at g ps c) d) d) (λ d. share g ps (step g.extent c d) d f)
    (λ d. ap (λ o. inflow o d) (neighbor-patch_at g ps c d) ∙ inflow_share g ps c d f (right d)) directions
  where
    total_is : (f : Direction → ℤ) (h : Direction → ℕ) → ((d : Direction) → f d ≡ pos (h d)) → (ds : List Direction) →
        total (map f ds) ≡ pos (sum_by h ds)
    total_is f h same [] = refl
    total_is f h same (d ∷ ds) = rw (same d, total_is f h same ds) (pos-+ℤ-pos (h d) (sum_by h ds) ∙ ap pos (sym (sum_by-cons h d ds)))

-- the sum that rule 13 takes, of numbers that may be below 0: what is above 0 in them, less what is below
pub handed_balance : (g : Grid) (ps : Products) (c : Cell) →
    total (map (λ d. inflow (neighbor (patch_at g ps c) d) d) directions) +ℤ pos (handed_on g ps c (λ m. down (ps.acc m))) ≡
    pos (handed_on g ps c (λ m. up (ps.acc m)))
unfolding handed_on
handed_balance g ps c =
    total_is (λ d. inflow (neighbor (patch_at g ps c) d) d) (λ d. share g ps (step g.extent c d) d (λ m. up (ps.acc m)))
    (λ d. share g ps (step g.extent c d) d (λ m. down (ps.acc m)))
    (λ d. ap (λ o. inflow o d +ℤ pos (share g ps (step g.extent c d) d (λ m. down (ps.acc m)))) (neighbor-patch_at g ps c d)
    ∙ at (step g.extent c d) d) directions
  where
    parts : (b : Bool) (z : ℤ) → (if b then z else pos 0) +ℤ pos (if b then down z else 0) ≡ pos (if b then up z else 0)
    parts true z = omega (arith, ints)
    parts false z = refl

    at : (o : Option Cell) (d : Direction) →
        inflow (option_map (values_at g ps) o) d +ℤ pos (share g ps o d (λ m. down (ps.acc m))) ≡ pos (share g ps o d (λ m. up (ps.acc m)))
    at None d = refl
    at (Some m) d = parts (is_some (g.elevation m) && names (ps.dir m) (opposite d)) (ps.acc m)

    total_is : (f : Direction → ℤ) (h k : Direction → ℕ) → ((d : Direction) → f d +ℤ pos (k d) ≡ pos (h d)) → (ds : List Direction) →
        total (map f ds) +ℤ pos (sum_by k ds) ≡ pos (sum_by h ds)
    total_is f h k same [] = refl
    total_is f h k same (d ∷ ds) = omega (arith, ints, same d, total_is f h k same ds, sum_by-cons h d ds, sum_by-cons k d ds)
