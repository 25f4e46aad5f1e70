-- How many of the first cells in row order have code 0: one more at each that has, so two of them have two numbers.
use Rattle.drain_paths.proofs.Names.{◌≡◌, ◌≢◌, ◌∙◌, ◌⊎◌, ℕ, ◌+◌, ◌<◌, ◌≤◌, inl, inr, ℤ, pos, Bool, true, false, cond, nat_lt, ◌&&◌, is_some, refl, sym, ap, subst, arith, rules, int_eq, cases_order, and_from, and_parts, false_from_ne_true, false≢true, nat_tests, Cell, index_of, same_cell, cells, Grid, Products, IsInside, HasData, sum_by_same, sum_by_add, sum_by_zero, sum_by_cells_same, sum_by_cells_one, same_cell_true, same_cell_self, same_index, is_end, end_number}
use Rattle.drain_paths.specs.Basins.{ends_before}

below_yes : (a k : ℕ) → a < k → nat_lt a k ≡ true
below_yes a k less = grind (arith, nat_tests)

below_no : (a k : ℕ) → k ≤ a → nat_lt a k ≡ false
below_no a k more = grind (arith, nat_tests)

-- a data cell with code 0 is one, and no other cell is
pub is_end_yes : (g : Grid) (ps : Products) (c : Cell) → HasData g c → ps.dir c ≡ pos 0 → is_end g ps c ≡ true
is_end_yes g ps c here is_zero = and_from (is_some (g.elevation c)) (int_eq (ps.dir c) (pos 0)) here.is_data (ap (λ z. int_eq z (pos 0)) is_zero)

int_eq-true : (a : ℤ) → int_eq a (pos 0) ≡ true → a ≡ pos 0
int_eq-true a h = search rules

pub is_end_no : (g : Grid) (ps : Products) (c : Cell) → IsInside g c → (HasData g c → ps.dir c ≢ pos 0) → is_end g ps c ≡ false
is_end_no g ps c inside other = false_from_ne_true (is_end g ps c) (λ yes.
    (let both = and_parts (is_some (g.elevation c)) (int_eq (ps.dir c) (pos 0)) yes in
    other (record { inside = inside; is_data = both.0 }) (int_eq-true (ps.dir c) both.1)))

pub ends_before-none : (g : Grid) (ps : Products) → ends_before g ps 0 ≡ 0
unfolding ends_before
ends_before-none g ps =
    sum_by_same (λ x. cond (is_end g ps x && nat_lt (index_of g.extent x) 0) 1 0) (λ x. 0) (cells g.extent)
    (λ x. nothing (is_end g ps x) (nat_lt (index_of g.extent x) 0) (below_no (index_of g.extent x) 0 (omega arith)))
    ∙ sum_by_zero (λ x. 0) (cells g.extent) (λ x. refl)
  where
    nothing : (a b : Bool) → b ≡ false → ◌≡◌ {A = ℕ} (cond (a && b) 1 0) 0
    nothing true b h = ap {B = ℕ} (λ v. cond v 1 0) h
    nothing false b h = refl

-- before the place, at it, or past it
abbrev Cases : Bool → Bool → Bool → Type 0
Cases later sooner same = ((later ≡ true) × (sooner ≡ true) × (same ≡ false)) ⊎ (((later ≡ true) × (sooner ≡ false) × (same ≡ true))
    ⊎ ((later ≡ false) × (sooner ≡ false) × (same ≡ false)))

-- one cell further
pub ends_before-more : (g : Grid) (ps : Products) (c : Cell) (k : ℕ) → IsInside g c → index_of g.extent c ≡ k →
    ends_before g ps (k + 1) ≡ ends_before g ps k + cond (is_end g ps c) 1 0
unfolding ends_before
ends_before-more g ps c k inside at =
    let split = sum_by_cells_same (λ x. cond (is_end g ps x && nat_lt (index_of g.extent x) (k + 1)) 1 0)
    (λ x. cond (is_end g ps x && nat_lt (index_of g.extent x) k) 1 0 + cond (is_end g ps x && same_cell c x) 1 0) g.extent
    (λ x at_x. parts (is_end g ps x) (nat_lt (index_of g.extent x) (k + 1)) (nat_lt (index_of g.extent x) k) (same_cell c x) (cases_at x at_x)) in
    let sums = sum_by_add (λ x. cond (is_end g ps x && nat_lt (index_of g.extent x) k) 1 0) (λ x. cond (is_end g ps x && same_cell c x) 1 0) (cells g.extent) in
    let one = sum_by_cells_one (λ x. cond (is_end g ps x && same_cell c x) 1 0) g.extent c inside
    (λ x differ. none (is_end g ps x) (same_cell c x) (false_from_ne_true (same_cell c x) (λ same. differ (sym (same_cell_true c x same))))) in
    let here = whole (is_end g ps c) (same_cell c c) (same_cell_self c) in
    omega (arith, split, sums, one, here)
  where
    none : (a b : Bool) → b ≡ false → ◌≡◌ {A = ℕ} (cond (a && b) 1 0) 0
    none true b h = ap {B = ℕ} (λ v. cond v 1 0) h
    none false b h = refl

    whole : (a b : Bool) → b ≡ true → ◌≡◌ {A = ℕ} (cond (a && b) 1 0) (cond a 1 0)
    whole true b h = ap {B = ℕ} (λ v. cond v 1 0) h
    whole false b h = refl

    parts : (a later sooner same : Bool) → Cases later sooner same → cond (a && later) 1 0 ≡ cond (a && sooner) 1 0 + cond (a && same) 1 0
    parts a later sooner same (inl h) = rw (h.0, h.1, h.2) (first a)
      where
        first : (a : Bool) → cond (a && true) 1 0 ≡ cond (a && true) 1 0 + cond (a && false) 1 0
        first true = refl
        first false = refl
    parts a later sooner same (inr (inl h)) = rw (h.0, h.1, h.2) (at_it a)
      where
        at_it : (a : Bool) → cond (a && true) 1 0 ≡ cond (a && false) 1 0 + cond (a && true) 1 0
        at_it true = refl
        at_it false = refl
    parts a later sooner same (inr (inr h)) = rw (h.0, h.1, h.2) (past a)
      where
        past : (a : Bool) → cond (a && false) 1 0 ≡ cond (a && false) 1 0 + cond (a && false) 1 0
        past true = refl
        past false = refl

    cases_at : (x : Cell) → IsInside g x → Cases (nat_lt (index_of g.extent x) (k + 1)) (nat_lt (index_of g.extent x) k) (same_cell c x)
    cases_at x at_x = elim (cases_order (index_of g.extent x) k) [
      | inl same ↦
          (let is : c ≡ x = same_index g.extent c x inside at_x (at ∙ sym same) in
          inr (inl (
            below_yes (index_of g.extent x) (k + 1) (omega arith),
            below_no (index_of g.extent x) k (omega arith),
            subst (λ y. same_cell c y ≡ true) is (same_cell_self c),
          )))
      | inr (inl before) ↦ inl (
        below_yes (index_of g.extent x) (k + 1) (omega arith),
        below_yes (index_of g.extent x) k before,
        false_from_ne_true (same_cell c x) (λ same. apart x same (λ e. omega arith)),
      )
      | inr (inr after) ↦ inr (inr (
        below_no (index_of g.extent x) (k + 1) (omega arith),
        below_no (index_of g.extent x) k (omega arith),
        false_from_ne_true (same_cell c x) (λ same. apart x same (λ e. omega arith)),
      ))
    ]
      where
        apart : (x : Cell) → same_cell c x ≡ true → (index_of g.extent x ≡ k → ⊥) → ⊥
        apart x same not_at = not_at (ap (index_of g.extent) (sym (same_cell_true c x same)) ∙ at)

abbrev rest : Bool → Bool → Bool → ℕ
rest a more few = cond (a && more) (cond few 0 1) 0

-- no fewer among more
pub ends_before-mono : (g : Grid) (ps : Products) (j k : ℕ) → j ≤ k → ends_before g ps j ≤ ends_before g ps k
unfolding ends_before
ends_before-mono g ps j k fewer =
    let split = sum_by_same (λ x. cond (is_end g ps x && nat_lt (index_of g.extent x) k) 1 0)
    (λ x. cond (is_end g ps x && nat_lt (index_of g.extent x) j) 1 0 + rest (is_end g ps x) (nat_lt (index_of g.extent x) k) (nat_lt (index_of g.extent x) j)) (cells g.extent)
    (λ x. parts (is_end g ps x) (nat_lt (index_of g.extent x) k) (nat_lt (index_of g.extent x) j) (onward (index_of g.extent x))) in
    let sums = sum_by_add (λ x. cond (is_end g ps x && nat_lt (index_of g.extent x) j) 1 0)
    (λ x. rest (is_end g ps x) (nat_lt (index_of g.extent x) k) (nat_lt (index_of g.extent x) j)) (cells g.extent) in
    omega (arith, split, sums)
  where
    parts : (a more few : Bool) → (few ≡ true → more ≡ true) → cond (a && more) 1 0 ≡ cond (a && few) 1 0 + rest a more few
    parts true true true h = refl
    parts true true false h = refl
    parts true false true h = absurd (false≢true (h refl))
    parts true false false h = refl
    parts false more few h = refl

    onward : (a : ℕ) → nat_lt a j ≡ true → nat_lt a k ≡ true
    onward a less = grind (arith, nat_tests)

-- a data cell with code 0 has a number, from 1 on
pub end_number-some : (g : Grid) (ps : Products) (c : Cell) → HasData g c → ps.dir c ≡ pos 0 → end_number g ps c ≡ ends_before g ps (index_of g.extent c) + 1
end_number-some g ps c here is_zero =
    let more = ends_before-more g ps c (index_of g.extent c) here.inside refl in
    let one = ap {B = ℕ} (λ b. cond b 1 0) (is_end_yes g ps c here is_zero) in
    omega (arith, more, one)

-- an earlier one has a smaller number
end_number-less : (g : Grid) (ps : Products) (a b : Cell) → HasData g b → ps.dir b ≡ pos 0 → index_of g.extent a < index_of g.extent b →
    end_number g ps a < end_number g ps b
end_number-less g ps a b at_b zero_b before =
    let more = ends_before-mono g ps (index_of g.extent a + 1) (index_of g.extent b) (omega arith) in
    let one = end_number-some g ps b at_b zero_b in
    omega (arith, more, one)

-- so one number is that of one cell
pub end_number-one : (g : Grid) (ps : Products) (a b : Cell) → HasData g a → ps.dir a ≡ pos 0 → HasData g b → ps.dir b ≡ pos 0 →
    end_number g ps a ≡ end_number g ps b → a ≡ b
end_number-one g ps a b at_a zero_a at_b zero_b same = elim (cases_order (index_of g.extent a) (index_of g.extent b)) [
  | inl one ↦ same_index g.extent a b at_a.inside at_b.inside one
  | inr (inl before) ↦ (let less = end_number-less g ps a b at_b zero_b before in absurd (omega (arith, less, same)))
  | inr (inr after) ↦ (let less = end_number-less g ps b a at_a zero_a after in absurd (omega (arith, less, same)))
]
