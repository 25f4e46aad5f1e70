-- A set of cells in an order of cells: what an insertion adds.
use Rattle.drain_grid.proofs.Names.{◌≡◌, ◌||◌, Bool, true, false, cond, Ordering, List, [], ◌∷◌, refl, sym, ap, ◌∙◌, arith, list_any, is_eq, nat_tests, Cell, same_cell}
use Rattle.std.specs.BTreeMap.{is_at}
use Rattle.std.specs.BTreeSet.{BTreeSet, Updates}
use Rattle.drain_grid.specs.CellLists.{is_among}

-- in the order two cells are equal exactly where they are one
module _ (cmp : Cell → Cell → Ordering) (one : (a b : Cell) → is_eq (cmp a b) ≡ same_cell a b) where
  among : (q : Cell) (keys : List Cell) → list_any (is_at (cmp q)) keys ≡ is_among keys q
  among q [] = refl
  among q (k ∷ keys) = ap (λ b. b || list_any (is_at (cmp q)) keys) (one q k) ∙ ap (λ b. same_cell q k || b) (among q keys)

  either : (here same : Bool) (there : Bool) → here ≡ same → cond here true there ≡ (same || there)
  either true true there is = refl
  either false false there is = refl
  either true false there is = absurd (cc)
  either false true there is = absurd (cc)

  turned : (a b : Cell) → same_cell a b ≡ same_cell b a
  turned a b = grind (arith, nat_tests)

  -- after an insertion the new cell is among them, and those that were
  pub inserted : (old new : BTreeSet Cell) (key : Cell) → Updates cmp old new key true → (q : Cell) → is_among new.keys q ≡ (same_cell q key || is_among old.keys q)
  inserted old new key updates q =
      sym (among q new.keys) ∙ updates.0 q ∙ either (is_at (cmp key) q) (same_cell q key) (list_any (is_at (cmp q)) old.keys) (one key q ∙ turned key q)
      ∙ ap (λ b. same_cell q key || b) (among q old.keys)
