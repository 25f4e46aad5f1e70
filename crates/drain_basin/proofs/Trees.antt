-- The words of blocks in a tree.
use Rattle.drain_basin.proofs.Names.{◌∙◌, Option, None, Some, IsSome, false, refl, sym, ◌≡◌, ◌<◌, ◌≤◌, ◌/◌, ℕ, cond, List, nat_eq, unwrap_or, arith, common_steps, word}
use Rattle.std.specs.BTreeMap.{is_at}
use Rattle.std.specs.Map.{lookup}
use Rattle.std.specs.Ordering.{nat_cmp, is_gt}
use Rattle.std.proofs.lemmas.Bool.Decides.{nat_tests}
use Rattle.std.proofs.lemmas.Map.Keys.{le_from_not_gt}

-- the order of numbers finds the key that is equal
same_test : (k q : ℕ) → is_at (nat_cmp k) q ≡ nat_eq k q
same_test k q = grind (arith, nat_tests)

-- so a tree has for a block the word that the list of its entries has
pub tree_word : (high : List (ℕ × ℕ)) (block : ℕ) → unwrap_or (lookup (is_at (nat_cmp block)) high) 0 ≡ word high block
tree_word high block = λ i. unwrap_or (lookup (λ q. same_test block q i) high) 0

-- what is written into a tree at a block is its word, and no other changes
pub tree_put : (before after : List (ℕ × ℕ)) (block value : ℕ) →
    ((q : ℕ) → lookup (is_at (nat_cmp q)) after ≡ cond (is_at (nat_cmp block) q) (Some value) (lookup (is_at (nat_cmp q)) before)) →
    (q : ℕ) → word after q ≡ cond (nat_eq block q) value (word before q)
tree_put before after block value writes q =
    grind (arith, common_steps, nat_tests, tree_word before q, tree_word after q, writes q, same_test block q)

-- below the least key there is no word
pub none_below : (high : List (ℕ × ℕ)) (block words q : ℕ) → words ≤ block / 4 →
    (IsSome (lookup (is_at (nat_cmp q)) high) → is_gt (nat_cmp block q) ≡ false) → q / 4 < words → word high q ≡ 0
none_below high block words q past least below = sym (tree_word high q) ∙ by_case (lookup (is_at (nat_cmp q)) high) least
  where
    by_case : (o : Option ℕ) → (IsSome o → is_gt (nat_cmp block q) ≡ false) → unwrap_or o 0 ≡ 0
    by_case None least = refl
    by_case (Some value) least = let order : block ≤ q = le_from_not_gt block q (least refl) in absurd (omega arith)
