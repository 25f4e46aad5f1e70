-- The rules by their places in their order: a search that has passed a place has passed each lesser rule.
use Rattle.drain_faults.proofs.Names.{◌≡◌, ℕ, ◌+◌, ◌-◌, ◌<◌, get_or, refl, subst, arith, Rule, VoidCell, IsAnyRule, rule_number, numbered}
use Rattle.drain_grid.proofs.Decisions.{each_below, same_number}
use Rattle.drain_grid.proofs.AllRules.{rules}

-- what is at a place has the number after it
pub place_at : (k : ℕ) → k < 15 → rule_number (get_or rules k VoidCell) ≡ k + 1
place_at = (each_below (λ k. same_number (rule_number (get_or rules k VoidCell)) (k + 1)) 15).sound refl

-- what holds at each place below one holds of each rule before it
pub of_lesser : (P : Rule → Type 0) (i : ℕ) → ((k : ℕ) → k < i → P (get_or rules k VoidCell)) → (q : Rule) → rule_number q - 1 < i → P q
of_lesser P i h q before = subst P (numbered q).0 (h (rule_number q - 1) before)

-- and past the last place, of each rule
pub of_each : (P : Rule → Type 0) → ((k : ℕ) → k < 15 → P (get_or rules k VoidCell)) → (q : Rule) → P q
of_each P h q = of_lesser P 15 h q (numbered q).1

-- each rule has a number from 1 to 15
pub any_rule : (r : Rule) → IsAnyRule r
any_rule r =
    let number : rule_number r ≡ rule_number r - 1 + 1 = subst (λ q. rule_number q ≡ rule_number r - 1 + 1) (numbered r).0 (place_at (rule_number r - 1) (numbered r).1) in
    (omega (arith, number), omega (arith, number, (numbered r).1))
