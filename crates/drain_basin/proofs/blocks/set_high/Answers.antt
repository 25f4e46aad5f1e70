use Rattle.drain_basin.proofs.Names.{◌≡◌, ◌↔◌, ◌∙◌, ◌/◌, ◌%◌, ◌*◌, ◌^◌, IsTrue, nat_eq, bit_and, bit_or, ap, arith, subst, unwrap_or, bit_at, common_steps}
use Rattle.drain_basin.proofs.Bits.{clear_test, high_set}
use Rattle.drain_basin.proofs.Trees.{tree_put, tree_word}
use Rattle.drain_basin.proofs.blocks.set_high.Goals as goal

pub returns-clause-is_new : goal.returns-clause-is_new
returns-clause-is_new c =
    subst (λ n. IsTrue (nat_eq (bit_and (c.or_insert-word.result.now / 2 ^ (c.args.place % 16)) 1) 0) ↔ (bit_at n (c.args.place % 16) ≡ 0))
    (c.or_insert-word.ensures.value ∙ ap (λ o. unwrap_or o 0) c.in_ok-entry.ensures.value ∙ tree_word c.args.high.now.entries (c.args.place / 16))
    (clear_test c.or_insert-word.result.now (c.args.place % 16))

pub returns-clause-set : goal.returns-clause-set
returns-clause-set c =
    high_set c.args.high.now.entries _ c.args.place c.or_insert-word.result.now
    (c.or_insert-word.ensures.value ∙ ap (λ o. unwrap_or o 0) c.in_ok-entry.ensures.value ∙ tree_word c.args.high.now.entries (c.args.place / 16))
    (tree_put c.args.high.now.entries _ (c.args.place / 16) (bit_or c.or_insert-word.result.now (1 * 2 ^ (c.args.place % 16) % 2 ^ 16))
    (λ q. grind (arith, common_steps, (c.in_ok-entry.ensures.update.0 (bit_or c.or_insert-word.result.now (1 * 2 ^ (c.args.place % 16) % 2 ^ 16))).0 q)))
