use Rattle.drain_header.proofs.Names.{◌+◌, drop, get_or, sym, ap, ◌∙◌, find, cond, Some, at_drop_more, Nrows, keys, key_name, reads}
use Rattle.std.proofs.Common.{ℕ, List}
use Rattle.drain_header.proofs.line.named_by.Goals as goal

pub loop-key-preserved : goal.loop-key-preserved
loop-key-preserved c =
    let i = c.loop-key.key-index in
    let word = c.args.word.now in
    let other = sym (c.reads.ensures ∙ ap (λ (name : List ℕ). reads name word) c.name.ensures) ∙ c.if-reads.false in
    c.loop-key.invariant
    ∙ at_drop_more (find (λ key. reads (key_name key) word)) keys i Nrows c.loop-key-test.true
    ∙ ap (λ b. cond b (Some (get_or keys i Nrows)) (find (λ key. reads (key_name key) word) (drop (i + 1) keys))) other
