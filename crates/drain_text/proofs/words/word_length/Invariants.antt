use Rattle.drain_text.proofs.Names.{◌≡◌, ℕ, ◌<◌, get_or, true, is_inked}
use Rattle.drain_text.proofs.words.word_length.Given as goal

abbrev pub invariant-loop-at : goal.invariant-loop-at
invariant-loop-at l = (k : ℕ) → k < l.at → is_inked (get_or l.line k 0) ≡ true
