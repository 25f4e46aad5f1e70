use Rattle.drain_text.proofs.Names.{◌≡◌, ℕ, ◌<◌, get_or, true, is_blank}
use Rattle.drain_text.proofs.words.blanks.Given as goal

abbrev pub invariant-loop-at : goal.invariant-loop-at
invariant-loop-at l = (k : ℕ) → k < l.at → is_blank (get_or l.line k 0) ≡ true
