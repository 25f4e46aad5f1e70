use Rattle.std.proofs.Common.{◌≡◌}
use Rattle.drain_page.proofs.json_text.JsonText.list.Given as goal

-- the head stays
abbrev pub invariant-loop-item : goal.invariant-loop-item
invariant-loop-item g l = l.self ≡ l.fn.self
