use Rattle.std.proofs.Common.{◌≡◌}
use Rattle.drain_page.proofs.patch_json.write_patch.Given as goal

-- the head stays
abbrev pub invariant-loop-row : goal.invariant-loop-row
invariant-loop-row g l = l.json ≡ l.fn.json
