use Rattle.std.proofs.Common.{◌≡◌}
use Rattle.drain_page.proofs.patch_json.write_row.Given as goal

-- the head stays
abbrev pub invariant-loop-cell : goal.invariant-loop-cell
invariant-loop-cell g l = l.json ≡ l.fn.json
