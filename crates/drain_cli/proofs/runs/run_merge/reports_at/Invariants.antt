use Rattle.std.proofs.Common.{◌≡◌, vec_len}
use Rattle.drain_cli.proofs.runs.run_merge.reports_at.Given as goal

-- there is a report of each path so far
abbrev pub invariant-loop-place : goal.invariant-loop-place
invariant-loop-place g l = vec_len l.windows ≡ l.place
