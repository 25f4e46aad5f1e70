use Rattle.drain_merge.proofs.Names.{◌<◌, ◌≤◌, length, IsLeastSharing}
use Rattle.drain_merge.proofs.shared.least_sharing.Given as goal

abbrev pub invariant-loop-place : goal.invariant-loop-place
invariant-loop-place l = (1 < l.place → l.place ≤ length l.outlets) × IsLeastSharing l.outlets l.place l.first
