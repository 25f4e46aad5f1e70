use Rattle.drain_merge.proofs.Names.{◌≡◌, all_outlets, all_seams, all_sinks}
use Rattle.drain_merge.proofs.all_lists.all_lists.Given as goal

-- the lists of the windows before
abbrev pub invariant-loop-window : goal.invariant-loop-window
invariant-loop-window l = record {
  outlets : l.lists.outlets.items ≡ all_outlets l.yielded;
  seams : l.lists.seams.items ≡ all_seams l.yielded;
  sinks : l.lists.sinks.items ≡ all_sinks l.yielded;
}
