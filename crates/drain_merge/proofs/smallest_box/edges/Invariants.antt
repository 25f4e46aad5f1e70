use Rattle.drain_merge.proofs.Names.{◌≡◌, take, least_by, greatest_by, top_of, left_of, bottom_end, right_end}
use Rattle.drain_merge.proofs.smallest_box.edges.Given as goal

abbrev pub invariant-loop-window : goal.invariant-loop-window
invariant-loop-window l = record {
  top : l.top ≡ least_by top_of (take l.window-index l.windows);
  left : l.left ≡ least_by left_of (take l.window-index l.windows);
  bottom : l.bottom ≡ greatest_by bottom_end (take l.window-index l.windows);
  right : l.right ≡ greatest_by right_end (take l.window-index l.windows);
}
