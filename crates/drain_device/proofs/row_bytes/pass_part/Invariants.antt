use Rattle.drain_device.proofs.Names.{◌≡◌, ℕ, ◌+◌, List, length, Consumes, PartFails}
use Rattle.drain_device.proofs.row_bytes.pass_part.Given as goal

-- the skipped bytes came, the rest is left, and no call failed for good
abbrev pub invariant-loop-left : goal.invariant-loop-left
invariant-loop-left g l =
    let bytes_left = g.R.ByteSource.bytes_left in
    let counts = g.R.ByteSource.counts in
    record {
      passed : (bytes : List ℕ) × Consumes (bytes_left l.fn.from) (bytes_left l.from) bytes × (length bytes + l.left ≡ l.fn.count);
      asked : PartFails (counts l.fn.from) (counts l.from) l.fn.patience l.patience ⊥;
    }

abbrev pub decreases-loop-left : goal.decreases-loop-left
decreases-loop-left g l = l.left
