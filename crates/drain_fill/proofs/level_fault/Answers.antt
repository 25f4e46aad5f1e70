use Rattle.drain_fill.proofs.Names.{arith, false≢true, OpenRaised, SpillRank, fill_rules, holds_alone, found_next}
use Rattle.drain_fill.proofs.level_fault.Goals as goal

pub returns-then-not-is_open : goal.returns-then-not-is_open
returns-then-not-is_open c = record {
  least = let P = fill_rules c.args.patch.now in
      found_next P OpenRaised OpenRaised SpillRank c.spill_fault.result (omega arith)
      (holds_alone P OpenRaised (λ opened. absurd (false≢true (c.if-not-is_open.ensures.1 opened))))
      (c.spill_fault.ensures.least);
}
