use Rattle.drain_fill.proofs.Names.{refl, Some, None, arith, OpenRaised, SpillRank, NotLeast, fill_rules, false≢true, holds_alone, fails_alone, found_first, found_next}
use Rattle.drain_fill.proofs.fault_above.Goals as goal

pub returns-in-Some-level_fault : goal.returns-in-Some-level_fault
returns-in-Some-level_fault c = record {
  least = found_first (fill_rules c.args.patch.now) OpenRaised SpillRank NotLeast c.in-Some-level_fault.rule (omega arith)
      (c.in-Some-level_fault.ensures.least);
}

pub returns-then-is_least : goal.returns-then-is_least
returns-then-is_least c = record {
  least = let P = fill_rules c.args.patch.now in
      found_next P OpenRaised SpillRank NotLeast None (omega arith) (c.in_default-level_fault.ensures.least)
      (holds_alone P NotLeast (c.if-is_least.ensures.0 refl));
}

pub returns-else-is_least : goal.returns-else-is_least
returns-else-is_least c = record {
  least = let P = fill_rules c.args.patch.now in
      found_next P OpenRaised SpillRank NotLeast (Some NotLeast) (omega arith) (c.in_default-level_fault.ensures.least)
      (fails_alone P NotLeast (λ holds. false≢true (c.if-is_least.ensures.1 holds)));
}
