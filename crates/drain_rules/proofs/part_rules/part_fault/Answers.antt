use Rattle.drain_rules.proofs.Names.{Some, None, arith, VoidCell, NotLeast, Label, found_first, found_next, part_rules}
use Rattle.drain_rules.proofs.PartFaults.{fill_to}
use Rattle.drain_rules.proofs.part_rules.part_fault.Goals as goal

pub returns-in-Some-fill_fault : goal.returns-in-Some-fill_fault
returns-in-Some-fill_fault c = record {
  least = let judged = c.args.rules.now.judged in
      let nodata = c.args.rules.now.nodata in
      let p = c.args.patch.now in
      found_first (part_rules judged nodata p) VoidCell NotLeast Label c.in-Some-fill_fault.rule (omega arith)
      (fill_to judged nodata p (Some c.in-Some-fill_fault.rule) c.in_default.ensures.least c.in-Some-fill_fault.ensures.least);
}

pub returns : goal.returns
returns c = record {
  least = let judged = c.args.rules.now.judged in
      let nodata = c.args.rules.now.nodata in
      let p = c.args.patch.now in
      found_next (part_rules judged nodata p) VoidCell NotLeast Label c.flow_fault.result (omega arith)
      (fill_to judged nodata p None c.in_default.ensures.least c.in_default-fill_fault.ensures.least) c.flow_fault.ensures.least;
}
