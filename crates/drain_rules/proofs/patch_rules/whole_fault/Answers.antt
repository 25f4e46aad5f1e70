use Rattle.drain_rules.proofs.Names.{Some, None, arith, VoidCell, NotLeast, OutletCode, FlatStep, Accumulation, Label, found_next}
use Rattle.drain_rules.proofs.Faults.{fill_to, flow_to, fault_of_patch, whole}
use Rattle.drain_rules.proofs.patch_rules.whole_fault.Goals as goal

-- what one crate's rules say comes after what those before it say
pub returns-in-Some-fill_fault : goal.returns-in-Some-fill_fault
returns-in-Some-fill_fault c = record {
  least = let rules = c.args.rules.now in
      let p = c.args.patch.now in
      fault_of_patch (whole rules p) NotLeast c.in-Some-fill_fault.rule (omega arith)
      (fill_to rules p (Some c.in-Some-fill_fault.rule) c.in_default.ensures.least c.in-Some-fill_fault.ensures.least);
}

pub returns-in-Some-fault : goal.returns-in-Some-fault
returns-in-Some-fault c = record {
  least = let rules = c.args.rules.now in
      let p = c.args.patch.now in
      let to_not_least = fill_to rules p None c.in_default.ensures.least c.in_default-fill_fault.ensures.least in
      fault_of_patch (whole rules p) OutletCode c.in-Some-fault.rule (omega arith)
      (flow_to rules p NotLeast OutletCode (Some c.in-Some-fault.rule) (omega arith) (λ r own same. omega (arith, own.1, same)) to_not_least c.in-Some-fault.ensures.least);
}

pub returns-in-Some-flat_fault : goal.returns-in-Some-flat_fault
returns-in-Some-flat_fault c = record {
  least = let rules = c.args.rules.now in
      let p = c.args.patch.now in
      let to_not_least = fill_to rules p None c.in_default.ensures.least c.in_default-fill_fault.ensures.least in
      let to_outlet_code = flow_to rules p NotLeast OutletCode None (omega arith) (λ r own same. omega (arith, own.1, same)) to_not_least c.in_default-fault.ensures.least in
      fault_of_patch (whole rules p) FlatStep c.in-Some-flat_fault.rule (omega arith)
      (found_next (whole rules p) VoidCell OutletCode FlatStep (Some c.in-Some-flat_fault.rule) (omega arith) to_outlet_code c.in-Some-flat_fault.ensures.least);
}

pub returns-in-Some-fault-2 : goal.returns-in-Some-fault-2
returns-in-Some-fault-2 c = record {
  least = let rules = c.args.rules.now in
      let p = c.args.patch.now in
      let to_not_least = fill_to rules p None c.in_default.ensures.least c.in_default-fill_fault.ensures.least in
      let to_outlet_code = flow_to rules p NotLeast OutletCode None (omega arith) (λ r own same. omega (arith, own.1, same)) to_not_least c.in_default-fault.ensures.least in
      let to_flat_step = found_next (whole rules p) VoidCell OutletCode FlatStep None (omega arith) to_outlet_code c.in_default-flat_fault.ensures.least in
      fault_of_patch (whole rules p) Accumulation c.in-Some-fault-2.rule (omega arith)
      (flow_to rules p FlatStep Accumulation (Some c.in-Some-fault-2.rule) (omega arith) (λ r own same. omega (arith, own.0, same)) to_flat_step c.in-Some-fault-2.ensures.least);
}

pub returns : goal.returns
returns c = record {
  least = let rules = c.args.rules.now in
      let p = c.args.patch.now in
      let to_not_least = fill_to rules p None c.in_default.ensures.least c.in_default-fill_fault.ensures.least in
      let to_outlet_code = flow_to rules p NotLeast OutletCode None (omega arith) (λ r own same. omega (arith, own.1, same)) to_not_least c.in_default-fault.ensures.least in
      let to_flat_step = found_next (whole rules p) VoidCell OutletCode FlatStep None (omega arith) to_outlet_code c.in_default-flat_fault.ensures.least in
      let to_accumulation = flow_to rules p FlatStep Accumulation None (omega arith) (λ r own same. omega (arith, own.0, same)) to_flat_step c.in_default-fault-2.ensures.least in
      flow_to rules p Accumulation Label c.fault-3.result (omega arith) (λ r own same. omega (arith, own.0, same)) to_accumulation c.fault-3.ensures.least;
}
