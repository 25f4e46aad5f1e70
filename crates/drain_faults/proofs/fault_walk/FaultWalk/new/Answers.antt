use Rattle.drain_faults.proofs.Names.{arith, inl, inr, Cell, IsEarlier, place}
use Rattle.std.proofs.Common.{rules}
use Rattle.drain_faults.proofs.fault_walk.FaultWalk.new.Goals as goal

none_earlier : (b : Cell) → IsEarlier b (place 0 0) → ⊥
none_earlier b (inl above) = omega (arith, above)
none_earlier b (inr beside) = omega (arith, beside.1)

pub returns-clause-found : goal.returns-clause-found
returns-clause-found c = λ the g ps. record {
  faults = search rules;
  by_product = search rules;
  first_patch = search rules;
  before = λ judged label. (λ admitted. absurd (c.new-2.ensures label admitted), λ earlier. absurd (none_earlier earlier.cell earlier.earlier));
}
