use Rattle.drain_rules.proofs.fill_walk.patch_fault.Goals as goal

pub returns : goal.returns
returns c = record { least = rw c.at.ensures at c.fault.ensures.least }
