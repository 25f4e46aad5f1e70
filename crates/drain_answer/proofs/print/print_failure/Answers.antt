use Rattle.drain_answer.proofs.print.print_failure.Goals as goal

pub returns-in-ReadFailed : goal.returns-in-ReadFailed
returns-in-ReadFailed g c = rw c.in-ReadFailed.is c.print_text.ensures

pub returns-in-OutOfMemory : goal.returns-in-OutOfMemory
returns-in-OutOfMemory g c = rw c.in-OutOfMemory.is c.print_text-in-OutOfMemory.ensures
