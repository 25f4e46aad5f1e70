use Rattle.drain_kernel.proofs.Names.{IsTrue, Along}
use Rattle.drain_kernel.proofs.column_test.passes_along.Given as goal

-- the columns that were passed pass the test, if none was found that doesn't
abbrev pub invariant-loop-k : goal.invariant-loop-k
invariant-loop-k g l = (IsTrue l.all → Along l.from l.k (g.T.ColumnTest.Passed l.test))
