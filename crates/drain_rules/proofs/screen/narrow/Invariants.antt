use Rattle.drain_rules.proofs.Names.{◌≡◌, IsTrue, length, AreRowHeights}
use Rattle.drain_rules.proofs.RowPatches.{ArePut}
use Rattle.drain_rules.proofs.screen.narrow.Given as goal

-- the numbers that were passed are in their places if all of them fit, and else not all numbers do
abbrev pub invariant-loop-place : goal.invariant-loop-place
invariant-loop-place l = record {
  long : length l.out ≡ length l.numbers;
  put : IsTrue l.all → ArePut l.numbers l.out l.place;
  misfit : ¬ IsTrue l.all → ¬ AreRowHeights l.numbers;
}
