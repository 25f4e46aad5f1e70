use Rattle.drain_explain.proofs.Names.{◌≡◌, ◌-◌, drop, lines_of}
use Rattle.drain_explain.proofs.refusal_detail.line_of.Given as goal

-- the rest has the lines behind those passed
abbrev pub invariant-loop : goal.invariant-loop
invariant-loop l = record {
  behind : drop (l.counter - 1) (lines_of l.fn.list) ≡ lines_of l.rest;
  first : l.number ≡ 0 → l.counter ≡ 1;
}
