use Rattle.drain_merge.proofs.Names.{arith, inl, inr, cases, less_number}
use Rattle.drain_merge.proofs.filling.move_levels.Goals as goal

pub returns : goal.returns
returns c = λ _. record {
  before = λ k above below. c.loop-k.invariant.moved.before k above (omega arith);
  behind = λ k above below. c.loop-k.invariant.moved.behind k above (omega arith);
  others = λ k apart. elim apart [
    | inl before ↦ c.loop-k.invariant.moved.others k (inl before)
    | inr behind ↦
        elim (cases (less_number k c.args.from)) [
          | inl before ↦ c.loop-k.invariant.moved.others k (inl before)
          | inr later ↦ c.loop-k.invariant.moved.others k (inr (omega arith))
        ]
  ];
}
