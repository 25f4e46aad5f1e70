use Rattle.drain_explain.proofs.Names.{◌≡◌, ◌∙◌, sym, ◌-◌, ◌+◌, suc, option_map, arith, lines_of}
use Rattle.drain_explain.proofs.Noting.{begins, next_of, none_behind, same_place}
use Rattle.drain_explain.proofs.refusal_detail.line_of.Goals as goal

pub returns-in-None : goal.returns-in-None
returns-in-None c =
    let line = rw c.in-None.is at c.first_line.ensures.first in
    sym (none_behind (lines_of c.args.list.now) (c.loop.counter - 1) (c.args.number - 1) c.first_line.result.0.now
    (c.loop.invariant.behind ∙ line)
    (omega (arith, c.loop-test.true, c.loop.auto.counter)))

pub loop-preserved : goal.loop-preserved
loop-preserved c =
    let line = rw c.in-Some.is at c.first_line.ensures.first in
    let next = next_of (lines_of c.args.list.now) (c.loop.counter - 1) c.first_line.result.0.now (lines_of c.in-Some.after.now) (c.loop.invariant.behind ∙ line) in
    let place : suc (c.loop.counter - 1) ≡ c.loop.counter + 1 - 1 = omega (arith, c.loop.auto.counter) in
    record {
      behind = rw place at next.1;
      first = λ none. absurd (omega (arith, none, c.loop-test.true));
    }

pub returns : goal.returns
returns c =
    let line = begins c.loop.rest.now c.first_line-2.result.0.now (option_map (λ rest. rest.now) c.first_line-2.result.1) c.first_line-2.ensures.first in
    let next = next_of (lines_of c.args.list.now) (c.loop.counter - 1) c.first_line-2.result.0.now line.0 (c.loop.invariant.behind ∙ line.1) in
    let place : c.loop.counter - 1 ≡ c.args.number - 1 = same_place c.loop.counter c.args.number c.loop-test.false c.loop.auto.counter-end c.loop.invariant.first in
    sym (rw place at next.0)
