use Rattle.drain_report.proofs.Names.{◌≡◌, ◌∷◌, ◌+◌, ◌<◌, [], take, sym, ap, ◌∙◌, arith, rules, length, w64, slice_set, to_z-of_z, length-take, take_all, take_more_set}
use Rattle.drain_report.proofs.ReadLemmas.{next, none_left, read_more, sound_more, long-append}
use Rattle.drain_report.proofs.lines.read_numbers.Goals as goal

pub returns-in_default-clause-back : goal.returns-in_default-clause-back
returns-in_default-clause-back c = λ ns e rest long h.
    let done = take c.loop-k.k c.loop-k.numbers in
    let step = next ns done c.loop-k.rest.now e rest (c.loop-k.invariant.back ns e rest long h) (omega (arith, length-take c.loop-k.k c.loop-k.numbers)) in
    c.in_default.ensures.back step.n step.c step.then step.number

pub loop-k-preserved : goal.loop-k-preserved
loop-k-preserved c =
    let numbers = c.loop-k.numbers in
    let k = c.loop-k.k in
    let done = take k numbers in
    let inside : k < length numbers = omega arith in
    let more = ap (λ z. take (k + 1) (slice_set numbers k z)) (to_z-of_z w64 c.in-Some.number (search rules)) ∙ take_more_set numbers k c.in-Some.number inside in
    record {
      len = search rules;
      sound = sound_more c.args.text.now c.loop-k.rest.now c.in-Some.after.now done _ c.in-Some.number c.loop-k.invariant.sound c.in-Some.ensures.sound more;
      long = rw more (long-append done (c.in-Some.number ∷ []) c.loop-k.invariant.long (search rules, tt));
      back = λ ns e rest long h.
          let step = next ns done c.loop-k.rest.now e rest (c.loop-k.invariant.back ns e rest long h) (omega (arith, length-take k numbers)) in
          let found = c.in-Some.ensures.back step.n step.c step.then step.number in
          read_more ns done _ c.in-Some.after.now e rest c.in-Some.number step found.0 found.1 more;
    }

pub returns-clause-back : goal.returns-clause-back
returns-clause-back c = λ ns e rest long h.
    let numbers = c.loop-k.numbers in
    let done = take c.loop-k.k numbers in
    let all : done ≡ numbers = take_all c.loop-k.k numbers (omega arith) in
    let parts = none_left ns done c.loop-k.rest.now e rest (c.loop-k.invariant.back ns e rest long h) (omega (arith, length-take c.loop-k.k numbers)) in
    (sym all ∙ parts.0, parts.1)

pub returns-clause-long : goal.returns-clause-long
returns-clause-long c =
    let all : take c.loop-k.k c.loop-k.numbers ≡ c.loop-k.numbers = take_all c.loop-k.k c.loop-k.numbers (omega arith) in
    rw (← all) c.loop-k.invariant.long
