use Rattle.drain_report.proofs.Names.{◌-◌, length, take, drop, ◌∙◌, take_rest}
use Rattle.drain_report.proofs.NumberLemmas.{word_found, word_there}
use Rattle.drain_report.proofs.numbers.word_after_space.Goals as goal

pub returns-in_default-clause-back : goal.returns-in_default-clause-back
returns-in_default-clause-back c = λ word e rest h.
    let text = c.args.text.now in
    let body = take (length text - 1) (drop 1 text) in
    word_there text body word e rest h (take_rest text 1) c.in_default.ensures

pub returns-clause-back : goal.returns-clause-back
returns-clause-back c = λ word e rest h.
    let text = c.args.text.now in
    let body = take (length text - 1) (drop 1 text) in
    let found = c.in-Some.ensures in
    let parts = word_found text body word e rest c.in-Some.end h (take_rest text 1) found.1 found.0.before in
    (parts.0, take_rest body c.in-Some.end ∙ parts.1)
