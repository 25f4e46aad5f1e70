use Rattle.drain_report.proofs.Names.{arith, get_or, pos, sym, ap, ◌∙◌, other_numbers, none_some, same_some}
use Rattle.drain_report.proofs.ListLemmas.{five_numbers, held}
use Rattle.drain_report.proofs.FactLemmas.{if_some, some_of, same_values}
use Rattle.drain_report.proofs.seams.values.Goals as goal

pub returns-in_err-sink-clause-back : goal.returns-in_err-sink-clause-back
returns-in_err-sink-clause-back c = λ v range z is. absurd (none_some v.sink (c.in_err-sink.ensures.back v.sink (ap (λ ns. get_or ns 0 (pos 0)) is)))

pub returns-clause-sound : goal.returns-clause-sound
returns-clause-sound c =
    let ns = c.args.others.now in
    let long = c.requires.long in
    let at1 = held ns 1 c.at.result long (omega arith) c.at.ensures in
    let at2 = held ns 2 c.at-2.result long (omega arith) c.at-2.ensures in
    let at3 = held ns 3 c.at-3.result long (omega arith) c.at-3.ensures in
    let at4 = held ns 4 c.at-4.result long (omega arith) c.at-4.ensures in
    if_some c.of_height.result
    (λ v is. (ap (λ w. w.z) (sym is), five_numbers ns _ _ _ _ _ c.requires.len c.in_ok-sink.ensures.sound at1 at2 at3 at4 ∙ ap other_numbers (sym is)))
    c.of_height.ensures.value

pub returns-clause-back : goal.returns-clause-back
returns-clause-back c = λ v range z is.
    let ns = c.args.others.now in
    let long = c.requires.long in
    let at1 = sym (held ns 1 c.at.result long (omega arith) c.at.ensures) ∙ ap (λ l. get_or l 1 (pos 0)) is in
    let at2 = sym (held ns 2 c.at-2.result long (omega arith) c.at-2.ensures) ∙ ap (λ l. get_or l 2 (pos 0)) is in
    let at3 = sym (held ns 3 c.at-3.result long (omega arith) c.at-3.ensures) ∙ ap (λ l. get_or l 3 (pos 0)) is in
    let at4 = sym (held ns 4 c.at-4.result long (omega arith) c.at-4.ensures) ∙ ap (λ l. get_or l 4 (pos 0)) is in
    let sink = same_some c.in_ok-sink.sink v.sink (c.in_ok-sink.ensures.back v.sink (ap (λ l. get_or l 0 (pos 0)) is)) in
    let same = same_values v c.args.z c.in_ok-sink.sink _ _ _ _ range.of_seam z sink at1 at2 at3 at4 in
    some_of c.of_height.result v _ (c.of_height.ensures.valid.1 (rw same range.in_range)) c.of_height.ensures.value same
