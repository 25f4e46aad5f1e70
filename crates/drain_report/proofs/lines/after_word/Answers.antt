use Rattle.drain_report.proofs.Names.{◌++◌, length, take, drop, sym, ap, ◌∙◌, take_rest, take-append-drop}
use Rattle.drain_report.proofs.NumberLemmas.{front, differ, no_difference}
use Rattle.drain_report.proofs.lines.after_word.Goals as goal

pub returns-then-ne-clause-back : goal.returns-then-ne-clause-back
returns-then-ne-clause-back c = λ rest is.
    let word = c.args.word.now in
    differ (take (length word) c.args.text.now) word (sym c.ne.ensures ∙ c.if-ne.true) (ap (take (length word)) is ∙ (front word rest).0)

pub returns-clause-sound : goal.returns-clause-sound
returns-clause-sound c =
    let word = c.args.word.now in
    let text = c.args.text.now in
    let same = no_difference (take (length word) text) word (sym c.ne.ensures ∙ c.if-ne.false) in
    sym (take-append-drop (length word) text) ∙ ap (λ w. w ++ drop (length word) text) same ∙ ap (λ r. word ++ r) (sym (take_rest text (length word)))
