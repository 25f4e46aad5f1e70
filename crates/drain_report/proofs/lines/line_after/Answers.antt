use Rattle.drain_report.proofs.Names.{◌∷◌, ◌++◌, ◌∙◌, rules, spaced}
use Rattle.drain_report.proofs.ReadLemmas.{line_split}
use Rattle.drain_report.proofs.lines.line_after.Goals as goal

pub returns-in_default-clause-back : goal.returns-in_default-clause-back
returns-in_default-clause-back c = λ ns rest long h. c.in_default.ensures.back (spaced ns ++ 10 ∷ rest) (h.is ∙ line_split c.args.word.now ns rest)

pub returns-in_default-read_numbers-clause-back : goal.returns-in_default-read_numbers-clause-back
returns-in_default-read_numbers-clause-back c = λ ns rest long h.
    let after = c.in-Some.ensures.back (spaced ns ++ 10 ∷ rest) (h.is ∙ line_split c.args.word.now ns rest) in
    c.in_default-read_numbers.ensures.back ns 10 rest long (record { long = h.long; ends = search rules; is = after })
