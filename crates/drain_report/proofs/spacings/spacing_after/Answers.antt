use Rattle.drain_report.proofs.Names.{◌++◌, sym, ◌∙◌, spacing_numbers}
use Rattle.drain_report.proofs.SpacingLists.{end_begins, end_first, end_then, numbers_then, spacing_split}
use Rattle.drain_report.proofs.spacings.spacing_after.Goals as goal

pub returns-in_default-clause-back : goal.returns-in_default-clause-back
returns-in_default-clause-back c = λ s rest fit two is. c.in_default.ensures.back _ (is ∙ spacing_split (spacing_numbers s) s.kind rest)

pub returns-in_default-read_numbers-clause-back : goal.returns-in_default-read_numbers-clause-back
returns-in_default-read_numbers-clause-back c = λ s rest fit two is.
    let word = c.in-Some.ensures.back _ (is ∙ spacing_split (spacing_numbers s) s.kind rest) in
    c.in_default-read_numbers.ensures.back (spacing_numbers s) (end_first s.kind) (end_then s.kind ++ rest) (sym two) (numbers_then s _ rest fit word)

pub returns-in_default-kind_after-clause-back : goal.returns-in_default-kind_after-clause-back
returns-in_default-kind_after-clause-back c = λ s rest fit two is.
    let word = c.in-Some.ensures.back _ (is ∙ spacing_split (spacing_numbers s) s.kind rest) in
    let numbers = c.in-Some-read_numbers.ensures.back (spacing_numbers s) (end_first s.kind) (end_then s.kind ++ rest) (sym two) (numbers_then s _ rest fit word) in
    c.in_default-kind_after.ensures.back s.kind rest (numbers.1 ∙ sym (end_begins s.kind rest))

pub returns-clause-back : goal.returns-clause-back
returns-clause-back c = λ s rest fit two is.
    let word = c.in-Some.ensures.back _ (is ∙ spacing_split (spacing_numbers s) s.kind rest) in
    let numbers = c.in-Some-read_numbers.ensures.back (spacing_numbers s) (end_first s.kind) (end_then s.kind ++ rest) (sym two) (numbers_then s _ rest fit word) in
    let kind = c.in-Some-kind_after.ensures.back s.kind rest (numbers.1 ∙ sym (end_begins s.kind rest)) in
    (numbers.0, (kind.0, kind.1))
