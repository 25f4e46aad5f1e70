use Rattle.std.proofs.Common.{◌++◌, ◌∙◌, ap}
use Rattle.std.specs.Prelude.{codes, decimal}
use Rattle.drain_answer.specs.Lines.{counted_line}
use Rattle.drain_answer.proofs.lines.accepted.Goals as goal

pub returns : goal.returns
returns c =
    let counts = c.args.counts.now in
    let line = c.counted-line.ensures.text ∙ ap (λ n. counted_line counts.rows counts.cols n c.from-raised.result) c.from-data_cells.ensures
    ∙ ap (λ n. counted_line counts.rows counts.cols counts.data_cells n) c.from-raised.ensures in
    c.push_number.ensures.text ∙ ap (λ t. t ++ decimal counts.outlets) (c.push_str.ensures.bytes ∙ ap (λ t. t ++ codes " outlets=") line)
