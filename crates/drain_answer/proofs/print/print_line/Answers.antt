use Rattle.std.proofs.Common.{◌≡◌, ◌++◌, [], ◌∷◌, rules}
use Rattle.drain_answer.specs.Printing.{line_feed}
use Rattle.drain_answer.proofs.print.print_line.Goals as goal

pub returns : goal.returns
returns g c =
    let text : c.as_bytes.result.now ≡ c.args.line.now.bytes ++ line_feed ∷ [] = search rules in
    rw (← text) c.print_text.ensures
