use Rattle.std.proofs.Common.{◌++◌, ◌∙◌, ap}
use Rattle.drain_header.specs.Text.{shape_lines}
use Rattle.drain_header.specs.contracts.header.Header.{the_view}
use Rattle.drain_header.proofs.Entries.{shape_joined}
use Rattle.drain_header.proofs.text.push_shape.Goals as goal

pub returns : goal.returns
returns c =
    let before = c.args.text.now.items in
    rw (← (shape_joined (the_view c.header.inside) c.ordering_word.result.now before c.push_line.new.text.items c.push_line-2.new.text.items c.push_number.new.text.items c.push_number-2.new.text.items
    c.ordering_word.ensures c.in_ok-push_line.ensures c.in_ok-push_line-2.ensures c.in_ok-push_number.ensures c.in_ok-push_number-2.ensures
    ∙ ap (λ h. before ++ shape_lines h) c.header.view_is)) c.push_number-3.ensures
