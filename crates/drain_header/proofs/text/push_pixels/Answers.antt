use Rattle.std.proofs.Common.{◌++◌, ◌∙◌, ap}
use Rattle.drain_header.specs.Text.{pixel_lines}
use Rattle.drain_header.specs.contracts.header.Header.{the_view}
use Rattle.drain_header.proofs.Entries.{pixels_joined}
use Rattle.drain_header.proofs.text.push_pixels.Goals as goal

pub returns : goal.returns
returns c =
    let before = c.args.text.now.items in
    rw (← (pixels_joined (the_view c.header.inside) c.type_word.result.now before c.push_number.new.text.items c.push_number-2.new.text.items c.push_number-3.new.text.items c.push_number-4.new.text.items
    c.type_word.ensures c.in_ok-push_number.ensures c.in_ok-push_number-2.ensures c.in_ok-push_number-3.ensures c.in_ok-push_number-4.ensures
    ∙ ap (λ h. before ++ pixel_lines h) c.header.view_is)) c.push_line.ensures
