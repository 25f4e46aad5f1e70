use Rattle.std.proofs.Common.{◌++◌, ap, sym, ◌∙◌, drop, rules, take-append-drop}
use Rattle.drain_page.proofs.json_text.JsonText.into_line.Goals as goal

pub returns : goal.returns
returns c =
    let written = c.self.inside.writer.tokens in
    record {
      written = written;
      members = drop 3 written;
      head_first = sym (take-append-drop 3 written) ∙ ap (λ head. head ++ drop 3 written) c.self.view_is;
      text = search rules;
      reads_back = c.into_inner.ensures.reads_back;
    }
