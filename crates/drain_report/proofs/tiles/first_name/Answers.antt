use Rattle.drain_report.proofs.Names.{◌++◌, ◌∙◌, take, drop, ap, sym, take_rest, take-append-drop, name_of}
use Rattle.drain_report.proofs.NumberLemmas.{differ, no_difference}
use Rattle.drain_report.proofs.ListLemmas.{name_front, name_is_read, no_fault, one_tile}
use Rattle.drain_report.proofs.tiles.first_name.Goals as goal

pub returns-in_default-clause-back : goal.returns-in_default-clause-back
returns-in_default-clause-back c = λ tile rest on_map is.
    let read = name_is_read (take 11 c.args.text.now) c.parse.result tile c.name_reads_back.ensures c.one_name.ensures on_map c.parse.ensures (name_front c.args.text.now rest tile is).0 in
    no_fault c.parse.result tile _ read c.in_default.is

pub returns-then-ne-clause-back : goal.returns-then-ne-clause-back
returns-then-ne-clause-back c = λ tile rest on_map is.
    let here = (name_front c.args.text.now rest tile is).0 in
    let read = name_is_read (take 11 c.args.text.now) c.parse.result tile c.name_reads_back.ensures c.one_name.ensures on_map c.parse.ensures here in
    let name = c.as_bytes.ensures.value ∙ c.deref.ensures.0 ∙ c.text.ensures in
    differ c.as_bytes.result.now (take 11 c.args.text.now) (sym c.ne.ensures ∙ c.if-ne.true) (name ∙ ap name_of (one_tile c.parse.result c.in-Ok.tile tile c.in-Ok.is read) ∙ sym here)

pub returns-clause-sound : goal.returns-clause-sound
returns-clause-sound c =
    let text = c.args.text.now in
    let name = c.as_bytes.ensures.value ∙ c.deref.ensures.0 ∙ c.text.ensures in
    let same = no_difference c.as_bytes.result.now (take 11 text) (sym c.ne.ensures ∙ c.if-ne.false) in
    sym (take-append-drop 11 text) ∙ ap (λ w. w ++ drop 11 text) (sym same ∙ name) ∙ ap (λ r. name_of c.in-Ok.tile ++ r) (sym (take_rest text 11))

pub returns-clause-back : goal.returns-clause-back
returns-clause-back c = λ tile rest on_map is.
    let parts = name_front c.args.text.now rest tile is in
    let read = name_is_read (take 11 c.args.text.now) c.parse.result tile c.name_reads_back.ensures c.one_name.ensures on_map c.parse.ensures parts.0 in
    (one_tile c.parse.result c.in-Ok.tile tile c.in-Ok.is read, take_rest c.args.text.now 11 ∙ parts.1)
