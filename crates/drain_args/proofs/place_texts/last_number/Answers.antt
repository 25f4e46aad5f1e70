use Rattle.drain_args.proofs.Names.{sym, ap, ◌∙◌, whole_number}
use Rattle.drain_args.proofs.Commas.{number_of_all}
use Rattle.drain_args.proofs.place_texts.last_number.Goals as goal

pub returns : goal.returns
returns c = number_of_all c.args.text.now c.whole_number.result (sym (ap whole_number c.as_bytes.ensures.value) ∙ sym c.whole_number.ensures)
