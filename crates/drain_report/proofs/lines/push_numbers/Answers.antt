use Rattle.drain_report.proofs.Names.{◌∷◌, ◌++◌, get_or, pos, ap, ◌∙◌, w64, signed_decimal, to_z-of_z}
use Rattle.drain_report.proofs.ReadLemmas.{pushed_more, long_at}
use Rattle.drain_report.proofs.lines.push_numbers.Goals as goal

pub loop-number-preserved : goal.loop-number-preserved
loop-number-preserved c =
    let ns = c.args.numbers.now in
    let k = c.loop-number.number-index in
    let fits = long_at ns k (pos 0) c.requires c.loop-number-test.true in
    pushed_more ns k (pos 0) c.args.text.now.items c.loop-number.text.items c.push_number.new.text.items c.loop-number-test.true c.loop-number.invariant
    (c.in_ok-push_number.ensures ∙ ap (λ z. c.loop-number.text.items ++ 32 ∷ signed_decimal z) (to_z-of_z w64 (get_or ns k (pos 0)) fits))
