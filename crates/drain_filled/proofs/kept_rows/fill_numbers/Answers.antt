use Rattle.drain_filled.proofs.Names.{◌∙◌, get_or, pos, rules, SFits, to_z-of_z, ext_get_or}
use mir.Syntax.{w64}
use Rattle.drain_filled.proofs.FirstCon.{one_more}
use Rattle.drain_filled.proofs.kept_rows.fill_numbers.Goals as goal

pub loop-k-preserved : goal.loop-k-preserved
loop-k-preserved g c =
    let fits : SFits w64 c.at.result = search rules in
    one_more (pos 0) (λ i. get_or (g.N.PixelNumbers.numbers c.args.numbers.now) i (pos 0)) c.loop-k.out c.loop-k.k _ (search rules)
    (to_z-of_z w64 c.at.result fits ∙ c.at.ensures) c.loop-k.invariant

pub returns : goal.returns
returns g c = ext_get_or (pos 0) c.loop-k.out (g.N.PixelNumbers.numbers c.args.numbers.now) (search rules) (λ i less. c.loop-k.invariant i (search rules))
