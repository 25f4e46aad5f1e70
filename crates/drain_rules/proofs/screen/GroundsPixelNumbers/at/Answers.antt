use Rattle.drain_rules.proofs.Names.{◌∙◌, Option, ℤ, None, unwrap_or, neg_ℤ, pos, ap, sym, arith, rules, w64, to_z-of_z, get_or-map, length-map}
use Rattle.drain_rules.proofs.screen.GroundsPixelNumbers.at.Goals as goal

pub returns : goal.returns
returns c =
    let long = length-map c.args.self.now.row.now (λ (height : Option ℤ). unwrap_or height (neg_ℤ (pos 32768))) in
    to_z-of_z w64 c.unwrap_or.result (search rules) ∙ c.unwrap_or.ensures ∙ ap (λ (height : Option ℤ). unwrap_or height (neg_ℤ (pos 32768))) c.z.ensures
    ∙ sym (get_or-map (λ (height : Option ℤ). unwrap_or height (neg_ℤ (pos 32768))) c.args.self.now.row.now c.args.k None (pos 0) (omega (arith, c.requires, long)))
