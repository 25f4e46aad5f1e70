use Rattle.drain_merge.proofs.Names.{◌≡◌, refl, sym, subst, ◌∙◌, audited, four_test, same_four, four_pass}
use Rattle.drain_merge.proofs.shared.are_same.Goals as goal

pub returns : goal.returns
returns c =
    let is : c.eq.result ≡ four_test c.args.a c.args.b = c.eq.ensures in (
      (λ passed.
          same_four c.args.a c.args.b (subst (λ n. audited n ≡ n) c.a.view_is refl) (subst (λ n. audited n ≡ n) c.b.view_is refl) (sym is ∙ passed)),
      (λ same. is ∙ four_pass c.args.a c.args.b same),
    )
