use Rattle.drain_union.proofs.Names.{◌≡◌, refl, sym, subst, ◌∙◌, AreOfSeam}
use Rattle.drain_union.proofs.SameValues.{seam_test, same_seam, seam_pass}
use Rattle.drain_union.proofs.seam_values.SeamValues.is.Goals as goal

pub returns : goal.returns
returns c =
    let v = c.args.self.now in
    let w = c.args.other.now in
    let is : c.eq.result ≡ seam_test v w = c.eq.ensures in (
      (λ passed.
          same_seam v w (subst AreOfSeam c.self.view_is (record { spl = refl; rnk = refl })) (subst AreOfSeam c.other.view_is (record { spl = refl; rnk = refl })) (sym is ∙ passed)),
      (λ same. is ∙ seam_pass v w same),
    )
