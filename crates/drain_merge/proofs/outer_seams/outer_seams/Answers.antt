use Rattle.drain_merge.proofs.Names.{◌≡◌, ◌++◌, ◌+◌, ◌∷◌, [], List, Vec, Global, take, length, ap, sym, subst, ◌∙◌, arith, false≢true, length-take-le, take_all, take_more, Shown}
use Rattle.std.proofs.Common.{get_or-take}
use Rattle.drain_merge.proofs.OuterSeams.{AreOuterOf, one_again, one_inside, one_outer}
use Rattle.drain_merge.proofs.outer_seams.outer_seams.Goals as goal
use Rattle.drain_merge.proofs.outer_seams.outer_seams.Goals.{then-is_outer+then-not-is_shown_before+in_ok-push, else-is_outer, else-is_outer-via-then-is_outer+else-not-is_shown_before, else-is_outer-via-else-is_outer}

pub loop-place-preserved : goal.loop-place-preserved
loop-place-preserved c =
    let xs = c.args.shown.now in
    let k = c.loop-place.place in
    let y = c.index-shown-place.result in
    let box = c.args.bounds.now in
    let more : take (k + 1) xs ≡ take k xs ++ y ∷ [] = take_more xs k y c.loop-place-test.true ∙ ap (λ z. take k xs ++ z ∷ []) (sym c.index-shown-place.is) in
    subst (λ zs. AreOuterOf box zs c.if-is_outer.outer.items) (sym more)
    (elim c.if-is_outer.branch [
      | then-is_outer+then-not-is_shown_before+in_ok-push w ↦
          subst (λ (o : Vec Shown Global). AreOuterOf box (take k xs ++ y ∷ []) o.items) (sym w.outer-is)
          (subst (AreOuterOf box (take k xs ++ y ∷ [])) (sym w.in_ok-push.ensures.items)
          (one_outer box (take k xs) c.loop-place.outer.items y c.loop-place.invariant (c.is_outer.ensures.0 w.if-is_outer.true)))
      | else-is_outer w ↦
          subst (λ (o : Vec Shown Global). AreOuterOf box (take k xs ++ y ∷ []) o.items) (sym w.outer-is)
          (elim w.else-is_outer.branch [
            | else-is_outer-via-then-is_outer+else-not-is_shown_before v ↦
                (let before = v.is_shown_before.ensures v.if-not-is_shown_before.false in
                let part : length (take k xs) ≡ k = length-take-le k xs (omega arith) in
                one_again box (take k xs) c.loop-place.outer.items y c.loop-place.invariant
                (before.0, omega (arith, before.1), get_or-take k xs before.0 y (omega (arith, before.1)) ∙ before.2 y ∙ sym c.index-shown-place.is))
            | else-is_outer-via-else-is_outer v ↦
                one_inside box (take k xs) c.loop-place.outer.items y c.loop-place.invariant (λ is. false≢true (sym v.if-is_outer.false ∙ c.is_outer.ensures.1 is))
          ])
    ])

pub returns : goal.returns
returns c =
    subst (λ (zs : List Shown). AreOuterOf c.args.bounds.now zs c.loop-place.outer.items) (take_all c.loop-place.place c.args.shown.now (omega arith)) c.loop-place.invariant
