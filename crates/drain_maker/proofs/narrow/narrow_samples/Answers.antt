use Rattle.drain_maker.proofs.Names.{◌∙◌, ◌<◌, ◌+◌, ◌++◌, ◌∷◌, [], ℕ, pos, length, get_or, sym, ap, subst, rules, below_more, w16, SFits, to_z, of_z, to_z-of_z, get_or_append_left, get_or_push, IsSampleOf}
use mir.Syntax.{w64}
use Rattle.std.proofs.lemmas.List.{length-append}
use Rattle.drain_maker.proofs.narrow.narrow_samples.Goals as goal

pub loop-place-preserved : goal.loop-place-preserved
loop-place-preserved c =
    let xs = c.loop-place.samples.items in
    let long = c.loop-place.invariant.long in
    let fits : SFits w16 c.in-Some.sample = search rules in
    record {
      long = ap length c.in_ok-push-in-Some.ensures.items ∙ length-append xs _ ∙ ap (λ n. n + 1) long;
      each = subst (λ ys. (k : ℕ) → k < c.loop-place.place + 1 → IsSampleOf (to_z w64 (of_z w64 c.args.nodata)) (get_or c.args.numbers.now k (pos 0)) (get_or ys k (pos 0)))
          (sym c.in_ok-push-in-Some.ensures.items)
          (below_more (λ k. IsSampleOf (to_z w64 (of_z w64 c.args.nodata)) (get_or c.args.numbers.now k (pos 0)) (get_or (xs ++ _ ∷ []) k (pos 0))) c.loop-place.place
          (λ k less. subst (IsSampleOf (to_z w64 (of_z w64 c.args.nodata)) (get_or c.args.numbers.now k (pos 0))) (sym (get_or_append_left xs _ (pos 0) k (subst (λ n. k < n) (sym long) less))) (c.loop-place.invariant.each k less))
          (subst (IsSampleOf (to_z w64 (of_z w64 c.args.nodata)) (get_or c.args.numbers.now c.loop-place.place (pos 0))) (sym (get_or_push xs _ (pos 0) c.loop-place.place long ∙ to_z-of_z w16 c.in-Some.sample fits)) c.in-Some.ensures));
    }
