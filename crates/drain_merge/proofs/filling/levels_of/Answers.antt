use Rattle.drain_merge.proofs.Names.{◌≡◌, ℕ, List, [], ◌∷◌, ◌++◌, ◌+◌, drop, length, take, ap, sym, subst, ◌∙◌, arith, take_at, take_more, Place, AreLaid, IsLaid}
use Rattle.drain_merge.proofs.Layers.{laid_more}
use Rattle.drain_merge.proofs.filling.levels_of.Goals as goal

pub loop-place-preserved : goal.loop-place-preserved
loop-place-preserved c =
    let start = c.args.start in
    let ends = c.args.ends.now in
    let places = c.args.places.now in
    let i = c.loop-place.place-index in
    let p = c.place-item.result in
    let old = c.loop-place.levels.items in
    let new = c.lay.new.levels in
    let value : c.as_mut_slice.result.now ≡ old = c.as_mut_slice.ensures.value in
    let here = subst (λ (levels : List ℕ). IsLaid ends levels p new) value (c.lay.ensures c.if-not-lay.false) in
    let same : length new ≡ length old = c.lay.auto.levels ∙ ap length value in
    let more = laid_more start ends old new (take i places) p (same ∙ c.loop-place.invariant.sized) c.loop-place.invariant here in
    let taken : take (i + 1) places ≡ take i places ++ p ∷ [] =
    take_more places i p c.loop-place-test.true ∙ ap (λ (x : Place). take i places ++ x ∷ []) (sym c.place-item.is) in
    let written = take_at new (drop (length new) old) c.loop-place.levels.len (omega (arith, c.lay.auto.levels, c.as_mut_slice.ensures.len)) in
    subst (λ (ps : List Place). AreLaid start ends (take c.loop-place.levels.len (new ++ drop (length new) old)) ps) (sym taken)
    (subst (λ (levels : List ℕ). AreLaid start ends levels (take i places ++ p ∷ [])) (sym written) more)
