use Rattle.drain_flood.proofs.Names.{IsFloodOf, [], ap, arith, get_or, length, pos, rules, subst, sym, ◌*◌, ◌++◌, ◌+◌, ◌<◌, ◌∙◌, ◌∷◌, ◌≡◌, to_z-of_z, length_push, All-push, All, w64, SFits, of_z, to_z}
use Rattle.drain_flood.proofs.Turning.{next_busy, busy_passed, busy_deferred, turn_work, unseen}
use Rattle.drain_flood.proofs.tracing.sweep.Goals as goal

pub loop-place-preserved-in-Continue-branch-2 : goal.loop-place-preserved-in-Continue-branch-2
loop-place-preserved-in-Continue-branch-2 t c =
    let l = c.loop-place.invariant in
    let s1 = c.next.new.self in
    let e = c.args.flood.now.extent in
    let later = c.loop-place.later.items in
    let level = to_z w64 (of_z w64 c.level_at-level.result) in
    let fits : SFits w64 c.level_at-level.result = search rules in
    let level_is : level ≡ get_or s1.con c.in-Some.place (pos 0) = to_z-of_z w64 c.level_at-level.result fits ∙ c.level_at-level.ensures.level in
    let next = c.in-Some.ensures.next in
    let work = turn_work c.loop-place.flood s1 c.look_around.new.self next.0 next.1 c.in_ok-look_around.ensures.work in
    let grown : c.push.new.self.items ≡ later ++ c.in-Some.place ∷ [] = c.in_ok-push.ensures.items in
    let long : length c.push.new.self.items ≡ length later + 1 = ap (λ xs. length xs) grown ∙ length_push later c.in-Some.place in
    let before = l.work in
    record {
      extent = c.look_around.ensures.extent ∙ c.next.ensures.extent ∙ l.extent;
      places = subst (All (λ place. place < e.rows * e.cols)) (sym grown)
          (All-push (λ place. place < e.rows * e.cols) later c.in-Some.place l.places
          (subst (λ x. c.in-Some.place < x.rows * x.cols) l.extent c.in-Some.ensures.below));
      work = omega (arith, work.0, long, before);
      waiting = work.1 ∙ l.waiting;
      flood = λ g first same laid.
          (let e1 : g.extent ≡ s1.extent = same ∙ sym l.extent ∙ sym c.next.ensures.extent in
          busy_deferred g first s1 c.look_around.new.self c.args.stand level later c.in-Some.place c.is_at-raises.result c.in_ok-look_around.field-0
          e1 level_is c.is_at-raises.ensures c.in_ok-look_around.ensures.around
          (next_busy g first c.loop-place.flood s1 _ later c.in-Some.place next.0 (l.flood g first same laid) next.1 next.2)
          c.push.new.self.items grown);
    }

pub loop-place-preserved : goal.loop-place-preserved
loop-place-preserved t c =
    let l = c.loop-place.invariant in
    let s1 = c.next.new.self in
    let later = c.loop-place.later.items in
    let level = to_z w64 (of_z w64 c.level_at-level.result) in
    let fits : SFits w64 c.level_at-level.result = search rules in
    let level_is : level ≡ get_or s1.con c.in-Some.place (pos 0) = to_z-of_z w64 c.level_at-level.result fits ∙ c.level_at-level.ensures.level in
    let next = c.in-Some.ensures.next in
    let work = turn_work c.loop-place.flood s1 c.look_around.new.self next.0 next.1 c.in_ok-look_around.ensures.work in
    let before = l.work in
    record {
      extent = c.look_around.ensures.extent ∙ c.next.ensures.extent ∙ l.extent;
      places = l.places;
      work = omega (arith, work.0, before);
      waiting = work.1 ∙ l.waiting;
      flood = λ g first same laid.
          (let e1 : g.extent ≡ s1.extent = same ∙ sym l.extent ∙ sym c.next.ensures.extent in
          busy_passed g first s1 c.look_around.new.self c.args.stand level later c.in-Some.place c.is_at-raises.result c.in_ok-look_around.field-0
          e1 level_is c.is_at-raises.ensures c.in_ok-look_around.ensures.around
          (next_busy g first c.loop-place.flood s1 _ later c.in-Some.place next.0 (l.flood g first same laid) next.1 next.2)
          (unseen _ _ c.if-branch.false));
    }

pub returns-clause-flood : goal.returns-clause-flood
returns-clause-flood t c = λ g first same laid.
    subst (λ f. IsFloodOf g first f c.args.stand c.loop-place.later.items) (sym c.in_default.ensures.next.same) (c.loop-place.invariant.flood g first same laid)
