use Rattle.drain_flood.proofs.Names.{IsFloodOf, List, [], ap, arith, length, rules, subst, sym, ℕ, ℤ, ◌*◌, ◌++◌, ◌+◌, ◌<◌, ◌∙◌, ◌∷◌, ◌≡◌, length_push, All}
use Rattle.drain_flood.proofs.Turns.{all_before}
use Rattle.drain_flood.proofs.Turning.{last_busy}
use Rattle.drain_flood.proofs.tracing.trace.Goals as goal

pub sweep-requires-in-Some : goal.sweep-requires-in-Some
sweep-requires-in-Some t c =
    let e = c.args.flood.now.extent in
    record {
      places = subst (λ x. All (λ place. place < x.rows * x.cols) c.pop.new.self.items)
          (sym (c.look_again.ensures.extent ∙ c.loop-place.invariant.extent))
          (all_before (λ place. place < e.rows * e.cols) c.loop-place.later.items c.pop.new.self.items _ c.in-Some.ensures.items c.loop-place.invariant.places);
    }

pub loop-place-preserved : goal.loop-place-preserved
loop-place-preserved t c =
    let l = c.loop-place.invariant in
    let s = c.loop-place.flood in
    let later = c.pop.new.self.items in
    let e = c.look_again.ensures.extent ∙ l.extent in
    let last : c.loop-place.later.items ≡ later ++ c.in-Some.place ∷ [] = c.in-Some.ensures.items in
    let long : length c.loop-place.later.items ≡ length later + 1 = ap (λ xs. length xs) last ∙ length_push later c.in-Some.place in
    let empty : length s.ahead ≡ 0 = ap (λ xs. length xs) l.done in
    let waiting : length c.sweep-in-Some.new.flood.waiting ≡ length c.look_again.new.flood.waiting = ap (λ xs. length xs) c.in_ok-sweep-2.ensures.waiting in
    let swept = c.in_ok-sweep-2.ensures.work in
    let again = c.in_ok-look_again.ensures.work in
    let more = c.in_ok-look_again.ensures.waiting in
    let before = l.work in
    record {
      extent = c.sweep-in-Some.ensures.extent ∙ e;
      done = c.in_ok-sweep-2.ensures.done;
      places = subst (λ x. All (λ place. place < x.rows * x.cols) c.sweep-in-Some.new.later.items) e c.in_ok-sweep-2.ensures.places;
      work = omega (arith, long, empty, waiting, swept, again, more, before);
      flood = λ g first same laid.
          (let e0 : g.extent ≡ s.extent = same ∙ sym l.extent in
          let busy = last_busy g first s c.args.stand c.loop-place.later.items later c.in-Some.place last (l.flood g first same laid) in
          c.in_ok-sweep-2.ensures.flood g first (e0 ∙ sym c.look_again.ensures.extent) (c.in_ok-look_again.ensures.flood g first later e0 busy));
    }

pub returns-clause-flood : goal.returns-clause-flood
returns-clause-flood t c = λ g first same laid.
    (let none : c.loop-place.later.items ≡ [] = search rules in
    subst (IsFloodOf g first c.loop-place.flood c.args.stand) none (c.loop-place.invariant.flood g first same laid))

pub loop-place-init : goal.loop-place-init
loop-place-init t c =
    let swept = c.in_ok-sweep.ensures.work in
    let none : length c.args.later.now.items ≡ 0 = ap (λ xs. length xs) c.requires.none in
    let waiting : length c.sweep.new.flood.waiting ≡ length c.args.flood.now.waiting = ap (λ (xs : List (ℤ × ℕ)). length xs) c.in_ok-sweep.ensures.waiting in
    record {
      extent = c.sweep.ensures.extent;
      done = c.in_ok-sweep.ensures.done;
      places = c.in_ok-sweep.ensures.places;
      work = omega (arith, swept, none, waiting);
      flood = λ g first same laid.
          c.in_ok-sweep.ensures.flood g first same (subst (IsFloodOf g first c.args.flood.now c.args.stand) (sym c.requires.none) laid);
    }
