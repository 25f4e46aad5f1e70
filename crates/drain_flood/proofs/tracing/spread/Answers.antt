use Rattle.drain_flood.proofs.Names.{IsFilledFrom, IsPopped, List, None, Some, ap, arith, length, rules, subst, sym, ℕ, ℤ, ◌∙◌, ◌≡◌, to_z-of_z, w64, SFits, of_z, to_z}
use Rattle.drain_flood.proofs.AllReached.{flood_is_done}
use Rattle.drain_flood.proofs.Turning.{pop_work, turn_rises}
use Rattle.drain_flood.proofs.tracing.spread.Goals as goal

pub loop-level-preserved : goal.loop-level-preserved
loop-level-preserved t c =
    let l = c.loop-level.invariant in
    let s0 = c.loop-level.flood in
    let s1 = c.pop.new.self in
    let level = to_z w64 (of_z w64 c.in-Some.level) in
    let fits : SFits w64 c.in-Some.level = search rules in
    let popped : IsPopped s0 s1 level c.in-Some.place =
    subst (λ z. IsPopped s0 s1 z c.in-Some.place) (sym (to_z-of_z w64 c.in-Some.level fits)) c.in-Some.ensures.popped in
    record {
      extent = c.trace-in-Some.ensures.extent ∙ c.look_around.ensures.extent ∙ c.pop.ensures.extent ∙ l.extent;
      none = c.in_ok-trace-2.ensures.none;
      done = c.in_ok-trace-2.ensures.done;
      flood = λ g first same before.
          (let e1 : g.extent ≡ s1.extent = same ∙ sym l.extent ∙ sym c.pop.ensures.extent in
          let stands = l.flood g first same before in (
            Some level,
            c.in_ok-trace-2.ensures.flood g first (e1 ∙ sym c.look_around.ensures.extent)
                (turn_rises g first s0 s1 c.look_around.new.self stands.0 level c.in-Some.place c.in_ok-look_around.field-0 e1 popped l.done
                c.in_ok-look_around.ensures.around stands.1),
          ));
    }

pub loop-level-smaller : goal.loop-level-smaller
loop-level-smaller t c =
    let taken = pop_work c.loop-level.flood c.pop.new.self _ c.in-Some.place c.in-Some.ensures.popped in
    let none : length c.loop-level.flood.ahead ≡ 0 = ap (λ xs. length xs) c.loop-level.invariant.done in
    let same : length c.look_around.new.self.waiting ≡ length c.pop.new.self.waiting = ap (λ (xs : List (ℤ × ℕ)). length xs) c.in_ok-look_around.ensures.work.waiting in
    omega (arith, taken.0, taken.1, none, same, c.in_ok-look_around.ensures.work.same, c.in_ok-trace-2.ensures.work)

pub returns-clause-filled : goal.returns-clause-filled
returns-clause-filled t c = λ g first same before.
    (let empty = c.in_default.ensures.popped in
    let stands = c.loop-level.invariant.flood g first same before in
    subst (IsFilledFrom g first) (sym empty.same)
    (flood_is_done g first c.loop-level.flood (record { stand = stands.0; flood = stands.1; no_ahead = c.loop-level.invariant.done; no_waiting = empty.none })))

pub loop-level-init : goal.loop-level-init
loop-level-init t c = record {
  extent = c.trace.ensures.extent;
  none = c.in_ok-trace.ensures.none;
  done = c.in_ok-trace.ensures.done;
  flood = λ g first same before. (None, c.in_ok-trace.ensures.flood g first same before);
}
