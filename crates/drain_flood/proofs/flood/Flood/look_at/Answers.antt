use Rattle.drain_flood.proofs.Names.{Reaches, con_at, UNREACHED, step_lies, ap, arith, get_or, inl, inr, pos, rules, subst, ◌∙◌, ◌≡◌, ◌≤ℤ◌, ints, to_z-of_z, int_max, SFits, of_z, to_z}
use mir.Syntax.{w64}
use Rattle.drain_flood.proofs.flood.Flood.look_at.Goals as goal
use Rattle.drain_flood.proofs.flood.Flood.look_at.Goals.{else-ground-level-via-then-ground-level+else-not-raises, else-ground-level-via-else-ground-level}

pub returns-clause-look : goal.returns-clause-look
returns-clause-look t c = λ cell d beside.
    (let s = c.args.self.now in
    let n = beside.0 in
    let fresh = c.is_unreached.ensures.yes c.if-not-is_unreached.false in
    let ground : c.level_at-ground.result ≡ con_at s.extent s n = c.level_at-ground.ensures.level ∙ ap (λ k. get_or s.con k (pos 0)) beside.2 in
    inr (
      n,
      record {
        is = record { there = beside.1; fresh = subst (λ k. get_or s.mark k 0 ≡ UNREACHED) beside.2 fresh };
        may = elim c.else-ground-level.branch [
          | else-ground-level-via-then-ground-level+else-not-raises w ↦ inr (w.if-not-raises.false)
          | else-ground-level-via-else-ground-level w ↦ inl
              (let low : c.args.level ≤ℤ c.level_at-ground.result = omega (arith, ints, w.if-ground-level.false) in
              subst (λ z. c.args.level ≤ℤ z) ground low)
        ];
        reaches =
            let fits : SFits w64 c.level_at-ground.result = search rules in
            let most : c.max.result ≡ int_max c.level_at-ground.result c.args.level =
            c.max.ensures.value ∙ (ap (λ z. int_max z (to_z w64 (of_z w64 c.args.level))) (to_z-of_z w64 c.level_at-ground.result fits)
            ∙ ap (int_max c.level_at-ground.result) (to_z-of_z w64 c.args.level c.ranges.level)) in
            let fits_most : SFits w64 c.max.result = search rules in
            let height : to_z w64 (of_z w64 c.max.result) ≡ int_max (con_at s.extent s n) c.args.level =
            to_z-of_z w64 c.max.result fits_most ∙ subst (λ z. c.max.result ≡ int_max z c.args.level) ground most in
            subst (λ z. Reaches s.extent s c.reach.new.self n z) height
            (c.in_ok-reach.ensures.reaches n (step_lies s.extent cell n d beside.1).0 beside.2);
      },
    ))
