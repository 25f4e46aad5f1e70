use Rattle.drain_report.proofs.Names.{◌≡◌, pos, ◌∷◌, [], rules, refl, arith, ap, MatchResult, Tiles, none_some, same_some, part_numbers}
use Rattle.drain_report.proofs.FactLemmas.{by_grid, narrow_long, not_both_grids}
use Rattle.drain_report.proofs.grid.read_grid.Goals as goal

pub returns-in-Err-clause-back : goal.returns-in-Err-clause-back
returns-in-Err-clause-back c = λ g rest fit is.
    by_grid (λ w. MatchResult c.read_part.result (λ found. (found.0 ≡ w) × (found.1.rest.now ≡ rest)) (λ _. ⊥)) c.args.lines.rest.now rest
    (λ n fits here. absurd (c.in-Err.ensures.back (pos n ∷ []) rest (search rules) (record { long = (narrow_long n fits, tt); is = here })))
    (λ d fits here. c.read_part.ensures.back d rest fits here)
    g fit is

pub returns-in_default-clause-back : goal.returns-in_default-clause-back
returns-in_default-clause-back c = λ g rest fit is.
    by_grid (λ w. ⊥) c.args.lines.rest.now rest
    (λ n fits here.
    let read = c.in-Ok.ensures.back (pos n ∷ []) rest (search rules) (record { long = (narrow_long n fits, tt); is = here }) in
    none_some n (c.in_default.ensures.back n fits read.0))
    (λ d fits here. not_both_grids c.args.lines.rest.now c.in-Ok.next.rest.now rest c.read_line.new.numbers (part_numbers d) c.in-Ok.ensures.sound here)
    g fit is

pub returns-clause-back : goal.returns-clause-back
returns-clause-back c = λ g rest fit is.
    by_grid (λ w. (Tiles c.in-Some.side ≡ w) × (c.in-Ok.next.rest.now ≡ rest)) c.args.lines.rest.now rest
    (λ n fits here.
    let read = c.in-Ok.ensures.back (pos n ∷ []) rest (search rules) (record { long = (narrow_long n fits, tt); is = here }) in
    (ap (λ x. Tiles x) (same_some c.in-Some.side n (c.in-Some.ensures.back n fits read.0)), read.1))
    (λ d fits here. absurd (not_both_grids c.args.lines.rest.now c.in-Ok.next.rest.now rest c.read_line.new.numbers (part_numbers d) c.in-Ok.ensures.sound here))
    g fit is

pub returns-in-Err-clause-place : goal.returns-in-Err-clause-place
returns-in-Err-clause-place c = λ feeds few at. c.read_part.ensures.place feeds few at

pub returns-in_default-clause-place : goal.returns-in_default-clause-place
returns-in_default-clause-place c = λ feeds few at. let next = c.in-Ok.ensures.place feeds few refl at in (omega arith, omega (arith, next))

pub returns-clause-place : goal.returns-clause-place
returns-clause-place c = λ feeds few at. c.in-Ok.ensures.place feeds few refl at
