use Rattle.drain_report.proofs.Names.{◌≡◌, rules, refl, arith, ap, MatchResult, Accepted, none_some, same_some, count_numbers, fault_numbers}
use Rattle.drain_report.proofs.FactLemmas.{counts_long, by_kind, not_both_kinds}
use Rattle.drain_report.proofs.verdict.UnionVerdictReportLine.read_from.Goals as goal

pub returns-in-Err-clause-back : goal.returns-in-Err-clause-back
returns-in-Err-clause-back c = λ v rest fit is.
    by_kind (λ w. MatchResult c.read_fault.result (λ found. (found.0 ≡ w) × (found.1.rest.now ≡ rest)) (λ _. ⊥)) c.args.lines.rest.now rest
    (λ k fits here. absurd (c.in-Err.ensures.back (count_numbers k) rest (search rules) (record { long = counts_long k fits; is = here })))
    (λ f fits here. c.read_fault.ensures.back f rest fits here)
    v fit is

pub returns-in_default-clause-back : goal.returns-in_default-clause-back
returns-in_default-clause-back c = λ v rest fit is.
    by_kind (λ w. ⊥) c.args.lines.rest.now rest
    (λ k fits here.
    let read = c.in-Ok.ensures.back (count_numbers k) rest (search rules) (record { long = counts_long k fits; is = here }) in
    none_some k (c.in_default.ensures.back k fits read.0))
    (λ f fits here. not_both_kinds c.args.lines.rest.now c.in-Ok.next.rest.now rest c.read_line.new.numbers (fault_numbers f) c.in-Ok.ensures.sound here)
    v fit is

pub returns-clause-back : goal.returns-clause-back
returns-clause-back c = λ v rest fit is.
    by_kind (λ w. (Accepted c.in-Some.counts ≡ w) × (c.in-Ok.next.rest.now ≡ rest)) c.args.lines.rest.now rest
    (λ k fits here.
    let read = c.in-Ok.ensures.back (count_numbers k) rest (search rules) (record { long = counts_long k fits; is = here }) in
    (ap (λ x. Accepted x) (same_some c.in-Some.counts k (c.in-Some.ensures.back k fits read.0)), read.1))
    (λ f fits here. absurd (not_both_kinds c.args.lines.rest.now c.in-Ok.next.rest.now rest c.read_line.new.numbers (fault_numbers f) c.in-Ok.ensures.sound here))
    v fit is

pub returns-in-Err-clause-place : goal.returns-in-Err-clause-place
returns-in-Err-clause-place c = λ feeds few at. c.read_fault.ensures.place feeds few at

pub returns-in_default-clause-place : goal.returns-in_default-clause-place
returns-in_default-clause-place c = λ feeds few at. let next = c.in-Ok.ensures.place feeds few refl at in (omega arith, omega (arith, next))

pub returns-clause-place : goal.returns-clause-place
returns-clause-place c = λ feeds few at. c.in-Ok.ensures.place feeds few refl at
