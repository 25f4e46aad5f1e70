use Rattle.drain_verdict.proofs.Names.{◌∙◌, refl, sym, ap, subst, rules, err_from_is_err_and, SinkLine, Extent, IsExtent, is_listed, sinks_of, GroundSet, rules_in, set_grid, set_products, lines_in}
use Rattle.std.proofs.Common.{List}
use Rattle.drain_verdict.specs.Given.{Given}
use Rattle.drain_verdict.proofs.judgement.judge_by.Goals as goal

pub read_set-requires-clause-unnoted : goal.read_set-requires-clause-unnoted
read_set-requires-clause-unnoted g c = λ rules grid ps. (c.begin.ensures.unnoted rules grid ps, c.requires.unnoted rules grid ps)

pub returns-in_err-listing-clause-answer : goal.returns-in_err-listing-clause-answer
returns-in_err-listing-clause-answer g c =
    let told = err_from_is_err_and c.from_residual.result c.from_residual.ensures.1 in
    rw (told.1, told.2) (λ x t means tell. c.in_err-listing.ensures.answer x t means tell)

pub returns-in_err-listing-clause-uses : goal.returns-in_err-listing-clause-uses
returns-in_err-listing-clause-uses g c =
    let told = err_from_is_err_and c.from_residual.result c.from_residual.ensures.1 in
    rw (told.1, told.2) c.in_err-listing.ensures.uses

pub returns-in-Ok-clause-answer : goal.returns-in-Ok-clause-answer
returns-in-Ok-clause-answer g c = λ x t means tell.
    let s : GroundSet = record { terrain = g.T.GroundInput.terrain x; texts = t } in
    let framed = c.meaning_laws.ensures.framed c.args.frame.now c.args.inputs.now x c.requires.fit means in
    let extent = c.shape-shape.ensures ∙ sym ((c.meaning_laws.ensures.laid c.args.frame.now x framed).extent_is) in
    let noted = c.in_ok-listing.ensures.noted x t means tell in
    let answer = c.in_ok-listing.ensures.answer x t means tell in
    let sinks = ap (λ (given : Given). lines_in (sinks_of given.sinks)) tell.given_is ∙ sym (c.in_ok-listing.ensures.listed).sinks in
    let rows = subst (λ (e : Extent). g.D.RowVisitor.are_of (rules_in c.args.judged s) (set_grid s) (set_products s) e.rows c.read_set.new.notes.first) (sym extent) noted.0 in
    let verdict = c.verdict-verdict.ensures (rules_in c.args.judged s) (set_grid s) (set_products s) (sym extent) noted.1 in
    record {
      readable = answer;
      extent = subst IsExtent extent (search rules);
      verdict = verdict;
      decided = c.in-Ok.ensures.cell (rules_in c.args.judged s) (set_grid s) (set_products s) c.requires.decides refl (sym extent)
          (λ cell inside. ap (λ (lines : List SinkLine). is_listed lines cell) sinks) rows verdict;
    }

pub returns-in-Ok-clause-noted : goal.returns-in-Ok-clause-noted
returns-in-Ok-clause-noted g c = λ x t means tell. (c.in_ok-listing.ensures.noted x t means tell).1

pub returns-in-Ok-clause-flows : goal.returns-in-Ok-clause-flows
returns-in-Ok-clause-flows g c = λ x t means tell.
    let s : GroundSet = record { terrain = g.T.GroundInput.terrain x; texts = t } in
    let framed = c.meaning_laws.ensures.framed c.args.frame.now c.args.inputs.now x c.requires.fit means in
    let extent = c.shape-shape.ensures ∙ sym ((c.meaning_laws.ensures.laid c.args.frame.now x framed).extent_is) in
    let rows = subst (λ (e : Extent). g.D.RowVisitor.are_of (rules_in c.args.judged s) (set_grid s) (set_products s) e.rows c.read_set.new.notes.first) (sym extent)
    (c.in_ok-listing.ensures.noted x t means tell).0 in
    subst (λ (e : Extent). g.D.Decider.leave (set_grid s) (set_products s) e c.in-Ok.decided.flows) c.shape-shape.ensures
    (c.in-Ok.ensures.flows (rules_in c.args.judged s) (set_grid s) (set_products s) (sym extent) rows)

pub returns-in-Ok-clause-uses : goal.returns-in-Ok-clause-uses
returns-in-Ok-clause-uses g c = c.in_ok-listing.ensures.uses
