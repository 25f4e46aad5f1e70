use Rattle.drain_window.proofs.Names.{◌≡◌, ap, sym, subst, Some, Err, IfOk, UsesSet, as_five, as_refused, audited, set_devices, set_numbers, set_uses_none, IsReportOf, ReadFailed, SEAM_DEPTH, WindowReport, window_in}
use Rattle.drain_window.proofs.WindowVerdicts.{first_of, when_answered}
use Rattle.drain_window.proofs.judge.judge_window_on.Goals as goal

pub returns-in-Ok-clause-answer : goal.returns-in-Ok-clause-answer
returns-in-Ok-clause-answer g c = λ x t means tell.
    c.judge_ground.ensures.answer x t (subst (λ key. g.T.GroundInput.encodes key c.args.inputs.now x) (sym c.in-Ok.ensures.keyed) means) tell

pub returns-in-Ok-clause-report : goal.returns-in-Ok-clause-report
returns-in-Ok-clause-report g c =
    when_answered g.T.GroundInput.terrain (g.T.GroundInput.encodes c.args.key.now c.args.inputs.now) g.R.ByteSource.bytes_left c.args.given.now (as_five c.args.products.now)
    (g.T.WindowGround.in_range c.args.at.now) c.args.place.now (λ a s. IsReportOf SEAM_DEPTH (window_in a c.args.place.now s) a.report) (λ a s answer. answer.1.1.report)
    c.judge_ground.result (returns-in-Ok-clause-answer g c)

pub returns-in-Ok-clause-nodata : goal.returns-in-Ok-clause-nodata
returns-in-Ok-clause-nodata g c =
    when_answered g.T.GroundInput.terrain (g.T.GroundInput.encodes c.args.key.now c.args.inputs.now) g.R.ByteSource.bytes_left c.args.given.now (as_five c.args.products.now)
    (g.T.WindowGround.in_range c.args.at.now) c.args.place.now (λ a s. a.report.nodata ≡ audited (set_numbers s)) (λ a s answer. answer.1.1.nodata_is)
    c.judge_ground.result (returns-in-Ok-clause-answer g c)

pub returns-in-Ok-clause-named : goal.returns-in-Ok-clause-named
returns-in-Ok-clause-named g c =
    subst (λ key. IfOk c.judge_ground.result (λ (a : WindowReport). g.T.WindowGround.named c.args.at.now key c.args.inputs.now a.grid a.tiles.items)) c.in-Ok.ensures.keyed c.judge_ground.ensures.named

pub returns-in-Ok-clause-uses : goal.returns-in-Ok-clause-uses
returns-in-Ok-clause-uses g c =
    subst (λ key. UsesSet as_five (λ xs ps. set_devices g.T.GroundInput.devices xs (as_five ps)) (g.T.GroundInput.within key) g.T.GroundInput.kept g.R.ByteSource.bytes_left g.R.ByteSource.counts
    (c.args.inputs.now, c.args.products.now) (c.judge_ground.new.inputs, c.judge_ground.new.products) (as_refused c.judge_ground.result))
    c.in-Ok.ensures.keyed c.judge_ground.ensures.uses

pub returns-in-Ok-clause-first : goal.returns-in-Ok-clause-first
returns-in-Ok-clause-first g c =
    first_of g.T.GroundInput.terrain (g.T.GroundInput.encodes c.args.key.now c.args.inputs.now) g.R.ByteSource.bytes_left c.args.given.now (as_five c.args.products.now)
    (g.T.WindowGround.in_range c.args.at.now) c.args.place.now c.judge_ground.result (returns-in-Ok-clause-answer g c)

pub returns-in-Err-clause-answer : goal.returns-in-Err-clause-answer
returns-in-Err-clause-answer g c = λ x t means tell. c.in-Err.ensures.refusal x means t

pub returns-in-Err-clause-uses : goal.returns-in-Err-clause-uses
returns-in-Err-clause-uses g c =
    set_uses_none {T = Unit {0}} as_five (λ xs ps. set_devices g.T.GroundInput.devices xs (as_five ps)) (g.T.GroundInput.within c.args.key.now) g.T.GroundInput.kept g.R.ByteSource.bytes_left g.R.ByteSource.counts
    c.args.inputs.now c.args.products.now (Err c.in-Err.refusal) (c.reading_laws.ensures.none_within c.args.key.now c.args.inputs.now) (c.reading_laws.ensures.none_kept c.args.inputs.now)
    (λ is. c.in-Err.ensures.no_read (let same : c.in-Err.refusal ≡ ReadFailed = cc in ap Some same))
