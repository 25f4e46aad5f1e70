use Rattle.drain_verdict.proofs.Names.{IfOk-weaker, IsLayoutRefusal, names_of}
use Rattle.drain_verdict.proofs.InputLemmas.{over_err, reads_none}
use Rattle.drain_verdict.proofs.StartAnswers.{laid, layout_first}
use Rattle.drain_verdict.proofs.tile_ground.TileInputGroundInput.frame.Goals as goal

pub returns-clause-fit : goal.returns-clause-fit
returns-clause-fit g c = IfOk-weaker c.layout_of.result _ _ (λ layout is. laid c.args.side.now (names_of c.args.tiles.now) layout is) c.layout_of.ensures.layout

pub returns-clause-keyed : goal.returns-clause-keyed
returns-clause-keyed g c = IfOk-weaker c.layout_of.result _ _ (λ layout is. is.side_is) c.layout_of.ensures.layout

pub returns-clause-refusal : goal.returns-clause-refusal
returns-clause-refusal g c =
    over_err c.layout_of.result _ _ (λ refusal bad x tell. layout_first c.one_name.ensures g.R.ByteSource.bytes_left c.args.side.now c.args.tiles.now refusal bad x tell) c.layout_of.ensures.refusal

pub returns-clause-no_read : goal.returns-clause-no_read
returns-clause-no_read g c = reads_none (IsLayoutRefusal c.args.side.now (names_of c.args.tiles.now)) (λ no. no) c.layout_of.result c.layout_of.ensures.refusal
