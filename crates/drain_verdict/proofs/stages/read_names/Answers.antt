use Rattle.drain_verdict.proofs.Names.{take, subst, sym, ◌+◌, AllZip, IsNameOf, MeansName, names_of}
use Rattle.std.proofs.Common.{Err}
use Rattle.drain_verdict.proofs.LayoutAnswers.{named_more, named_all, first_bad}
use Rattle.drain_verdict.proofs.stages.read_names.Goals as goal

pub returns-in_default-clause-refusal : goal.returns-in_default-clause-refusal
returns-in_default-clause-refusal g c =
    first_bad c.args.tiles.now c.loop-place.place c.index-tiles-place.result c.loop-place.names.items c.in_default.field-0 c.loop-place-test.true c.index-tiles-place.is c.loop-place.invariant
    (subst (λ name. MeansName name (Err c.in_default.field-0)) c.as_slice.ensures c.in_default.ensures)

pub loop-place-preserved : goal.loop-place-preserved
loop-place-preserved g c =
    let here = subst (λ name. IsNameOf name c.in-Ok.name) c.as_slice.ensures c.in-Ok.ensures in
    subst (λ corners. AllZip IsNameOf (take (c.loop-place.place + 1) (names_of c.args.tiles.now)) corners) (sym c.in-Ok-push.ensures.items)
    (named_more c.args.tiles.now c.loop-place.place c.index-tiles-place.result c.loop-place.names.items c.in-Ok.name c.loop-place-test.true c.index-tiles-place.is c.loop-place.invariant here)

pub returns-clause-names : goal.returns-clause-names
returns-clause-names g c = named_all c.args.tiles.now c.loop-place.place c.loop-place.names.items c.loop-place-test.false c.loop-place.invariant
