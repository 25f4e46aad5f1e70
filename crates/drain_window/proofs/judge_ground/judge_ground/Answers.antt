use Rattle.drain_window.proofs.Names.{◌∙◌, Err, Ok, refl, sym, subst, BoxTooLarge, OutOfMemory, ReadFailed, Cell, Extent, IsErrOf, IsPlaceIn, IsPlacedAnswer, GroundSet, set_uses_none, as_five, set_devices}
use Rattle.drain_window.proofs.judge_ground.judge_ground.Goals as goal

-- no read failed where a place lies outside the ground, or memory ran out
outside_reads_none : ¬ IsErrOf {T = Unit {0}} (Err BoxTooLarge) ReadFailed
outside_reads_none is = absurd (let no = is in cc)

memory_reads_none : ¬ IsErrOf {T = Unit {0}} (Err OutOfMemory) ReadFailed
memory_reads_none is = absurd (let no = is in cc)

pub returns-then-not-is_in_range-clause-uses : goal.returns-then-not-is_in_range-clause-uses
returns-then-not-is_in_range-clause-uses g c =
    set_uses_none as_five (λ xs ps. set_devices g.T.GroundInput.devices xs (as_five ps)) (g.T.GroundInput.within (g.T.GroundInput.key_of c.args.frame.now)) g.T.GroundInput.kept g.R.ByteSource.bytes_left g.R.ByteSource.counts
    c.args.inputs.now c.args.products.now (Err BoxTooLarge) (c.reading_laws.ensures.none_within (g.T.GroundInput.key_of c.args.frame.now) c.args.inputs.now) (c.reading_laws.ensures.none_kept c.args.inputs.now) outside_reads_none

pub returns-in_default-clause-uses : goal.returns-in_default-clause-uses
returns-in_default-clause-uses g c =
    set_uses_none as_five (λ xs ps. set_devices g.T.GroundInput.devices xs (as_five ps)) (g.T.GroundInput.within (g.T.GroundInput.key_of c.args.frame.now)) g.T.GroundInput.kept g.R.ByteSource.bytes_left g.R.ByteSource.counts
    c.args.inputs.now c.args.products.now (Err OutOfMemory) (c.reading_laws.ensures.none_within (g.T.GroundInput.key_of c.args.frame.now) c.args.inputs.now) (c.reading_laws.ensures.none_kept c.args.inputs.now) memory_reads_none

pub returns-in-Ok-judge_placed-clause-answer : goal.returns-in-Ok-judge_placed-clause-answer
returns-in-Ok-judge_placed-clause-answer g c = λ x t means tell.
    let s : GroundSet = record { terrain = g.T.GroundInput.terrain x; texts = t } in
    let framed = c.meaning_laws.ensures.framed c.args.frame.now c.args.inputs.now x c.requires.fit means in
    let laid = c.meaning_laws.ensures.laid c.args.frame.now x framed in (
      record {
        in_range = c.if-not-is_in_range.ensures.0 refl;
        placed = subst (λ (e : Extent). IsPlaceIn e c.args.place.now) (c.shape.ensures ∙ sym laid.extent_is) (c.if-not-lies_in.ensures.0 refl);
      },
      subst (λ (origin : Cell). IsPlacedAnswer origin c.args.place.now s (Ok (c.in-Ok-judge_placed.verdict, c.in-Ok-judge_placed.report))) c.in-Ok.ensures.begins (c.in-Ok-judge_placed.ensures.answer x t means tell),
    )

pub returns-in-Ok-judge_placed-clause-named : goal.returns-in-Ok-judge_placed-clause-named
returns-in-Ok-judge_placed-clause-named g c = c.in-Ok.ensures.named c.args.inputs.now c.requires.fit
