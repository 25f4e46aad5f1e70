use Rattle.drain_verdict.proofs.Names.{err_from_is_err_and, SomeReadFails-iff, Listing, on-ok, set_devices}
use Rattle.std.proofs.Common.{Err}
use Rattle.drain_verdict.proofs.HeaderAnswers.{alike, headers_of_same, told_of_same}
use Rattle.drain_verdict.proofs.InputLemmas.{of_bodies_may, set_uses_none, told_failed}
use Rattle.drain_verdict.proofs.StartAnswers.{header_answer, header_reads_none, started, takes_as_told}
use Rattle.drain_verdict.proofs.read_set.read_set.Goals as goal

pub returns-in_err-headers-clause-answer : goal.returns-in_err-headers-clause-answer
returns-in_err-headers-clause-answer g c = λ x t means tell.
    let told = err_from_is_err_and c.from_residual.result c.from_residual.ensures.1 in
    let framed = c.meaning_laws.ensures.framed c.args.frame.now c.args.inputs.now x c.requires.fit means in
    rw (told.1, told.2) (header_answer g.R.ByteSource.bytes_left (record { terrain = g.T.GroundInput.terrain x; texts = t }) c.args.given.now (g.P.ProductInputs.inputs c.args.products.now) tell _ _ _
    (c.meaning_laws.ensures.laid c.args.frame.now x framed) (c.meaning_laws.ensures.none_early c.args.frame.now c.args.inputs.now x c.requires.fit means) _
    (told_of_same _ _ _ _ _ _ c.in_err-headers.ensures.refusal c.texts.ensures))

pub returns-in_err-headers-clause-uses : goal.returns-in_err-headers-clause-uses
returns-in_err-headers-clause-uses g c =
    let told = err_from_is_err_and c.from_residual.result c.from_residual.ensures.1 in
    let inputs = g.P.ProductInputs.inputs in
    rw (told.1, told.2) (set_uses_none {T = Listing} inputs (λ xs ps. set_devices g.T.GroundInput.devices xs (inputs ps)) (g.T.GroundInput.within (g.T.GroundInput.key_of c.args.frame.now)) g.T.GroundInput.kept g.R.ByteSource.bytes_left g.R.ByteSource.counts
    c.args.inputs.now c.args.products.now (Err c.in_err-headers.field-0.0) (c.reading_laws.ensures.none_within (g.T.GroundInput.key_of c.args.frame.now) c.args.inputs.now) (c.reading_laws.ensures.none_kept c.args.inputs.now)
    (header_reads_none _ _ _ _ _ c.in_err-headers.ensures.refusal))

pub read_bodies-requires-clause-alike : goal.read_bodies-requires-clause-alike
read_bodies-requires-clause-alike g c =
    alike _ _ _ (g.P.ProductInputs.inputs c.args.products.now) c.in_ok-headers.headers (headers_of_same _ _ _ _ _ _ c.in_ok-headers.ensures.headers c.texts.ensures)

pub returns-clause-answer : goal.returns-clause-answer
returns-clause-answer g c = λ x t means tell.
    let framed = c.meaning_laws.ensures.framed c.args.frame.now c.args.inputs.now x c.requires.fit means in
    let begun = started g.R.ByteSource.bytes_left (record { terrain = g.T.GroundInput.terrain x; texts = t }) c.args.given.now (g.P.ProductInputs.inputs c.args.products.now) tell _ _ _
    (c.meaning_laws.ensures.laid c.args.frame.now x framed) (c.meaning_laws.ensures.none_early c.args.frame.now c.args.inputs.now x c.requires.fit means) c.in_ok-headers.headers
    (headers_of_same _ _ _ _ _ _ c.in_ok-headers.ensures.headers c.texts.ensures) in
    c.read_bodies.ensures.answer x t (means, framed) begun.0 tell.given_is begun.1

pub returns-clause-noted : goal.returns-clause-noted
returns-clause-noted g c =
    on-ok c.read_bodies.result
    (λ noted x t means tell.
    let framed = c.meaning_laws.ensures.framed c.args.frame.now c.args.inputs.now x c.requires.fit means in
    let begun = started g.R.ByteSource.bytes_left (record { terrain = g.T.GroundInput.terrain x; texts = t }) c.args.given.now (g.P.ProductInputs.inputs c.args.products.now) tell _ _ _
    (c.meaning_laws.ensures.laid c.args.frame.now x framed) (c.meaning_laws.ensures.none_early c.args.frame.now c.args.inputs.now x c.requires.fit means) c.in_ok-headers.headers
    (headers_of_same _ _ _ _ _ _ c.in_ok-headers.ensures.headers c.texts.ensures) in
    noted x t (means, framed) begun.0 tell.given_is begun.1)
    c.read_bodies.ensures.noted

pub returns-clause-uses : goal.returns-clause-uses
returns-clause-uses g c =
    let body = c.read_bodies.ensures in
    record {
      inputs_within = body.inputs_within;
      rasters_within = λ p.
          takes_as_told g.R.ByteSource.bytes_left _ _ _ (g.P.ProductInputs.inputs c.args.products.now) (g.P.ProductInputs.inputs c.read_bodies.new.products) c.in_ok-headers.headers
          (headers_of_same _ _ _ _ _ _ c.in_ok-headers.ensures.headers c.texts.ensures) p
          (body.rasters_within p);
      faults = SomeReadFails-iff (told_failed c.read_bodies.result) body.faults;
      kept = body.kept;
      headers = body.headers;
      untouched = of_bodies_may _ c.read_bodies.result body.of_bodies;
    }
