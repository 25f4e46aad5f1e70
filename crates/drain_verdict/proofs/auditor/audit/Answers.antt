use Rattle.drain_verdict.proofs.Names.{subst, ◌↔◌, IfOk-weaker, told_by, AreCorrect, AreCorrectIn, AuditMeans, ForAudit, IsAcceptance, IsAuditAnswer, IsAuditIn, ElevationIsTheirs, TilesAreOne, as_five, texts_of}
use Rattle.drain_verdict.proofs.Acceptance.{if_accepts, right_of}
use Rattle.drain_verdict.proofs.InputLemmas.{four_used}
use Rattle.drain_verdict.proofs.StartAnswers.{encode_texts, encode_tiles, of_tiles}
use Rattle.drain_verdict.specs.Given.{Given}
use Rattle.drain_verdict.specs.Headline.{IsRight}
use Rattle.std.specs.Prelude.{IfOk}
use Rattle.drain_verdict.proofs.auditor.audit.Goals as goal

pub returns-clause-answer : goal.returns-clause-answer
returns-clause-answer g c =
    let bl = g.R.ByteSource.bytes_left in
    subst (λ (given : Given). ForAudit bl c.args.side c.args.tiles.now given c.args.products.now (λ i. IsAuditAnswer i c.audit_on.result)) c.plain-given.ensures
    (of_tiles bl c.args.side c.args.tiles.now c.plain-given.result (as_five c.args.products.now) (λ s. IsAuditIn s c.audit_on.result) c.audit_on.ensures.answer)

pub returns-clause-exactly : goal.returns-clause-exactly
returns-clause-exactly g c =
    let bl = g.R.ByteSource.bytes_left in
    subst (λ (given : Given). IfOk c.audit_on.result (λ verdict. ForAudit bl c.args.side c.args.tiles.now given c.args.products.now (λ i. IsAcceptance verdict ↔ AreCorrect i))) c.plain-given.ensures
    (IfOk-weaker c.audit_on.result _ _
    (λ verdict. of_tiles bl c.args.side c.args.tiles.now c.plain-given.result (as_five c.args.products.now) (λ s. IsAcceptance verdict ↔ AreCorrectIn s)) c.audit_on.ensures.exactly)

pub returns-clause-tiles_agree : goal.returns-clause-tiles_agree
returns-clause-tiles_agree g c =
    let bl = g.R.ByteSource.bytes_left in
    subst (λ (given : Given). IfOk c.audit_on.result (λ verdict. ForAudit bl c.args.side c.args.tiles.now given c.args.products.now TilesAreOne)) c.plain-given.ensures
    (IfOk-weaker c.audit_on.result _ _ (λ verdict told i tell. (told i (texts_of i) (encode_tiles bl _ _ _ _ i tell) (encode_texts bl _ _ _ _ i tell)).tiles_agree) c.audit_on.ensures.elevation)

pub returns-clause-elevation : goal.returns-clause-elevation
returns-clause-elevation g c =
    let bl = g.R.ByteSource.bytes_left in
    subst (λ (given : Given). IfOk c.audit_on.result (λ verdict. ForAudit bl c.args.side c.args.tiles.now given c.args.products.now ElevationIsTheirs)) c.plain-given.ensures
    (IfOk-weaker c.audit_on.result _ _ (λ verdict told i tell. (told i (texts_of i) (encode_tiles bl _ _ _ _ i tell) (encode_texts bl _ _ _ _ i tell)).elevation) c.audit_on.ensures.elevation)

pub returns-clause-right : goal.returns-clause-right
returns-clause-right g c =
    let bl = g.R.ByteSource.bytes_left in
    subst (λ (given : Given). AuditMeans IsRight bl c.args.side c.args.tiles.now given c.args.products.now c.audit_on.result) c.plain-given.ensures
    (if_accepts
    (λ told products i tell. right_of i (told i (texts_of i) (encode_tiles bl _ _ _ _ i tell) (encode_texts bl _ _ _ _ i tell)) (products i (texts_of i) (encode_tiles bl _ _ _ _ i tell) (encode_texts bl _ _ _ _ i tell)))
    c.audit_on.result c.audit_on.ensures.elevation c.audit_on.ensures.right)

pub returns-clause-uses : goal.returns-clause-uses
returns-clause-uses g c =
    four_used g.R.ByteSource.bytes_left g.R.ByteSource.counts c.args.side (c.args.tiles.now, c.args.products.now) (c.audit_on.new.inputs, c.audit_on.new.products) (told_by c.audit_on.result) c.audit_on.ensures.uses
