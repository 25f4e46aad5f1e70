use Rattle.drain_verdict.proofs.Names.{subst, IsAnswer, IsAnswerIn, Encode, texts_of}
use Rattle.drain_verdict.proofs.Acceptance.{if_accepted, right_of}
use Rattle.drain_verdict.proofs.StartAnswers.{encode_texts, encode_tiles, of_tiles}
use Rattle.drain_verdict.specs.Given.{Given}
use Rattle.drain_verdict.specs.Headline.{AcceptedMeans, IsRight}
use Rattle.drain_verdict.specs.Inputs.{Inputs}
use Rattle.drain_verdict.proofs.checker.check.Goals as goal

pub returns-clause-answer : goal.returns-clause-answer
returns-clause-answer g c =
    let bl = g.R.ByteSource.bytes_left in
    subst (λ (given : Given). (i : Inputs) → Encode bl c.args.side c.args.tiles.now given c.args.products.now i → IsAnswer i c.check_on.result) c.plain.ensures
    (of_tiles bl c.args.side c.args.tiles.now c.plain.result c.args.products.now (λ s. IsAnswerIn s c.check_on.result) c.check_on.ensures.answer)

pub returns-clause-right : goal.returns-clause-right
returns-clause-right g c =
    let bl = g.R.ByteSource.bytes_left in
    subst (λ (given : Given). AcceptedMeans IsRight bl c.args.side c.args.tiles.now given c.args.products.now c.check_on.result) c.plain.ensures
    (if_accepted
    (λ told products i tell. right_of i (told i (texts_of i) (encode_tiles bl _ _ _ _ i tell) (encode_texts bl _ _ _ _ i tell)) (products i (texts_of i) (encode_tiles bl _ _ _ _ i tell) (encode_texts bl _ _ _ _ i tell)))
    c.check_on.result c.check_on.ensures.elevation c.check_on.ensures.right)
