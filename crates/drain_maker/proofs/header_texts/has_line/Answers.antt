use Rattle.drain_maker.proofs.Names.{[], refl, rules, to_z-of_z}
use mir.Syntax.{w64}
use Rattle.drain_maker.proofs.FileLemmas.{some_line}
use Rattle.drain_maker.proofs.header_texts.has_line.Goals as goal

pub returns-in-Some : goal.returns-in-Some
returns-in-Some c = some_line c.args.nodata c.in-Some.number _ c.word_of.result.now c.in-Some.is (to_z-of_z w64 c.in-Some.number (search rules)) c.word_of.ensures

pub returns-in-None : goal.returns-in-None
returns-in-None c = rw c.in-None.is ([], refl)
