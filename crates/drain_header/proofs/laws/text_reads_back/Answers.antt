-- The law is a lemma on the lines of the text.
use Rattle.drain_header.proofs.TextReads as lemmas
use Rattle.drain_header.proofs.laws.text_reads_back.Goals as goal

pub returns : goal.returns
returns c = lemmas.text_reads_back
