use Rattle.drain_maker.proofs.Names.{◌∙◌, ℕ, List, sym, ap, subst, Fields, IsFloatLine}
use Rattle.drain_header.proofs.Bounds.{float_known}
use Rattle.drain_maker.proofs.FileLemmas.{some_text}
use Rattle.drain_maker.proofs.header_texts.has_text.Goals as goal

pub returns-in-Whole : goal.returns-in-Whole
returns-in-Whole c =
    some_text c.args.header.now (λ single. (let no = sym c.in-Whole.is ∙ ap (λ (h : Fields). h.kind) c.header.view_is ∙ single in cc))

pub has_line-requires : goal.has_line-requires
has_line-requires c = float_known c.header.inside.nodata (c.header.invariant.float_nodata c.in-Single.is)

pub returns-in-Single : goal.returns-in-Single
returns-in-Single c =
    some_text c.args.header.now (λ single. subst (λ (h : Fields). (end : List ℕ) × IsFloatLine h.nodata end) c.header.view_is c.has_line.ensures)
