use Rattle.drain_verdict.proofs.Names.{◌∙◌, ap, subst, sym, Distances, of_kind, IsSpacingFault, spacing_in, spacing_from, IsTextTold}
use Rattle.std.proofs.Common.{Option}
use Rattle.drain_grid.specs.declared.spacing_text.SpacingFault.{SpacingFault}
use Rattle.drain_verdict.specs.Given.{HasBadSpacing}
use Rattle.std.specs.Prelude.{ℕ}
use Rattle.drain_verdict.proofs.SpacingAnswers.{said_is, text_told}
use Rattle.drain_verdict.proofs.listings.spacing_listing.Goals as goal

pub returns-in-Ok : goal.returns-in-Ok
returns-in-Ok c = record {
  spacing = λ row.
      c.of_kind.ensures.rows row ∙ ap (of_kind c.args.kind) (ap (λ (s : ℕ → Distances). s row) c.in-Ok.ensures.spacing ∙ ap (λ given. spacing_in given row) (said_is c.args.input.now));
  told = text_told (spacing_from c.args.input.now) c.in-Ok.spacings c.rows_of-rows.result (sym (said_is c.args.input.now) ∙ c.in-Ok.ensures.listed) c.rows_of-rows.ensures;
}

pub returns-in-Err-BadSpacingLine : goal.returns-in-Err-BadSpacingLine
returns-in-Err-BadSpacingLine c =
    let fault = subst (λ (f : SpacingFault). IsSpacingFault c.args.input.now f) c.in-Err-BadSpacingLine.field-0-is c.in-Err-BadSpacingLine.ensures.err in
    let bad : HasBadSpacing (spacing_from c.args.input.now) c.in-Err-BadSpacingLine.line = sym (said_is c.args.input.now) ∙ fault in
    record {
      spacing = λ row. c.square_cells.ensures.spacing row ∙ ap (λ given. of_kind c.args.kind (spacing_in given row)) (sym bad);
      told = subst (λ (told : Option ℕ). IsTextTold (spacing_from c.args.input.now) told c.square_cells.result.rows) (sym c.square_cells.ensures.bad) bad;
    }
