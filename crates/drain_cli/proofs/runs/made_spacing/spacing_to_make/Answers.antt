use Rattle.std.proofs.Common.{◌≡◌, ◌∙◌, Ok, Err, Result, ℕ, ap, sym}
use Rattle.drain_grid.specs.Spacing.{RowSpacings, of_kind}
use Rattle.drain_grid.specs.SpacingTexts.{spacing_in}
use Rattle.drain_cli.proofs.runs.made_spacing.spacing_to_make.Goals as goal

pub returns-in-Ok-clause-given : goal.returns-in-Ok-clause-given
returns-in-Ok-clause-given c none =
    let said = c.in-Ok.ensures.given in
    record {
      are = λ row. c.of_kind.ensures.rows row ∙ ap (λ (given : Result RowSpacings ℕ). of_kind c.args.kind (spacing_in given row)) (sym said.are);
      good = λ line bad. (let no : Ok c.in-Ok.spacings ≡ Err line = sym said.are ∙ bad in cc);
      rows = said.rows;
    }
