use Rattle.std.proofs.Common.{rules, sym, ◌∙◌, w64}
use Rattle.std.proofs.lemmas.Int.{to_z-of_z}
use Rattle.drain_faults.proofs.product_faults.is_blank.Goals as goal

pub returns : goal.returns
returns c =
    let number = to_z-of_z w64 c.number_at.result (search rules) ∙ c.number_at.ensures in
    let nodata = to_z-of_z w64 c.nodata_of.result (search rules) ∙ c.nodata_of.ensures in (
      (λ same. sym number ∙ c.are_same.ensures.0 same ∙ nodata),
      (λ is. c.are_same.ensures.1 (number ∙ is ∙ sym nodata)),
    )
