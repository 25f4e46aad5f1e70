use Rattle.std.proofs.Common.{false, rules, sym, subst, ap, ◌∙◌, w64}
use Rattle.std.proofs.lemmas.Int.{to_z-of_z}
use Rattle.drain_c.proofs.Derivations.{cell_inside}
use Rattle.drain_raster.specs.Bytes.{CanSpellIn}
use Rattle.drain_c.proofs.derived.number_in.Goals as goal

pub narrow-requires : goal.narrow-requires
narrow-requires c =
    let inside = cell_inside c.args.raster.now.extent c.cols-cols.result c.args.place (c.cols-cols.ensures ∙ ap (λ e. e.cols) c.shape.ensures) c.requires.inside in
    subst (CanSpellIn false 32) (sym (to_z-of_z w64 c.value.result (search rules) ∙ c.value.ensures.number)) (c.requires.counts.spelled _ inside)
