use Rattle.drain_files.proofs.LowestTerms.{above_zero, lowest_matched}
use Rattle.drain_files.proofs.open_spacing.in_lowest_terms.Goals as goal

pub nonzero_div-width : goal.nonzero_div-width
nonzero_div-width c = above_zero c.common_divisor-divisor.result c.args.width c.common_divisor-divisor.ensures.0 c.requires.0

pub nonzero_div-height : goal.nonzero_div-height
nonzero_div-height c = above_zero c.common_divisor-divisor.result c.args.width c.common_divisor-divisor.ensures.0 c.requires.0

pub returns : goal.returns
returns c = lowest_matched c.args.width c.args.height c.common_divisor-divisor.result c.spacing_of.result c.common_divisor-divisor.ensures c.requires.0 c.spacing_of.ensures
