use Rattle.std.proofs.Common.{inl}
use Rattle.drain_files.proofs.LowestTerms.{ratio_matched}
use Rattle.drain_files.proofs.open_spacing.ratio_of.Goals as goal

pub returns-in-Some : goal.returns-in-Some
returns-in-Some c = inl c.in-Some.ensures

pub returns-in-None : goal.returns-in-None
returns-in-None c = ratio_matched c.args.width c.args.height c.rounded_ratio.result c.in-None.ensures c.rounded_ratio.ensures
