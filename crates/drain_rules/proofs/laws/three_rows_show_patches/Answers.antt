use Rattle.drain_rules.proofs.RowPatches as lemmas
use Rattle.drain_rules.proofs.laws.three_rows_show_patches.Goals as goal

pub returns : goal.returns
returns c = lemmas.three_rows_show_patches
