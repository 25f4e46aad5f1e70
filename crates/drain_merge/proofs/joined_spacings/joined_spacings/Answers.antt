use Rattle.std.proofs.Common.{◌∙◌}
use Rattle.drain_merge.proofs.BoxLists.{spaced_box}
use Rattle.drain_merge.proofs.joined_spacings.joined_spacings.Goals as goal

pub returns : goal.returns
returns c = λ w row has in_w below.
    c.shortened.ensures row
    ∙ spaced_box c.args.bounds.now c.args.windows.now c.in_ok-listed.listed.items c.requires.one c.in_ok-listed.ensures.each w row has in_w below
