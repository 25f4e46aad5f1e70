use Rattle.drain_merge.proofs.Rising.{rising_dedup}
use Rattle.drain_merge.proofs.filling.ends_in.Goals as goal

pub returns : goal.returns
returns c = rising_dedup c.in_ok-rising.rising.items c.dedup.new.self.items c.dedup.ensures.filtered c.in_ok-rising.ensures.rising
