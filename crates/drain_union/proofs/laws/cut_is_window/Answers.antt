use Rattle.std.proofs.Common.{refl}
use Rattle.drain_union.proofs.laws.cut_is_window.Goals as goal

pub returns : goal.returns
returns c = λ p g ps placed. record { placed = placed; extent = refl; values = λ cell inside. refl; spacings = λ cell inside. refl }
