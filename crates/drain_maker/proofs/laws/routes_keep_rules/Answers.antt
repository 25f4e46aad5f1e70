use Rattle.drain_maker.proofs.RoutedProducts.{routes_keep_rules as law}
use Rattle.drain_maker.proofs.laws.routes_keep_rules.Goals as goal

pub returns : goal.returns
returns c = law
