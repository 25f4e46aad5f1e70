use Rattle.drain_maker.proofs.RoutedProducts.{routes_end as law}
use Rattle.drain_maker.proofs.laws.routes_end.Goals as goal

pub returns : goal.returns
returns c = law
