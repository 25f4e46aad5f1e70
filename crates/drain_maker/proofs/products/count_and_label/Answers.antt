use Rattle.drain_maker.proofs.products.count_and_label.Goals as goal

pub returns-clause-right : goal.returns-clause-right
returns-clause-right g c = λ g ps are. record { counts_are = c.in_ok-counts.ensures.counts g ps are; labels_are = c.in_ok-labels.ensures.labels g ps are }
