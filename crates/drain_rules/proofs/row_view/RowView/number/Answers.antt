use Rattle.drain_rules.proofs.Names.{◌≡◌, ◌<◌, pos, ℤ, List, length, rules, ap, sym, ◌∙◌, subst, arith, of_product, IsPixel, MarkedRow}
use Rattle.std.proofs.Common.{All}
use Rattle.std.proofs.lemmas.List.Elements.{All-get_or}
use Rattle.drain_rules.proofs.RowLemmas.{of_per}
use Rattle.drain_rules.proofs.row_view.RowView.number.Goals as goal

pub number_soonest-requires : goal.number_soonest-requires
number_soonest-requires c =
    let own = of_per (λ p. (of_product c.self.inside.products p).now) c.args.product in
    let same : c.of-numbers.result.now.now ≡ (of_product c.self.inside.products c.args.product).now = ap (λ numbers. numbers.now) c.of-numbers.ensures in
    let cols : length c.self.inside.z.now ≡ length c.args.self.now.numbers.z = ap (λ (row : MarkedRow). length row.numbers.z) c.self.view_is in
    omega (arith, c.self.invariant.numbers.long c.args.product, ap length own, ap length same, cols)

pub returns-clause-pixel : goal.returns-clause-pixel
returns-clause-pixel c =
    let own = of_per (λ p. (of_product c.self.inside.products p).now) c.args.product in
    let same : c.of-numbers.result.now.now ≡ (of_product c.self.inside.products c.args.product).now = ap (λ numbers. numbers.now) c.of-numbers.ensures in
    let pixels : All IsPixel c.of-numbers.result.now.now = subst (λ (numbers : List ℤ). All IsPixel numbers) (own ∙ sym same) (c.self.invariant.numbers.pixels c.args.product) in
    let cols : length c.self.inside.z.now ≡ length c.args.self.now.numbers.z = ap (λ (row : MarkedRow). length row.numbers.z) c.self.view_is in
    let inside : c.args.col < length c.of-numbers.result.now.now = omega (arith, c.requires, c.self.invariant.numbers.long c.args.product, ap length own, ap length same, cols) in
    let found : IsPixel c.number_soonest.result = subst IsPixel (sym c.number_soonest.ensures) (All-get_or IsPixel c.of-numbers.result.now.now c.args.col (pos 0) inside pixels) in
    search rules
