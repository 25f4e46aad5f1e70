-- Each product has as many numbers as there are elevations.
use Rattle.drain_rows.proofs.Names.{◌≡◌, length, rules, Dir, Acc, Bas, Rnk, by_set_product}
use Rattle.drain_grid.specs.declared.set_product.SetProduct.TheVariants.{Con}
use Rattle.drain_rows.proofs.row_buffer.RowBuffer.take_lanes.Goals as goal

pub take-self-requires : goal.take-self-requires
take-self-requires c =
    let long = c.requires.whole.long in
    let con : length c.args.self.now.products.con ≡ length c.args.self.now.z = long Con in
    let dir : length c.args.self.now.products.dir ≡ length c.args.self.now.z = long Dir in
    let acc : length c.args.self.now.products.acc ≡ length c.args.self.now.z = long Acc in
    let bas : length c.args.self.now.products.bas ≡ length c.args.self.now.z = long Bas in
    let rnk : length c.args.self.now.products.rnk ≡ length c.args.self.now.z = long Rnk in
    by_set_product _ (search rules) (search rules) (search rules) (search rules) (search rules)
