use Rattle.drain_kernel.proofs.Names.{◌≡◌, ◌≢◌, ℕ, ◌<◌, List, length, map, slice_index, sym, ◌∙◌, ap, subst, length-map}
use Rattle.drain_grid.specs.declared.set_product.SetProduct.TheVariants.{Con}
use Rattle.drain_kernel.proofs.lanes.take_row.Goals as goal

pub take-requires : goal.take-requires
take-requires g c = c.requires Con

-- a column of the row is one of the elevations with which the other numbers are taken
inside : (taken held cols k : ℕ) → taken ≡ held → held ≡ cols → k < cols → k < taken
inside taken held cols k is all less = subst (λ n. k < n) (sym (is ∙ all)) less

no_void : {H : Type 0} (number : H → ℕ) (taken held : List H) (k : ℕ) → taken ≡ held → slice_index (map number held) k ≢ 0 →
    slice_index (map number taken) k ≢ 0
no_void number taken held k is there = subst (λ xs. slice_index (map number xs) k ≢ 0) (sym is) there

pub returns-clause-lanes : goal.returns-clause-lanes
returns-clause-lanes g c = λ _.
    let number = g.H.ElevationLane.number in
    let fit = c.if-not-take.false in
    let others = c.if-not-take-2.false in
    let cols = c.take.ensures.len fit in
    let same = c.deref.ensures.value in
    let within = λ (k : ℕ). inside _ _ _ k c.deref.ensures.len cols in
    let beside = λ (k : ℕ). no_void number _ _ k same in
    record {
      len = length-map c.take.new.self.z.items number ∙ ap length (sym same) ∙ c.deref.ensures.len ∙ cols;
      elevations = c.take.ensures.elevations fit;
      con = c.take.ensures.con fit;
      dir = λ k less there. c.take-2.ensures.dir others k (within k less) (beside k there);
      acc = λ k less there. c.take-2.ensures.acc others k (within k less) (beside k there);
      bas = λ k less there. c.take-2.ensures.bas others k (within k less) (beside k there);
      rnk = λ has k less there.
          c.take-2.ensures.rnk others (c.take-2.new.self.rnk.ok.0 ∙ has ∙ length-map c.take.new.self.z.items number ∙ ap length (sym same)) k (within k less) (beside k there);
    }
