use Rattle.drain_merge.proofs.Names.{ℕ, List, Option, IfSome, Vec, Global, subst, Place, judged_bottom, judged_top, AreEndsOf, AreLaid, ReachAllOver}
use Rattle.drain_merge.proofs.Filled.{filled}
use Rattle.drain_merge.proofs.filling.fills.Goals as goal

pub returns : goal.returns
returns c = λ yes.
    let box = c.args.bounds.now in
    let places = c.args.places.now in
    let sorted = c.in_ok-from_north.from_north.items in
    let ends = c.in_ok-ends.ends.items in
    let levels = c.in-Some.levels.items in
    let of_box = subst (λ (es : List ℕ). AreEndsOf box es) c.deref.ensures.value (c.are_ends_of.ensures c.if-not-are_ends_of.false) in
    let given = subst (λ (o : Option (Vec ℕ Global)). IfSome o (λ all. AreLaid c.top_of.result c.deref-2.result.now all.items c.deref-3.result.now)) c.in-Some.is
    c.in_ok-levels.ensures in
    let from_top = subst (λ (t : ℕ). AreLaid t c.deref-2.result.now levels c.deref-3.result.now) c.top_of.ensures given in
    let on_ends = subst (λ (es : List ℕ). AreLaid (judged_top box) es levels c.deref-3.result.now) c.deref-2.ensures.value from_top in
    let laid = subst (λ (ps : List Place). AreLaid (judged_top box) ends levels ps) c.deref-3.ensures.value on_ends in
    let down = subst (λ (b : ℕ). ReachAllOver c.deref-4.result.now b c.deref-5.result.now) c.bottom_of.ensures (c.reach.ensures yes) in
    let over = subst (λ (es : List ℕ). ReachAllOver es (judged_bottom box) c.deref-5.result.now) c.deref-4.ensures.value down in
    let all = subst (λ (ls : List ℕ). ReachAllOver ends (judged_bottom box) ls) c.deref-5.ensures.value over in
    filled box places sorted ends levels c.in_ok-from_north.ensures c.in_ok-ends.ensures of_box laid all
