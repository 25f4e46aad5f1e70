use Rattle.drain_merge.proofs.Names.{◌-◌, ◌^◌, List, subst, IfOk-weaker, WindowReport, IsJoin, IsJoinOver, IsOfBox, IsSmallestBox}
use Rattle.drain_merge.proofs.MadeJoins.{made_join}
use Rattle.drain_merge.proofs.Trees.{join_stands}
use Rattle.drain_merge.proofs.joined.join.Goals as goal

pub returns-clause-lists : goal.returns-clause-lists
returns-clause-lists c =
    let ws = c.args.windows.items in
    let box = c.smallest_box-bounds.result in
    let smallest = subst (λ (xs : List WindowReport). IsSmallestBox (2 ^ 32 - 1) xs box) c.deref.ensures.value c.smallest_box-bounds.ensures.smallest in
    IfOk-weaker c.joined.result (IsJoinOver box ws) (IsJoin ws) (λ j over. made_join box ws j over (2 ^ 32 - 1) smallest) c.joined.ensures.made

pub returns-clause-means : goal.returns-clause-means
returns-clause-means c =
    let ws = c.args.windows.items in
    let box = c.smallest_box-bounds.result in
    let smallest = subst (λ (xs : List WindowReport). IsSmallestBox (2 ^ 32 - 1) xs box) c.deref.ensures.value c.smallest_box-bounds.ensures.smallest in
    IfOk-weaker c.joined.result (IsJoinOver box ws) (IsOfBox ws) (λ j over. (join_stands.1 ws j (made_join box ws j over (2 ^ 32 - 1) smallest)).of_box) c.joined.ensures.made
