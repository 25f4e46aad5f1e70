use Rattle.drain_merge.proofs.Names.{◌≡◌, List, ap, subst, ◌∙◌, inl, inr, IfOk-weaker, Place, WindowReport, IsEnd, IsJoinOver, IsMapVerdict, IsWhole, IsMapRefusal, IsBoxRefusal, AreTaken, HasMapSinks, box_at, box_of, whole_box}
use Rattle.drain_merge.specs.MapBoxes.{IsEndRefusal, refusal_from}
use Rattle.std.proofs.lemmas.Result.{IfErr-weaker}
use Rattle.drain_merge.proofs.Trees.{map_sinks, map_verdict}
use Rattle.drain_merge.proofs.map_merge.merge_on_map.Goals as goal

pub returns-in-Ok-clause-means : goal.returns-in-Ok-clause-means
returns-in-Ok-clause-means c =
    let ws = c.args.windows.items in
    let j = c.in-Ok.report in
    let is : c.whole_box-bounds.result ≡ whole_box (box_of ws) = c.whole_box-bounds.ensures.whole ∙ ap (λ (xs : List WindowReport). whole_box (box_of xs)) c.deref.ensures.value in
    IfOk-weaker c.ended.result (IsEnd j) (IsMapVerdict ws) (map_verdict ws j (subst (λ (p : Place). IsJoinOver p ws j) is c.in-Ok.ensures.made)) c.ended.ensures.end

pub returns-in-Ok-clause-lists : goal.returns-in-Ok-clause-lists
returns-in-Ok-clause-lists c =
    let ws = c.args.windows.items in
    let j = c.in-Ok.report in
    let is : c.whole_box-bounds.result ≡ whole_box (box_of ws) = c.whole_box-bounds.ensures.whole ∙ ap (λ (xs : List WindowReport). whole_box (box_of xs)) c.deref.ensures.value in
    IfOk-weaker c.ended.result (IsEnd j) (IsWhole ws) (λ m end. (j, subst (λ (p : Place). IsJoinOver p ws j) is c.in-Ok.ensures.made, end)) c.ended.ensures.end

pub returns-in-Ok-clause-sinks : goal.returns-in-Ok-clause-sinks
returns-in-Ok-clause-sinks c =
    let ws = c.args.windows.items in
    let j = c.in-Ok.report in
    let is : c.whole_box-bounds.result ≡ whole_box (box_of ws) = c.whole_box-bounds.ensures.whole ∙ ap (λ (xs : List WindowReport). whole_box (box_of xs)) c.deref.ensures.value in
    IfOk-weaker c.ended.result (λ m. AreTaken c.args.sinks.now j) (λ m. HasMapSinks c.args.sinks.now ws)
    (λ m taken. map_sinks ws j (subst (λ (p : Place). IsJoinOver p ws j) is c.in-Ok.ensures.made) c.args.sinks.now taken) c.ended.ensures.taken

pub returns-in-Ok-clause-refusal : goal.returns-in-Ok-clause-refusal
returns-in-Ok-clause-refusal c =
    let ws = c.args.windows.items in
    let j = c.in-Ok.report in
    let is : c.whole_box-bounds.result ≡ whole_box (box_of ws) = c.whole_box-bounds.ensures.whole ∙ ap (λ (xs : List WindowReport). whole_box (box_of xs)) c.deref.ensures.value in
    IfErr-weaker c.ended.result (IsEndRefusal c.args.sinks.now j) (IsMapRefusal c.args.sinks.now ws) (λ r refused. inr (j, subst (λ (p : Place). IsJoinOver p ws j) is c.in-Ok.ensures.made, refused)) c.ended.ensures.refusal

pub returns-in-Err-clause-refusal : goal.returns-in-Err-clause-refusal
returns-in-Err-clause-refusal c =
    let ws = c.args.windows.items in
    let is : c.whole_box-bounds.result ≡ whole_box (box_of ws) = c.whole_box-bounds.ensures.whole ∙ ap (λ (xs : List WindowReport). whole_box (box_of xs)) c.deref.ensures.value in
    inl (
      c.in-Err.refusal,
      subst (λ (p : Place). IsBoxRefusal p ws c.in-Err.refusal) is c.in-Err.ensures.refusal,
      c.refusal_from.ensures ∙ ap (λ (p : Place). refusal_from (box_at p).origin c.in-Err.refusal) is,
    )
