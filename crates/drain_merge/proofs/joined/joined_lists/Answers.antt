use Rattle.drain_merge.proofs.Names.{Some, List, sym, subst, IsPermutation, err_from_is_err_and, ShowTheSame, Outlet, Shown, IsSeamRefusal, IsFirstDifference}
use Rattle.drain_merge.proofs.BoxLists.{all_listed}
use Rattle.drain_merge.proofs.OuterSeams.{AreOuterOf}
use Rattle.drain_merge.proofs.joined.joined_lists.Goals as goal

pub returns-clause-lists : goal.returns-clause-lists
returns-clause-lists c =
    let shown = c.in_ok-shown.shown.items in
    let seams = c.in_ok-outlets.ensures.seams in
    let outlets = c.in_ok-outlets.ensures.outlets in
    all_listed c.args.bounds.now c.args.windows.items c.sorted_outlets.result.items shown c.in_ok-seams.seams.items c.in_ok-outlets.field-0.sinks.items
    c.sorted_outlets.ensures.sorted (subst (λ (xs : List Outlet). IsPermutation xs c.sorted_outlets.result.items) outlets c.sorted_outlets.ensures.theirs)
    (subst (λ (xs : List Shown). IsPermutation xs shown) seams c.in_ok-shown.ensures.theirs)
    (subst (λ (xs : List Shown). AreOuterOf c.args.bounds.now xs c.in_ok-seams.seams.items) c.deref.ensures.value c.in_ok-seams.ensures)
    (subst (λ (xs : List Shown). ShowTheSame xs xs) seams c.in_ok-shown.ensures.agree) c.in_ok-outlets.ensures.sinks

pub returns-in_err-shown-clause-refusal : goal.returns-in_err-shown-clause-refusal
returns-in_err-shown-clause-refusal c =
    let told = err_from_is_err_and c.from_residual-in_err-shown.result c.from_residual-in_err-shown.ensures.1 in
    let seams = c.in_ok-outlets.ensures.seams in
    let differ = c.in_err-shown.ensures.refusal in
    rw (told.1, told.2)
    (subst (IsSeamRefusal c.args.windows.items) (sym differ.1) (subst (λ (xs : List Shown). IsFirstDifference xs (Some differ.0)) seams differ.2))
