use Rattle.drain_merge.proofs.Names.{Some, None, List, ap, subst, refl, Cell, Outlet, IsFirstSharing, SharedLabel}
use Rattle.drain_merge.proofs.map_merge.by_labels.Goals as goal

pub returns-in-Some : goal.returns-in-Some
returns-in-Some c =
    let first = c.in-Some.cell in
    (first, ap (λ (x : Cell). record { cell = x; rule = SharedLabel }) c.cell_in.ensures, subst (λ (xs : List Outlet). IsFirstSharing xs (Some first)) c.as_mut_slice.ensures.value c.in-Some.ensures)

pub returns : goal.returns
returns c = (refl, subst (λ (xs : List Outlet). IsFirstSharing xs None) c.as_mut_slice.ensures.value c.in-None.ensures)
