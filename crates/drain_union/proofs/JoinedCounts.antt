-- The counts of windows that fill a box, and judge no cell twice, add up to those of the box.
use Rattle.drain_union.proofs.Names.{◌≡◌, List, map, refl, Contains, Cell, Grid, Products, values_at, Place, SEAM_DEPTH, shown_at, FillPlace, JoinAddsUp, Window, in_union, place_from, AreWindowsFrom, IsFrom, IsJudgedAt, IsJudgedIn, IsJudgedInSome, IsPlaceIn}
use Rattle.drain_union.proofs.BoxWindows.{down, up, values_same}
use Rattle.drain_union.proofs.JudgedCounts.{add_up_data, add_up_raised, add_up_outlets}

module _ (origin : Cell) (u : Grid) (ps : Products) (box : Place) (windows : List Window) (from : IsFrom origin box)
    (placed : IsPlaceIn u.extent (place_from origin box)) (are : AreWindowsFrom origin u ps windows)
    (fills : FillPlace SEAM_DEPTH box (map (λ w. w.place) windows)) where
  abbrev shown : Window
  shown = shown_at origin box u ps

  within : (w : Window) → Contains windows w → (x : Cell) → IsJudgedIn w.place x → IsJudgedAt box (in_union w.place x)
  within = up (λ (v : Window). v.place) (λ v. v) windows (λ v has. refl) box fills

  whole : (c : Cell) → IsJudgedIn box c → IsJudgedInSome windows (in_union box c)
  whole = down (λ (v : Window). v.place) (λ v. v) windows (λ v has. refl) box fills

  same : (w : Window) → Contains windows w → (x c : Cell) → IsJudgedIn w.place x → IsJudgedIn box c → in_union w.place x ≡ in_union box c →
      values_at w.grid w.products x ≡ values_at shown.grid shown.products c
  same w has x c judged_x judged_c one = values_same origin u ps box from placed w (are w has).0 (are w has).1 x c judged_x.inside one

pub join_adds_up : JoinAddsUp
join_adds_up origin u ps box windows from placed are fills apart =
    let box_window = shown_at origin box u ps in
    let inside = within origin u ps box windows from placed are fills in
    let there = whole origin u ps box windows from placed are fills in
    let alike = same origin u ps box windows from placed are fills in (
      add_up_data box windows inside there apart box_window.grid box_window.products alike,
      add_up_raised box windows inside there apart box_window.grid box_window.products alike,
      add_up_outlets box windows inside there apart box_window.grid box_window.products alike,
    )
