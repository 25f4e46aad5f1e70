-- The least of the first faults of windows is the first fault of the box that they fill.
use Rattle.drain_union.proofs.Names.{◌≡◌, ◌⊎◌, List, map, refl, sym, subst, Contains, Cell, Rule, NoDataNumbers, unranked, Grid, Products, IsEarlierPair, Place, SEAM_DEPTH, shown_at, FillPlace, JoinTellsFault, Window, in_union, place_from, AreWindowsFrom, IsFirstInside, IsFrom, IsNotBefore, IsPlaceIn, RulesHoldInside}
use Rattle.drain_union.proofs.BoxWindows.{down, up, patch_same}
use Rattle.drain_union.proofs.FirstFaults.{in_window, moved_earlier}
use Rattle.drain_union.proofs.Unions.{by_patch}

module _ (origin : Cell) (u : Grid) (ps : Products) (box : Place) (nodata : NoDataNumbers) (windows : List Window) (from : IsFrom origin box)
    (placed : IsPlaceIn u.extent (place_from origin box)) (are : AreWindowsFrom origin u ps windows)
    (fills : FillPlace SEAM_DEPTH box (map (λ w. w.place) windows)) where
  abbrev shown : Window
  shown = shown_at origin box u ps

  tells : (w : Window) (c : Cell) (r : Rule) → Contains windows w → IsFirstInside nodata w c r →
      ((v : Window) → Contains windows v → RulesHoldInside nodata v ⊎ IsNotBefore nodata v (in_union w.place c) r) →
      (b : Cell) × (in_union box b ≡ in_union w.place c) × IsFirstInside nodata shown b r
  tells w c r has is least =
      let at = up (λ (v : Window). v.place) (λ v. v) windows (λ v has_v. refl) box fills w has c is.judged in
      let of_w = are w has in (
        at.0,
        at.2,
        record {
          judged = at.1;
          is_own = is.is_own;
          fails = λ holds. is.fails
              (by_patch (unranked nodata) shown.grid w.grid shown.products w.products at.0 c r is.is_own
              (sym (patch_same origin u ps box from placed w of_w.0 of_w.1 c at.0 is.judged at.1 (sym at.2))) holds);
          first = λ b q judged own earlier.
              (let one = down (λ (v : Window). v.place) (λ v. v) windows (λ v has_v. refl) box fills b judged in
              let of_v = are one.0 one.1 in
              let before : IsEarlierPair (in_union one.0.place one.2.0) q (in_union w.place c) r =
              subst (λ z. IsEarlierPair z q (in_union w.place c) r) (sym one.2.2)
              (subst (λ z. IsEarlierPair (in_union box b) q z r) at.2 (moved_earlier box b at.0 q r earlier)) in
              by_patch (unranked nodata) one.0.grid shown.grid one.0.products shown.products one.2.0 b q own
              (patch_same origin u ps box from placed one.0 of_v.0 of_v.1 one.2.0 b one.2.1 judged one.2.2)
              (in_window nodata (in_union w.place c) r one.0 one.2.0 q one.2.1 own before (least one.0 one.1)));
        },
      )

pub join_tells_fault : JoinTellsFault
join_tells_fault origin u ps box nodata windows from placed are fills w c r has is least =
    tells origin u ps box nodata windows from placed are fills w c r has is least
