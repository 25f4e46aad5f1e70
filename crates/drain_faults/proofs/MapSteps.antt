-- The numbers of a map, with one cell more or a run of cells of one number; and from row to row.
use Rattle.drain_faults.proofs.Names.{◌≡◌, ℕ, zero, suc, ◌+◌, ◌-◌, ◌<◌, ◌≤◌, is_some, List, [], ◌∷◌, ◌++◌, Option, Some, None, sym, ◌∙◌, ap, subst, arith, append_assoc, replicate, append-nil, Cell, Rules, Patch, Rule, Grid, Products, patch_at, IsAnyRule, IsLeastFault, tried, IsKept, IsRightVoid, cells_above, AreRowPatches, place, FaultTally, AreDrawn, AreMapPixels, IsMapOfCells, IsMapPixel, fault_pixel, IsFoundBefore, cells_before, HoldsIfTried}
use Rattle.std.specs.Prelude.{◌↔◌, IsSome}
use Rattle.drain_faults.specs.declared.fault_map.FaultMap.{FaultMap}
use Rattle.drain_faults.specs.declared.fault_map.TheConstants.{SOUND, SOUND_VOID}
use Rattle.drain_faults.proofs.CellsBefore.{cells_before-all, cells_before-more, cells_before-none}
use Rattle.drain_faults.proofs.FaultSteps.{inside_row}
use Rattle.drain_faults.proofs.TriedRules.{of_kept, of_void, sound_holds, least_at}

-- there is a map still where there was one
pub drawn_still : (old new : Option FaultMap) (more : List ℕ) → AreDrawn old new more → IsSome new ↔ IsSome old
drawn_still None None more drawn = (λ some. some, λ some. some)
drawn_still None (Some new) more drawn = absurd drawn
drawn_still (Some old) None more drawn = absurd drawn
drawn_still (Some old) (Some new) more drawn = (λ some. some, λ some. some)

module _ (rules : Rules) (g : Grid) (ps : Products) where
  pixels_more : (cs : List Cell) (ns : List ℕ) (c : Cell) (n : ℕ) → IsMapPixel rules g ps c n → AreMapPixels rules g ps cs ns →
      AreMapPixels rules g ps (cs ++ c ∷ []) (ns ++ n ∷ [])
  pixels_more [] [] c n pixel all = (pixel, tt)
  pixels_more [] (m ∷ ns) c n pixel all = absurd all
  pixels_more (b ∷ cs) [] c n pixel all = absurd all
  pixels_more (b ∷ cs) (m ∷ ns) c n pixel all = (all.0, pixels_more cs ns c n pixel all.1)

  -- one number more, where there is a map
  map_more : (cs : List Cell) (c : Cell) (n : ℕ) (old new : Option FaultMap) → IsMapPixel rules g ps c n → AreDrawn old new (n ∷ []) →
      IsMapOfCells rules g ps cs old → IsMapOfCells rules g ps (cs ++ c ∷ []) new
  map_more cs c n None None pixel drawn so_far = tt
  map_more cs c n None (Some new) pixel drawn so_far = absurd drawn
  map_more cs c n (Some old) None pixel drawn so_far = absurd drawn
  map_more cs c n (Some old) (Some new) pixel drawn so_far =
      subst (AreMapPixels rules g ps (cs ++ c ∷ [])) (sym drawn) (pixels_more cs old.pixels.items c n pixel so_far)

  pub map_begins : (row : ℕ) (map : Option FaultMap) → IsMapOfCells rules g ps (cells_above g row) map →
      IsMapOfCells rules g ps (cells_before g row 0) map
  map_begins row map above = subst (λ cs. IsMapOfCells rules g ps cs map) (sym (cells_before-none g row)) above

module _ (rules : Rules) (g : Grid) (ps : Products) (row cols : ℕ) (shown : ℕ → Patch) (are : AreRowPatches g ps row cols shown) where
  pub map_ends : (map : Option FaultMap) (col : ℕ) → col ≡ cols → IsMapOfCells rules g ps (cells_before g row col) map →
      IsMapOfCells rules g ps (cells_above g (row + 1)) map
  map_ends map col last so_far =
      let whole : IsMapOfCells rules g ps (cells_before g row g.extent.cols) map =
      subst (λ n. IsMapOfCells rules g ps (cells_before g row n) map) (last ∙ are.cols_are) so_far in
      subst (λ cs. IsMapOfCells rules g ps cs map) (cells_before-all g row) whole

  -- the number of a cleared cell
  kept_pixel : (col : ℕ) → col < cols → IsKept (tried rules) (shown col) → IsMapPixel rules g ps (place row col) SOUND
  kept_pixel col less kept =
      let at : IsKept (tried rules) (patch_at g ps (place row col)) = subst (IsKept (tried rules)) (are.patches_are col less) kept in
      record {
        rule = None;
        least = λ r own. sound_holds (tried rules) g ps (place row col) (of_kept (tried rules) (patch_at g ps (place row col)) at) r;
        number_is = sym (ap (fault_pixel None) at.has_data);
      }

  -- and that of a void at which no rule fails
  void_pixel : (col : ℕ) → col < cols → IsRightVoid (tried rules) (shown col) → IsMapPixel rules g ps (place row col) SOUND_VOID
  void_pixel col less right =
      let at : IsRightVoid (tried rules) (patch_at g ps (place row col)) = subst (IsRightVoid (tried rules)) (are.patches_are col less) right in
      record {
        rule = None;
        least = λ r own. sound_holds (tried rules) g ps (place row col) (of_void (tried rules) (patch_at g ps (place row col)) at) r;
        number_is = sym (ap (fault_pixel None) at.is_void);
      }

  -- those of a run of cells of one number, by induction over the run, after any numbers
  pixel_run : (pixel : ℕ) (ns : List ℕ) (from n : ℕ) → from + n ≤ cols → ((col : ℕ) → from ≤ col → col < from + n → IsMapPixel rules g ps (place row col) pixel) →
      AreMapPixels rules g ps (cells_before g row from) ns → AreMapPixels rules g ps (cells_before g row (from + n)) (ns ++ replicate n pixel)
  pixel_run pixel ns from zero within each so_far =
      let here : from + 0 ≡ from = omega arith in
      subst (λ col. AreMapPixels rules g ps (cells_before g row col) (ns ++ [])) (sym here)
      (subst (AreMapPixels rules g ps (cells_before g row from)) (sym (append-nil ns)) so_far)
  pixel_run pixel ns from (suc n) within each so_far =
      let one : AreMapPixels rules g ps (cells_before g row (from + 1)) (ns ++ pixel ∷ []) =
      subst (λ cs. AreMapPixels rules g ps cs (ns ++ pixel ∷ [])) (sym (cells_before-more g row from))
      (pixels_more rules g ps (cells_before g row from) ns (place row from) pixel (each from (omega arith) (omega arith)) so_far) in
      let rest : AreMapPixels rules g ps (cells_before g row (from + 1 + n)) ((ns ++ pixel ∷ []) ++ replicate n pixel) =
      pixel_run pixel (ns ++ pixel ∷ []) (from + 1) n (omega (arith, within)) (λ col past less. each col (omega (arith, past)) (omega (arith, less))) one in
      let next : from + 1 + n ≡ from + suc n = omega arith in
      subst (λ col. AreMapPixels rules g ps (cells_before g row col) (ns ++ replicate (suc n) pixel)) next
      (subst (AreMapPixels rules g ps (cells_before g row (from + 1 + n))) (append_assoc ns (pixel ∷ []) (replicate n pixel)) rest)

  -- a run of such cells that is drawn
  map_run : (pixel : ℕ) (old new : Option FaultMap) (from end n : ℕ) → from ≤ end → end ≤ cols → n ≡ end - from →
      ((col : ℕ) → from ≤ col → col < end → IsMapPixel rules g ps (place row col) pixel) → AreDrawn old new (replicate n pixel) →
      IsMapOfCells rules g ps (cells_before g row from) old → IsMapOfCells rules g ps (cells_before g row end) new
  map_run pixel None None from end n forward within many each drawn so_far = tt
  map_run pixel None (Some new) from end n forward within many each drawn so_far = absurd drawn
  map_run pixel (Some old) None from end n forward within many each drawn so_far = absurd drawn
  map_run pixel (Some old) (Some new) from end n forward within many each drawn so_far =
      let up_to : from + n ≡ end = omega (arith, many, forward) in
      subst (λ col. AreMapPixels rules g ps (cells_before g row col) new.pixels.items) up_to
      (subst (AreMapPixels rules g ps (cells_before g row (from + n))) (sym drawn)
      (pixel_run pixel old.pixels.items from n (omega (arith, up_to, within)) (λ col past less. each col past (omega (arith, up_to, less))) so_far))

  -- the cells that a row clears, and the voids after them
  pub map_passed : (old mid new : Option FaultMap) (from end last n m : ℕ) → from ≤ end → end ≤ cols → n ≡ end - from →
      ((col : ℕ) → from ≤ col → col < end → IsKept (tried rules) (shown col)) → AreDrawn old mid (replicate n SOUND) →
      end ≤ last → last ≤ cols → m ≡ last - end →
      ((col : ℕ) → end ≤ col → col < last → IsRightVoid (tried rules) (shown col)) → AreDrawn mid new (replicate m SOUND_VOID) →
      IsMapOfCells rules g ps (cells_before g row from) old → IsMapOfCells rules g ps (cells_before g row last) new
  map_passed old mid new from end last n m forward within many kept drawn behind inside more right void_drawn so_far =
      map_run SOUND_VOID mid new end last m behind inside more
      (λ col past less. void_pixel col (omega (arith, less, inside)) (right col past less)) void_drawn
      (map_run SOUND old mid from end n forward within many (λ col past less. kept_pixel col (omega (arith, less, within)) (kept col past less)) drawn so_far)

  -- a cell that was noted
  pub map_noted : (found : FaultTally) (least : Option Rule) (old new : Option FaultMap) (col : ℕ) (p : Patch) → col < cols → p ≡ shown col →
      IsLeastFault IsAnyRule (HoldsIfTried rules found.labels p) least → AreDrawn old new (fault_pixel least (is_some p.here.z) ∷ []) →
      IsFoundBefore rules g ps row col found → IsMapOfCells rules g ps (cells_before g row col) old → IsMapOfCells rules g ps (cells_before g row (col + 1)) new
  map_noted found least old new col p less is fault drawn found_before so_far =
      let cell = place row col in
      let same : p ≡ patch_at g ps cell = is ∙ are.patches_are col less in
      let pixel : IsMapPixel rules g ps cell (fault_pixel least (is_some p.here.z)) = record {
        rule = least;
        least = least_at rules g ps found.labels cell (inside_row rules g ps row cols shown are col less) found_before.before least
            (subst (λ q. IsLeastFault IsAnyRule (HoldsIfTried rules found.labels q) least) same fault);
        number_is = ap (λ (q : Patch). fault_pixel least (is_some q.here.z)) same;
      } in
      subst (λ cs. IsMapOfCells rules g ps cs new) (sym (cells_before-more g row col))
      (map_more rules g ps (cells_before g row col) cell (fault_pixel least (is_some p.here.z)) old new pixel drawn so_far)
