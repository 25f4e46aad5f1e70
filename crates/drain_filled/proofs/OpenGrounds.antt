-- Which cells of a ground are open, by its marks.
use Rattle.drain_filled.proofs.Names.{DataCells, HasDataCells, IsGapBeside, none_or_some, step_lies, gap_from_void, step, Grid, IsInside, IsOpenCell, IsGap, Cell, Direction, SinkLine, IsSome, IsTrue, List, None, Option, Some, ap, inl, inr, option_map, refl, subst, sym, ℤ, ◌∙◌, ◌≡◌, ◌⊎◌, false≢true}
use Rattle.drain_grid.specs.SinkTexts.{is_listed}

module _ (g : Grid) (w : DataCells) (sinks : List SinkLine) (cells : HasDataCells g w sinks) (c : Cell) (inside : IsInside g c) where
  gap_there : (d : Direction) (o : Option Cell) → step g.extent c d ≡ o → IsGapBeside w c d → IsGap (option_map g.elevation o)
  gap_there d None leads gap = tt
  gap_there d (Some n) leads gap = elim (none_or_some (g.elevation n)) [
    | inl void ↦ gap_from_void (g.elevation n) void
    | inr some ↦ absurd (gap n (ap (λ e. step e c d) (sym cells.extent) ∙ leads)
        (cells.has_data n (record { inside = (step_lies g.extent c n d leads).0; is_data = some })))
  ]

  no_gap : (z : Option ℤ) → IsSome z → IsGap (Some z) → ⊥
  no_gap None some gap = false≢true some
  no_gap (Some z) some gap = gap

  gap_back : (d : Direction) → IsGap (option_map g.elevation (step g.extent c d)) → IsGapBeside w c d
  gap_back d gap n leads mark =
      let at : step g.extent c d ≡ Some n = ap (λ e. step e c d) cells.extent ∙ leads in
      let there : IsInside g n = (step_lies g.extent c n d at).0 in
      elim (none_or_some (g.elevation n)) [
        | inl void ↦ cells.void n there void mark
        | inr some ↦ no_gap (g.elevation n) some (subst (λ o. IsGap (option_map g.elevation o)) at gap)
      ]

  pub opens : IsSome (g.elevation c) → IsTrue (is_listed sinks c) ⊎ ((d : Direction) × IsGapBeside w c d) → IsOpenCell g c
  opens some (inl listed) = (inside, (some, inl (cells.sink c inside ∙ listed)))
  opens some (inr (d, gap)) = (inside, (some, inr (d, gap_there d (step g.extent c d) refl gap)))

  pub is_open_there : IsOpenCell g c → IsTrue (is_listed sinks c) ⊎ ((d : Direction) × IsGapBeside w c d)
  is_open_there (_, (_, inl listed)) = inl (sym (cells.sink c inside) ∙ listed)
  is_open_there (_, (_, inr (d, gap))) = inr (d, gap_back d gap)
