-- Heights, codes and ranks are the default no-data numbers exactly at voids.
use Rattle.drain_flood.proofs.Names.{◌≡◌, ◌≢◌, ℕ, ◌*◌, ◌<◌, ◌≤◌, ◌∙◌, inl, inr, ℤ, pos, ◌≤ℤ◌, ◌<ℤ◌, sym, ap, arith, ints, Direction, East, IsCode, code_of, NO_HEIGHT, MAX_CELLS, rank_at, FlatsArePresent, FloodShowsVoids}
use Rattle.drain_flood.proofs.FlatRules.{good_code}

-- no code of a direction or an outlet is the no-data number
no_blank_code : (z : ℤ) → IsCode z → z ≢ pos 255
no_blank_code z (inl outlet) h = absurd (omega (arith, ints))
no_blank_code z (inr (d, named)) h = by_direction d (sym named ∙ h)
  where
    by_direction : (d : Direction) → pos (code_of d) ≡ pos 255 → ⊥
    by_direction East h = absurd (omega (arith, ints))
    by_direction d h = absurd (omega (arith, ints))

no_blank_rank : (rank cells : ℕ) → rank < cells → cells ≤ MAX_CELLS → pos rank ≢ pos 4294967295
no_blank_rank rank cells less few h = absurd (omega (arith, ints))

covers_above : (con z : ℤ) → z ≤ℤ con → NO_HEIGHT <ℤ z → con ≢ NO_HEIGHT
covers_above con z covers above h = absurd (omega (arith, ints))

pub flood_shows_voids : FloodShowsVoids
flood_shows_voids g f flooded = record {
  voids = flooded.blank;
  differs = λ c here. covers_above _ _ (flooded.surface.covers c here) (flooded.heights c here);
}

pub flats_are_present : FlatsArePresent
flats_are_present g f w ps con few voids are shows c inside = record {
  void = λ void.
      (let way = are.voids c inside void in
      (shows.con c ∙ voids.voids c inside void, shows.dir c ∙ ap pos way.way, shows.rnk c ∙ ap pos way.rank));
  data_con = λ here h. voids.differs c here (sym (shows.con c) ∙ h);
  data_dir = λ here. no_blank_code (ps.dir c) (good_code g f w ps are shows c inside here.is_data);
  data_rnk = λ here h. no_blank_rank (rank_at g.extent w c) (g.extent.rows * g.extent.cols) (are.ranked c here) few (sym (shows.rnk c) ∙ h);
}
