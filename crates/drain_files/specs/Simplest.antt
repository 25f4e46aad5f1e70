-- The ratio of the least whole numbers that lies between two others.
use Rattle.std.specs.Prelude.{ℕ, ◌*◌, ◌<◌, ◌≤◌}
use Rattle.drain_files.specs.declared.simplest.Ratio.{Ratio}

-- two ratios, the first of which isn't above the second
pub record AreBounds (low high : Ratio) : Type 0 where
  pub some_low : 0 < low.height
  pub some_high : 0 < high.height
  pub ordered : low.width * high.height ≤ high.width * low.height

-- the ratio of these two numbers isn't below the one, nor above the other
pub record IsBetween (low high : Ratio) (w h : ℕ) : Type 0 where
  pub some : 0 < h
  pub not_below : low.width * h ≤ w * low.height
  pub not_above : w * high.height ≤ high.width * h

-- and no two numbers in between have a smaller width or a smaller height
pub record IsSimplest (low high r : Ratio) : Type 0 where
  pub between : IsBetween low high r.width r.height
  pub least : (w h : ℕ) → IsBetween low high w h → (r.width ≤ w) × (r.height ≤ h)
