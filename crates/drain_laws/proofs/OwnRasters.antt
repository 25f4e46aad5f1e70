-- The rasters that directions determine: the accumulation, labels and ranks of one's own.
use Rattle.drain_laws.proofs.Names.{◌≡◌, ◌≢◌, ◌↔◌, ◌∙◌, ℕ, ℤ, pos, negsuc, if◌then◌else◌, Option, Some, None, IsNone, IsSome, is_some, refl, sym, ap, false≢true, Cell, run_steps, RanksAreSteps, index_of, Grid, Products, IsInside, HasData, run_end, ShareBasin, upstream_count, NoDataNumbers, run_end-alike, run_steps-alike, upstream-alike, same_index}

-- at a data cell the number, at a void -1
pub from_counts : Grid → (Cell → ℕ) → Cell → ℤ
from_counts g f c = if is_some (g.elevation c) then pos (f c) else negsuc 0

pub from_counts-data : (g : Grid) (f : Cell → ℕ) (c : Cell) → HasData g c → from_counts g f c ≡ pos (f c)
unfolding from_counts
from_counts-data g f c here = at (g.elevation c) here.is_data
  where
    at : (z : Option ℤ) → IsSome z → (if is_some z then pos (f c) else negsuc 0) ≡ pos (f c)
    at None h = absurd (false≢true h)
    at (Some z) h = refl

pub from_counts-void : (g : Grid) (f : Cell → ℕ) (c : Cell) → IsNone (g.elevation c) → from_counts g f c ≡ negsuc 0
unfolding from_counts
from_counts-void g f c void = at (g.elevation c) void
  where
    at : (z : Option ℤ) → IsNone z → (if is_some z then pos (f c) else negsuc 0) ≡ negsuc 0
    at None h = refl
    at (Some z) h = absurd (false≢true (sym h))

pub from_counts-differs : (g : Grid) (f : Cell → ℕ) (c : Cell) → HasData g c → from_counts g f c ≢ negsuc 0
from_counts-differs g f c here none = below_none (f c) (sym (from_counts-data g f c here) ∙ none)
  where
    below_none : (n : ℕ) → pos n ≡ negsuc 0 → ⊥
    below_none n h = cc

-- the place of the run's last cell
pub end_place : Grid → Products → Cell → ℕ
end_place g ps c = index_of g.extent (run_end g ps c)

-- the heights and directions of these products, with the rasters of one's own
abbrev pub own_rasters : Grid → Products → Products
own_rasters g ps = record {
  con = ps.con;
  dir = ps.dir;
  acc = from_counts g (upstream_count g ps);
  bas = from_counts g (end_place g ps);
  spl = ps.spl;
  rnk = from_counts g (run_steps g ps);
}

-- their no-data numbers
abbrev pub own_numbers : NoDataNumbers
own_numbers = record { con = negsuc 0; dir = negsuc 0; acc = negsuc 0; bas = negsuc 0; spl = negsuc 0; rnk = negsuc 0 }

module _ (g : Grid) (ps qs : Products) (same : (c : Cell) → ps.dir c ≡ qs.dir c) where
  pub own_ranks-right : (numbers : NoDataNumbers) → ((c : Cell) → qs.rnk c ≡ from_counts g (run_steps g ps) c) → numbers.rnk ≡ negsuc 0 →
      RanksAreSteps g qs numbers
  own_ranks-right numbers are none = record {
    steps = λ c here. are c ∙ (from_counts-data g (run_steps g ps) c here ∙ ap pos (run_steps-alike g ps qs same c));
    voids = λ c inside void. are c ∙ (from_counts-void g (run_steps g ps) c void ∙ sym none);
    complete = λ c here is. from_counts-differs g (run_steps g ps) c here (sym (are c) ∙ (is ∙ none));
  }

  pub own_counts-right : ((c : Cell) → qs.acc c ≡ from_counts g (upstream_count g ps) c) → (c : Cell) → HasData g c →
      qs.acc c ≡ pos (upstream_count g qs c)
  own_counts-right are c here = are c ∙ (from_counts-data g (upstream_count g ps) c here ∙ ap pos (upstream-alike g ps qs same c))

  place_of : ((c : Cell) → qs.bas c ≡ from_counts g (end_place g ps) c) → (c : Cell) → HasData g c →
      qs.bas c ≡ pos (index_of g.extent (run_end g qs c))
  unfolding end_place
  place_of are c here =
      are c ∙ (from_counts-data g (end_place g ps) c here ∙ ap (λ e. pos (index_of g.extent e)) (run_end-alike g ps qs same c))

  pub own_labels-right : ((c : Cell) → qs.bas c ≡ from_counts g (end_place g ps) c) → ((c : Cell) → HasData g c → IsInside g (run_end g qs c)) →
      (a b : Cell) → HasData g a → HasData g b → (qs.bas a ≡ qs.bas b) ↔ ShareBasin g qs a b
  own_labels-right are inside a b at_a at_b =
      let place_a = place_of are a at_a in
      let place_b = place_of are b at_b in (
        λ h. same_index g.extent (run_end g qs a) (run_end g qs b) (inside a at_a) (inside b at_b)
            (same_pos (index_of g.extent (run_end g qs a)) (index_of g.extent (run_end g qs b)) (sym place_a ∙ (h ∙ place_b))),
        λ h. place_a ∙ (ap (λ e. pos (index_of g.extent e)) h ∙ sym place_b),
      )
    where
      same_pos : (m n : ℕ) → pos m ≡ pos n → m ≡ n
      same_pos m n h = cc
