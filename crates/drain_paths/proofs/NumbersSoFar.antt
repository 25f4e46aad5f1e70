-- Numbers that walks find, cell by cell: what a write leaves known, and cells whose run has no end.
use Rattle.drain_paths.proofs.Names.{◌≡◌, ◌≢◌, ◌∙◌, ◌⊎◌, ℕ, zero, suc, ◌-◌, ◌*◌, ◌<◌, ◌≤◌, inl, inr, List, Some, None, sym, ap, subst, arith, cases_eq, Cell, MAX_LENGTH, IsFirstEndless, IsCellOf, index_of, Extent, Grid, Products, HasData, next, RunEnds, in_grid, earlier_index, same_or_not, none_some, same_some, void_data, IsWalk, endless-stuck, cell_number, IsPutAt, Numbering, IsNumbered, IsNumberBehind, AreNumbersSoFar, AreNumbers}
use Rattle.drain_paths.proofs.Shorter.{RunEnds-walk}

-- what had a number still has one
pub known_put : (e : Extent) (unknown : ℕ) (numbers after : List ℕ) (c d : Cell) (number : ℕ) → number ≢ unknown → IsPutAt e numbers after c number → IsCellOf e d →
    (c ≡ d) ⊎ (cell_number e numbers d ≢ unknown) → cell_number e after d ≢ unknown
known_put e unknown numbers after c d number some put inside known none = elim (same_or_not c d) [
  | inl one ↦ some (sym put.there ∙ (ap (cell_number e after) one ∙ none))
  | inr other ↦ elim known [
    | inl one ↦ other one
    | inr before ↦ before (sym (put.elsewhere d inside (λ same. other (sym same))) ∙ none)
  ]
]

-- a walk without its first step
pub IsWalk-rest : (g : Grid) (ps : Products) (k : ℕ) (c n d : Cell) → IsWalk g ps k c d → 0 < k → next g ps c ≡ Some n → IsWalk g ps (k - 1) n d
IsWalk-rest g ps zero c n d walk some leads = absurd (omega (arith, some))
IsWalk-rest g ps (suc k) c n d walk some leads =
    let way = walk.leads in
    let one_less : k ≡ suc k - 1 = omega arith in
    subst (λ j. IsWalk g ps j n d) one_less (subst (λ x. IsWalk g ps k x d) (same_some way.0 n (sym way.1 ∙ leads)) (record { leads = way.2 }))

-- and it has a first step
pub IsWalk-stuck : (g : Grid) (ps : Products) (k : ℕ) (c d : Cell) → IsWalk g ps k c d → 0 < k → next g ps c ≡ None → ⊥
IsWalk-stuck g ps zero c d walk some stops = absurd (omega (arith, some))
IsWalk-stuck g ps (suc k) c d walk some stops = none_some walk.leads.0 (sym stops ∙ walk.leads.1)

module _ (g : Grid) (ps : Products) (e : Extent) (unknown : ℕ) (number_of : Numbering) where
  -- the number of a data cell from which a walk leads to a cell with a number
  pub numbered_behind : (number steps behind : ℕ) (c d : Cell) → g.extent ≡ e → e.rows * e.cols ≤ MAX_LENGTH * MAX_LENGTH →
      IsNumberBehind unknown number_of number steps behind → IsWalk g ps steps c d → HasData g c → IsNumbered g ps number_of d number →
      (behind ≢ unknown) × IsNumbered g ps number_of c behind
  numbered_behind number steps behind c d extent few is walk here there =
      let cells : g.extent.rows * g.extent.cols ≤ MAX_LENGTH * MAX_LENGTH = subst (λ (x : Extent). x.rows * x.cols ≤ MAX_LENGTH * MAX_LENGTH) (sym extent) few in
      let found = is g ps c d cells walk here there in
      (found.0, record { here = here; ends = RunEnds-walk g ps steps c d walk there.ends; is = found.1 })

  -- a cell without a number that leads nowhere
  pub endless_here : (numbers : List ℕ) (d : Cell) → AreNumbersSoFar g ps e unknown number_of numbers → HasData g d →
      cell_number e numbers d ≡ unknown → next g ps d ≡ None → ¬ RunEnds g ps d
  endless_here numbers d are there none stops = endless-stuck g ps d stops (λ is_zero. are.outlets d there is_zero none)

  -- a known number is that of its cell
  pub numbered_at : (numbers : List ℕ) (d : Cell) (number : ℕ) → AreNumbersSoFar g ps e unknown number_of numbers → HasData g d →
      number ≡ cell_number e numbers d → number ≢ unknown → IsNumbered g ps number_of d number
  numbered_at numbers d number are there is some =
      subst (IsNumbered g ps number_of d) (sym is) (are.right d there.inside (λ none. some (is ∙ none)))

  -- a number that is written
  pub AreNumbersSoFar-put : (numbers after : List ℕ) (c : Cell) (number : ℕ) → AreNumbersSoFar g ps e unknown number_of numbers →
      IsNumbered g ps number_of c number → number ≢ unknown → IsPutAt e numbers after c number → AreNumbersSoFar g ps e unknown number_of after
  AreNumbersSoFar-put numbers after c number are is some put = record {
    extent = are.extent;
    right = λ d inside known. elim (same_or_not c d) [
      | inl one ↦ subst (λ x. IsNumbered g ps number_of x (cell_number e after x)) one (subst (IsNumbered g ps number_of c) (sym put.there) is)
      | inr other ↦
          (let kept = put.elsewhere d (in_grid g e d are.extent inside) (λ same. other (sym same)) in
          subst (IsNumbered g ps number_of d) (sym kept) (are.right d inside (λ none. known (kept ∙ none))))
    ];
    outlets = λ d here is_zero. known_put e unknown numbers after c d number some put (in_grid g e d are.extent here.inside) (inr (are.outlets d here is_zero));
  }

  -- the first cell from which no walk reaches a number
  pub first_endless : (numbers : List ℕ) (k : ℕ) (c : Cell) → AreNumbersSoFar g ps e unknown number_of numbers →
      ((b : Cell) → HasData g b → index_of e b < k → cell_number e numbers b ≢ unknown) → index_of e c ≡ k → HasData g c → ¬ RunEnds g ps c → IsFirstEndless g ps c
  first_endless numbers k c are passed at here endless = record {
    here = here;
    endless = endless;
    first = λ b there before.
        (let less = earlier_index e b c (in_grid g e b are.extent there.inside) before in
        (are.right b there.inside (passed b there (omega (arith, less, at)))).ends);
  }

  -- the numbers of all data cells
  pub AreNumbers-all : (numbers : List ℕ) → AreNumbersSoFar g ps e unknown number_of numbers →
      ((c : Cell) → HasData g c → cell_number e numbers c ≢ unknown) → AreNumbers g ps e unknown number_of numbers
  AreNumbers-all numbers are known = record {
    extent = are.extent;
    ends = λ c here. (are.right c here.inside (known c here)).ends;
    numbers_are = λ c here. (are.right c here.inside (known c here)).is;
    some = known;
    voids = λ c inside void. elim (cases_eq (cell_number e numbers c) unknown) [
      | inl none ↦ none
      | inr some ↦ absurd (void_data (g.elevation c) void (are.right c inside some).here.is_data)
    ];
  }
