use Rattle.drain_filled.proofs.Names.{DataCells, HasDataCells, data_mark, none_or_some, UNREACHED, Extent, IsCellOf, Grid, IsInside, Cell, SinkLine, IsSome, List, inl, inr, refl, subst, sym, ◌∙◌, ◌≡◌, false≢true}
use Rattle.drain_filled.proofs.OpenGrounds.{is_open_there, opens}
use Rattle.drain_filled.proofs.first_marks.mark_of.Goals as goal

some_there : (g : Grid) (w : DataCells) (sinks : List SinkLine) (c : Cell) → HasDataCells g w sinks → IsInside g c → data_mark w c ≡ UNREACHED → IsSome (g.elevation c)
some_there g w sinks c cells inside mark =
    elim (none_or_some (g.elevation c)) [
      | inl void ↦ absurd (cells.void c inside void mark)
      | inr some ↦ some
    ]

pub returns-then-is_open : goal.returns-then-is_open
returns-then-is_open c = record {
  mark = λ g cells.
      (let n = c.args.cell in
      let inside : IsInside g n = subst (λ (e : Extent). IsCellOf e n) (sym cells.extent) c.requires.inside in
      let mark = c.has_data.ensures.0 c.if-not-has_data.false in
      let is_open = opens g c.args.ground.now c.args.sinks.now cells n inside (some_there g c.args.ground.now c.args.sinks.now n cells inside mark)
      (c.is_open.ensures.0 c.if-is_open.true) in
      record {
        void = λ void. absurd (cells.void n inside void mark);
        opened = λ opened. refl;
        closed = λ here shut. absurd (shut is_open);
      });
}

pub returns-else-is_open : goal.returns-else-is_open
returns-else-is_open c = record {
  mark = λ g cells.
      (let n = c.args.cell in
      let inside : IsInside g n = subst (λ (e : Extent). IsCellOf e n) (sym cells.extent) c.requires.inside in
      record {
        void = λ void. absurd (cells.void n inside void (c.has_data.ensures.0 c.if-not-has_data.false));
        opened = λ is_open.
            absurd (false≢true (sym c.if-is_open.false ∙ c.is_open.ensures.1 (is_open_there g c.args.ground.now c.args.sinks.now cells n inside is_open)));
        closed = λ here shut. refl;
      });
}

pub returns-then-not-has_data : goal.returns-then-not-has_data
returns-then-not-has_data c = record {
  mark = λ g cells.
      (let n = c.args.cell in
      let other : (data_mark c.args.ground.now n ≡ UNREACHED) → ⊥ = λ is. false≢true (sym c.if-not-has_data.true ∙ c.has_data.ensures.1 is) in
      record {
        void = λ void. refl;
        opened = λ is_open. absurd (other (cells.has_data n (record { inside = is_open.0; is_data = is_open.1.0 })));
        closed = λ here shut. absurd (other (cells.has_data n here));
      });
}
