use Rattle.drain_explain.proofs.fault_visitor.new_walk.Goals as goal

pub returns-in_ok-drawing-in-Drawn-clause-begun : goal.returns-in_ok-drawing-in-Drawn-clause-begun
returns-in_ok-drawing-in-Drawn-clause-begun c = λ rules g ps. record {
  rows_are = c.in_ok-drawing-in-Drawn.ensures.rows;
  found = c.in_ok-drawing-in-Drawn.ensures.found rules g ps;
  counted = c.in_ok-drawing-in-Drawn.ensures.counted g ps;
  map = c.in_ok-drawing-in-Drawn.ensures.map rules g ps;
}

pub returns-in-Undrawn-clause-begun : goal.returns-in-Undrawn-clause-begun
returns-in-Undrawn-clause-begun c = λ rules g ps. record {
  rows_are = c.new.ensures.rows;
  found = c.new.ensures.found rules g ps;
  counted = c.new.ensures.counted g ps;
  map = c.new.ensures.map rules g ps;
}
