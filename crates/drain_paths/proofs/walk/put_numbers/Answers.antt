use Rattle.drain_paths.proofs.Names.{◌≡◌, ◌≢◌, ◌+◌, ◌-◌, ◌*◌, ◌≤◌, ℕ, inl, inr, subst, arith, rules, cases_eq, MAX_LENGTH, Grid, Products, IsWalk, AreFlowsOf}
use Rattle.drain_paths.proofs.FlowCells.{data_at}
use Rattle.drain_paths.proofs.GridFlows.{of_some}
use Rattle.drain_paths.proofs.NumbersSoFar.{AreNumbersSoFar-put, IsWalk-rest, IsWalk-stuck, known_put, numbered_behind}
use Rattle.drain_paths.proofs.walk.put_numbers.Goals as goal

one_less : (steps walked : ℕ) → steps - walked - 1 ≡ steps - (walked + 1)
one_less steps walked = omega arith

pub loop-walked-preserved : goal.loop-walked-preserved
loop-walked-preserved t c =
    let e = c.args.shape in
    let flows = (t.W.Ways.flows c.args.ways.now) in
    let unknown = t.N.PathNumber.UNKNOWN in
    let number_of = t.N.PathNumber.number_of in
    let inv = c.loop-walked.invariant in
    let left = c.args.ahead.steps - c.loop-walked.walked in
    let cells = c.cells-cells.ensures in
    let few : e.rows * e.cols ≤ MAX_LENGTH * MAX_LENGTH = omega (arith, cells.product, cells.few) in
    let found = λ (g : Grid) (ps : Products) (are : AreFlowsOf g ps e flows).
    numbered_behind g ps e unknown number_of c.args.ahead.number left c.behind-number.result c.loop-walked.here c.args.ahead.cell are.extent few c.behind-number.ensures
    (inv.left g ps are) (data_at g ps e flows are c.loop-walked.here inv.inside inv.has_data) (c.requires.ahead g ps are).there in
    let some = of_some e flows (c.behind-number.result ≢ unknown) (λ g ps are. (found g ps are).0) in
    record {
      counted = search rules;
      inside = c.in-Some.ensures.inside;
      has_data = c.in-Some.ensures.has_data;
      left = λ g ps are.
          (let here = data_at g ps e flows are c.loop-walked.here inv.inside inv.has_data in
          subst (λ k. IsWalk g ps k c.in-Some.next c.args.ahead.cell) (one_less c.args.ahead.steps c.loop-walked.walked)
          (IsWalk-rest g ps left c.loop-walked.here c.in-Some.next c.args.ahead.cell (inv.left g ps are) (omega arith) (c.in-Some.ensures.leads g ps are here)));
      so_far = λ g ps are. AreNumbersSoFar-put g ps e unknown number_of c.loop-walked.numbers c.put_at.new.numbers c.loop-walked.here c.behind-number.result
          (inv.so_far g ps are) (found g ps are).1 some c.put_at.ensures;
      first = λ none. absurd (omega arith);
      later = λ more.
          known_put e unknown c.loop-walked.numbers c.put_at.new.numbers c.loop-walked.here c.args.start c.behind-number.result some c.put_at.ensures
          c.requires.inside (elim (cases_eq c.loop-walked.walked 0) [
            | inl none ↦ inl (inv.first none)
            | inr past ↦ inr (inv.later (omega arith))
          ]);
      others = λ d inside known.
          known_put e unknown c.loop-walked.numbers c.put_at.new.numbers c.loop-walked.here d c.behind-number.result some c.put_at.ensures inside
          (inr (inv.others d inside known));
    }

pub returns-in-None : goal.returns-in-None
returns-in-None t c =
    let e = c.args.shape in
    let flows = (t.W.Ways.flows c.args.ways.now) in
    let inv = c.loop-walked.invariant in
    absurd (of_some e flows ⊥ (λ g ps are.
    (let here = data_at g ps e flows are c.loop-walked.here inv.inside inv.has_data in
    IsWalk-stuck g ps (c.args.ahead.steps - c.loop-walked.walked) c.loop-walked.here c.args.ahead.cell (inv.left g ps are) (omega arith)
    (c.in-None.ensures.leads g ps are here))))
