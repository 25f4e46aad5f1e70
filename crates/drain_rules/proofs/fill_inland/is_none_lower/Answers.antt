use Rattle.drain_rules.proofs.Names.{◌≡◌, ◌∙◌, ℤ, ◌≤ℤ◌, int_lt, false, w16, to_z, of_z, get_or, ap, arith, below_more, ints, to_z-of_z, East, directions, of_each, con_at, place_beside}
use Rattle.drain_rules.proofs.fill_inland.is_none_lower.Goals as goal

not_below : (a b : ℤ) → int_lt a b ≡ false → b ≤ℤ a
not_below a b h = grind (arith, ints)

pub loop-direction-preserved : goal.loop-direction-preserved
loop-direction-preserved c =
    let side = c.args.input.now.shape.rows in
    let bytes = c.args.input.now.bytes.now in
    let con = to_z w16 (of_z w16 c.args.con) in
    let same : to_z w16 (of_z w16 c.con.result) ≡ c.con.result = to_z-of_z w16 c.con.result (record { sfits = c.con.type_inv }) in
    let there : c.con.result ≡ con_at side bytes (place_beside side c.args.place (get_or directions c.loop-direction.direction-index East)) =
    c.con.ensures ∙ ap (con_at side bytes) c.place_beside.ensures.lies in
    let no_lower : int_lt c.con.result con ≡ false = rw same at c.if-con.false in
    let here : con ≤ℤ c.con.result = not_below c.con.result con no_lower in
    below_more (λ k. con ≤ℤ con_at side bytes (place_beside side c.args.place (get_or directions k East))) c.loop-direction.direction-index
    c.loop-direction.invariant (rw there at here)

pub returns : goal.returns
returns c = λ _.
    let side = c.args.input.now.shape.rows in
    let same : to_z w16 (of_z w16 c.args.con) ≡ c.args.con = to_z-of_z w16 c.args.con c.ranges.con in
    of_each (λ d. c.args.con ≤ℤ con_at side c.args.input.now.bytes.now (place_beside side c.args.place d)) c.loop-direction.direction-index (omega arith)
    (rw same at c.loop-direction.invariant)
