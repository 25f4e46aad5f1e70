use Rattle.drain_flood.proofs.Names.{arith, get_or, pos, rules, ◌∙◌, ◌≡◌, to_z-of_z, w64, SFits, of_z, to_z}
use Rattle.drain_flood.proofs.Turning.{busy_passed, busy_waits, unseen, wait_work}
use Rattle.drain_flood.proofs.tracing.look_again.Goals as goal

pub returns-in_ok-wait-clause-flood : goal.returns-in_ok-wait-clause-flood
returns-in_ok-wait-clause-flood t c = λ g first later same before.
    (let s1 = c.args.flood.now in
    let level = to_z w64 (of_z w64 c.level_at-level.result) in
    let fits : SFits w64 c.level_at-level.result = search rules in
    let level_is : level ≡ get_or s1.con c.args.place (pos 0) = to_z-of_z w64 c.level_at-level.result fits ∙ c.level_at-level.ensures.level in
    busy_waits g first s1 c.look_around.new.self c.args.stand level later c.args.place c.is_at-raises.result c.in_ok-look_around.field-0
    same level_is c.is_at-raises.ensures c.in_ok-look_around.ensures.around before c.wait.new.self c.in_ok-wait.ensures.waits)

pub returns-in_ok-wait-clause-waiting : goal.returns-in_ok-wait-clause-waiting
returns-in_ok-wait-clause-waiting t c =
    let more = wait_work c.args.flood.now c.look_around.new.self c.wait.new.self _ c.args.place c.in_ok-look_around.ensures.work c.in_ok-wait.ensures.waits in
    omega (arith, more)

pub returns-else-branch-clause-flood : goal.returns-else-branch-clause-flood
returns-else-branch-clause-flood t c = λ g first later same before.
    (let s1 = c.args.flood.now in
    let level = to_z w64 (of_z w64 c.level_at-level.result) in
    let fits : SFits w64 c.level_at-level.result = search rules in
    let level_is : level ≡ get_or s1.con c.args.place (pos 0) = to_z-of_z w64 c.level_at-level.result fits ∙ c.level_at-level.ensures.level in
    busy_passed g first s1 c.look_around.new.self c.args.stand level later c.args.place c.is_at-raises.result c.in_ok-look_around.field-0
    same level_is c.is_at-raises.ensures c.in_ok-look_around.ensures.around before (unseen _ _ c.if-branch.false))
