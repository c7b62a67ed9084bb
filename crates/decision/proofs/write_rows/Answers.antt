-- `decision::write_rows` meets its contract.
use Rattle.std.proofs.Common.{arith}
use Rattle.decision.proofs.Decided.{leak-left}
use Rattle.decision.proofs.write_rows.Goals as goal

pub write_leak-requires : goal.write_leak-requires
write_leak-requires c = let pen = c.first_pen-pen.ensures in (omega (arith, pen.ready.at), omega (arith, pen.few), c.requires)

pub returns : goal.returns
returns c =
    let a = c.args in
    let r = a.rules.now in
    let pen = c.first_pen-pen in
    let by = c.name_users-by in
    let aim = c.aim_of-aimed in
    let wrote = c.write_leak in
    leak-left a.users.now r.sessions r.items a.q a.found.now a.own.now a.hit.place a.hit.value _ _ by.result by.ensures pen.result pen.ensures.ready aim.result aim.ensures
    wrote.new.pen wrote.ensures.rows_after wrote.ensures.wrote
