-- `host_steps::start` meets its contract: what `starting::start` leaves, with the next numbers kept where it gives a number.
use Rattle.std.proofs.Common.{ap, ◌∙◌}
use Rattle.rules.specs.Answers.{reading}
use Rattle.live.specs.Lent.{After, host_number}
use Rattle.live.specs.declared.Next.{Next}
use Rattle.host_steps.proofs.Laws.{start_told}
use Rattle.host_steps.proofs.start.Goals as goal

pub returns-in-Ok : goal.returns-in-Ok
unfolding host_number
returns-in-Ok c =
    let a = c.args in
    let k = c.start-begun in
    let next : Next = record { session = a.session.now; item = a.item.now } in
    let e = rw c.in-Ok.is at (start_told k.result.outcome (reading a.file.now) a.sessions.now a.items.now k.new.sessions k.new.items next k.ensures.after) in
    record { value = ap (λ (x : After). host_number x.refusal) e; item_after = ap (λ (x : After). x.lent) e }

pub returns-in-Err : goal.returns-in-Err
unfolding host_number
returns-in-Err c =
    let a = c.args in
    let k = c.start-begun in
    let next : Next = record { session = a.session.now; item = a.item.now } in
    let e = rw c.in-Err.is at (start_told k.result.outcome (reading a.file.now) a.sessions.now a.items.now k.new.sessions k.new.items next k.ensures.after) in
    record { value = c.from-in-Err.ensures ∙ c.from.ensures ∙ ap (λ (x : After). host_number x.refusal) e; item_after = ap (λ (x : After). x.lent) e }
