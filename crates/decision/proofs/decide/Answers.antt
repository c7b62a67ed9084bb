-- `decision::decide` meets its contract.
use Rattle.std.proofs.Common.{refl}
use Rattle.allowed_rows.proofs.BasisLaws.{basis-model, basis-lists}
use Rattle.decision.proofs.Decided.{decided-safe, decided-leak, place-inside}
use Rattle.decision.proofs.decide.Goals as goal

pub item_values-items-requires-clause-in_lists : goal.item_values-items-requires-clause-in_lists
item_values-items-requires-clause-in_lists c = basis-lists c.args.rules.now c.args.basis.now c.requires.basis_of

pub session_values-own-requires-clause-in_lists : goal.session_values-own-requires-clause-in_lists
session_values-own-requires-clause-in_lists c = basis-lists c.args.rules.now c.args.basis.now c.requires.basis_of

pub first_hit-requires-clause-in_lists : goal.first_hit-requires-clause-in_lists
first_hit-requires-clause-in_lists c = basis-lists c.args.rules.now c.args.basis.now c.requires.basis_of

pub write_rows-end-requires : goal.write_rows-end-requires
write_rows-end-requires c =
    let a = c.args in
    c.item_values-items.ensures.shallow c.in-Some.hit.place
    (place-inside a.rules.now a.users.now a.q _ (basis-model a.rules.now a.basis.now c.requires.basis_of) c.helpers-helpers.result c.item_values-items.result c.session_values-own.result
    c.who_values-who.result c.helpers-helpers.ensures c.item_values-items.ensures.value c.session_values-own.ensures c.who_values-who.ensures c.in-Some.hit c.in-Some.ensures)

pub returns-in-Some : goal.returns-in-Some
returns-in-Some c =
    let a = c.args in
    decided-leak a.rules.now a.users.now a.q _ (basis-model a.rules.now a.basis.now c.requires.basis_of) c.helpers-helpers.result c.item_values-items.result c.session_values-own.result
    c.who_values-who.result c.helpers-helpers.ensures c.item_values-items.ensures.value c.session_values-own.ensures c.who_values-who.ensures c.in-Some.hit c.in-Some.ensures _ _ _ _
    c.count_pairs-pairs.ensures refl refl c.write_rows-end.ensures

pub returns-in-None : goal.returns-in-None
returns-in-None c =
    let a = c.args in
    decided-safe a.rules.now a.users.now a.q _ (basis-model a.rules.now a.basis.now c.requires.basis_of) c.helpers-helpers.result c.item_values-items.result c.session_values-own.result
    c.who_values-who.result c.helpers-helpers.ensures c.item_values-items.ensures.value c.session_values-own.ensures c.who_values-who.ensures _ _ c.count_pairs-pairs.ensures refl refl c.in-None.ensures
