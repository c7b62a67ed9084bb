-- `analyser::answer_in` meets its contract: each refusal is the first that the definition gives; a question that is decided gets its verdict, counts
-- and leak by the searches, which are the closures of what runs can do.
use mathlib.Core.Path.{◌∙◌, subst}
use native.Mathlib.Omega.{arith}
use mathlib.Core.List.{List}
use Rattle.policy.specs.Rules.{policy_of}
use Rattle.policy.specs.declared.Rules.{Rules}
use Rattle.runs.specs.Model.{Model}
use Rattle.allowed.specs.Allowed.{model_of}
use Rattle.allowed_rows.specs.Basis.{BasisOf, model_by}
use Rattle.allowed_rows.specs.declared.Basis.{Basis}
use Rattle.allowed_rows.proofs.BasisLaws.{basis-model, basis-lists}
use Rattle.allowed_rows.proofs.ScratchLaws.{scratch-kept}
use Rattle.search.specs.declared.queue.Found.{Found}
use Rattle.user_results.specs.Found.{UsersFound}
use Rattle.refusal.specs.Number.{number_of}
use Rattle.refusal.specs.declared.Refusal.{Refusal}
use Rattle.steps.proofs.Files.{file-sound}
use Rattle.replay.specs.declared.question.Question.{Question}
use Rattle.user_results.proofs.Laws.{users-few}
use Rattle.decision.specs.Decide.{DecidedBy}
use Rattle.analyser.proofs.Decides.{decided-means, refused-sessions-is-told, refused-question-is-told, refused-room-is-told, rows_for-needed, permission-there}
use Rattle.analyser.proofs.Refusals.{gives-number, held, denied}
use borrow.Author.Rules.{rules}
use Rattle.analyser.proofs.answer_in.Goals as goal

-- the searches by the basis of rules are those of the rules
found-by : (r : Rules) (b : Basis) (users : List Found) → BasisOf r b → UsersFound (model_by b) users → UsersFound (model_of (policy_of r)) users
found-by r b users B = subst (λ (m : Model). UsersFound m users) (basis-model r b B)

pub search_users-users-requires : goal.search_users-users-requires
search_users-users-requires c =
    let o = c.basis_of-basis in record { in_lists = basis-lists c.args.rules.now o.result o.ensures; scratch = c.requires.scratch o.result o.ensures }

pub returns-then-not-starts_brought : goal.returns-then-not-starts_brought
unfolding number_of
returns-then-not-starts_brought c =
    gives-number _ _ _ Refusal.Start
    (refused-sessions-is-told _ _ _ c.args.rules.now _ c.requires.file_value (found-by c.args.rules.now _ _ c.basis_of-basis.ensures c.search_users-users.ensures) (denied c.starts_brought.ensures c.if-not-starts_brought.true))

pub returns-then-not-asks : goal.returns-then-not-asks
unfolding number_of
returns-then-not-asks c =
    let brought = held c.starts_brought.ensures c.if-not-starts_brought.false in
    gives-number _ _ _ Refusal.Question
    (refused-question-is-told _ _ _ c.args.rules.now _ c.requires.file_value (found-by c.args.rules.now _ _ c.basis_of-basis.ensures c.search_users-users.ensures) brought (denied c.asks.ensures c.if-not-asks.true))

pub returns-then-rows-rows_needed : goal.returns-then-rows-rows_needed
unfolding number_of
returns-then-rows-rows_needed c =
    let brought = held c.starts_brought.ensures c.if-not-starts_brought.false in
    let asked = held c.asks.ensures c.if-not-asks.false in
    let need = c.rows_needed.ensures ∙ rows_for-needed c.args.rules.now (file-sound _ _ c.requires.file_value) in
    gives-number _ _ _ Refusal.Room
    (refused-room-is-told _ _ _ c.args.rules.now _ c.requires.file_value (found-by c.args.rules.now _ _ c.basis_of-basis.ensures c.search_users-users.ensures) brought asked (omega (arith, need, c.if-rows-rows_needed.true)))

pub decide-decision-requires : goal.decide-decision-requires
decide-decision-requires c =
    let o = c.basis_of-basis in
    let asked = held c.asks.ensures c.if-not-asks.false in record { by_index = users-few _ _ c.search_users-users.ensures; basis_of = o.ensures; scratch = scratch-kept (c.requires.scratch o.result o.ensures) c.search_users-users.auto.area; permission_bound = permission-there c.args.rules.now o.result _ _ o.ensures asked c.of-q.ensures }

pub returns : goal.returns
returns c =
    let a = c.args in
    let brought = held c.starts_brought.ensures c.if-not-starts_brought.false in
    let asked = held c.asks.ensures c.if-not-asks.false in
    let need = c.rows_needed.ensures ∙ rows_for-needed a.rules.now (file-sound _ _ c.requires.file_value) in
    decided-means a.file.now a.question.now a.rows.now _ a.rules.now _ _ _ c.requires.file_value (found-by a.rules.now _ _ c.basis_of-basis.ensures c.search_users-users.ensures) brought asked
    (omega (arith, need, c.if-rows-rows_needed.false))
    (subst (λ (x : Question). DecidedBy a.rules.now c.search_users-users.result x a.rows.now c.decide-decision.new.rows c.decide-decision.result)
    c.of-q.ensures c.decide-decision.ensures)
    c.answer_of.ensures
