-- `allowed::user_value` meets its contract: past the last user there is no value.
use mathlib.Core.Path.{sym, ◌∙◌}
use Rattle.allowed.proofs.Laws.{value-at, value_none}
use Rattle.allowed.proofs.holders.user_value.Goals as goal

pub returns-then-u-users : goal.returns-then-u-users
returns-then-u-users c = let a = c.args in c.value.ensures ∙ sym (value-at a.users a.u c.if-u-users.true)

pub returns-else-u-users : goal.returns-else-u-users
returns-else-u-users c = let a = c.args in sym (value_none a.users a.u c.if-u-users.false)
