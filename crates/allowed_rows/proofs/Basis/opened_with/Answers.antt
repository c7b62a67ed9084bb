-- `allowed_rows::Basis::opened_with` meets its contract: of a user that is not there no value, of another what is allowed.
use native.Mathlib.Omega.{arith}
use borrow.Author.Tests.{lt-ltb, le-ltb}
use Rattle.lanes.specs.Lanes.{lane_of}
use Rattle.allowed_rows.specs.Basis.{rules_by, model_by}
use Rattle.allowed.proofs.ModelLaws.{model-users}
use Rattle.allowed_rows.proofs.LaneLaws.{test-holds, test-fails}
use Rattle.allowed_rows.proofs.Basis.opened_with.Goals as goal

pub returns-then-self-u-clause-lanes : goal.returns-then-self-u-clause-lanes
returns-then-self-u-clause-lanes c =
    let m = model_by c.args.self.now in
    test-fails (lane_of c.args.among) (m.may_open c.args.u) _ _ (le-ltb c.args.u m.users (omega (arith, model-users (rules_by c.args.self.now)))) c.none.ensures

pub returns-clause-lanes : goal.returns-clause-lanes
returns-clause-lanes c =
    let m = model_by c.args.self.now in
    test-holds (lane_of c.args.among) (m.may_open c.args.u) _ _
    (lt-ltb c.args.u m.users (omega (arith, model-users (rules_by c.args.self.now), c.if-self-u.false))) c.allowed.ensures.lanes
