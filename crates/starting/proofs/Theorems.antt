-- The claims of specs/Claims, by their proofs.
use Rattle.starting.specs.Claims.{StartIsTheBeginning, StartIsExact}
use Rattle.starting.proofs.Begin.{start-codes}
use Rattle.starting.proofs.Exact.{start-exact}

pub start-is-the-beginning : StartIsTheBeginning
start-is-the-beginning = start-codes

pub start-is-exact : StartIsExact
start-is-exact = start-exact
