-- `preparing::depending` meets its contract.
use Rattle.dependence.proofs.Depending.{depends-own}
use Rattle.preparing.proofs.depending.Goals as goal

pub returns : goal.returns
returns c = depends-own c.args.nodes.now c.args.f c.args.h c.args.n _ c.depends.ensures.depends
