-- `rights_c::rights_analyse` meets its contract: it is what `host_answers::answer` promises.
use Rattle.rights_c.proofs.rights_analyse.Goals as goal

pub returns : goal.returns
returns c = c.answer.ensures
