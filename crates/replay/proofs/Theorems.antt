-- The claims of specs/Claims, by their proofs.
use Rattle.replay.specs.Claims.{QuestionIsAsked, ReplayIsTheRun}
use Rattle.replay.proofs.Asked.{asks-asked, asked-asks}
use Rattle.replay.proofs.Run.{is-the-run}

pub question-is-asked : QuestionIsAsked
question-is-asked = record { asked = asks-asked; only = asked-asks }

pub replay-is-the-run : ReplayIsTheRun
replay-is-the-run = is-the-run
