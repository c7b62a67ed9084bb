-- The claims of specs/Claims.antt, one line each.
use Rattle.allowed.specs.Claims.{ListNumbersDoNotMatter}
use Rattle.allowed.proofs.ModelLaws.{model-unlisted}

pub list-numbers-do-not-matter : ListNumbersDoNotMatter
list-numbers-do-not-matter = model-unlisted
