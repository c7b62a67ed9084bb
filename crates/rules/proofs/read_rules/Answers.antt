-- `rules::read_rules` meets its contract: the result is the answer, and the count is the place.
use mathlib.Core.Path.{◌≡◌, ◌∙◌}
use Rattle.format.specs.File.{read_file}
use Rattle.format.specs.Reads.{res_of}
use Rattle.policy.specs.File.{policy_format}
use Rattle.policy.specs.Rules.{policy_of}
use Rattle.rules.proofs.Laws.{whole-answer, whole-bits}
use Rattle.rules.proofs.read_rules.Goals as goal

pub returns : goal.returns
returns c =
    let whole : res_of policy_of c.read_end-answer.result c.read_end-answer.new.reader.bits.at ≡ read_file policy_format c.args.file.now =
    rw c.read_policy-read.ensures.source at c.read_end-answer.ensures in
    let count = c.read_end-answer.new.reader.count_is_place in record {
      answer = whole-answer _ _ _ whole;
      bits = c.taken-bits.ensures ∙ count ∙ whole-bits _ _ _ whole;
    }
