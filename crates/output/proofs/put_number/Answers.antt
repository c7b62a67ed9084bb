-- The digits, and then one byte.
use Rattle.std.proofs.Common.{◌≡◌, ◌+◌, [], ◌∷◌, ◌++◌, sym, ◌∙◌}
use Rattle.output.specs.Lines.{numeral}
use Rattle.output.specs.Put.{fitting, put_at}
use Rattle.output.proofs.Laws.{put_two, numeral-decimal}
use Rattle.output.proofs.put_number.Goals as goal
use Rattle.output.proofs.put_number.Goals.{After-put_bytes}

both : (c : After-put_bytes) → (c.put_bytes.result ≡ c.args.at + fitting c.args.out.now c.args.at (numeral c.args.n ++ (c.args.end ∷ [])))
    × (c.put_bytes.new.out ≡ put_at c.args.out.now c.args.at (numeral c.args.n ++ (c.args.end ∷ [])))
both c =
    put_two _ _ _ c.as_bytes.result.now _ _ _ _ _ c.requires (c.as_bytes.ensures.value ∙ c.format.ensures.text ∙ sym (numeral-decimal c.args.n c.ranges.n.fits))
    c.put_bytes-next.ensures.value c.put_bytes-next.ensures.out_after c.put_bytes.ensures.value c.put_bytes.ensures.out_after

pub returns-clause-value : goal.returns-clause-value
returns-clause-value c = (both (goal.at.returns-clause-value c).After-put_bytes).0

pub returns-clause-out_after : goal.returns-clause-out_after
returns-clause-out_after c = (both (goal.at.returns-clause-out_after c).After-put_bytes).1
