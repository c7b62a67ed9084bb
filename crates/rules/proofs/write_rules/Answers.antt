-- `rules::write_rules` meets its contract: the pass over our own bytes gives the refusal, or the place where the file that they begin with ends.
use mathlib.Core.Path.{refl, sym, ◌∙◌}
use native.Mathlib.Omega.{arith}
use Rattle.std.proofs.lemmas.List.{length-take-le}
use Rattle.format.proofs.Store.{not_written}
use Rattle.policy.specs.File.{policy_format}
use Rattle.rules.proofs.Laws.{writing-is, refused-written, refused-filled}
use Rattle.rules.proofs.Written.{made-file}
use Rattle.rules.proofs.write_rules.Goals as goal

pub returns-in_err-end-clause-value : goal.returns-in_err-end-clause-value
returns-in_err-end-clause-value c = refused-written _ _ _ _ c.from_residual.ensures.1 (writing-is _ ∙ not_written policy_format c.in_err-end.ensures.stores)

pub returns-in_err-end-clause-out_after : goal.returns-in_err-end-clause-out_after
returns-in_err-end-clause-out_after c = refused-filled _ _ _ (writing-is _ ∙ not_written policy_format c.in_err-end.ensures.stores)

pub slice_bounds-file-end : goal.slice_bounds-file-end
slice_bounds-file-end c = let m = made-file c.in_ok-end.ensures.stores in omega (arith, m.room, c.div_ceil.ensures)

pub slice_bounds-copy_front-end : goal.slice_bounds-copy_front-end
slice_bounds-copy_front-end c = let m = made-file c.in_ok-end.ensures.stores in sym (length-take-le _ _ (omega (arith, m.room, c.div_ceil.ensures)))

pub returns-clause-value : goal.returns-clause-value
returns-clause-value c = let m = made-file c.in_ok-end.ensures.stores in c.copy_front.ensures.value ∙ rw (c.div_ceil.ensures, m.file) refl

pub returns-clause-out_after : goal.returns-clause-out_after
returns-clause-out_after c = let m = made-file c.in_ok-end.ensures.stores in c.copy_front.ensures.out_after ∙ rw (c.div_ceil.ensures, m.file) refl
