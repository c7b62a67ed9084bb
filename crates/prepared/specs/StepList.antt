-- A list of steps as the struct holds it.
-- Assumes nothing.
use Rattle.std.specs.Prelude.{List, ℕ, take}
use Rattle.prepared.specs.declared.step_list.StepList.{StepList}

-- its steps, in order
abbrev pub listed : StepList → List ℕ
listed l = take l.len l.steps
