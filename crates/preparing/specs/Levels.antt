-- The lists of steps of a formula: of which nodes they are, and how each step is made.
-- Assumes nothing.
use Rattle.std.specs.Prelude.{Bool, true, false, not, ◌||◌, List, ℕ, get_or}
use Rattle.prepared.specs.Level.{node_step, steps_of}
use Rattle.prepared.specs.Prepared.{table_at}
use Rattle.tables.specs.Tables.{marks_at}
use Rattle.tables.specs.declared.Marks.{Marks}
use Rattle.tables.specs.declared.On.{On}
use Rattle.preparing.specs.declared.steps.Level.{Level}
use Rattle.preparing.specs.declared.steps.Level.TheVariants.{Outer, Across, Board, Row}
use Rattle.preparing.specs.declared.steps.Way.{Way}

-- whether a list has the step of a node, by the holders that the node depends on
abbrev pub chosen : Level → On → Bool
chosen Outer on = not (on.lane || on.row)
chosen Across on = not on.lane
chosen Board on = not on.row
chosen Row on = on.row

abbrev pub way_of : Level → On → Way
way_of Outer on = record { own = 129; from = 65; differ = true; indexed = false }
way_of Across on = record { own = 65; from = 129; differ = on.row; indexed = on.outer }
way_of Board on = record { own = 1; from = 129; differ = on.lane; indexed = on.outer }
way_of Row on = record { own = 1; from = 65; differ = on.lane; indexed = on.row }

-- the step of node k
abbrev pub made_by : Way → List ℕ → ℕ → ℕ → ℕ
made_by w nodes room k = node_step w.own w.from w.differ w.indexed (get_or nodes k 0) k (table_at room k)

-- the list for the first n nodes
abbrev pub level_steps : Level → List ℕ → Marks → ℕ → ℕ → List ℕ
level_steps l nodes m room n = steps_of (λ k. chosen l (marks_at m k)) (λ k. made_by (way_of l (marks_at m k)) nodes room k) n
