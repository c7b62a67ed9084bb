-- `formulas::table::fill` meets its contract. The loop's invariant: the places from k on are filled in, in both tables, and x and y are what stands
-- left of these attributes in v and w.
use mathlib.Core.Path.{◌≡◌}
use mathlib.Core.Bool.{cond}
use mathlib.Core.List.{List}
use Prim.Native.Nat.{ℕ, ◌+◌, ◌*◌, ◌/◌, ◌^◌, ◌≤◌, min}
use lib.Dec.{eqb}
use lib.ListN.{length, drop}
use Rattle.policy.specs.Policy.{Attr, width}
use Rattle.policy.specs.Rules.{attrs_of}
use Rattle.formulas.specs.Value.{attr_of, part_of}
use Rattle.formulas.specs.Parts.{Filling}
use Rattle.formulas.proofs.table.fill.Given as goal

-- the attributes' parts of w for the holder h, and of v for the one before it
abbrev pub values-by : List Attr → ℕ → ℕ → ℕ → ℕ → ℕ → ℕ
values-by l h v w i p = part_of l p (cond (eqb i h) w v)

abbrev pub sizes-by : List Attr → ℕ → ℕ → ℕ
sizes-by l i p = (attr_of l p).size

abbrev pub invariant-loop-k : goal.invariant-loop-k
invariant-loop-k here =
    let l = attrs_of here.class in
    (here.k ≤ min here.class.count 8) × (32 * here.h + 32 ≤ length here.values) × (32 * here.h + 32 ≤ length here.sizes) × (here.x ≤ 255) × (here.y ≤ 255)
    × (here.x ≡ here.v / 2 ^ width (drop here.k l)) × (here.y ≡ here.w / 2 ^ width (drop here.k l))
    × Filling (values-by l here.h here.v here.w) here.g here.h here.k here.initial.values here.values × Filling (sizes-by l) here.g here.h here.k here.initial.sizes here.sizes
