-- `alike::fields::lay` meets its contract. The loop's invariant: the places from k on are filled in, in both tables, and left is the width of
-- these attributes.
use mathlib.Core.Path.{◌≡◌}
use mathlib.Core.List.{List}
use Prim.Native.Nat.{ℕ, suc, ◌+◌, ◌*◌, ◌-◌, ◌≤◌, min}
use lib.ListN.{length, drop}
use Rattle.policy.specs.Policy.{Attr, bits_for, width}
use Rattle.policy.specs.Rules.{attrs_of}
use Rattle.formulas.specs.Value.{attr_of}
use Rattle.formulas.specs.Parts.{Filling}
use Rattle.alike.proofs.fields.lay.Given as goal

abbrev pub right_by : List Attr → ℕ → ℕ → ℕ
right_by l i p = min (width (drop (suc p) l)) 8

abbrev pub own-by : List Attr → ℕ → ℕ → ℕ
own-by l i p = bits_for (attr_of l p)

abbrev pub invariant-loop-k : goal.invariant-loop-k
invariant-loop-k here =
    let l = attrs_of here.class in
    (here.k ≤ min here.class.count 8) × (32 * here.h + 32 ≤ length here.shifts) × (32 * here.h + 32 ≤ length here.bits) × (here.left ≤ 255 * (8 - here.k)) × (here.left ≡ width (drop here.k l))
    × Filling (right_by l) here.h here.h here.k here.initial.shifts here.shifts × Filling (own-by l) here.h here.h here.k here.initial.bits here.bits
