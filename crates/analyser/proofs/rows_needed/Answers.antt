-- `analyser::rows_needed` meets its contract.
use mathlib.Core.Path.{ap₂, ◌∙◌}
use Prim.Native.Nat.{ℕ, ◌+◌, ◌*◌}
use native.Mathlib.Omega.{arith}
use Rattle.analyser.proofs.Widths.{rows-session, rows-item, rows_are}
use native.Mathlib.Nat.{mul-le-mul}
use Rattle.policy.specs.Policy.{width}
use Rattle.policy.specs.Rules.{attrs_of}
use Rattle.analyser.specs.Checks.{rows_for}
use Rattle.analyser.proofs.rows_needed.Goals as goal

pub returns-then-s-gt-WIDTH : goal.returns-then-s-gt-WIDTH
returns-then-s-gt-WIDTH c =
    let a = c.args in
    rows-session (width (attrs_of a.rules.classes.session)) (width (attrs_of a.rules.classes.item)) (omega (arith, c.class_width-s.ensures.value))

pub returns-then-o-gt-WIDTH : goal.returns-then-o-gt-WIDTH
returns-then-o-gt-WIDTH c =
    let a = c.args in
    rows-item (width (attrs_of a.rules.classes.session)) (width (attrs_of a.rules.classes.item)) (omega (arith, c.class_width-s.ensures.value)) (omega (arith, c.class_width-o.ensures.value))

pub overflow_mul-result : goal.overflow_mul-result
overflow_mul-result c =
    let p = mul-le-mul {n₁ = c.room-k.result} {m₁ = c.room-n.result + 1} {n₂ = 256} {m₂ = 257} (omega arith) (omega arith) in
    omega arith

pub overflow_add-result-2 : goal.overflow_add-result-2
overflow_add-result-2 c =
    let p = mul-le-mul {n₁ = c.room-k.result} {m₁ = c.room-n.result + 1} {n₂ = 256} {m₂ = 257} (omega arith) (omega arith) in
    omega arith

pub overflow_add-result-3 : goal.overflow_add-result-3
overflow_add-result-3 c =
    let p = mul-le-mul {n₁ = c.room-k.result} {m₁ = c.room-n.result + 1} {n₂ = 256} {m₂ = 257} (omega arith) (omega arith) in
    omega arith

pub returns : goal.returns
returns c =
    let a = c.args in
    let s = c.class_width-s.result in
    let o = c.class_width-o.result in
    ap₂ (λ (n k : ℕ). n + k * (n + 1) + 1) c.room-n.ensures.0 c.room-k.ensures.0 ∙ rows_are s o (omega arith) (omega arith)
    ∙ ap₂ rows_for c.class_width-s.ensures.value c.class_width-o.ensures.value
