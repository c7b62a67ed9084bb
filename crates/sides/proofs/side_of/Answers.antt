-- `sides::side_of` meets its contract: a constant, nothing, an attribute of the lanes' holder, of the rows' holder, of another.
use mathlib.Core.Path.{◌≡◌, sym, ap, ◌∙◌, subst}
use mathlib.Core.List.{List}
use Prim.Native.Nat.{ℕ, ◌/◌, ◌%◌}
use native.Mathlib.Omega.{arith}
use Rattle.policy.specs.Policy.{Attr, Lists}
use Rattle.policy.specs.Nodes.{holder_of, place_of, of_holder}
use Rattle.policy.specs.Rules.{lists_of}
use Rattle.sides.specs.Side.{field_of, Tells}
use Rattle.sides.specs.declared.Field.{Field}
use Rattle.sides.specs.declared.Side.{Side}
use Rattle.sides.specs.declared.Side.TheVariants.{Row, Lane, Constant}
use Rattle.sides.proofs.Sides.{tells-constant, tells_none, tells-lane, tells_row, tells-zero}
use Rattle.sides.proofs.side_of.Goals as goal

-- a side that is made of the operand's field
by_field : (l : Lists) (lane row x : ℕ) (side : Field → Side) (m : List Attr) (f : Field) → f ≡ field_of m (x % 32) → m ≡ of_holder l (x / 32)
    → Tells l lane row x (side (field_of (of_holder l (x / 32)) (x % 32))) → Tells l lane row x (side f)
by_field l lane row x side m f p q t = subst (λ (f : Field). Tells l lane row x (side f)) (sym (p ∙ ap (λ (m : List Attr). field_of m (x % 32)) q)) t

pub returns-then-h-eq5 : goal.returns-then-h-eq5
unfolding holder_of place_of
returns-then-h-eq5 c = let a = c.args in tells-constant (lists_of a.classes) a.lane a.row a.x c.if-h-eq5.true

pub returns-then-h-gt5 : goal.returns-then-h-gt5
unfolding holder_of
returns-then-h-gt5 c = let a = c.args in tells_none (lists_of a.classes) a.lane a.row a.x c.if-h-gt5.true

pub returns-then-h-lane : goal.returns-then-h-lane
unfolding holder_of place_of
returns-then-h-lane c =
    let a = c.args in
    let l = lists_of a.classes in
    by_field l a.lane a.row a.x Lane _ _ c.field_of-f.ensures c.class_of.ensures (tells-lane l a.lane a.row a.x (omega arith) c.if-h-lane.true)

pub returns-then-h-row : goal.returns-then-h-row
unfolding holder_of place_of
returns-then-h-row c =
    let a = c.args in
    let l = lists_of a.classes in
    by_field l a.lane a.row a.x Row _ _ c.field_of-f.ensures c.class_of.ensures (tells_row l a.lane a.row a.x (omega arith) c.if-h-lane.false c.if-h-row.true)

pub returns : goal.returns
unfolding holder_of place_of
returns c =
    let a = c.args in
    let l = lists_of a.classes in
    by_field l a.lane a.row a.x (λ f. Constant 0 f.size) _ _ c.field_of-f.ensures c.class_of.ensures (tells-zero l a.lane a.row a.x (omega arith) c.if-h-lane.false c.if-h-row.false)
