-- List numbers do not matter for what formulas say. In order: one attribute, its value and its size; operands; comparisons, nodes and formulas.
use mathlib.Core.Path.{◌≡◌, refl, ap, ap₂, ◌∙◌}
use mathlib.Core.Bool.{Bool, false, cond}
use mathlib.Core.List.{List, [], ◌∷◌, ◌++◌}
use Prim.Native.Nat.{ℕ, zero, suc, ◌-◌, ◌/◌, ◌%◌, ◌^◌}
use lib.Dec.{ltb, eqb}
use lib.ListN.{length, get_or, drop}
use Rattle.policy.specs.Policy.{Attr, no_attr, unlisted, Lists, bits_for, width}
use Rattle.policy.specs.Nodes.{op_of, first_of, second_of, holder_of, place_of, of_holder}
use Rattle.policy.proofs.Laws.{bits-unlisted, width-unlisted}
use Rattle.formulas.specs.Value.{attr_of, part_of, held_by, operand, size_of_operand}
use Rattle.formulas.specs.Meaning.{compared, node_says, said, holds}
use Rattle.formulas.specs.Parts.{compared_by, joined_by, joined}
use Rattle.formulas.specs.declared.Holders.{Holders}

drop-unlisted : (k : ℕ) (l : List Attr) → drop k (unlisted l) ≡ unlisted (drop k l)
unfolding unlisted
drop-unlisted zero l = refl
drop-unlisted (suc k) [] = refl
drop-unlisted (suc k) (a ∷ l) = drop-unlisted k l

attr-unlisted : (l : List Attr) (k : ℕ) → attr_of (unlisted l) k ≡ record { kind = (attr_of l k).kind; size = (attr_of l k).size; list = 0 }
unfolding attr_of unlisted no_attr
attr-unlisted [] k = refl
attr-unlisted (a ∷ l) zero = refl
attr-unlisted (a ∷ l) (suc k) = attr-unlisted l k

size-unlisted : (l : List Attr) (k : ℕ) → (attr_of (unlisted l) k).size ≡ (attr_of l k).size
size-unlisted l k = ap (λ (a : Attr). a.size) (attr-unlisted l k)

part-unlisted : (l : List Attr) (k v : ℕ) → part_of (unlisted l) k v ≡ part_of l k v
unfolding part_of
part-unlisted l k v =
    ap₂ (λ (w b : ℕ). v / 2 ^ w % 2 ^ b) (ap width (drop-unlisted (suc k) l) ∙ width-unlisted (drop (suc k) l))
    (ap bits_for (attr-unlisted l k) ∙ bits-unlisted (attr_of l k))

-- d has the attributes of c, each of list 0
module _ (c d : Lists) (same : (h : ℕ) → of_holder d h ≡ unlisted (of_holder c h)) where
  sizes-same : (x : ℕ) → size_of_operand d x ≡ size_of_operand c x
  unfolding size_of_operand
  sizes-same x =
      let h = holder_of x in
      ap (λ (n : ℕ). cond (ltb h 5) n 0) (ap (λ (l : List Attr). (attr_of l (place_of x)).size) (same h) ∙ size-unlisted (of_holder c h) (place_of x))

  module _ (v : Holders) where
    operands_same : (x : ℕ) → operand d v x ≡ operand c v x
    unfolding operand
    operands_same x =
        let h = holder_of x in
        let k = place_of x in
        ap (λ (n : ℕ). cond (ltb h 5) n (cond (eqb h 5) k 0))
        (ap (λ (l : List Attr). part_of l k (held_by v h)) (same h) ∙ part-unlisted (of_holder c h) k (held_by v h))

    compared_same : (op a b : ℕ) → compared d v op a b ≡ compared c v op a b
    unfolding compared compared_by
    compared_same op a b = λ i. compared_by op (operands_same a i) (sizes-same a i) (operands_same b i) (sizes-same b i)

    node-same : (before : List Bool) (node : ℕ) → node_says d v before node ≡ node_says c v before node
    unfolding node_says joined joined_by
    node-same before node = ap (joined before node) (compared_same (op_of node) (first_of node) (second_of node))

    said_same : (nodes : List ℕ) (n : ℕ) → said d v nodes n ≡ said c v nodes n
    unfolding said
    said_same nodes zero = refl
    said_same nodes (suc n) =
        let x = get_or nodes n 0 in
        let before = said c v nodes n in
        ap (λ (l : List Bool). l ++ node_says d v l x ∷ []) (said_same nodes n) ∙ ap (λ (b : Bool). before ++ b ∷ []) (node-same before x)

    pub holds_same : (nodes : List ℕ) → holds d v nodes ≡ holds c v nodes
    unfolding holds
    holds_same nodes = ap (λ (l : List Bool). get_or l (length nodes - 1) false) (said_same nodes (length nodes))
