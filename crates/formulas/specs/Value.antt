-- The value of one attribute within a holder's packed value [01:The rule file 8], and the values that a formula's operands name.
-- Total for all rules: an attribute that is not there is atomic of size 0 and takes no bits, so its value is 0.
-- Assumes nothing.
use Rattle.std.specs.Prelude.{cond, List, ℕ, suc, ◌/◌, ◌%◌, ◌^◌, ltb, eqb, get_or, drop}
use Rattle.policy.specs.Policy.{Attr, no_attr, Lists, bits_for, width}
use Rattle.policy.specs.Nodes.{holder_of, place_of, of_holder}
use Rattle.formulas.specs.declared.Holders.{Holders}

-- attribute k of a list
unfoldable pub attr_of : List Attr → ℕ → Attr
attr_of l k = get_or l k no_attr

-- the value of attribute k in the packed value v: what stands left of the later attributes, cut to its own bits
unfoldable pub part_of : List Attr → ℕ → ℕ → ℕ
part_of l k v = v / 2 ^ width (drop (suc k) l) % 2 ^ bits_for (attr_of l k)

-- the packed value of holder h: 0 user, 1 session as it is, 2 session as proposed, 3 item as it is, 4 item as proposed
unfoldable pub held_by : Holders → ℕ → ℕ
held_by v h =
    cond (eqb h 0) v.user
    (cond (eqb h 1) v.session
    (cond (eqb h 2) v.newsession
    (cond (eqb h 3) v.item
    v.newitem)))

-- the number that a value operand stands for: an attribute's value, or a constant; 0 where the holder is none
unfoldable pub operand : Lists → Holders → ℕ → ℕ
operand c v x =
    let h = holder_of x in
    cond (ltb h 5) (part_of (of_holder c h) (place_of x) (held_by v h)) (cond (eqb h 5) (place_of x) 0)

-- the size of the list of the attribute that a value operand names; 0 where it names none
unfoldable pub size_of_operand : Lists → ℕ → ℕ
size_of_operand c x = cond (ltb (holder_of x) 5) (attr_of (of_holder c (holder_of x)) (place_of x)).size 0
