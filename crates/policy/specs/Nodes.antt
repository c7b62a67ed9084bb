-- Which nodes a formula may have [01:The rule file, the operator table and the two paragraphs after it; 02:T-01].
-- A node is the number of its 20 bits: operator (4), a (8), b (8). A value operand is a holder (3) and an attribute number (5).
-- Assumes nothing.
use Rattle.std.specs.Prelude.{Bool, true, false, ◌&&◌, ◌||◌, cond, List, ℕ, ◌/◌, ◌%◌, ltb, leb, eqb, length, get_or}
use Rattle.format.specs.Format.{within}
use Rattle.policy.specs.Policy.{Attr, no_attr, Lists}

-- a node's operator
unfoldable pub op_of : ℕ → ℕ
op_of x = x / 65536

-- a node's first operand
unfoldable pub first_of : ℕ → ℕ
first_of x = x / 256 % 256

-- a node's second operand
unfoldable pub second_of : ℕ → ℕ
second_of x = x % 256

-- a value operand's holder: 0 user, 1 session as it is, 2 session as proposed, 3 item as it is, 4 item as proposed, 5 a constant
unfoldable pub holder_of : ℕ → ℕ
holder_of x = x / 32

-- a value operand's attribute number, or the constant
unfoldable pub place_of : ℕ → ℕ
place_of x = x % 32

-- whether formula f may use the holder h besides constants: open session, change session, make item, change item, then the permissions
unfoldable pub may_use : ℕ → ℕ → Bool
may_use f h =
    cond (eqb f 0) (eqb h 0 || eqb h 2)
    (cond (eqb f 1) (leb h 2)
    (cond (eqb f 2) (eqb h 1 || eqb h 4)
    (cond (eqb f 3) (eqb h 1 || eqb h 3 || eqb h 4)
    (eqb h 1 || eqb h 3))))

-- the attributes of a holder
unfoldable pub of_holder : Lists → ℕ → List Attr
of_holder c h = cond (eqb h 0) c.of_user (cond (leb h 2) c.of_session c.of_item)

-- the attribute that the operand x names; of a constant it says nothing
unfoldable pub named : Lists → ℕ → Attr
named c x = get_or (of_holder c (holder_of x)) (place_of x) no_attr

-- whether the operand x of formula f names an attribute of the kind
unfoldable pub names : Lists → ℕ → ℕ → ℕ → Bool
names c f kind x = may_use f (holder_of x) && ltb (place_of x) (length (of_holder c (holder_of x))) && eqb (named c x).kind kind

-- whether it names an atomic value: an attribute, or a constant from 0 to 15
unfoldable pub atomic : Lists → ℕ → ℕ → Bool
atomic c f x = cond (eqb (holder_of x) 5) (ltb (place_of x) 16) (names c f 0 x)

-- whether x may be node i of formula f
unfoldable pub node_ok : Lists → ℕ → ℕ → ℕ → Bool
node_ok c f i x =
    let a = first_of x in
    let b = second_of x in
    cond (leb (op_of x) 1) (eqb a 0 && eqb b 0)
    (cond (eqb (op_of x) 2) (ltb a i && eqb b 0)
    (cond (leb (op_of x) 4) (ltb a i && ltb b i)
    (cond (leb (op_of x) 7) (atomic c f a && atomic c f b)
    (cond (eqb (op_of x) 8) (atomic c f a && names c f 1 b)
    (cond (leb (op_of x) 10) (names c f 1 a && names c f 1 b) false)))))

-- whether two operands have the same list number; a constant fits any list
unfoldable pub same_list : Lists → ℕ → ℕ → Bool
same_list c a b = eqb (holder_of a) 5 || eqb (holder_of b) 5 || eqb (named c a).list (named c b).list

-- whether node x compares no attributes of different lists: operators 5 to 10 compare
unfoldable pub lists_agree : Lists → ℕ → Bool
lists_agree c x = cond (within 5 11 (op_of x)) (same_list c (first_of x) (second_of x)) true
