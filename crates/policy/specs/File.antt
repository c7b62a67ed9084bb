-- The rule file as a format [01:The rule file; When a number is given instead; 02:T-01]: one description for reading, judging and writing.
-- The last argument of `field` and of `check` is the number that is given instead.
-- Assumes nothing.
use Rattle.std.specs.Prelude.{Bool, true, ◌||◌, cond, List, [], ◌∷◌, ℕ, ◌+◌, ◌*◌, ◌/◌, ◌%◌, ◌^◌, leb, eqb, length, get_or, set, replicate}
use Rattle.format.specs.Format.{Format, within, field, zeros, check, rows, pair, via}
use Rattle.policy.specs.Policy.{Head, Attr, Lists, Session, Policy, bits_for, codes, width}
use Rattle.policy.specs.Nodes.{node_ok, lists_agree}

-- a count of w bits from lo to hi
unfoldable pub count : ℕ → ℕ → ℕ → Format ℕ
count w lo hi = field w (within lo (hi + 1)) 2

-- the head, 40 bits
unfoldable pub head_format : Format Head
head_format =
    via (λ h. (h.user_attrs, (h.session_attrs, (h.item_attrs, (h.users, (h.sessions, (h.items, h.permissions)))))))
    (λ p.
    record {
      user_attrs = p.0;
      session_attrs = p.1.0;
      item_attrs = p.1.1.0;
      users = p.1.1.1.0;
      sessions = p.1.1.1.1.0;
      items = p.1.1.1.1.1.0;
      permissions = p.1.1.1.1.1.1;
    })
    (zeros
    (pair (count 4 0 8) λ _. pair (count 4 0 8) λ _. pair (count 4 0 8) λ _.
    pair (count 5 1 16) λ _. pair (count 6 0 32) λ _. pair (count 6 0 32) λ _. count 4 1 8)
    7 3)

-- the greatest size of an attribute of a kind
unfoldable pub largest : ℕ → ℕ
largest kind = cond (eqb kind 0) 16 8

-- the sizes of lists 0 to 31 before the first attribute: 0 stands for a list that no attribute has used yet
unfoldable pub no_sizes : List ℕ
no_sizes = replicate 32 0

-- the sizes of the lists after some more attributes; what stands at list 0 is never looked at
unfoldable pub sizes_after : List ℕ → List Attr → List ℕ
sizes_after sizes [] = sizes
sizes_after sizes (a ∷ l) = sizes_after (set sizes a.list a.size) l

-- whether an attribute of so many values may use the list: no earlier one uses it with another size; list 0 is no list
unfoldable pub size_fits : List ℕ → ℕ → ℕ → Bool
size_fits sizes size list = eqb list 0 || eqb (get_or sizes list 0) 0 || eqb (get_or sizes list 0) size

-- an attribute, 12 bits, where the earlier ones gave the lists these sizes
unfoldable pub attr_format : List ℕ → Format Attr
attr_format sizes =
    via (λ a. (a.kind, (a.size, a.list))) (λ p. record { kind = p.0; size = p.1.0; list = p.1.1 })
    (zeros (pair (field 1 (within 0 2) 4) λ kind. pair (field 5 (within 1 (largest kind + 1)) 4) λ size. field 5 (size_fits sizes size) 18) 1 3)

-- the attributes of one class of holders, at most 8 bits wide
unfoldable pub class_format : List ℕ → ℕ → Format (List Attr)
class_format sizes n = check (rows n λ l. attr_format (sizes_after sizes l)) (λ l. leb (width l) 8) 5

-- the attributes of all three classes
unfoldable pub lists_format : Head → Format Lists
lists_format h =
    via (λ c. (c.of_user, (c.of_session, c.of_item))) (λ p. record { of_user = p.0; of_session = p.1.0; of_item = p.1.1 })
    (pair (class_format no_sizes h.user_attrs) λ u. pair (class_format (sizes_after no_sizes u) h.session_attrs) λ s.
    class_format (sizes_after (sizes_after no_sizes u) s) h.item_attrs)

-- a holder's value: its attributes' values side by side; with no attribute, 0 in no bits
unfoldable pub value_format : List Attr → Format ℕ
value_format [] = field 0 (λ _. true) 6
value_format (a ∷ l) =
    via (λ v. (v / 2 ^ width l, v % 2 ^ width l)) (λ p. p.0 * 2 ^ width l + p.1)
    (pair (field (bits_for a) (within 0 (codes a)) 6) λ _. value_format l)

-- a starting session: its user, one of so many, and its value
unfoldable pub session_format : ℕ → List Attr → Format Session
session_format users l =
    via (λ t. (t.user, t.value)) (λ p. record { user = p.0; value = p.1 }) (pair (field 4 (within 0 users) 7) λ _. value_format l)

-- node i of formula f, 20 bits
unfoldable pub node_format : Lists → ℕ → ℕ → Format ℕ
node_format c f i = check (field 20 (node_ok c f i) 8) (lists_agree c) 19

-- formula f: a count of nodes, then the nodes
unfoldable pub formula_format : Lists → ℕ → Format (List ℕ)
formula_format c f = via (λ l. (length l, l)) (λ p. p.1) (pair (field 8 (within 1 65) 8) λ n. rows n λ l. node_format c f (length l))

-- the whole file up to its filling bits
unfoldable pub policy_format : Format Policy
policy_format =
    via (λ p. (p.head, (p.lists, (p.users, (p.sessions, (p.items, p.formulas))))))
    (λ p. record { head = p.0; lists = p.1.0; users = p.1.1.0; sessions = p.1.1.1.0; items = p.1.1.1.1.0; formulas = p.1.1.1.1.1 })
    (pair head_format λ h. pair (lists_format h) λ c.
    pair (rows h.users λ _. value_format c.of_user) λ _.
    pair (rows h.sessions λ _. session_format h.users c.of_session) λ _.
    pair (rows h.items λ _. value_format c.of_item) λ _.
    rows (4 + h.permissions) λ l. formula_format c (length l))
