-- How many bits a rule file takes at most before its filling bits: 16,552. In order: the head, attributes, values, sessions, formulas, the whole. Each is one
-- term in the shape of its format.
-- Not here: what bounded means, and each way of building a format (format's Bounded).
use mathlib.Core.List.{List, [], ◌∷◌}
use Prim.Native.Nat.{ℕ, ◌+◌, ◌≤◌}
use native.Mathlib.Omega.{arith}
use borrow.Author.Tests.{leb-true}
use lib.Dec.{leb}
use lib.ListN.{length}
use Rattle.format.specs.Format.{within}
use Rattle.format.proofs.Bounded.{Bounded, Any, bounded-field, bounded-more, bounded-check, bounded-pair, bounded-via, bounded-zeros, bounded-rows}
use Rattle.format.proofs.Chain.{within-true}
use Rattle.policy.specs.Policy.{Head, Attr, Lists, bits_for, width}
use Rattle.policy.specs.File.{count, head_format, attr_format, class_format, lists_format, value_format, session_format, node_format, formula_format, policy_format}

bounded-count : (w lo hi : ℕ) → Bounded (count w lo hi) (λ x. x ≤ hi) w
unfolding count
bounded-count w lo hi =
    bounded-more _ (bounded-field w (within lo (hi + 1)) 2) (λ x e. omega (arith, (within-true lo (hi + 1) x e).1)) (omega arith)

-- the counts of a head that is read
record Counts (h : Head) : Type 0 where
  user_attrs : h.user_attrs ≤ 8
  session_attrs : h.session_attrs ≤ 8
  item_attrs : h.item_attrs ≤ 8
  users : h.users ≤ 16
  sessions : h.sessions ≤ 32
  items : h.items ≤ 32
  permissions : h.permissions ≤ 8

bounded-head : Bounded head_format Counts 40
unfolding head_format
bounded-head =
    bounded-via _ _ _
    (bounded-zeros _
    (bounded-pair _ _ (bounded-count 4 0 8) λ _ _.
    bounded-pair _ _ (bounded-count 4 0 8) λ _ _.
    bounded-pair _ _ (bounded-count 4 0 8) λ _ _.
    bounded-pair _ _ (bounded-count 5 1 16) λ _ _.
    bounded-pair _ _ (bounded-count 6 0 32) λ _ _. bounded-pair _ _ (bounded-count 6 0 32) λ _ _. bounded-count 4 1 8)
    7 3)
    (λ p k.
    let u = k.1.1.1 in
    record {
      user_attrs = k.0;
      session_attrs = k.1.0;
      item_attrs = k.1.1.0;
      users = u.0;
      sessions = u.1.0;
      items = u.1.1.0;
      permissions = u.1.1.1;
    })

bounded-attr : (sizes : List ℕ) → Bounded (attr_format sizes) Any 12
unfolding attr_format
bounded-attr sizes =
    bounded-via _ _ _
    (bounded-zeros _ (bounded-pair _ _ (bounded-field 1 _ 4) λ _ _. bounded-pair _ _ (bounded-field 5 _ 4) λ _ _. bounded-field 5 _ 18) 1 3) (λ p k. tt)

bounded-class : (sizes : List ℕ) (n : ℕ) → n ≤ 8 → Bounded (class_format sizes n) (λ l. width l ≤ 8) 96
unfolding class_format
bounded-class sizes n h =
    bounded-more _ (bounded-check _ (bounded-rows _ (λ _. bounded-attr _) n 8 h) (λ l. leb (width l) 8) 5)
    (λ l k. leb-true (width l) 8 k.1) (omega arith)

-- lists that are read: a value has at most 8 bits
record Narrow (c : Lists) : Type 0 where
  user : width c.of_user ≤ 8
  session : width c.of_session ≤ 8
  item : width c.of_item ≤ 8

bounded-lists : (h : Head) → Counts h → Bounded (lists_format h) Narrow 288
unfolding lists_format
bounded-lists h n =
    bounded-via _ _ _
    (bounded-pair _ _ (bounded-class _ h.user_attrs n.user_attrs) λ _ _.
    bounded-pair _ _ (bounded-class _ h.session_attrs n.session_attrs) λ _ _. bounded-class _ h.item_attrs n.item_attrs)
    (λ p k. record { user = k.0; session = k.1.0; item = k.1.1 })

bounded-width : (l : List Attr) → Bounded (value_format l) Any (width l)
unfolding value_format width
bounded-width [] = bounded-more _ (bounded-field 0 _ 6) (λ x k. tt) (omega arith)
bounded-width (a ∷ l) =
    bounded-via _ _ _ (bounded-pair _ _ (bounded-field (bits_for a) _ 6) λ _ _. bounded-width l) (λ p k. tt)

bounded-value : (l : List Attr) → width l ≤ 8 → Bounded (value_format l) Any 8
bounded-value l h = bounded-more _ (bounded-width l) (λ x k. k) h

bounded-session : (users : ℕ) (l : List Attr) → width l ≤ 8 → Bounded (session_format users l) Any 12
unfolding session_format
bounded-session users l h = bounded-via _ _ _ (bounded-pair _ _ (bounded-field 4 _ 7) λ _ _. bounded-value l h) (λ p k. tt)

bounded-node : (c : Lists) (f i : ℕ) → Bounded (node_format c f i) Any 20
unfolding node_format
bounded-node c f i = bounded-more _ (bounded-check _ (bounded-field 20 _ 8) _ 19) (λ x k. tt) (omega arith)

bounded-formula : (c : Lists) (f : ℕ) → Bounded (formula_format c f) Any 1288
unfolding formula_format
bounded-formula c f =
    bounded-via _ _ _
    (bounded-pair _ _ (bounded-field 8 (within 1 65) 8) λ n e.
    bounded-rows _ (λ l. bounded-node c f (length l)) n 64 (omega (arith, (within-true 1 65 n e).1)))
    (λ p k. tt)

pub bounded-policy : Bounded policy_format Any 16552
unfolding policy_format
bounded-policy =
    bounded-via _ _ _
    (bounded-pair _ _ bounded-head λ h n.
    bounded-pair _ _ (bounded-lists h n) λ c w.
    bounded-pair _ _ (bounded-rows _ (λ _. bounded-value c.of_user w.user) h.users 16 n.users) λ _ _.
    bounded-pair _ _ (bounded-rows _ (λ _. bounded-session h.users c.of_session w.session) h.sessions 32 n.sessions) λ _ _.
    bounded-pair _ _ (bounded-rows _ (λ _. bounded-value c.of_item w.item) h.items 32 n.items) λ _ _.
    bounded-rows _ (λ l. bounded-formula c (length l)) (4 + h.permissions) 12 (omega (arith, n.permissions)))
    (λ p k. tt)
