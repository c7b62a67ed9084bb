-- The rule file's format is lawful: what is written reads as it was, what is read would be written so, and a fault is refused with its number.
-- In order: the head, attributes, values, sessions, formulas, the whole. Each is one term in the shape of its format.
-- Not here: what lawful means, and each way of building a format (format's Law).
use mathlib.Core.Path.{refl, ap, ◌∙◌}
use mathlib.Core.List.{List, [], ◌∷◌}
use Prim.Native.Nat.{ℕ, ◌+◌, ◌*◌, ◌%◌, ◌^◌}
use lib.ListN.{length}
use lib.Pow.{split, high, low}
use Rattle.format.specs.Format.{rows}
use Rattle.format.proofs.Law.{Lawful, lawful-field, lawful-check, lawful-pair, lawful-via, lawful-rows, lawful-zeros, judged-pair, judged-rows}
use Rattle.policy.specs.Policy.{Head, Attr, Lists, bits_for, width}
use Rattle.policy.specs.File.{count, head_format, attr_format, class_format, lists_format, value_format, session_format, node_format, formula_format, policy_format}
use Rattle.policy.proofs.Laws.{value-lt}

lawful-count : (w lo hi : ℕ) → Lawful (count w lo hi)
unfolding count
lawful-count w lo hi = lawful-field w _ 2

pub lawful-head : Lawful head_format
unfolding head_format
lawful-head =
    lawful-via _ _ _
    (lawful-zeros _
    (lawful-pair _ _ (lawful-count 4 0 8) λ _. lawful-pair _ _ (lawful-count 4 0 8) λ _. lawful-pair _ _ (lawful-count 4 0 8) λ _.
    lawful-pair _ _ (lawful-count 5 1 16) λ _. lawful-pair _ _ (lawful-count 6 0 32) λ _. lawful-pair _ _ (lawful-count 6 0 32) λ _. lawful-count 4 1 8)
    7 3)
    (λ b j. refl)
    (λ a j. refl)

pub lawful-attr : (sizes : List ℕ) → Lawful (attr_format sizes)
unfolding attr_format
lawful-attr sizes =
    lawful-via _ _ _ (lawful-zeros _ (lawful-pair _ _ (lawful-field 1 _ 4) λ kind. lawful-pair _ _ (lawful-field 5 _ 4) λ size. lawful-field 5 _ 18) 1 3)
    (λ b j. refl) (λ a j. refl)

pub lawful-class : (sizes : List ℕ) (n : ℕ) → Lawful (class_format sizes n)
unfolding class_format
lawful-class sizes n = lawful-check _ (lawful-rows _ (λ _. lawful-attr _) n) _ 5

pub lawful-lists : (h : Head) → Lawful (lists_format h)
unfolding lists_format
lawful-lists h =
    lawful-via _ _ _ (lawful-pair _ _ (lawful-class _ h.user_attrs) λ _. lawful-pair _ _ (lawful-class _ h.session_attrs) λ _. lawful-class _ h.item_attrs)
    (λ b j. refl) (λ a j. refl)

pub lawful-value : (l : List Attr) → Lawful (value_format l)
unfolding value_format
lawful-value [] = lawful-field 0 _ 6
lawful-value (a ∷ l) =
    lawful-via _ _ _ (lawful-pair _ _ (lawful-field (bits_for a) _ 6) λ _. lawful-value l) (λ v j. split v (width l))
    (λ p j.
    let y = value-lt l p.1 (judged-pair _ (λ _. value_format l) p.0 p.1 j).1 in
    ap (λ (x : ℕ). (x, (p.0 * 2 ^ width l + p.1) % 2 ^ width l)) (high p.0 (width l) y) ∙ ap (λ (x : ℕ). (p.0, x)) (low p.0 (width l) y))

pub lawful-session : (n : ℕ) (l : List Attr) → Lawful (session_format n l)
unfolding session_format
lawful-session n l = lawful-via _ _ _ (lawful-pair _ _ (lawful-field 4 _ 7) λ _. lawful-value l) (λ b j. refl) (λ a j. refl)

pub lawful-node : (c : Lists) (f i : ℕ) → Lawful (node_format c f i)
unfolding node_format
lawful-node c f i = lawful-check _ (lawful-field 20 _ 8) _ 19

pub lawful-formula : (c : Lists) (f : ℕ) → Lawful (formula_format c f)
unfolding formula_format
lawful-formula c f =
    lawful-via _ _ _ (lawful-pair _ _ (lawful-field 8 _ 8) λ n. lawful-rows _ (λ l. lawful-node c f (length l)) n) (λ b j. refl)
    (λ p j.
    ap (λ (x : ℕ). (x, p.1))
    (judged-rows p.0 _ p.1 (judged-pair _ (λ n. rows n λ l. node_format c f (length l)) p.0 p.1 j).1))

pub lawful-policy : Lawful policy_format
unfolding policy_format
lawful-policy =
    lawful-via _ _ _
    (lawful-pair _ _ lawful-head λ h. lawful-pair _ _ (lawful-lists h) λ c.
    lawful-pair _ _ (lawful-rows _ (λ _. lawful-value c.of_user) h.users) λ _.
    lawful-pair _ _ (lawful-rows _ (λ _. lawful-session h.users c.of_session) h.sessions) λ _.
    lawful-pair _ _ (lawful-rows _ (λ _. lawful-value c.of_item) h.items) λ _.
    lawful-rows _ (λ l. lawful-formula c (length l)) (4 + h.permissions))
    (λ b j. refl)
    (λ a j. refl)
