-- Which bits of a rule file reading needs: in order the head, attributes, values, sessions, formulas, the whole. Each is one term in the shape of its format;
-- what it takes is that no number of these formats is 1.
-- Not here: what is said of the bits, and each way of building a format (format's Cut).
use mathlib.Core.List.{List, [], ◌∷◌}
use Prim.Native.Nat.{ℕ}
use native.Mathlib.Omega.{arith}
use lib.ListN.{length}
use Rattle.format.proofs.Cut.{Cuts, cuts-field, cuts-check, cuts-pair, cuts-via, cuts-zeros, cuts-rows}
use Rattle.policy.specs.Policy.{Head, Attr, Lists, bits_for}
use Rattle.policy.specs.File.{count, head_format, attr_format, class_format, lists_format, value_format, session_format, node_format, formula_format, policy_format}

cuts-count : (w lo hi : ℕ) → Cuts (count w lo hi)
unfolding count
cuts-count w lo hi = cuts-field w _ 2 (λ e. omega arith)

cuts-head : Cuts head_format
unfolding head_format
cuts-head =
    cuts-via _ _ _
    (cuts-zeros _ 7 3 (λ e. omega arith)
    (cuts-pair _ _ (cuts-count 4 0 8) λ _.
    cuts-pair _ _ (cuts-count 4 0 8) λ _.
    cuts-pair _ _ (cuts-count 4 0 8) λ _.
    cuts-pair _ _ (cuts-count 5 1 16) λ _. cuts-pair _ _ (cuts-count 6 0 32) λ _. cuts-pair _ _ (cuts-count 6 0 32) λ _. cuts-count 4 1 8))

cuts-attr : (sizes : List ℕ) → Cuts (attr_format sizes)
unfolding attr_format
cuts-attr sizes =
    cuts-via _ _ _
    (cuts-zeros _ 1 3 (λ e. omega arith)
    (cuts-pair _ _ (cuts-field 1 _ 4 (λ e. omega arith)) λ _. cuts-pair _ _ (cuts-field 5 _ 4 (λ e. omega arith)) λ _. cuts-field 5 _ 18 (λ e. omega arith)))

cuts-class : (sizes : List ℕ) (n : ℕ) → Cuts (class_format sizes n)
unfolding class_format
cuts-class sizes n = cuts-check _ _ 5 (λ e. omega arith) (cuts-rows _ (λ _. cuts-attr _) n)

cuts-lists : (h : Head) → Cuts (lists_format h)
unfolding lists_format
cuts-lists h = cuts-via _ _ _ (cuts-pair _ _ (cuts-class _ _) λ _. cuts-pair _ _ (cuts-class _ _) λ _. cuts-class _ _)

cuts-value : (l : List Attr) → Cuts (value_format l)
unfolding value_format
cuts-value [] = cuts-field 0 _ 6 (λ e. omega arith)
cuts-value (a ∷ l) = cuts-via _ _ _ (cuts-pair _ _ (cuts-field (bits_for a) _ 6 (λ e. omega arith)) λ _. cuts-value l)

cuts-session : (users : ℕ) (l : List Attr) → Cuts (session_format users l)
unfolding session_format
cuts-session users l = cuts-via _ _ _ (cuts-pair _ _ (cuts-field 4 _ 7 (λ e. omega arith)) λ _. cuts-value l)

cuts-node : (c : Lists) (f i : ℕ) → Cuts (node_format c f i)
unfolding node_format
cuts-node c f i = cuts-check _ _ 19 (λ e. omega arith) (cuts-field 20 _ 8 (λ e. omega arith))

cuts-formula : (c : Lists) (f : ℕ) → Cuts (formula_format c f)
unfolding formula_format
cuts-formula c f = cuts-via _ _ _ (cuts-pair _ _ (cuts-field 8 _ 8 (λ e. omega arith)) λ n. cuts-rows _ (λ l. cuts-node c f (length l)) n)

pub cuts-policy : Cuts policy_format
unfolding policy_format
cuts-policy =
    cuts-via _ _ _
    (cuts-pair _ _ cuts-head λ h.
    cuts-pair _ _ (cuts-lists h) λ c.
    cuts-pair _ _ (cuts-rows _ (λ _. cuts-value c.of_user) h.users) λ _.
    cuts-pair _ _ (cuts-rows _ (λ _. cuts-session h.users c.of_session) h.sessions) λ _.
    cuts-pair _ _ (cuts-rows _ (λ _. cuts-value c.of_item) h.items) λ _. cuts-rows _ (λ l. cuts-formula c (length l)) _)
