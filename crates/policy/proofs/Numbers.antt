-- Which numbers judging the rules in memory can give: 2, 4 to 8, 18 or 19. In the shape of the format; every list is as long as its count. Said of any property
-- of numbers that 2 and 4 to 8 have, 18 where the number of a list does not fit, and 19 where a node's lists differ.
use mathlib.Core.Path.{◌≡◌, refl, sym, ap, ◌∙◌}
use mathlib.Core.Bool.{true, false}
use mathlib.Core.Logic.{◌⊎◌, inl, inr, ⊎_elim}
use mathlib.Core.List.{List, [], ◌∷◌, ◌++◌, append_assoc, append-nil}
use Prim.Native.Nat.{ℕ, ◌+◌, ◌%◌, ◌^◌, ◌≤◌, ◌<◌}
use native.Mathlib.Omega.{arith}
use lib.ListN.{length, get_or}
use lib.Seq.{get_or-append_seam}
use Rattle.format.proofs.Gives.{Gives, gives-field, gives-field-where, gives-check, gives-check-where, gives-pair, gives-via, gives-zeros, gives-rows}
use Rattle.format.proofs.Law.{judged-field}
use Rattle.policy.specs.Policy.{Attr, Head, Lists, Session, Policy, width}
use Rattle.policy.specs.Nodes.{node_ok, lists_agree}
use Rattle.policy.specs.File.{count, head_format, no_sizes, sizes_after, size_fits, attr_format, class_format, lists_format, value_format, session_format}
use Rattle.policy.specs.File.{node_format, formula_format, policy_format}
use Rattle.policy.specs.Rules.{attrs_of, lists_of, policy_of}
use Rattle.policy.specs.declared.Class.{Class}
use Rattle.policy.specs.declared.Rules.{Rules}
use Rattle.policy.proofs.Laws.{attrs-length, values_length, sessions-length, formulas-length, sizes-none, sizes-app}
use Rattle.policy.proofs.Listed.{attributes}

-- the number of an attribute's list is too large, or does not fit where the lists have these sizes
abbrev pub Misfits : List ℕ → Attr → Type 0
Misfits sizes a = (32 ≤ a.list) ⊎ (size_fits sizes a.size a.list ≡ false)

module _ (P : ℕ → Type 0) (two : P 2) (middle : (n : ℕ) → 4 ≤ n → n ≤ 8 → P n) where
  gives-count : (w lo hi x : ℕ) → Gives P (count w lo hi) x
  unfolding count
  gives-count w lo hi x = gives-field P w _ 2 x two

  gives_head : (h : Head) → Gives P head_format h
  unfolding head_format
  gives_head h =
      gives-via P _ _ _ h
      (gives-zeros P _ 7 3 _
      (gives-pair P _ _ _ _ (gives-count 4 0 8 _)
      (gives-pair P _ _ _ _ (gives-count 4 0 8 _)
      (gives-pair P _ _ _ _ (gives-count 4 0 8 _)
      (gives-pair P _ _ _ _ (gives-count 5 1 16 _)
      (gives-pair P _ _ _ _ (gives-count 6 0 32 _) (gives-pair P _ _ _ _ (gives-count 6 0 32 _) (gives-count 4 1 8 _))))))))

  gives-attr : (sizes : List ℕ) (a : Attr) → (Misfits sizes a → P 18) → Gives P (attr_format sizes) a
  unfolding attr_format
  gives-attr sizes a late =
      gives-via P _ _ _ a
      (gives-zeros P _ 1 3 _
      (gives-pair P _ _ _ _ (gives-field P 1 _ 4 _ (middle 4 (omega arith) (omega arith)))
      (gives-pair P _ _ _ _ (gives-field P 5 _ 4 _ (middle 4 (omega arith) (omega arith))) (gives-field-where P 5 _ 18 _ late))))

  -- 18 is allowed where one of the attributes does not fit after those before it
  abbrev Late : List Attr → Type 0
  Late l = (m : List Attr) (a : Attr) (r : List Attr) → m ++ a ∷ r ≡ l → Misfits (sizes_after no_sizes m) a → P 18

  gives-class : (sizes : List ℕ) (before : List Attr) (c : Class) (behind all : List Attr) → sizes_after no_sizes before ≡ sizes → before ++ attrs_of c ++ behind ≡ all → Late all
      → Gives P (class_format sizes c.count) (attrs_of c)
  unfolding class_format
  gives-class sizes before c behind all e w late =
      gives-check P _ _ 5 _
      (gives-rows P _ _ _ (attrs-length c) (λ m a r d.
      let t : sizes_after no_sizes (before ++ m) ≡ sizes_after sizes m = sizes-app no_sizes before m ∙ ap (λ (u : List ℕ). sizes_after u m) e in
      let v : before ++ m ++ (a ∷ r ++ behind) ≡ all =
      sym (append_assoc (before ++ m) (a ∷ r) behind) ∙ ap (λ (x : List Attr). x ++ behind) (append_assoc before m (a ∷ r) ∙ ap (λ (x : List Attr). before ++ x) d) ∙ w in
      gives-attr _ a (λ i. late (before ++ m) a (r ++ behind) v (⊎_elim inl (λ f. inr (ap (λ (u : List ℕ). size_fits u a.size a.list) t ∙ f)) i))))
      (middle 5 (omega arith) (omega arith))

  gives-value : (l : List Attr) (v : ℕ) → Gives P (value_format l) v
  unfolding value_format
  gives-value [] v = gives-field P 0 _ 6 v (middle 6 (omega arith) (omega arith))
  gives-value (a ∷ l) v = gives-via P _ _ _ v (gives-pair P _ _ _ _ (gives-field P _ _ 6 _ (middle 6 (omega arith) (omega arith))) (gives-value l (v % 2 ^ width l)))

  gives-session : (n : ℕ) (l : List Attr) (t : Session) → Gives P (session_format n l) t
  unfolding session_format
  gives-session n l t = gives-via P _ _ _ t (gives-pair P _ _ _ _ (gives-field P 4 _ 7 _ (middle 7 (omega arith) (omega arith))) (gives-value l t.value))

  gives-node : (c : Lists) (f i x : ℕ) → (node_ok c f i x ≡ true → lists_agree c x ≡ false → P 19) → Gives P (node_format c f i) x
  unfolding node_format
  gives-node c f i x late =
      gives-check-where P _ _ 19 _ (gives-field P 20 _ 8 x (middle 8 (omega arith) (omega arith))) (λ j d. late (judged-field 20 (node_ok c f i) 8 x j).1 d)

  gives-formula : (c : Lists) (f : ℕ) (l : List ℕ) → ((i : ℕ) → node_ok c f i (get_or l i 0) ≡ true → lists_agree c (get_or l i 0) ≡ false → P 19) → Gives P (formula_format c f) l
  unfolding formula_format
  gives-formula c f l late =
      gives-via P _ _ _ l
      (gives-pair P _ _ _ _ (gives-field P 8 _ 8 _ (middle 8 (omega arith) (omega arith)))
      (gives-rows P _ _ l refl (λ m x r e.
      let d : get_or l (length m) 0 ≡ x = ap (λ (k : List ℕ). get_or k (length m) 0) (sym e) ∙ get_or-append_seam m x r 0 in
      gives-node c f (length m) x (λ j g. late (length m) (ap (node_ok c f (length m)) d ∙ j) (ap (lists_agree c) d ∙ g)))))

  -- 19 is allowed where the lists of a node differ
  abbrev Differ : Policy → Type 0
  Differ p = (f i : ℕ) → let x = get_or (get_or p.formulas f []) i 0 in node_ok p.lists f i x ≡ true → lists_agree p.lists x ≡ false → P 19

  pub gives-policy : (r : Rules) → Late (attributes (policy_of r).lists) → Differ (policy_of r) → Gives P policy_format (policy_of r)
  unfolding policy_format policy_of lists_format lists_of
  gives-policy r late differ =
      let u = attrs_of r.classes.user in
      let t = attrs_of r.classes.session in
      let i = attrs_of r.classes.item in
      let all = attributes (policy_of r).lists in
      gives-via P _ _ _ (policy_of r)
      (gives-pair P _ _ _ _ (gives_head _)
      (gives-pair P _ _ _ _
      (gives-via P _ _ _ _
      (gives-pair P _ _ _ _ (gives-class _ [] r.classes.user (t ++ i) all (sizes-none no_sizes) (sym (append_assoc u t i)) late)
      (gives-pair P _ _ _ _ (gives-class _ u r.classes.session i all refl refl late)
      (gives-class _ (u ++ t) r.classes.item [] all (sizes-app no_sizes u t) (append-nil (u ++ t ++ i)) late))))
      (gives-pair P _ _ _ _ (gives-rows P _ _ _ (values_length r.users) (λ _ v _ _. gives-value _ v))
      (gives-pair P _ _ _ _ (gives-rows P _ _ _ (sessions-length r.sessions) (λ _ t _ _. gives-session _ _ t))
      (gives-pair P _ _ _ _ (gives-rows P _ _ _ (values_length r.items) (λ _ v _ _. gives-value _ v))
      (gives-rows P _ _ _ (formulas-length r.nodes r.lengths (4 + r.permissions)) (λ l m k e.
      let d : get_or (policy_of r).formulas (length l) [] ≡ m = ap (λ (g : List (List ℕ)). get_or g (length l) []) (sym e) ∙ get_or-append_seam l m k [] in
      gives-formula _ (length l) m (λ n j g.
      differ (length l) n (ap (λ (h : List ℕ). node_ok (policy_of r).lists (length l) n (get_or h n 0)) d ∙ j)
      (ap (λ (h : List ℕ). lists_agree (policy_of r).lists (get_or h n 0)) d ∙ g)))))))))

-- a number that writing can give
abbrev pub Given : ℕ → Type 0
Given n = (n ≡ 2) ⊎ ((4 ≤ n) × (n ≤ 8)) ⊎ ((18 ≤ n) × (n ≤ 19))

pub given_above : {n : ℕ} → Given n → 0 < n
given_above g = ⊎_elim (λ e. omega arith) (⊎_elim (λ h. omega arith) (λ h. omega arith)) g

pub gives-given : (r : Rules) → Gives Given policy_format (policy_of r)
gives-given r =
    gives-policy Given (inl refl) (λ n g h. inr (inl (g, h))) r (λ _ _ _ _ _. inr (inr (omega arith, omega arith))) (λ _ _ _ _. inr (inr (omega arith, omega arith)))
