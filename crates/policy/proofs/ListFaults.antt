-- What 18 and 19 say of rules in memory, and that neither is given where every list number is 0. In order: an earlier attribute of the same list, the operands
-- of a node, the two numbers.
use mathlib.Core.Path.{◌≡◌, refl, sym, ap, ◌∙◌, subst}
use mathlib.Core.Bool.{true, false, ◌||◌}
use mathlib.Core.Logic.{◌⊎◌, inl, inr, ⊎_elim}
use mathlib.Core.List.{List, [], ◌∷◌, ◌++◌}
use mathlib.Core.Option.{some}
use Prim.Native.Nat.{ℕ, suc, ◌≤◌, ◌<◌}
use native.Mathlib.Decide.{ℕ_discrete, dec_lt, dec_le}
use native.Mathlib.Omega.{arith}
use borrow.Author.Tests.{eqb-false, ne_eqb}
use lib.Dec.{eqb}
use lib.ListN.{length, get_or, set, get_or-replicate, get_or-append, get_or-eq_default}
use lib.Seq.{set_out, get_or-set_same, get_or-set_other, get_or-append_seam}
use Rattle.format.proofs.Gives.{Gives}
use Rattle.std.proofs.lemmas.Bool.Decides.{nat_tests}
use Rattle.std.proofs.lemmas.Bool.{and_parts, or_parts, both_ways}
use Rattle.policy.specs.Policy.{Attr, no_attr, Lists, Policy}
use Rattle.policy.specs.Nodes.{op_of, first_of, second_of, holder_of, may_use, named, names, atomic, node_ok, same_list, lists_agree}
use Rattle.policy.specs.File.{no_sizes, sizes_after, size_fits, policy_format}
use Rattle.policy.specs.Rules.{policy_of}
use Rattle.policy.specs.declared.Rules.{Rules}
use Rattle.policy.proofs.Listed.{attributes, Unlisted, unlisted-agree}
use Rattle.policy.proofs.NodeLaws.{node-compares, node-member, node-sets, agree-others, agree-compared}
use Rattle.policy.proofs.Numbers.{Misfits, gives-policy}

-- list n has the size of an attribute of l
record SizedBy (l : List Attr) (n z : ℕ) : Type 0 where
  at : ℕ
  inside : at < length l
  list : (get_or l at no_attr).list ≡ n
  size : (get_or l at no_attr).size ≡ z

-- after some attributes a list has the size that it had, or that of one of them
sized-by : (t : List ℕ) (l : List Attr) (n : ℕ) → (get_or (sizes_after t l) n 0 ≡ get_or t n 0) ⊎ SizedBy l n (get_or (sizes_after t l) n 0)
unfolding sizes_after
sized-by t [] n = inl refl
sized-by t (a ∷ l) n = go (sized-by (set t a.list a.size) l n) (ℕ_discrete n a.list) (dec_lt n (length t))
  where
    z : ℕ
    z = get_or (sizes_after (set t a.list a.size) l) n 0

    go : (z ≡ get_or (set t a.list a.size) n 0) ⊎ SizedBy l n z → Dec (n ≡ a.list) → Dec (n < length t) → (z ≡ get_or t n 0) ⊎ SizedBy (a ∷ l) n z
    go (inr w) d h = inr record { at = suc w.at; inside = omega (arith, w.inside); list = w.list; size = w.size }
    go (inl e) (yes d) (yes h) =
        let g : z ≡ a.size = e ∙ ap (λ (m : ℕ). get_or (set t a.list a.size) m 0) d ∙ get_or-set_same t a.list a.size 0 (omega arith) in
        inr record { at = 0; inside = omega arith; list = sym d; size = sym g }
    go (inl e) (yes d) (no h) = inl (e ∙ ap (λ (u : List ℕ). get_or u n 0) (set_out t a.list a.size (omega arith)))
    go (inl e) (no d) h = inl (e ∙ get_or-set_other t a.list n a.size 0 d)

no_size : (n : ℕ) → get_or no_sizes n 0 ≡ 0
unfolding no_sizes
no_size n = go (dec_lt n 32)
  where
    go : Dec (n < 32) → get_or no_sizes n 0 ≡ 0
    go (yes h) = get_or-replicate {A = ℕ} 32 n 0 0 h
    go (no h) = get_or-eq_default no_sizes 0 {n = n} (omega arith)

-- attribute k of l has a list number that is too large, or another size than an earlier attribute of the same list other than 0
abbrev pub ListFault : List Attr → Type 0
ListFault l =
    (k : ℕ) × ((32 ≤ (get_or l k no_attr).list)
    ⊎ ((j : ℕ) × ((j < k) × (0 < (get_or l k no_attr).list) × ((get_or l j no_attr).list ≡ (get_or l k no_attr).list) × ((get_or l j no_attr).size ≡ (get_or l k no_attr).size → ⊥))))

list-fault : (m : List Attr) (a : Attr) (r : List Attr) → Misfits (sizes_after no_sizes m) a → ListFault (m ++ a ∷ r)
unfolding size_fits
list-fault m a r f = (length m, ⊎_elim (λ h. inl (omega (arith, ap (λ (x : Attr). x.list) e))) (λ h. inr (go h (sized-by no_sizes m a.list))) f)
  where
    l : List Attr
    l = m ++ a ∷ r

    e : get_or l (length m) no_attr ≡ a
    e = get_or-append_seam m a r no_attr

    z : ℕ
    z = get_or (sizes_after no_sizes m) a.list 0

    go : eqb a.list 0 || eqb z 0 || eqb z a.size ≡ false → (z ≡ get_or no_sizes a.list 0) ⊎ SizedBy m a.list z
        → (j : ℕ) × ((j < length m) × (0 < (get_or l (length m) no_attr).list) × ((get_or l j no_attr).list ≡ (get_or l (length m) no_attr).list)
        × ((get_or l j no_attr).size ≡ (get_or l (length m) no_attr).size → ⊥))
    go h w =
        let (h₀, h₁) = or_parts (eqb a.list 0 || eqb z 0) (eqb z a.size) h in
        let (g₀, g₁) = or_parts (eqb a.list 0) (eqb z 0) h₀ in
        ⊎_elim (λ d. absurd (eqb-false z 0 g₁ (d ∙ no_size a.list)))
        (λ v.
        let u : get_or l v.at no_attr ≡ get_or m v.at no_attr = get_or-append m (a ∷ r) no_attr v.at v.inside in
        let es = ap (λ (x : Attr). x.size) e in
        let us = ap (λ (x : Attr). x.size) u in (
          v.at,
          (
            v.inside,
            omega (arith, ap (λ (x : Attr). x.list) e, eqb-false a.list 0 g₀),
            ap (λ (x : Attr). x.list) u ∙ v.list ∙ sym (ap (λ (x : Attr). x.list) e),
            λ d. eqb-false z a.size h₁ (sym v.size ∙ sym us ∙ d ∙ es),
          ),
        ))
        w

-- a holder that a formula may use is no constant, and known
uses-known : (f h : ℕ) → may_use f h ≡ true → h ≤ 4
unfolding may_use
uses-known f h e = grind (arith, nat_tests)

module _ (c : Lists) (f : ℕ) where
  names-known : (kind x : ℕ) → names c f kind x ≡ true → holder_of x ≤ 4
  unfolding names
  names-known kind x e = uses-known f (holder_of x) (and_parts _ _ (and_parts _ _ e).0).0

  atomic-known : (x : ℕ) → (holder_of x ≡ 5 → ⊥) → atomic c f x ≡ true → holder_of x ≤ 4
  unfolding atomic
  atomic-known x n e = let g : atomic c f x ≡ names c f 0 x = simp (ne_eqb (holder_of x) 5 n) in names-known 0 x (sym g ∙ e)

  -- the operands of a node that compares, neither a constant
  operands-known : (i x : ℕ) → node_ok c f i x ≡ true → 5 ≤ op_of x → op_of x ≤ 10 → (holder_of (first_of x) ≡ 5 → ⊥) → (holder_of (second_of x) ≡ 5 → ⊥)
      → (holder_of (first_of x) ≤ 4) × (holder_of (second_of x) ≤ 4)
  operands-known i x e g h m n = go (dec_le (op_of x) 7) (dec_le (op_of x) 8)
    where
      go : Dec (op_of x ≤ 7) → Dec (op_of x ≤ 8) → (holder_of (first_of x) ≤ 4) × (holder_of (second_of x) ≤ 4)
      go (yes l) d = let (a, b) = and_parts _ _ (sym (node-compares c f i x (omega arith) l) ∙ e) in (atomic-known (first_of x) m a, atomic-known (second_of x) n b)
      go (no l) (yes k) = let (a, b) = and_parts _ _ (sym (node-member c f i x (omega arith)) ∙ e) in (atomic-known (first_of x) m a, names-known 1 (second_of x) b)
      go (no l) (no k) = let (a, b) = and_parts _ _ (sym (node-sets c f i x (omega arith) h) ∙ e) in (names-known 1 (first_of x) a, names-known 1 (second_of x) b)

-- node x compares two attributes of different lists
pub record Differs (c : Lists) (x : ℕ) : Type 0 where
  pub from-5 : 5 ≤ op_of x
  pub to-10 : op_of x ≤ 10
  pub first : holder_of (first_of x) ≤ 4
  pub second : holder_of (second_of x) ≤ 4
  pub differ : (named c (first_of x)).list ≡ (named c (second_of x)).list → ⊥

differs : (c : Lists) (f i x : ℕ) → node_ok c f i x ≡ true → lists_agree c x ≡ false → Differs c x
unfolding same_list
differs c f i x e d = go (dec_le 5 (op_of x)) (dec_le (op_of x) 10)
  where
    a : ℕ
    a = first_of x

    b : ℕ
    b = second_of x

    go : Dec (5 ≤ op_of x) → Dec (op_of x ≤ 10) → Differs c x
    go (no g) l = absurd (both_ways _ d (agree-others c x (λ h _. g h)))
    go (yes g) (no h) = absurd (both_ways _ d (agree-others c x (λ _ k. h k)))
    go (yes g) (yes h) =
        let (m, l) = or_parts (eqb (holder_of a) 5 || eqb (holder_of b) 5) (eqb (named c a).list (named c b).list) (sym (agree-compared c x g h) ∙ d) in
        let (m₀, m₁) = or_parts (eqb (holder_of a) 5) (eqb (holder_of b) 5) m in
        let (k₀, k₁) = operands-known c f i x e g h (eqb-false (holder_of a) 5 m₀) (eqb-false (holder_of b) 5 m₁) in
        record { from-5 = g; to-10 = h; first = k₀; second = k₁; differ = eqb-false (named c a).list (named c b).list l }

-- some node compares two attributes of different lists
abbrev pub NodeFault : Policy → Type 0
NodeFault p = (f : ℕ) × (i : ℕ) × Differs p.lists (get_or (get_or p.formulas f []) i 0)

-- what 18 and 19 say
abbrev Says : Policy → ℕ → Type 0
Says p n = (n ≡ 18 → ListFault (attributes p.lists)) × (n ≡ 19 → NodeFault p)

gives-says : (r : Rules) → Gives (Says (policy_of r)) policy_format (policy_of r)
gives-says r =
    let p = policy_of r in
    gives-policy (Says p) (λ e. absurd (omega arith), λ e. absurd (omega arith)) (λ n g h. (λ e. absurd (omega arith), λ e. absurd (omega arith))) r
    (λ m a k e h. (λ _. subst ListFault e (list-fault m a k h), λ e. absurd (omega arith)))
    (λ f i g h. (λ e. absurd (omega arith), λ _. (f, i, differs p.lists f i _ g h)))

module _ (r : Rules) where
  pub eighteen-says : policy_format.judge (policy_of r) ≡ some 18 → ListFault (attributes (policy_of r).lists)
  eighteen-says e = ((gives-says r).only 18 e).0 refl

  pub nineteen-says : policy_format.judge (policy_of r) ≡ some 19 → NodeFault (policy_of r)
  nineteen-says e = ((gives-says r).only 19 e).1 refl

  -- where every list number is 0, neither is given
  pub gives-unlisted : Unlisted (attributes (policy_of r).lists) → (n : ℕ) → policy_format.judge (policy_of r) ≡ some n → n ≤ 8
  gives-unlisted u =
      (gives-policy (λ n. n ≤ 8) (omega arith) (λ n _ h. h) r (λ m a k e h. absurd (no-list-fault (subst ListFault e (list-fault m a k h))))
      (λ f i g h. absurd (both_ways _ h (unlisted-agree (policy_of r).lists u _)))).only
    where
      no-list-fault : ListFault (attributes (policy_of r).lists) → ⊥
      no-list-fault w = ⊎_elim (λ h. omega (arith, u w.0)) (λ v. omega (arith, v.1.1, u w.0)) w.1
