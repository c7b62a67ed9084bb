-- Which numbers reading a rule file can give: 1 to 8, 18 or 19; 1 to 8 alone where every list number is 0. In the shape of the format, from a place on; said
-- of any property of numbers that 1 to 8 have, 18 where the number of a list does not fit, and 19 where a node's lists differ.
use mathlib.Core.Path.{◌≡◌, sym, ap, ◌∙◌, subst}
use mathlib.Core.Bool.{Bool, false}
use mathlib.Core.Logic.{◌⊎◌, inl, inr}
use mathlib.Core.List.{List, [], ◌∷◌}
use Prim.Native.Nat.{ℕ, ◌+◌, ◌*◌, ◌≤◌, ◌<◌}
use native.Mathlib.Decide.{dec_lt}
use native.Mathlib.Omega.{arith}
use lib.ListN.{length, get_or, length-append, get_or-eq_default}
use Rattle.bits.specs.Field.{number_at}
use Rattle.bits.specs.Packed.{widths}
use Rattle.format.specs.Format.{ok, bad, field}
use Rattle.format.specs.File.{read_file}
use Rattle.format.proofs.Law.{lawful-field}
use Rattle.format.proofs.Refuses.{Refuses, refuses-field, refuses-field-where, refuses-check, refuses-pair, refuses-via, refuses-zeros}
use Rattle.format.proofs.Refuses.{refuses-rows, refuses-rows-where, refuses-file}
use Rattle.std.proofs.lemmas.Bool.{both_ways}
use Rattle.policy.specs.Policy.{Attr, no_attr, Head, Lists}
use Rattle.policy.specs.Nodes.{lists_agree}
use Rattle.policy.specs.File.{count, head_format, size_fits, attr_format, class_format, lists_format, value_format, session_format, node_format, formula_format, policy_format}
use Rattle.policy.proofs.Laws.{zero-fits}
use Rattle.policy.proofs.Listed.{attributes, unlisted-agree}
use Rattle.policy.proofs.Stands.{list_at, Stand, attr-place, class-place, lists-stand, head_at}

module _ (P : ℕ → Type 0) (early : (n : ℕ) → 1 ≤ n → n ≤ 8 → P n) (s : List ℕ) where
  one : P 1
  one = early 1 (omega arith) (omega arith)

  three : P 3
  three = early 3 (omega arith) (omega arith)

  refuses-count : (w lo hi pos : ℕ) → Refuses P s (count w lo hi) pos
  unfolding count
  refuses-count w lo hi pos = refuses-field P s w _ 2 pos one (early 2 (omega arith) (omega arith))

  refuses-head : (pos : ℕ) → Refuses P s head_format pos
  unfolding head_format
  refuses-head pos =
      refuses-via P s _ _ _ pos
      (refuses-zeros P s _ 7 3 pos one three
      (refuses-pair P s _ _ pos (refuses-count 4 0 8 pos) λ _ p _.
      refuses-pair P s _ _ p (refuses-count 4 0 8 p) λ _ p _.
      refuses-pair P s _ _ p (refuses-count 4 0 8 p) λ _ p _.
      refuses-pair P s _ _ p (refuses-count 5 1 16 p) λ _ p _.
      refuses-pair P s _ _ p (refuses-count 6 0 32 p) λ _ p _. refuses-pair P s _ _ p (refuses-count 6 0 32 p) λ _ p _. refuses-count 4 1 8 p))

  -- 18 is allowed where the number of the list at the place does not fit a size
  abbrev Late : ℕ → Type 0
  Late pos = (sizes : List ℕ) (size : ℕ) → size_fits sizes size (list_at s pos) ≡ false → P 18

  field-place : (w : ℕ) (t : ℕ → Bool) (m x pos q : ℕ) → pos ≤ 8 * length s → (field w t m).read s pos ≡ ok x q → (q ≡ pos + w) × (q ≤ 8 * length s)
  unfolding field widths
  field-place w t m x pos q h e = let b = (lawful-field w t m).back x s pos q h e in (omega (arith, b.place), omega (arith, b.place, b.holds.ends))

  refuses-attr : (sizes : List ℕ) (pos : ℕ) → pos ≤ 8 * length s → Late pos → Refuses P s (attr_format sizes) pos
  unfolding attr_format
  refuses-attr sizes pos h late =
      refuses-via P s _ _ _ pos
      (refuses-zeros P s _ 1 3 pos one three
      (refuses-pair P s _ _ pos (refuses-field P s 1 _ 4 pos one (early 4 (omega arith) (omega arith))) λ kind p e.
      let (d, i) = field-place 1 _ 4 kind pos p h e in
      refuses-pair P s _ _ p (refuses-field P s 5 _ 4 p one (early 4 (omega arith) (omega arith))) λ size q f.
      let (g, j) = field-place 5 _ 4 size p q i f in
      refuses-field-where P s 5 _ 18 q one (λ b. late sizes size (ap (λ (x : ℕ). size_fits sizes size (number_at s x 5)) (let u : pos + 6 ≡ q = omega arith in u) ∙ b))))

  refuses-class : (sizes : List ℕ) (n pos : ℕ) → pos ≤ 8 * length s → ((k : ℕ) → k < n → Late (pos + 12 * k)) → Refuses P s (class_format sizes n) pos
  unfolding class_format
  refuses-class sizes n pos h late =
      refuses-check P s _ _ 5 pos
      (refuses-rows-where P s _ (λ l q. (q ≡ pos + 12 * length l) × (q ≤ 8 * length s))
      (λ l p a q i e. let (d, j) = attr-place s _ a p q i.1 e in (omega (arith, length-append l (a ∷ []), i.0), j)) n pos
      (λ l q i j. refuses-attr _ q j.1 (subst Late (sym j.0) (late (length l) i))) (omega arith, h))
      (λ _ _. early 5 (omega arith) (omega arith))

  refuses-lists : (h : Head) (pos : ℕ) → pos ≤ 8 * length s → ((k : ℕ) → k < h.user_attrs + h.session_attrs + h.item_attrs → Late (pos + 12 * k)) → Refuses P s (lists_format h) pos
  unfolding lists_format
  refuses-lists h pos i late =
      refuses-via P s _ _ _ pos
      (refuses-pair P s _ _ pos (refuses-class _ _ pos i (λ k l. late k (omega arith))) λ u p e.
      let (d, j) = class-place s _ _ u pos p i e in
      refuses-pair P s _ _ p (refuses-class _ _ p j (λ k l. subst Late (omega arith) (late (h.user_attrs + k) (omega arith)))) λ t q f.
      let (g, m) = class-place s _ _ t p q j f in
      refuses-class _ _ q m (λ k l. subst Late (omega arith) (late (h.user_attrs + h.session_attrs + k) (omega arith))))

  refuses-value : (l : List Attr) (pos : ℕ) → Refuses P s (value_format l) pos
  unfolding value_format
  refuses-value [] pos = refuses-field P s 0 _ 6 pos one (early 6 (omega arith) (omega arith))
  refuses-value (a ∷ l) pos =
      refuses-via P s _ _ _ pos (refuses-pair P s _ _ pos (refuses-field P s _ _ 6 pos one (early 6 (omega arith) (omega arith))) λ _ q _. refuses-value l q)

  refuses-session : (n : ℕ) (l : List Attr) (pos : ℕ) → Refuses P s (session_format n l) pos
  unfolding session_format
  refuses-session n l pos =
      refuses-via P s _ _ _ pos (refuses-pair P s _ _ pos (refuses-field P s 4 _ 7 pos one (early 7 (omega arith) (omega arith))) λ _ q _. refuses-value l q)

  refuses-formula : (c : Lists) (f pos : ℕ) → ((x : ℕ) → lists_agree c x ≡ false → P 19) → Refuses P s (formula_format c f) pos
  unfolding formula_format node_format
  refuses-formula c f pos late =
      refuses-via P s _ _ _ pos
      (refuses-pair P s _ _ pos (refuses-field P s 8 _ 8 pos one (early 8 (omega arith) (omega arith))) λ n q _.
      refuses-rows P s n _ q (λ l p. refuses-check P s _ _ 19 p (refuses-field P s 20 _ 8 p one (early 8 (omega arith) (omega arith))) late))

  -- how many attributes the file has
  abbrev total : ℕ
  total = number_at s 0 4 + number_at s 4 4 + number_at s 8 4

  pub refuses-policy : ((k : ℕ) → k < total → Late (40 + 12 * k)) → ((c : Lists) → Stand s (attributes c) total 40 → (x : ℕ) → lists_agree c x ≡ false → P 19)
      → Refuses P s policy_format 0
  unfolding policy_format
  refuses-policy late differ =
      refuses-via P s _ _ _ 0
      (refuses-pair P s _ _ 0 (refuses-head 0) λ h p e.
      let g = head_at s h p e in
      let n : h.user_attrs + h.session_attrs + h.item_attrs ≡ total = omega (arith, g.user, g.session, g.item) in
      refuses-pair P s _ _ p (refuses-lists h p g.ends (λ k l. subst Late (omega (arith, g.place)) (late k (omega arith)))) λ c q f.
      let w : Stand s (attributes c) total 40 = subst (λ (m : ℕ). Stand s (attributes c) m 40) n
      (subst (Stand s (attributes c) (h.user_attrs + h.session_attrs + h.item_attrs)) g.place (lists-stand s h c p q g.ends f)) in
      refuses-pair P s _ _ q (refuses-rows P s _ _ q (λ _ r. refuses-value _ r)) λ _ q _.
      refuses-pair P s _ _ q (refuses-rows P s _ _ q (λ _ r. refuses-session _ _ r)) λ _ q _.
      refuses-pair P s _ _ q (refuses-rows P s _ _ q (λ _ r. refuses-value _ r)) λ _ q _. refuses-rows P s _ _ q (λ l r. refuses-formula c (length l) r (differ c w)))

-- a number that reading can give
abbrev pub Told : ℕ → Type 0
Told n = ((1 ≤ n) × (n ≤ 8)) ⊎ ((18 ≤ n) × (n ≤ 19))

pub read_told : (s : List ℕ) (n q : ℕ) → read_file policy_format s ≡ bad n q → Told n
read_told s =
    refuses-file Told s policy_format (early 1 (omega arith) (omega arith)) (early 3 (omega arith) (omega arith))
    (refuses-policy Told early s (λ _ _ _ _ _. inr (omega arith, omega arith)) (λ _ _ _ _. inr (omega arith, omega arith)))
  where
    early : (n : ℕ) → 1 ≤ n → n ≤ 8 → Told n
    early n g h = inl (g, h)

-- where every list number is 0, neither 18 nor 19 is given
pub read-unlisted : (s : List ℕ) → ((k : ℕ) → k < number_at s 0 4 + number_at s 4 4 + number_at s 8 4 → list_at s (40 + 12 * k) ≡ 0)
    → (n q : ℕ) → read_file policy_format s ≡ bad n q → n ≤ 8
unfolding no_attr
read-unlisted s z =
    refuses-file (λ n. n ≤ 8) s policy_format (omega arith) (omega arith)
    (refuses-policy (λ n. n ≤ 8) (λ n _ h. h) s (λ k l sizes size e. absurd (both_ways _ e (zero-fits sizes size _ (z k l))))
    (λ c t x e. absurd (both_ways _ e (unlisted-agree c (λ k. all c t k (dec_lt k total)) x))))
  where
    total : ℕ
    total = number_at s 0 4 + number_at s 4 4 + number_at s 8 4

    all : (c : Lists) → Stand s (attributes c) total 40 → (k : ℕ) → Dec (k < total) → (get_or (attributes c) k no_attr).list ≡ 0
    all c t k (yes l) = t.lists k l ∙ z k l
    all c t k (no l) = ap (λ (a : Attr). a.list) (get_or-eq_default (attributes c) no_attr (omega (arith, t.long)))
