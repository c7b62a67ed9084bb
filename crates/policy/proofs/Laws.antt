-- Laws of rules in memory and of attributes. In order: tables; attributes of a class, values, starting sessions, nodes and formulas, each
-- with none, one more that is stored, one more that is read, and how many; the rules beside a number; the fewest bits; widths; list numbers do
-- not matter for values; the sizes of lists; values that a format takes.
-- Not here: nodes by their operators (NodeLaws), the format's laws (PolicyLaw).
use mathlib.Core.Path.{◌≡◌, refl, sym, ap, ◌∙◌, subst}
use mathlib.Core.Bool.{true, cond}
use mathlib.Core.List.{List, [], ◌∷◌, ◌++◌}
use mathlib.Core.Option.{none}
use Prim.Native.Nat.{ℕ, zero, suc, ◌+◌, ◌*◌, ◌/◌, ◌%◌, ◌^◌, ◌≤◌, ◌<◌}
use native.Mathlib.Decide.{dec_le}
use native.Mathlib.Nat.{div-lt_iff_lt-mul}
use native.Mathlib.Omega.{arith}
use borrow.Author.Tests.{le-leb, lt-leb, eq-eqb, ne_eqb}
use lib.Dec.{leb}
use lib.ListN.{length, get_or, set, length-set}
use lib.Pow.{pow_pos, pow_mono, pow-add}
use lib.Seq.{get_or-set_same, get_or-set_other}
use Rattle.bits.specs.Packed.{tab}
use Rattle.bits.proofs.Laws.{pow_more}
use Rattle.bits.proofs.Packed.{tab-ext, tab-more, tab-zero, length-tab, get_or-tab}
use Rattle.format.specs.Format.{Format, field, within, pair, via}
use Rattle.format.proofs.Law.{judged-field, judged-pair}
use Rattle.policy.specs.Policy.{Attr, Session, unlisted, fewest_from, fewest_bits, bits_for, codes, width}
use Rattle.policy.specs.File.{value_format, sizes_after, size_fits}
use Rattle.policy.specs.Rules.{as_attr, no_attribute, attr_at, attrs_of, values_of, as_session, no_session, session_at, sessions_of, nodes_of, formulas_of, no_rules, rules_beside}
use Rattle.policy.specs.declared.Attribute.{Attribute}
use Rattle.policy.specs.declared.Class.{Class}
use Rattle.policy.specs.declared.Values.{Values}
use Rattle.policy.specs.declared.Session.{Session as StartingSession}
use Rattle.policy.specs.declared.Sessions.{Sessions}
use Rattle.policy.specs.declared.Rules.{Rules}

module _ {A : Type 0} where
  -- the first i + 1 of a table are the first i of another that agrees with it there, and x
  pub tab-grows : (f g : ℕ → A) (i : ℕ) (x : A) → ((k : ℕ) → k < i → f k ≡ g k) → f i ≡ x → tab f 0 (i + 1) ≡ tab g 0 i ++ x ∷ []
  tab-grows f g i x same e =
      tab-more f i ∙ ap (λ (m : List A). m ++ f i ∷ []) (tab-ext f g 0 i (λ k l. same k (omega arith))) ∙ ap (λ (y : A). tab g 0 i ++ y ∷ []) e

  pub tab-set : {B : Type 0} (d : B) (g : B → A) (l : List B) (i : ℕ) (x : B) → i < length l →
      tab (λ k. g (get_or (set l i x) k d)) 0 (i + 1) ≡ tab (λ k. g (get_or l k d)) 0 i ++ g x ∷ []
  tab-set d g l i x h = tab-grows _ _ i (g x) (λ k m. ap g (get_or-set_other l i k x d (λ e. omega arith))) (ap g (get_or-set_same l i x d h))

-- attributes of a class

-- the first i attributes of a class
abbrev pub cut : Class → ℕ → Class
cut c i = record { count = i; attributes = c.attributes }

pub attrs-none : (c : Class) → c.count ≡ 0 → attrs_of c ≡ []
unfolding attrs_of
attrs-none c z = ap (λ (n : ℕ). tab (attr_at c) 0 n) z ∙ tab-zero _ 0

pub attrs-more : (c : Class) (i : ℕ) (a : Attribute) → i < length c.attributes →
    attrs_of record { count = i + 1; attributes = set c.attributes i a } ≡ attrs_of (cut c i) ++ as_attr a ∷ []
unfolding attrs_of attr_at
attrs-more c i a = tab-set no_attribute as_attr c.attributes i a

pub attrs-next : (c : Class) (i : ℕ) → attrs_of (cut c (i + 1)) ≡ attrs_of (cut c i) ++ attr_at c i ∷ []
unfolding attrs_of attr_at
attrs-next c i = tab-more _ i

pub attrs-at : (c : Class) (k : ℕ) (d : Attr) → k < c.count → get_or (attrs_of c) k d ≡ attr_at c k
unfolding attrs_of
attrs-at c k d h = get_or-tab (attr_at c) 0 c.count k d h ∙ ap (attr_at c) (omega arith)

pub attrs-length : (c : Class) → length (attrs_of c) ≡ c.count
unfolding attrs_of
attrs-length c = length-tab _ 0 c.count

-- values

pub values-none : (values : List ℕ) → values_of record { count = 0; values = values } ≡ []
unfolding values_of
values-none values = tab-zero _ 0

pub values-more : (values : List ℕ) (i x : ℕ) → i < length values →
    values_of record { count = i + 1; values = set values i x } ≡ values_of record { count = i; values = values } ++ x ∷ []
unfolding values_of
values-more values i x = tab-set 0 (λ y. y) values i x

pub values-next : (v : Values) (i : ℕ) →
    values_of record { count = i + 1; values = v.values } ≡ values_of record { count = i; values = v.values } ++ get_or v.values i 0 ∷ []
unfolding values_of
values-next v i = tab-more _ i

pub values_length : (v : Values) → length (values_of v) ≡ v.count
unfolding values_of
values_length v = length-tab _ 0 v.count

-- starting sessions

pub sessions-none : (l : List StartingSession) → sessions_of record { count = 0; sessions = l } ≡ []
unfolding sessions_of
sessions-none l = tab-zero _ 0

pub sessions-more : (l : List StartingSession) (i : ℕ) (s : StartingSession) → i < length l →
    sessions_of record { count = i + 1; sessions = set l i s } ≡ sessions_of record { count = i; sessions = l } ++ as_session s ∷ []
unfolding sessions_of session_at
sessions-more l i s = tab-set no_session as_session l i s

pub sessions-next : (t : Sessions) (i : ℕ) →
    sessions_of record { count = i + 1; sessions = t.sessions } ≡ sessions_of record { count = i; sessions = t.sessions } ++ session_at t i ∷ []
unfolding sessions_of session_at
sessions-next t i = tab-more _ i

pub sessions-at : (t : Sessions) (k : ℕ) (d : Session) → k < t.count → get_or (sessions_of t) k d ≡ session_at t k
unfolding sessions_of
sessions-at t k d h = get_or-tab (session_at t) 0 t.count k d h ∙ ap (session_at t) (omega arith)

pub sessions-length : (t : Sessions) → length (sessions_of t) ≡ t.count
unfolding sessions_of
sessions-length t = length-tab _ 0 t.count

-- nodes of a formula

pub nodes-none : (l : List ℕ) (f : ℕ) → nodes_of l f 0 ≡ []
unfolding nodes_of
nodes-none l f = tab-zero _ 0

pub nodes-more : (l : List ℕ) (f i x : ℕ) → 64 * f + i < length l → nodes_of (set l (64 * f + i) x) f (i + 1) ≡ nodes_of l f i ++ x ∷ []
unfolding nodes_of
nodes-more l f i x h = tab-grows _ _ i x (λ k m. get_or-set_other l (64 * f + i) (64 * f + k) x 0 (λ e. omega arith)) (get_or-set_same l (64 * f + i) x 0 h)

pub nodes-next : (l : List ℕ) (f i : ℕ) → nodes_of l f (i + 1) ≡ nodes_of l f i ++ get_or l (64 * f + i) 0 ∷ []
unfolding nodes_of
nodes-next l f i = tab-more _ i

pub nodes-kept : (l l' : List ℕ) (f n : ℕ) → ((j : ℕ) → j < 64 * f + n → 64 * f ≤ j → get_or l' j 0 ≡ get_or l j 0) → nodes_of l' f n ≡ nodes_of l f n
unfolding nodes_of
nodes-kept l l' f n same = tab-ext _ _ 0 n (λ k m. same (64 * f + k) (omega arith) (omega arith))

pub nodes-length : (l : List ℕ) (f n : ℕ) → length (nodes_of l f n) ≡ n
unfolding nodes_of
nodes-length l f n = length-tab _ 0 n

-- formulas

pub formulas-none : (l lengths : List ℕ) → formulas_of l lengths 0 ≡ []
unfolding formulas_of
formulas-none l lengths = tab-zero _ 0

pub formulas-more : (l l' lengths : List ℕ) (f n : ℕ) → f < length lengths → ((g : ℕ) → g < f → get_or lengths g 0 ≤ 64) →
    ((j : ℕ) → j < 64 * f → get_or l' j 0 ≡ get_or l j 0) → formulas_of l' (set lengths f n) (f + 1) ≡ formulas_of l lengths f ++ nodes_of l' f n ∷ []
unfolding formulas_of
formulas-more l l' lengths f n h short same =
    tab-grows _ _ f (nodes_of l' f n)
    (λ g m.
    ap (nodes_of l' g) (get_or-set_other lengths f g n 0 (λ e. omega arith))
    ∙ nodes-kept l l' g (get_or lengths g 0) (λ j k i. same j (omega (arith, short g m))))
    (ap (nodes_of l' f) (get_or-set_same lengths f n 0 h))

pub formulas-next : (l lengths : List ℕ) (f : ℕ) → formulas_of l lengths (f + 1) ≡ formulas_of l lengths f ++ nodes_of l f (get_or lengths f 0) ∷ []
unfolding formulas_of
formulas-next l lengths f = tab-more _ f

pub formulas-length : (l lengths : List ℕ) (n : ℕ) → length (formulas_of l lengths n) ≡ n
unfolding formulas_of
formulas-length l lengths n = length-tab _ 0 n

-- the rules beside a number

pub beside-good : (n : ℕ) (r : Rules) → n ≡ 0 → r ≡ rules_beside n r
unfolding rules_beside
beside-good n r z = simp (eq-eqb n 0 z)

pub beside-bad : (n : ℕ) (r : Rules) → 0 < n → r ≡ no_rules → r ≡ rules_beside n r
unfolding rules_beside
beside-bad n r z e = e ∙ simp (ne_eqb n 0 (λ d. omega arith))

-- the fewest bits

-- what holds of either side of a test holds of what it picks
picks : (P : ℕ → Type 0) (a b m n : ℕ) → (a ≤ b → P m) → (b < a → P n) → P (cond (leb a b) m n)
picks P a b m n y z = go (dec_le a b)
  where
    go : Dec (a ≤ b) → P (cond (leb a b) m n)
    go (yes h) = rw (le-leb a b h) (y h)
    go (no h) = rw (lt-leb a b (omega arith)) (z (omega arith))

enough-from : (k w n : ℕ) → n ≤ 2 ^ (w + k) → n ≤ 2 ^ fewest_from k w n
unfolding fewest_from
enough-from zero w n h = subst (λ (z : ℕ). n ≤ 2 ^ z) (omega arith) h
enough-from (suc k) w n h =
    picks (λ z. n ≤ 2 ^ z) n (2 ^ w) w (fewest_from k (suc w) n) (λ l. l)
    (λ _. enough-from k (suc w) n (subst (λ (z : ℕ). n ≤ 2 ^ z) (omega arith) h))

least-from : (k w n v : ℕ) → w ≤ v → n ≤ 2 ^ v → fewest_from k w n ≤ v
unfolding fewest_from
least-from zero w n v l h = l
least-from (suc k) w n v l h =
    picks (λ z. z ≤ v) n (2 ^ w) w (fewest_from k (suc w) n) (λ _. l) (λ g. least-from k (suc w) n v (later g (dec_le (suc w) v)) h)
  where
    later : 2 ^ w < n → Dec (suc w ≤ v) → suc w ≤ v
    later g (yes m) = m
    later g (no m) = let e : 2 ^ v ≤ 2 ^ w = pow_mono (omega arith) in absurd (omega arith)

below_power : (n : ℕ) → n ≤ 2 ^ n
below_power zero = omega arith
below_power (suc n) = omega (arith, below_power n, pow_more n, pow_pos n)

pub fewest-enough : (n : ℕ) → n ≤ 2 ^ fewest_bits n
unfolding fewest_bits
fewest-enough n = enough-from n 0 n (subst (λ (z : ℕ). n ≤ 2 ^ z) (omega arith) (below_power n))

pub fewest-least : (n w : ℕ) → n ≤ 2 ^ w → fewest_bits n ≤ w
unfolding fewest_bits
fewest-least n w h = least-from n 0 n w (omega arith) h

pub fewest-over : (n w : ℕ) → 2 ^ w < n → w < fewest_bits n
fewest-over n w h = go (dec_le (fewest_bits n) w)
  where
    go : Dec (fewest_bits n ≤ w) → w < fewest_bits n
    go (yes l) = absurd (omega (arith, fewest-enough n, pow_mono {i = fewest_bits n} {j = w} l))
    go (no l) = omega arith

-- widths

pub width-none : width [] ≡ 0
unfolding width
width-none = refl

pub width-more : (l : List Attr) (a : Attr) → width (l ++ a ∷ []) ≡ width l + bits_for a
unfolding width
width-more [] a = omega arith
width-more (b ∷ l) a = omega (arith, width-more l a)

-- list numbers do not matter for values

pub bits-unlisted : (a : Attr) → bits_for record { kind = a.kind; size = a.size; list = 0 } ≡ bits_for a
unfolding bits_for
bits-unlisted a = refl

pub codes-unlisted : (a : Attr) → codes record { kind = a.kind; size = a.size; list = 0 } ≡ codes a
unfolding codes
codes-unlisted a = refl

pub width-unlisted : (l : List Attr) → width (unlisted l) ≡ width l
unfolding width unlisted
width-unlisted [] = refl
width-unlisted (a ∷ l) = omega (arith, bits-unlisted a, width-unlisted l)

-- the format of an attribute's value and of those after it
part : ℕ → ℕ → ℕ → Format ℕ → Format ℕ
part w n b f = via (λ v. (v / 2 ^ b, v % 2 ^ b)) (λ p. p.0 * 2 ^ b + p.1) (pair (field w (within 0 n) 6) λ _. f)

pub value-unlisted : (l : List Attr) → value_format (unlisted l) ≡ value_format l
unfolding value_format unlisted part
value-unlisted [] = refl
value-unlisted (a ∷ l) =
    ap (λ (w : ℕ). part w (codes record { kind = a.kind; size = a.size; list = 0 }) (width (unlisted l)) (value_format (unlisted l))) (bits-unlisted a)
    ∙ ap (λ (n : ℕ). part (bits_for a) n (width (unlisted l)) (value_format (unlisted l))) (codes-unlisted a)
    ∙ ap (λ (b : ℕ). part (bits_for a) (codes a) b (value_format (unlisted l))) (width-unlisted l)
    ∙ ap (part (bits_for a) (codes a) (width l)) (value-unlisted l)

-- the sizes of lists

pub sizes-none : (sizes : List ℕ) → sizes_after sizes [] ≡ sizes
unfolding sizes_after
sizes-none sizes = refl

pub sizes-app : (sizes : List ℕ) (l m : List Attr) → sizes_after sizes (l ++ m) ≡ sizes_after (sizes_after sizes l) m
unfolding sizes_after
sizes-app sizes [] m = refl
sizes-app sizes (a ∷ l) m = sizes-app (set sizes a.list a.size) l m

pub sizes-more : (sizes : List ℕ) (l : List Attr) (a : Attr) → sizes_after sizes (l ++ a ∷ []) ≡ set (sizes_after sizes l) a.list a.size
unfolding sizes_after
sizes-more sizes l a = sizes-app sizes l (a ∷ [])

pub sizes-length : (sizes : List ℕ) (l : List Attr) → length (sizes_after sizes l) ≡ length sizes
unfolding sizes_after
sizes-length sizes [] = refl
sizes-length sizes (a ∷ l) = sizes-length (set sizes a.list a.size) l ∙ length-set sizes a.list a.size

-- list 0 fits any size
pub zero-fits : (sizes : List ℕ) (size list : ℕ) → list ≡ 0 → size_fits sizes size list ≡ true
unfolding size_fits
zero-fits sizes size list e = simp (eq-eqb list 0 e)

-- values that a format takes

pub value-lt : (l : List Attr) (v : ℕ) → (value_format l).judge v ≡ none → v < 2 ^ width l
unfolding value_format width via
value-lt [] v j = (judged-field 0 _ 6 v j).0
value-lt (a ∷ l) v j =
    let m = 2 ^ width l in
    let h = (judged-field (bits_for a) (within 0 (codes a)) 6 (v / m) (judged-pair _ (λ _. value_format l) (v / m) (v % m) j).0).0 in
    subst (λ (z : ℕ). v < z) (sym (pow-add 2 (bits_for a) (width l))) ((div-lt_iff_lt-mul (pow_pos (width l))).0 h)
