-- Laws of list numbers in judged rules. In order: attributes whose sizes fit their lists, one size for each list; nodes that compare attributes of equal
-- lists; attributes that all have list 0.
-- Not here: which numbers are given (Numbers, ReadNumbers).
use mathlib.Core.Path.{◌≡◌, refl, sym, ap, ◌∙◌, subst}
use mathlib.Core.Bool.{Bool, true, false, ◌||◌, cond}
use mathlib.Core.Logic.{⊎_elim}
use mathlib.Core.List.{List, [], ◌∷◌, ◌++◌}
use mathlib.Core.Option.{none}
use Prim.Native.Nat.{ℕ, zero, suc, ◌+◌, ◌≤◌, ◌<◌}
use native.Mathlib.Decide.{ℕ_discrete, dec_lt}
use native.Mathlib.Omega.{arith}
use borrow.Author.Tests.{eqb-true}
use lib.Dec.{leb, eqb}
use lib.ListN.{length, get_or, set, length-set, length-replicate, get_or-append, get_or-eq_default}
use lib.Seq.{get_or-set_same, get_or-set_other, get_or-append-add}
use Rattle.format.specs.Format.{check, rows_judge, rows, via, zeros}
use Rattle.format.proofs.Chain.{within-true}
use Rattle.format.proofs.Fault.{first-none, unless-none}
use Rattle.format.proofs.Law.{judged-field, judged-pair, judged-each}
use Rattle.std.proofs.lemmas.Bool.{or_cases}
use Rattle.policy.specs.Policy.{Attr, no_attr, Lists, Policy}
use Rattle.policy.specs.Nodes.{op_of, first_of, second_of, holder_of, place_of, of_holder, named, lists_agree}
use Rattle.policy.specs.File.{no_sizes, sizes_after, size_fits, attr_format, class_format, lists_format, node_format, formula_format, policy_format}
use Rattle.policy.proofs.Laws.{sizes-app, sizes-more}
use Rattle.policy.proofs.NodeLaws.{same_lists, agree-others, agree-compared, agree-equal}

-- the attributes of all classes in reading order
abbrev pub attributes : Lists → List Attr
attributes c = c.of_user ++ c.of_session ++ c.of_item

-- an attribute that is judged sound where the lists have the sizes t
pub record Fits (t : List ℕ) (a : Attr) : Type 0 where
  pub some-value : 1 ≤ a.size
  pub short : a.list < 32
  pub fits : size_fits t a.size a.list ≡ true

pub attr-fits : (t : List ℕ) (a : Attr) → (attr_format t).judge a ≡ none → Fits t a
unfolding attr_format via zeros
attr-fits t a j =
    let j₀ = (judged-pair _ _ _ _ j).0 in
    let j₁ = (judged-pair _ _ _ _ j₀).1 in
    let (k₀, k₁) = judged-pair _ _ _ _ j₁ in
    let (f₀, f₁) = judged-field 5 _ 18 _ k₁ in
    record { some-value = (within-true _ _ _ (judged-field 5 _ 4 _ k₀).1).0; short = omega arith; fits = f₁ }

-- attributes one after another, each sound after those before it
abbrev Fitting : List ℕ → List Attr → Type 0
Fitting t [] = Unit {0}
Fitting t (a ∷ l) = Fits t a × Fitting (set t a.list a.size) l

rows-fitting : (t : List ℕ) (l : List Attr) (n : ℕ) (m : List Attr) → rows_judge (λ l. attr_format (sizes_after t l)) l n m ≡ none → Fitting (sizes_after t l) m
unfolding rows_judge
rows-fitting t l n [] j = tt
rows-fitting t l zero (a ∷ m) j = absurd (let z : ◌≡◌ {A = ℕ} 0 1 = cc in omega arith)
rows-fitting t l (suc n) (a ∷ m) j =
    let (j₀, j₁) = first-none _ _ j in
    (attr-fits _ a j₀, subst (λ (u : List ℕ). Fitting u m) (sizes-more t l a) (rows-fitting t (l ++ a ∷ []) n m j₁))

class-fitting : (t : List ℕ) (n : ℕ) (l : List Attr) → (class_format t n).judge l ≡ none → Fitting t l
unfolding class_format check rows sizes_after
class-fitting t n l j = rows-fitting t [] n l (first-none _ _ j).0

fitting-app : (t : List ℕ) (l m : List Attr) → Fitting t l → Fitting (sizes_after t l) m → Fitting t (l ++ m)
unfolding sizes_after
fitting-app t [] m f g = g
fitting-app t (a ∷ l) m f g = (f.0, fitting-app (set t a.list a.size) l m f.1 g)

lists-fitting : (p : Policy) → policy_format.judge p ≡ none → Fitting no_sizes (attributes p.lists)
unfolding policy_format lists_format via
lists-fitting p j =
    let c = p.lists in
    let k = (judged-pair _ _ _ _ (judged-pair _ _ _ _ j).1).0 in
    let (u, v) = judged-pair _ _ _ _ k in
    let (s, i) = judged-pair _ _ _ _ v in
    fitting-app no_sizes (c.of_user ++ c.of_session) c.of_item (fitting-app no_sizes c.of_user c.of_session (class-fitting _ _ _ u) (class-fitting _ _ _ s))
    (subst (λ (t : List ℕ). Fitting t c.of_item) (sym (sizes-app no_sizes c.of_user c.of_session)) (class-fitting _ _ _ i))

-- where a list has a size already, it is the attribute's
known-size : (t : List ℕ) (a : Attr) → Fits t a → 0 < a.list → 0 < get_or t a.list 0 → get_or t a.list 0 ≡ a.size
unfolding size_fits
known-size t a f l h =
    let z = get_or t a.list 0 in
    ⊎_elim
    (λ e. ⊎_elim (λ d. absurd (omega (arith, eqb-true a.list 0 d))) (λ d. absurd (omega (arith, eqb-true z 0 d))) (or_cases (eqb a.list 0) (eqb z 0) e))
    (λ e. eqb-true z a.size e) (or_cases (eqb a.list 0 || eqb z 0) (eqb z a.size) f.fits)

-- list n has size z, above 0: it stays so, and every attribute of that list has it
kept-size : (t : List ℕ) (n z : ℕ) (l : List Attr) → length t ≡ 32 → Fitting t l → 0 < n → 0 < z → get_or t n 0 ≡ z → (k : ℕ) → (get_or l k no_attr).list ≡ n → (get_or l k no_attr).size ≡ z
unfolding no_attr
kept-size t n z [] h f u v e k d = absurd (omega arith)
kept-size t n z (a ∷ l) h f u v e zero d =
    let g : get_or t a.list 0 ≡ z = ap (λ (m : ℕ). get_or t m 0) d ∙ e in
    sym (known-size t a f.0 (omega arith) (omega arith)) ∙ g
kept-size t n z (a ∷ l) h f u v e (suc k) d =
    kept-size (set t a.list a.size) n z l (length-set t a.list a.size ∙ h) f.1 u v (go (ℕ_discrete n a.list)) k d
  where
    go : Dec (n ≡ a.list) → get_or (set t a.list a.size) n 0 ≡ z
    go (yes i) =
        let g : get_or t a.list 0 ≡ z = ap (λ (m : ℕ). get_or t m 0) (sym i) ∙ e in
        ap (λ (m : ℕ). get_or (set t a.list a.size) m 0) i ∙ get_or-set_same t a.list a.size 0 (omega (arith, f.0.short))
        ∙ sym (known-size t a f.0 (omega arith) (omega arith)) ∙ g
    go (no i) = get_or-set_other t a.list n a.size 0 i ∙ e

-- every later attribute of the first one's list has its size
first-size : (t : List ℕ) (a : Attr) (l : List Attr) → length t ≡ 32 → Fitting t (a ∷ l) → 0 < a.list → (k : ℕ) → (get_or l k no_attr).list ≡ a.list → (get_or l k no_attr).size ≡ a.size
first-size t a l h f u =
    kept-size (set t a.list a.size) a.list a.size l (length-set t a.list a.size ∙ h) f.1 u f.0.some-value
    (get_or-set_same t a.list a.size 0 (omega (arith, f.0.short)))

fitting-size : (t : List ℕ) (l : List Attr) → length t ≡ 32 → Fitting t l → (i j : ℕ) → (get_or l i no_attr).list ≡ (get_or l j no_attr).list → 0 < (get_or l i no_attr).list
    → (get_or l i no_attr).size ≡ (get_or l j no_attr).size
unfolding no_attr
fitting-size t [] h f i j e u = refl
fitting-size t (a ∷ l) h f zero zero e u = refl
fitting-size t (a ∷ l) h f zero (suc j) e u = sym (first-size t a l h f u j (sym e))
fitting-size t (a ∷ l) h f (suc i) zero e u = first-size t a l h f (omega arith) i e
fitting-size t (a ∷ l) h f (suc i) (suc j) e u = fitting-size (set t a.list a.size) l (length-set t a.list a.size ∙ h) f.1 i j e u

-- attributes of the same list other than 0 have the same size
pub one_size : (p : Policy) → policy_format.judge p ≡ none → (i j : ℕ) → (get_or (attributes p.lists) i no_attr).list ≡ (get_or (attributes p.lists) j no_attr).list
    → 0 < (get_or (attributes p.lists) i no_attr).list → (get_or (attributes p.lists) i no_attr).size ≡ (get_or (attributes p.lists) j no_attr).size
unfolding no_sizes
one_size p j = fitting-size no_sizes (attributes p.lists) (length-replicate {A = ℕ} 32 0) (lists-fitting p j)

-- where there is no node, 0 stands
agree-none : (c : Lists) → lists_agree c 0 ≡ true
unfolding op_of
agree-none c = agree-others c 0 (λ g h. omega arith)

-- a node that is judged sound
node-agrees : (c : Lists) (f i x : ℕ) → (node_format c f i).judge x ≡ none → lists_agree c x ≡ true
unfolding node_format check
node-agrees c f i x j = unless-none _ 19 (first-none _ _ j).1

formula-agrees : (c : Lists) (f : ℕ) (l : List ℕ) → (formula_format c f).judge l ≡ none → (i : ℕ) → lists_agree c (get_or l i 0) ≡ true
unfolding formula_format via
formula-agrees c f l j i = judged-each _ _ l (λ x. lists_agree c x ≡ true) (λ m x. node-agrees c f (length m) x) (judged-pair _ _ _ _ j).1 i 0 (agree-none c)

-- where a node compares two attributes, their lists are the same
pub compared-agree : (p : Policy) → policy_format.judge p ≡ none → (f i : ℕ) → let x = get_or (get_or p.formulas f []) i 0 in
    5 ≤ op_of x → op_of x ≤ 10 → holder_of (first_of x) ≤ 4 → holder_of (second_of x) ≤ 4 → (named p.lists (first_of x)).list ≡ (named p.lists (second_of x)).list
unfolding policy_format via
compared-agree p j f i g h a b =
    let c = p.lists in
    let x = get_or (get_or p.formulas f []) i 0 in
    let k = (judged-pair _ _ _ _ (judged-pair _ _ _ _ (judged-pair _ _ _ _ (judged-pair _ _ _ _ (judged-pair _ _ _ _ j).1).1).1).1).1 in
    let e = judged-each _ _ p.formulas (λ l. (i : ℕ) → lists_agree c (get_or l i 0) ≡ true) (λ m l. formula-agrees c (length m) l) k f [] (λ _. agree-none c) i in
    eqb-true _ _ (sym (same_lists c (first_of x) (second_of x) (λ d. omega arith) (λ d. omega arith)) ∙ sym (agree-compared c x g h) ∙ e)

-- every attribute has list 0
abbrev pub Unlisted : List Attr → Type 0
Unlisted l = (k : ℕ) → (get_or l k no_attr).list ≡ 0

unlisted-left : (l m : List Attr) → Unlisted (l ++ m) → Unlisted l
unfolding no_attr
unlisted-left l m u k = go (dec_lt k (length l))
  where
    go : Dec (k < length l) → (get_or l k no_attr).list ≡ 0
    go (yes h) = ap (λ (a : Attr). a.list) (sym (get_or-append l m no_attr k h)) ∙ u k
    go (no h) = ap (λ (a : Attr). a.list) (get_or-eq_default l no_attr (omega arith))

unlisted-right : (l m : List Attr) → Unlisted (l ++ m) → Unlisted m
unlisted-right l m u k = ap (λ (a : Attr). a.list) (sym (get_or-append-add l m k no_attr)) ∙ u (length l + k)

-- where every attribute has list 0, no node compares attributes of different lists
pub unlisted-agree : (c : Lists) → Unlisted (attributes c) → (x : ℕ) → lists_agree c x ≡ true
unfolding named of_holder
unlisted-agree c u x = agree-equal c x (all (first_of x) ∙ sym (all (second_of x)))
  where
    either : (b : Bool) (l m : List Attr) → Unlisted l → Unlisted m → Unlisted (cond b l m)
    either true l m f g = f
    either false l m f g = g

    all : (y : ℕ) → (named c y).list ≡ 0
    all y =
        let h = holder_of y in
        let v = unlisted-left (c.of_user ++ c.of_session) c.of_item u in
        let t = either (leb h 2) c.of_session c.of_item (unlisted-right c.of_user c.of_session v) (unlisted-right (c.of_user ++ c.of_session) c.of_item u) in
        either (eqb h 0) c.of_user (cond (leb h 2) c.of_session c.of_item) (unlisted-left c.of_user c.of_session v) t (place_of y)
