-- What is judged to be no fault is sound. In order: rows of a kind; a class; a starting session; a formula; the head; the classes; the whole.
use mathlib.Core.Path.{◌≡◌}
use mathlib.Core.Bool.{Bool, true}
use mathlib.Core.List.{List, [], ◌∷◌, ◌++◌}
use mathlib.Core.Option.{none}
use Prim.Native.Nat.{ℕ, zero, suc, ◌+◌, ◌≤◌, ◌<◌}
use native.Mathlib.Omega.{arith}
use borrow.Author.Tests.{leb-true, ltb-true}
use lib.Dec.{leb, ltb}
use lib.ListN.{length, get_or}
use Rattle.format.specs.Format.{Format, within, field, check, rows_judge, rows, via, zeros}
use Rattle.format.proofs.Fault.{first-none, unless-none}
use Rattle.format.proofs.Law.{judged-field, judged-pair, judged-rows, judged-each as judged-at}
use Rattle.bits.proofs.Set.{both_true}
use Rattle.policy.specs.Policy.{Head, Attr, Lists, Session, width}
use Rattle.policy.specs.File.{count, head_format, no_sizes, sizes_after, class_format, lists_format, value_format, session_format, formula_format, policy_format}
use Rattle.lists.specs.Sound.{starting_session, JudgedIsSound}
use Rattle.lists.proofs.Laws.{judged-listed}

module _ {A : Type 0} (g : Format A) where
  rows-each : (l : List A) (n : ℕ) (m : List A) (d : A) → rows_judge (λ _. g) l n m ≡ none → (k : ℕ) → k < length m → g.judge (get_or m k d) ≡ none
  unfolding rows_judge
  rows-each l n [] d j k h = absurd (omega arith)
  rows-each l zero (a ∷ m) d j k h = absurd (let z : ◌≡◌ {A = ℕ} 0 1 = cc in omega arith)
  rows-each l (suc n) (a ∷ m) d j zero h = (first-none (g.judge a) _ j).0
  rows-each l (suc n) (a ∷ m) d j (suc k) h = rows-each (l ++ a ∷ []) n m d (first-none (g.judge a) _ j).1 k (omega arith)

  -- each of the rows has no fault
  judged-each : (n : ℕ) (m : List A) (d : A) → (rows n (λ _. g)).judge m ≡ none → (k : ℕ) → k < length m → g.judge (get_or m k d) ≡ none
  unfolding rows
  judged-each n m d j k h = rows-each [] n m d j k h

within-below : (lo hi x : ℕ) → within lo hi x ≡ true → (lo ≤ x) × (x < hi)
unfolding within
within-below lo hi x e = let (a, b) = both_true (leb lo x) (ltb x hi) e in (leb-true lo x a, ltb-true x hi b)

judged-check : {A : Type 0} (f : Format A) (t : A → Bool) (n : ℕ) (a : A) → (check f t n).judge a ≡ none → t a ≡ true
unfolding check
judged-check f t n a j = unless-none (t a) n (first-none (f.judge a) _ j).1

count-below : (w lo hi x : ℕ) → (count w lo hi).judge x ≡ none → x < hi + 1
unfolding count
count-below w lo hi x j = (within-below lo (hi + 1) x (judged-field w (within lo (hi + 1)) 2 x j).1).1

class-width : (sizes : List ℕ) (n : ℕ) (l : List Attr) → (class_format sizes n).judge l ≡ none → width l ≤ 8
unfolding class_format
class-width sizes n l j = leb-true (width l) 8 (judged-check _ (λ l. leb (width l) 8) 5 l j)

session-fits : (users : ℕ) (l : List Attr) (t : Session) → (session_format users l).judge t ≡ none → (t.user < users) × ((value_format l).judge t.value ≡ none)
unfolding session_format via
session-fits users l t j =
    let (a, b) = judged-pair (field 4 (within 0 users) 7) (λ _. value_format l) t.user t.value j in
    ((within-below 0 users t.user (judged-field 4 (within 0 users) 7 t.user a).1).1, b)

formula-few : (c : Lists) (f : ℕ) (l : List ℕ) → (formula_format c f).judge l ≡ none → length l ≤ 64
unfolding formula_format via
formula-few c f l j =
    let (n, _) = judged-pair (field 8 (within 1 65) 8) _ (length l) l j in
    omega (arith, (within-below 1 65 (length l) (judged-field 8 (within 1 65) 8 (length l) n).1).1)

-- the counts of the head
record Counts (h : Head) : Type 0 where
  users : h.users ≤ 16
  sessions : h.sessions ≤ 32
  items : h.items ≤ 32
  permissions : h.permissions ≤ 8

head-counts : (h : Head) → head_format.judge h ≡ none → Counts h
unfolding head_format via zeros
head-counts h j =
    let (z, _) = judged-pair _ _ _ 0 j in
    let (_, j₁) = judged-pair (count 4 0 8) _ h.user_attrs _ z in
    let (_, j₂) = judged-pair (count 4 0 8) _ h.session_attrs _ j₁ in
    let (_, j₃) = judged-pair (count 4 0 8) _ h.item_attrs _ j₂ in
    let (u, j₄) = judged-pair (count 5 1 16) _ h.users _ j₃ in
    let (s, j₅) = judged-pair (count 6 0 32) _ h.sessions _ j₄ in
    let (i, p) = judged-pair (count 6 0 32) _ h.items h.permissions j₅ in
    record {
      users = omega (arith, count-below 5 1 16 h.users u);
      sessions = omega (arith, count-below 6 0 32 h.sessions s);
      items = omega (arith, count-below 6 0 32 h.items i);
      permissions = omega (arith, count-below 4 1 8 h.permissions p);
    }

-- the classes
record Narrow (c : Lists) : Type 0 where
  user : width c.of_user ≤ 8
  session : width c.of_session ≤ 8
  item : width c.of_item ≤ 8

lists-narrow : (h : Head) (c : Lists) → (lists_format h).judge c ≡ none → Narrow c
unfolding lists_format via
lists-narrow h c j =
    let (u, j₁) = judged-pair (class_format no_sizes h.user_attrs) _ c.of_user _ j in
    let (s, i) = judged-pair (class_format (sizes_after no_sizes c.of_user) h.session_attrs) _ c.of_session c.of_item j₁ in
    record {
      user = class-width _ h.user_attrs c.of_user u;
      session = class-width _ h.session_attrs c.of_session s;
      item = class-width _ h.item_attrs c.of_item i;
    }

pub judged-is-sound : JudgedIsSound
unfolding policy_format via starting_session
judged-is-sound p j =
    let h = p.head in
    let c = p.lists in
    let (jh, j₁) = judged-pair head_format _ h _ j in
    let (jc, j₂) = judged-pair (lists_format h) _ c _ j₁ in
    let (ju, j₃) = judged-pair (rows h.users λ _. value_format c.of_user) _ p.users _ j₂ in
    let (js, j₄) = judged-pair (rows h.sessions λ _. session_format h.users c.of_session) _ p.sessions _ j₃ in
    let (ji, jf) = judged-pair (rows h.items λ _. value_format c.of_item) _ p.items p.formulas j₄ in
    let counts = head-counts h jh in
    let narrow = lists-narrow h c jc in
    let nu = judged-rows h.users (λ _. value_format c.of_user) p.users ju in
    let ns = judged-rows h.sessions (λ _. session_format h.users c.of_session) p.sessions js in
    let ni = judged-rows h.items (λ _. value_format c.of_item) p.items ji in
    let each : (k : ℕ) → k < length p.sessions → ((starting_session p k).user < h.users) × ((value_format c.of_session).judge (starting_session p k).value ≡ none) =
    λ k i.
    session-fits h.users c.of_session (starting_session p k)
    (judged-each (session_format h.users c.of_session) h.sessions p.sessions record { user = 0; value = 0 } js k i) in
    record {
      users = omega (arith, counts.users, nu);
      permissions = counts.permissions;
      sessions = omega (arith, counts.sessions, ns);
      items = omega (arith, counts.items, ni);
      user-width = narrow.user;
      session-width = narrow.session;
      item-width = narrow.item;
      session-user = λ k i. omega (arith, (each k i).0, nu);
      session-value = λ k i. judged-listed c.of_session (starting_session p k).value narrow.session (each k i).1;
      item-value = λ k i. judged-listed c.of_item (get_or p.items k 0) narrow.item (judged-each (value_format c.of_item) h.items p.items 0 ji k i);
      nodes = λ f.
          judged-at (λ l. formula_format c (length l)) (4 + h.permissions) p.formulas (λ l. length l ≤ 64) (λ l. formula-few c (length l)) jf f [] (omega arith);
    }
