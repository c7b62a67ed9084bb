-- Laws for functions that judge a value and store its fields, giving the place after them or a refusal. In order: a step that is refused, one step
-- after another, each way of building a format, rows, a whole file.
-- Not here: reading (Chain).
use mathlib.Core.Path.{◌≡◌, refl, sym, ap, ◌∙◌}
use mathlib.Core.Bool.{Bool, true, false}
use mathlib.Core.Logic.{◌⊎◌, inl, inr}
use mathlib.Core.List.{List, [], ◌∷◌, ◌++◌, append_assoc, append-nil}
use mathlib.Core.Option.{Option, none, some}
use Prim.Native.Nat.{ℕ, zero, suc, ◌+◌, ◌-◌, ◌^◌, ◌≤◌, ◌<◌}
use native.Mathlib.Omega.{arith}
use lib.Dec.{eqb, ltb}
use lib.ListN.{length, drop}
use Rattle.std.specs.Prelude.{Result, Ok, Err, IsErrAnd}
use Rattle.std.proofs.lemmas.Result.{err_from_is_err_and}
use Rattle.bits.specs.Packed.{tab, widths, packed, put, puts}
use Rattle.bits.proofs.Packed.{widths-app, length-tab}
use Rattle.bits.proofs.Filled.{puts-packed}
use Rattle.bits.proofs.Stored.{length-puts, puts-app, puts_one}
use Rattle.refusal.specs.Number.{number_of}
use Rattle.refusal.specs.declared.Refusal.{Refusal}
use Rattle.format.specs.Format.{Format, unless, first, unless_fault, field, check, rows_read, rows_judge, rows_fields, rows_kept, rows, pair, via, zeros}
use Rattle.format.specs.File.{bytes, refused, bytes_or, write_file}
use Rattle.format.specs.Steps.{fault_of, StoresBy, Stores}
use Rattle.format.specs.declared.Stopped.{Stopped}
use Rattle.format.proofs.Fault.{first-left, first-right, first-assoc}
use Rattle.format.proofs.Kept.{unless_fault-none, unless_fault-empty, kept-rows}
use Rattle.format.proofs.Law.{Lawful}

module _ {A : Type 0} {f : Format A} {a : A} {o o' : List ℕ} {p : ℕ} where
  -- a place: no fault
  pub no-fault : {q : ℕ} → Stores f a o o' p (Ok q) → f.judge a ≡ none
  unfolding fault_of
  no-fault h = sym h.fault

  pub stores-length : {r : Result ℕ (Stopped Refusal)} → Stores f a o o' p r → length o' ≡ length o
  stores-length h = ap length h.stored ∙ length-puts o p (f.kept a)

-- the same fault and the same fields before it
stores-same : {A B : Type 0} (f : Format A) (h : Format B) {a : A} {d : B} {o o' : List ℕ} {p : ℕ} {r : Result ℕ (Stopped Refusal)} → h.judge d ≡ f.judge a → h.kept d ≡ f.kept a
    → Stores f a o o' p r
    → Stores h d o o' p r
stores-same f h {p = p} {r} j k s =
    record { fault = s.fault ∙ sym j; place = s.place ∙ ap (λ (l : List (ℕ × ℕ)). p + widths l) (sym k); stored = s.stored ∙ ap (puts _ p) (sym k) }

-- a refusal is handed on
pub stores-given : {A : Type 0} {f : Format A} {a : A} {o o' : List ℕ} {p : ℕ} {stopped : Stopped Refusal} {r : Result ℕ (Stopped Refusal)} → IsErrAnd r (λ e. e ≡ stopped)
    → Stores f a o o' p (Err stopped)
    → Stores f a o o' p r
stores-given {r = r} h s = let e = err_from_is_err_and r h in rw (e.1, e.2) s

module _ {A B C : Type 0} (f : Format A) (g : Format B) (h : Format C) {a : A} {b : B} {d : C} {o₀ o₁ o₂ : List ℕ} {p q : ℕ} where
  -- one step, then another from where it ended
  stores-then : {r : Result ℕ (Stopped Refusal)} → Stores f a o₀ o₁ p (Ok q) → Stores g b o₁ o₂ q r → h.judge d ≡ first (f.judge a) (g.judge b)
      → h.kept d ≡ f.kept a ++ unless_fault (f.judge a) (g.kept b)
      → Stores h d o₀ o₂ p r
  stores-then {r} x y j k =
      let none_yet = no-fault x in
      let e : h.kept d ≡ f.kept a ++ g.kept b = k ∙ ap (λ (l : List (ℕ × ℕ)). f.kept a ++ l) (unless_fault-none _ _ none_yet) in
      record {
        fault = y.fault ∙ sym (first-left _ _ none_yet) ∙ sym j;
        place = omega (arith, x.place, y.place, widths-app (f.kept a) (g.kept b), ap widths e);
        stored =
            y.stored
            ∙ ap (λ (l : List ℕ). puts l q (g.kept b)) x.stored
            ∙ ap (λ (n : ℕ). puts (puts o₀ p (f.kept a)) n (g.kept b)) x.place
            ∙ sym (puts-app o₀ p (f.kept a) (g.kept b))
            ∙ ap (puts o₀ p) (sym e);
      }

-- nothing is stored of the fields after a fault
kept-stops : (x : Option ℕ) (n : ℕ) (fs gs : List (ℕ × ℕ)) → x ≡ some n → fs ++ unless_fault x gs ≡ fs
unfolding unless_fault
kept-stops x n fs gs e = rw e (append-nil fs)

first-stops : (x y : Option ℕ) (n : ℕ) → x ≡ some n → first x y ≡ x
unfolding first
first-stops x y n e = rw e refl

module _ {A C : Type 0} (f : Format A) (h : Format C) {a : A} {d : C} {o o' : List ℕ} {p : ℕ} {stopped : Stopped Refusal} where
  -- one step was refused, and no other followed
  stores-stop : (x : Option ℕ) (fs : List (ℕ × ℕ)) → Stores f a o o' p (Err stopped) → h.judge d ≡ first (f.judge a) x
      → h.kept d ≡ f.kept a ++ unless_fault (f.judge a) fs
      → Stores h d o o' p (Err stopped)
  unfolding fault_of
  stores-stop x fs s j k =
      let fault : f.judge a ≡ some (number_of stopped.refusal) = sym s.fault in
      stores-same f h (j ∙ first-stops (f.judge a) x _ fault) (k ∙ kept-stops _ _ (f.kept a) fs fault) s

module _ {A B : Type 0} (f : Format A) (g : A → Format B) {a : A} {b : B} {o₀ o₁ : List ℕ} {p : ℕ} where
  pub stores-pair : {o₂ : List ℕ} {q : ℕ} {r : Result ℕ (Stopped Refusal)} → Stores f a o₀ o₁ p (Ok q) → Stores (g a) b o₁ o₂ q r → Stores (pair f g) (a, b) o₀ o₂ p r
  unfolding pair
  stores-pair x y = stores-then f (g a) (pair f g) x y refl refl

  pub stores-first : {stopped : Stopped Refusal} → Stores f a o₀ o₁ p (Err stopped) → Stores (pair f g) (a, b) o₀ o₁ p (Err stopped)
  unfolding pair
  stores-first x = stores-stop f (pair f g) ((g a).judge b) ((g a).kept b) x refl refl

-- a field that fits and that its test holds of, and one that is refused
module _ {E : Type 0} (number : E → ℕ) (w x : ℕ) (b : Bool) {o : List ℕ} {p : ℕ} where
  pub field-stored : {o' : List ℕ} (n : ℕ) → ltb x (2 ^ w) ≡ true → b ≡ true → o' ≡ put o p w x → StoresBy number (field w (λ _. b) n) x o o' p (Ok (p + w))
  unfolding field unless first unless_fault widths fault_of
  field-stored n fits holds e = record { fault = rw (fits, holds) refl; place = rw (fits, holds) (omega arith); stored = e ∙ rw (fits, holds) (sym (puts_one o p w x)) }

  pub field-refused : (refusal : E) → (ltb x (2 ^ w) ≡ false) ⊎ ((ltb x (2 ^ w) ≡ true) × (b ≡ false))
      → StoresBy number (field w (λ _. b) (number refusal)) x o o p (Err record { refusal = refusal; at = p })
  unfolding field unless first unless_fault puts widths fault_of
  field-refused refusal (inl e) = record { fault = rw e refl; place = rw e (omega arith); stored = rw e refl }
  field-refused refusal (inr (d, e)) = record { fault = rw (d, e) refl; place = rw (d, e) (omega arith); stored = rw (d, e) refl }

pub stores-via : {A B : Type 0} (to : B → A) (back : A → B) (f : Format A) (b : B) {o o' : List ℕ} {p : ℕ} {r : Result ℕ (Stopped Refusal)} → Stores f (to b) o o' p r
    → Stores (via to back f) b o o' p r
unfolding via
stores-via to back f b x = stores-same f (via to back f) refl refl x

pub stores-field : {E : Type 0} {number : E → ℕ} (w : ℕ) (t : ℕ → Bool) (n x : ℕ) {b : Bool} {o o' : List ℕ} {p : ℕ} {r : Result ℕ (Stopped E)} → b ≡ t x
    → StoresBy number (field w (λ _. b) n) x o o' p r
    → StoresBy number (field w t n) x o o' p r
unfolding field
stores-field w t n x e h = record { fault = rw e at h.fault; place = rw e at h.place; stored = rw e at h.stored }

module _ {A : Type 0} (f : Format A) (w n : ℕ) {a : A} {o₀ o₁ : List ℕ} {p : ℕ} where
  pub stores-zeros : {o₂ : List ℕ} {q : ℕ} {r : Result ℕ (Stopped Refusal)} → Stores f a o₀ o₁ p (Ok q) → Stores (field w (λ _. true) n) 0 o₁ o₂ q r
      → Stores (zeros f w n) a o₀ o₂ p r
  unfolding zeros
  stores-zeros x y = stores-via _ _ _ a (stores-pair f (λ _. field w (eqb 0) n) x (stores-field w (eqb 0) n 0 refl y))

  pub stores-before_zeros : {stopped : Stopped Refusal} → Stores f a o₀ o₁ p (Err stopped) → Stores (zeros f w n) a o₀ o₁ p (Err stopped)
  unfolding zeros
  stores-before_zeros x = stores-via _ _ _ a (stores-first f (λ _. field w (eqb 0) n) x)

module _ {A : Type 0} (f : Format A) (t : A → Bool) {a : A} {o o' : List ℕ} {p : ℕ} where
  -- the test is made after the value was stored
  pub stores-check : {q : ℕ} (n : ℕ) → Stores f a o o' p (Ok q) → t a ≡ true → Stores (check f t n) a o o' p (Ok q)
  unfolding check unless
  stores-check n h e = record { fault = h.fault ∙ sym (rw e (first-right _)); place = h.place; stored = h.stored }

  pub check-fails : {q : ℕ} (refusal : Refusal) → Stores f a o o' p (Ok q) → t a ≡ false → Stores (check f t (number_of refusal)) a o o' p (Err record { refusal = refusal; at = q })
  unfolding check unless fault_of
  check-fails refusal h e = record { fault = sym (rw e (first-left _ _ (no-fault h))); place = h.place; stored = h.stored }

  pub before_check : (n : ℕ) {stopped : Stopped Refusal} → Stores f a o o' p (Err stopped) → Stores (check f t n) a o o' p (Err stopped)
  unfolding check fault_of
  before_check n h = record { fault = h.fault ∙ sym (first-stops _ _ _ (sym h.fault)); place = h.place; stored = h.stored }

tab-app : {A : Type 0} (g : ℕ → A) (k i n : ℕ) → tab g k (i + n) ≡ tab g k i ++ tab g (k + i) n
unfolding tab
tab-app g k zero n =
    let e : 0 + n ≡ n = omega arith in
    let d : k ≡ k + 0 = omega arith in
    ap (tab g k) e ∙ ap (λ (j : ℕ). tab g j n) d
tab-app g k (suc i) n =
    let e : suc i + n ≡ suc (i + n) = omega arith in
    let d : suc k + i ≡ k + suc i = omega arith in
    ap (tab g k) e ∙ ap (λ (l : List _). g k ∷ l) (tab-app g (suc k) i n ∙ ap (λ (j : ℕ). tab g (suc k) i ++ tab g j n) d)

module _ {A : Type 0} (f : List A → Format A) where
  -- n more rows after those in m
  unfoldable rows_after : List A → ℕ → Format (List A)
  rows_after m n =
      record {
        read = λ s pos. rows_read f s m n pos;
        judge = λ l. rows_judge f m n l;
        fields = λ l. rows_fields f m l;
        kept = λ l. rows_kept f m l;
      }

  -- the rows l, then the rows k
  judge-rows : (m l k : List A) (n : ℕ) → rows_judge f m (length l + n) (l ++ k) ≡ first (rows_judge f m (length l) l) (rows_judge f (m ++ l) n k)
  unfolding rows_judge
  judge-rows m [] k n =
      let e : 0 + n ≡ n = omega arith in
      ap (λ (i : ℕ). rows_judge f m i k) e ∙ ap (λ (x : List A). rows_judge f x n k) (sym (append-nil m)) ∙ sym (first-left none _ refl)
  judge-rows m (a ∷ l) k n =
      let e : suc (length l) + n ≡ suc (length l + n) = omega arith in
      ap (λ (i : ℕ). rows_judge f m i (a ∷ l ++ k)) e
      ∙ ap (first ((f m).judge a)) (judge-rows (m ++ a ∷ []) l k n ∙ ap (λ (x : List A). first (rows_judge f (m ++ a ∷ []) (length l) l) (rows_judge f x n k)) (append_assoc m (a ∷ []) l))
      ∙ sym (first-assoc ((f m).judge a) _ _)

  pub stores-rows-begin : (g : ℕ → A) {o : List ℕ} {p : ℕ} → Stores (rows 0 f) (tab g 0 0) o o p (Ok p)
  unfolding rows rows_judge rows_kept widths puts fault_of tab
  stores-rows-begin g = record { fault = refl; place = omega arith; stored = refl }

  module _ (g : ℕ → A) {o₀ o₁ : List ℕ} {p q : ℕ} where
    -- i rows, then all from row i on
    stores-rows-join : (i n : ℕ) {o₂ : List ℕ} {r : Result ℕ (Stopped Refusal)}
        → Stores (rows i f) (tab g 0 i) o₀ o₁ p (Ok q)
        → Stores (rows_after (tab g 0 i) n) (tab g i n) o₁ o₂ q r
        → Stores (rows (i + n) f) (tab g 0 (i + n)) o₀ o₂ p r
    unfolding rows rows_after
    stores-rows-join i n x y =
        let l = tab g 0 i in
        let k = tab g i n in
        let start : 0 + i ≡ i = omega arith in
        let all : tab g 0 (i + n) ≡ l ++ k = rw start at (tab-app g 0 i n) in
        let long : length l ≡ i = length-tab g 0 i in
        stores-then (rows i f) (rows_after l n) (rows (i + n) f) x y
        (ap (rows_judge f [] (i + n)) all ∙ rw long at (judge-rows [] l k n))
        (ap (rows_kept f []) all ∙ rw long at (kept-rows f [] l k))

    -- row i
    pub stores-rows-turn : (i : ℕ) {o₂ : List ℕ} {q' : ℕ} {h : Format A} {a : A}
        → h ≡ f (tab g 0 i)
        → a ≡ g i
        → Stores (rows i f) (tab g 0 i) o₀ o₁ p (Ok q)
        → Stores h a o₁ o₂ q (Ok q')
        → Stores (rows (i + 1) f) (tab g 0 (i + 1)) o₀ o₂ p (Ok q')
    unfolding rows_after rows_judge rows_kept tab
    stores-rows-turn i {h = h} {a = a} e d x y =
        let l = tab g 0 i in
        let z : Stores (f l) (g i) o₁ _ q (Ok _) = rw (e, d) at y in
        let none_left = ap (λ (x : List (ℕ × ℕ)). (f l).kept (g i) ++ x) (unless_fault-empty ((f l).judge (g i))) ∙ append-nil _ in
        stores-rows-join i 1 x (stores-same (f l) (rows_after l 1) (first-right _) none_left z)

    -- row i is refused, and no other follows
    pub stores-rows-stop : (i n : ℕ) {o₂ : List ℕ} {stopped : Stopped Refusal} {h : Format A} {a : A}
        → i < n
        → h ≡ f (tab g 0 i)
        → a ≡ g i
        → Stores (rows i f) (tab g 0 i) o₀ o₁ p (Ok q)
        → Stores h a o₁ o₂ q (Err stopped)
        → Stores (rows n f) (tab g 0 n) o₀ o₂ p (Err stopped)
    unfolding rows_after rows_judge rows_kept tab
    stores-rows-stop i n {h = h} {a = a} b e d x y =
        let k = n - suc i in
        let l = tab g 0 i in
        let z : Stores (f l) (g i) o₁ _ q (Err _) = rw (e, d) at y in
        let s : i + suc k ≡ n = omega arith in
        rw s at (stores-rows-join i (suc k) x (stores-stop (f l) (rows_after l (suc k)) (rows_judge f (l ++ g i ∷ []) k (tab g (suc i) k)) (rows_kept f (l ++ g i ∷ []) (tab g (suc i) k)) z refl refl))

module _ {A : Type 0} (f : Format A) {a : A} {o o' : List ℕ} where
  pub not_written : {p : ℕ} {stopped : Stopped Refusal} → Stores f a o o' p (Err stopped) → write_file f a ≡ refused (number_of stopped.refusal)
  unfolding write_file bytes_or fault_of
  not_written h = ap (λ (m : Option ℕ). bytes_or m (packed (f.fields a))) (sym h.fault)

  pub written :
      {q : ℕ}
      → Lawful f
      → Stores f a o o' 0 (Ok q)
      → (write_file f a ≡ bytes (packed (f.fields a))) × (q ≡ widths (f.fields a))
      × (length (packed (f.fields a)) ≤ length o → o' ≡ packed (f.fields a) ++ drop (length (packed (f.fields a))) o)
  unfolding write_file bytes_or
  written law h =
      let fs = f.fields a in
      let j : f.judge a ≡ none = no-fault h in
      let k : f.kept a ≡ fs = law.all-kept a j in (
        ap (λ (m : Option ℕ). bytes_or m (packed fs)) j,
        omega (arith, h.place, ap widths k),
        λ l. h.stored ∙ ap (puts o 0) k ∙ puts-packed o fs l,
      )
