-- Live states that read alike get the same outcome. In order: tests; sessions and items; each kind of step.
use mathlib.Core.Path.{◌≡◌, refl, sym, ap, ◌∙◌}
use mathlib.Core.Bool.{Bool, true, false, ◌||◌}
use mathlib.Core.List.{List, [], ◌∷◌}
use mathlib.Core.Option.{Option, none, some}
use Prim.Native.Nat.{ℕ, zero, suc}
use lib.Dec.{ltb, eqb}
use lib.ListN.{length}
use Rattle.runs.specs.Model.{Model}
use Rattle.runs.specs.State.{Session, closed, opened}
use Rattle.runs.specs.Step.{Step}
use Rattle.live.specs.Lent.{Lent, After, refused, done, tested, of_session, of_item, all_given, left}
use Rattle.live.specs.declared.Next.{Next}
use Rattle.live.proofs.Outcomes.{done-refusal}
use Rattle.steps.specs.Step.{opening, closing, changing, making, modifying, accessing, by_kind, step_in}
use Rattle.steps.specs.Codes.{Reads}

-- the same outcome
abbrev Same : After → After → Type 0
Same a b = a.refusal ≡ b.refusal

same-refused : (n : ℕ) (s t : Lent) → Same (refused n s) (refused n t)
unfolding refused
same-refused n s t = refl

same-done : (s t : Lent) → Same (done s) (done t)
same-done s t = done-refusal s ∙ sym (done-refusal t)

module _ (s t : Lent) where
  same_tests : (l : List (Bool × ℕ)) (a b : After) → Same a b → Same (tested l s a) (tested l t b)
  unfolding tested
  same_tests [] a b e = e
  same_tests ((true, n) ∷ l) a b e = same_tests l a b e
  same_tests ((false, n) ∷ l) a b e = same-refused n s t

  same-tested : (l k : List (Bool × ℕ)) (a b : After) → l ≡ k → Same a b → Same (tested l s a) (tested k t b)
  same-tested l k a b q e = ap (λ (x : List (Bool × ℕ)). (tested x s a).refusal) q ∙ same_tests k a b e

  same-opened : (x : Session) (f g : ℕ → ℕ → After) → ((u v : ℕ) → Same (f u v) (g u v)) → Same (of_session x s f) (of_session x t g)
  unfolding of_session
  same-opened closed f g e = same-refused 13 s t
  same-opened (opened u v) f g e = e u v

  same-session : (x y : Session) (f g : ℕ → ℕ → After) → x ≡ y → ((u v : ℕ) → Same (f u v) (g u v)) → Same (of_session x s f) (of_session y t g)
  same-session x y f g q e = ap (λ (z : Session). (of_session z s f).refusal) q ∙ same-opened y f g e

  same-there : (x : Option ℕ) (f g : ℕ → After) → ((o : ℕ) → Same (f o) (g o)) → Same (of_item x s f) (of_item x t g)
  unfolding of_item
  same-there none f g e = same-refused 13 s t
  same-there (some o) f g e = e o

  same_item : (x y : Option ℕ) (f g : ℕ → After) → x ≡ y → ((o : ℕ) → Same (f o) (g o)) → Same (of_item x s f) (of_item y t g)
  same_item x y f g q e = ap (λ (z : Option ℕ). (of_item z s f).refusal) q ∙ same-there y f g e

-- a cell is left or not by the number of cells
same_left : (c d : List ℕ) (n k : ℕ) → length c ≡ length d → n ≡ k → left c n ≡ left d k
unfolding left
same_left c d n k e q = rw (e, q) refl

module _ (m : Model) (s t : Lent) (r : Reads m s t) (p : Step) where
  -- what tests ask of the next session number is the same
  session-tests : (f : Bool → Bool → List (Bool × ℕ))
      → f (all_given s.next.session || eqb p.target s.next.session) (left s.sessions s.next.session)
      ≡ f (all_given t.next.session || eqb p.target t.next.session) (left t.sessions t.next.session)
  session-tests f =
      let n : s.next.session ≡ t.next.session = ap (λ (x : Next). x.session) r.next in
      ap (λ (k : ℕ). f (all_given k || eqb p.target k) (left s.sessions s.next.session)) n
      ∙ ap (f (all_given t.next.session || eqb p.target t.next.session)) (same_left s.sessions t.sessions _ _ r.session-cells n)

  item-tests : (f : Bool → Bool → List (Bool × ℕ))
      → f (all_given s.next.item || eqb p.target s.next.item) (left s.items s.next.item)
      ≡ f (all_given t.next.item || eqb p.target t.next.item) (left t.items t.next.item)
  item-tests f =
      let n : s.next.item ≡ t.next.item = ap (λ (x : Next). x.item) r.next in
      ap (λ (k : ℕ). f (all_given k || eqb p.target k) (left s.items s.next.item)) n
      ∙ ap (f (all_given t.next.item || eqb p.target t.next.item)) (same_left s.items t.items _ _ r.item-cells n)

  same_kind : (k : ℕ) → Same (by_kind m s p k) (by_kind m t p k)
  unfolding by_kind opening closing changing making modifying accessing
  same_kind zero = same-refused 12 s t
  same_kind (suc zero) =
      same-tested s t _ _ _ _
      (session-tests λ a b.
      (ltb p.actor m.users, 13) ∷ (a, 13) ∷ (m.session_value p.value, 14) ∷ (b, 15) ∷ (m.may_open p.actor p.value, 16) ∷ [])
      (same-done _ _)
  same_kind (suc (suc zero)) =
      same_tests s t _ _ _ (same-session s t _ _ _ _ (r.each-session p.target) λ u v. same_tests s t _ _ _ (same-done _ _))
  same_kind (suc (suc (suc zero))) = same-session s t _ _ _ _ (r.each-session p.target) λ u v. same_tests s t _ _ _ (same-done _ _)
  same_kind (suc (suc (suc (suc zero)))) =
      same-session s t _ _ _ _ (r.each-session p.actor) λ u v.
      same-tested s t _ _ _ _ (item-tests λ a b. (a, 13) ∷ (m.item_value p.value, 14) ∷ (b, 15) ∷ (m.may_make v p.value, 16) ∷ []) (same-done _ _)
  same_kind (suc (suc (suc (suc (suc zero))))) =
      same-session s t _ _ _ _ (r.each-session p.actor) λ u v. same_item s t _ _ _ _ (r.each_item p.target) λ o. same_tests s t _ _ _ (same-done _ _)
  same_kind (suc (suc (suc (suc (suc (suc zero)))))) =
      same-session s t _ _ _ _ (r.each-session p.actor) λ u v. same_item s t _ _ _ _ (r.each_item p.target) λ o. same_tests s t _ _ _ (same-done _ _)
  same_kind (suc (suc (suc (suc (suc (suc (suc k))))))) = same-refused 12 s t

pub same_step : (m : Model) (s t : Lent) → Reads m s t → (row : ℕ) → (step_in m s row).refusal ≡ (step_in m t row).refusal
unfolding step_in
same_step m s t r row = same_tests s t _ _ _ (same_kind m s t r _ _)
