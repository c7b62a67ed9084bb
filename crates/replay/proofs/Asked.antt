-- What a question asks, computed and as the relation says. In order: who and which item, by their kinds; three bytes and their parts; both ways.
use mathlib.Core.Path.{◌≡◌, refl, sym, ap, ◌∙◌, subst}
use mathlib.Core.Bool.{Bool, true, false, ◌&&◌}
use mathlib.Core.List.{List, [], ◌∷◌}
use Prim.Native.Nat.{ℕ, ◌+◌, ◌*◌, ◌/◌, ◌%◌, ◌<◌}
use native.Mathlib.Decide.{ℕ_discrete}
use native.Mathlib.Omega.{arith}
use borrow.Author.Tests.{ltb-true, lt-ltb, eqb-true, eq-eqb}
use lib.Dec.{ltb, eqb}
use lib.ListN.{length}
use Rattle.bits.proofs.Set.{both_true}
use Rattle.policy.specs.Policy.{Policy}
use Rattle.runs.specs.Grant.{Who, Which}
use Rattle.replay.specs.Asked.{AsksWho, one-session, one-user, any-session, AsksItem, one-item, any-item, Asked}
use Rattle.replay.specs.Question.{parts_of, who_of, which_of, who_among, which_among, parts_ask, asks}
use Rattle.replay.specs.declared.question.Question.{Question}
use Rattle.replay.proofs.Laws.{session-among, user-among, anyone-among, nobody-among, item-among, anything-among, no-item-among, who-session, who-user, who-anyone, which-item, which-anything}

false-true : {C : Type 0} {b : Bool} → b ≡ false → b ≡ true → C
false-true e t = absurd (let z : ◌≡◌ {A = ℕ} 0 1 = cc in omega arith)

module _ (p : Policy) (q : Question) where
  pub who-asked : who_among (length p.sessions) (length p.users) q ≡ true → AsksWho p q.whokind q.who (who_of q)
  who-asked t = first (ℕ_discrete q.whokind 0)
    where
      third : (q.whokind ≡ 0 → ⊥) → (q.whokind ≡ 1 → ⊥) → Dec (q.whokind ≡ 2) → AsksWho p q.whokind q.who (who_of q)
      third z o (yes e) =
          any-session e (eqb-true q.who 0 (sym (anyone-among (length p.sessions) (length p.users) q z o e) ∙ t)) (who-anyone q z o)
      third z o (no d) = false-true (nobody-among (length p.sessions) (length p.users) q z o d) t

      second : (q.whokind ≡ 0 → ⊥) → Dec (q.whokind ≡ 1) → AsksWho p q.whokind q.who (who_of q)
      second z (yes e) =
          one-user e (ltb-true q.who (length p.users) (sym (user-among (length p.sessions) (length p.users) q z e) ∙ t)) (who-user q z e)
      second z (no d) = third z d (ℕ_discrete q.whokind 2)

      first : Dec (q.whokind ≡ 0) → AsksWho p q.whokind q.who (who_of q)
      first (yes e) =
          one-session e (ltb-true q.who (length p.sessions) (sym (session-among (length p.sessions) (length p.users) q e) ∙ t)) (who-session q e)
      first (no d) = second d (ℕ_discrete q.whokind 1)

  pub item-asked : which_among (length p.items) q ≡ true → AsksItem p q.itemkind q.item (which_of q)
  item-asked t = first (ℕ_discrete q.itemkind 0)
    where
      second : (q.itemkind ≡ 0 → ⊥) → Dec (q.itemkind ≡ 1) → AsksItem p q.itemkind q.item (which_of q)
      second z (yes e) = any-item e (eqb-true q.item 0 (sym (anything-among (length p.items) q z e) ∙ t)) (which-anything q z)
      second z (no d) = false-true (no-item-among (length p.items) q z d) t

      first : Dec (q.itemkind ≡ 0) → AsksItem p q.itemkind q.item (which_of q)
      first (yes e) = one-item e (ltb-true q.item (length p.items) (sym (item-among (length p.items) q e) ∙ t)) (which-item q e)
      first (no d) = second d (ℕ_discrete q.itemkind 1)

  asked-who : {who : Who} → AsksWho p q.whokind q.who who → (who_among (length p.sessions) (length p.users) q ≡ true) × (who ≡ who_of q)
  asked-who (one-session e h w) = (session-among (length p.sessions) (length p.users) q e ∙ lt-ltb q.who (length p.sessions) h, w ∙ sym (who-session q e))
  asked-who (one-user e h w) =
      let z : q.whokind ≡ 0 → ⊥ = λ n. omega arith in
      (user-among (length p.sessions) (length p.users) q z e ∙ lt-ltb q.who (length p.users) h, w ∙ sym (who-user q z e))
  asked-who (any-session e h w) =
      let z : q.whokind ≡ 0 → ⊥ = λ n. omega arith in
      let o : q.whokind ≡ 1 → ⊥ = λ n. omega arith in
      (anyone-among (length p.sessions) (length p.users) q z o e ∙ eq-eqb q.who 0 h, w ∙ sym (who-anyone q z o))

  asked-item : {which : Which} → AsksItem p q.itemkind q.item which → (which_among (length p.items) q ≡ true) × (which ≡ which_of q)
  asked-item (one-item e h w) = (item-among (length p.items) q e ∙ lt-ltb q.item (length p.items) h, w ∙ sym (which-item q e))
  asked-item (any-item e h w) =
      let z : q.itemkind ≡ 0 → ⊥ = λ n. omega arith in
      (anything-among (length p.items) q z e ∙ eq-eqb q.item 0 h, w ∙ sym (which-anything q z))

-- three bytes

three : {C : Type 0} (l : List ℕ) → length l ≡ 3 → ((a b c : ℕ) → l ≡ a ∷ b ∷ c ∷ [] → C) → C
three [] e k = absurd (omega arith)
three (a ∷ []) e k = absurd (omega arith)
three (a ∷ b ∷ []) e k = absurd (omega arith)
three (a ∷ b ∷ c ∷ []) e k = k a b c refl
three (a ∷ b ∷ c ∷ d ∷ l) e k = absurd (omega arith)

parts_are : (a b c : ℕ)
    → parts_of (a ∷ b ∷ c ∷ [])
    ≡ record { whokind = a / 64; who = a % 64; itemkind = b / 128; item = b % 64; permission = c / 16; spares = b / 64 % 2 + c % 16 }
unfolding parts_of
parts_are a b c = refl

bytes-are : (a b c : ℕ) → b / 64 % 2 + c % 16 ≡ 0 → a ∷ b ∷ c ∷ [] ≡ (a / 64 * 64 + a % 64) ∷ (b / 128 * 128 + b % 64) ∷ (c / 16 * 16) ∷ []
bytes-are a b c e =
    let x : a ≡ a / 64 * 64 + a % 64 = omega arith in
    let y : b ≡ b / 128 * 128 + b % 64 = omega arith in
    let z : c ≡ c / 16 * 16 = omega arith in
    cc

-- both ways

pub parts-asked : (p : Policy) (question : List ℕ) → asks p question ≡ true
    → (length question ≡ 3) × ((parts_of question).spares ≡ 0) × (who_among (length p.sessions) (length p.users) (parts_of question) ≡ true)
    × (which_among (length p.items) (parts_of question) ≡ true) × ((parts_of question).permission < p.head.permissions)
unfolding asks parts_ask
parts-asked p question t =
    let q = parts_of question in
    let a = eqb q.spares 0 in
    let b = who_among (length p.sessions) (length p.users) q in
    let c = which_among (length p.items) q in
    let d = ltb q.permission p.head.permissions in
    let (t₀, t₁) = both_true (eqb (length question) 3) (a && b && c && d) t in
    let (t₂, t₃) = both_true (a && b && c) d t₁ in
    let (t₄, t₅) = both_true (a && b) c t₂ in
    let (t₆, t₇) = both_true a b t₄ in
    (eqb-true (length question) 3 t₀, eqb-true q.spares 0 t₆, t₇, t₅, ltb-true q.permission p.head.permissions t₃)

pub asks-asked : (p : Policy) (question : List ℕ) → asks p question ≡ true
    → Asked p question (who_of (parts_of question)) (which_of (parts_of question)) (parts_of question).permission
asks-asked p question t =
    let (long, spare, who, which, permission) = parts-asked p question t in
    three question long λ a b c e.
    let parts = ap parts_of e ∙ parts_are a b c in
    record {
      who-kind = (parts_of question).whokind;
      who-number = (parts_of question).who;
      item-kind = (parts_of question).itemkind;
      item-number = (parts_of question).item;
      bytes =
          e
          ∙ bytes-are a b c (sym (ap (λ (q : Question). q.spares) parts) ∙ spare)
          ∙ ap (λ (q : Question). (q.whokind * 64 + q.who) ∷ (q.itemkind * 128 + q.item) ∷ (q.permission * 16) ∷ []) (sym parts);
      who-bits = let z : (parts_of question).who ≡ a % 64 = ap (λ (q : Question). q.who) parts in omega arith;
      item-bits = let z : (parts_of question).item ≡ b % 64 = ap (λ (q : Question). q.item) parts in omega arith;
      who-there = who-asked p (parts_of question) who;
      item-there = item-asked p (parts_of question) which;
      permission-there = permission;
    }

module _ (p : Policy) (question : List ℕ) (who : Who) (which : Which) (permission : ℕ) (A : Asked p question who which permission) where
  abbrev fields : Question
  fields = record { whokind = A.who-kind; who = A.who-number; itemkind = A.item-kind; item = A.item-number; permission = permission; spares = 0 }

  asked-parts : parts_of question ≡ fields
  asked-parts =
      let k = A.who-kind in
      let n = A.who-number in
      let i = A.item-kind in
      let j = A.item-number in
      let h = A.who-bits in
      let l = A.item-bits in
      let a : (k * 64 + n) / 64 ≡ k = omega arith in
      let b : (k * 64 + n) % 64 ≡ n = omega arith in
      let c : (i * 128 + j) / 128 ≡ i = omega arith in
      let d : (i * 128 + j) % 64 ≡ j = omega arith in
      let e : permission * 16 / 16 ≡ permission = omega arith in
      let half : (i * 128 + j) / 64 ≡ i * 2 = omega arith in
      let even : i * 2 % 2 ≡ 0 = omega arith in
      let none : permission * 16 % 16 ≡ 0 = omega arith in
      ap parts_of A.bytes ∙ parts_are _ _ _ ∙ rw (a, b, c, d, e, half, even, none) refl

  asked-computed : (asks p question ≡ true) × (who ≡ who_of fields) × (which ≡ which_of fields) × (permission ≡ fields.permission)
  unfolding asks parts_ask
  asked-computed =
      let (x, w) = asked-who p fields A.who-there in
      let (y, i) = asked-item p fields A.item-there in
      let three : length question ≡ 3 = ap length A.bytes in
      let z = lt-ltb permission p.head.permissions A.permission-there in
      (rw (asked-parts, eq-eqb (length question) 3 three, x, y, z) refl, w, i, refl)

pub asked-asks : (p : Policy) (question : List ℕ) (who : Who) (which : Which) (permission : ℕ) → Asked p question who which permission
    → (asks p question ≡ true) × (who ≡ who_of (parts_of question)) × (which ≡ which_of (parts_of question)) × (permission ≡ (parts_of question).permission)
asked-asks p question who which permission A =
    rw (asked-parts p question who which permission A) (asked-computed p question who which permission A)

-- what holds of the question's parts holds of what is asked
pub of-asked : (P : Who → Which → ℕ → Type 0) (p : Policy) (question : List ℕ) → P (who_of (parts_of question)) (which_of (parts_of question)) (parts_of question).permission
    → (who : Who) (which : Which) (permission : ℕ) → Asked p question who which permission → P who which permission
of-asked P p question x who which permission A =
    let (_, w, i, k) = asked-asks p question who which permission A in
    subst (λ (a : Who). P a which permission) (sym w) (subst (λ (b : Which). P (who_of (parts_of question)) b permission) (sym i)
    (subst (λ (n : ℕ). P (who_of (parts_of question)) (which_of (parts_of question)) n) (sym k) x))

-- what holds of what is asked holds of the question's parts
pub of_parts : (P : Who → Which → ℕ → Type 0) (p : Policy) (question : List ℕ) (who : Who) (which : Which) (permission : ℕ) → Asked p question who which permission
    → P who which permission → P (who_of (parts_of question)) (which_of (parts_of question)) (parts_of question).permission
of_parts P p question who which permission A x =
    let (_, w, i, k) = asked-asks p question who which permission A in
    subst (λ (a : Who). P a (which_of (parts_of question)) (parts_of question).permission) w (subst (λ (b : Which). P who b (parts_of question).permission) i (subst (P who which) k x))
