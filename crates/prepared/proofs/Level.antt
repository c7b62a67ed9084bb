-- The steps of a level, one after another. In order: the rows after the steps of the first nodes are those after the steps that are listed; a row that is
-- no chosen node's stays; the row of a chosen node says what the node says; the laws of a level; its steps find their rows.
use mathlib.Core.Path.{◌≡◌, refl, sym, ap, ap₂, ◌∙◌, subst}
use mathlib.Core.Bool.{Bool, true, false, cond, true≢false}
use mathlib.Core.List.{List}
use Prim.Native.Nat.{ℕ, zero, suc, ◌+◌, ◌*◌, ◌≤◌, ◌<◌}
use native.Mathlib.Decide.{dec_lt, ℕ_discrete}
use native.Mathlib.Omega.{arith}
use lib.ListN.{length, get_or}
use Rattle.policy.specs.Policy.{Lists}
use Rattle.policy.specs.Nodes.{op_of, first_of, second_of}
use Rattle.formulas.specs.Parts.{joined_by}
use Rattle.formulas.specs.declared.Holders.{Holders}
use Rattle.bitsets.specs.Rows.{put}
use Rattle.bitsets.specs.Steps.{row_of, left_of, right_of, step_of, step_says, ran, Fits}
use Rattle.bitsets.proofs.Rows.{put_same, put_other}
use Rattle.bitsets.proofs.Steps.{does-of, row-of, left-of, right_of_lem, says-join, says-bit, says-table}
use Rattle.dependence.specs.Answers.{answer, earlier}
use Rattle.dependence.proofs.Answers.{joined_same, answer-join, answer-leaf, earlier-before, earlier-none}
use Rattle.prepared.specs.Level.{ref_of, node_step, steps_of}
use Rattle.prepared.proofs.Start.{Start}
use Rattle.prepared.proofs.Lists.{ref-earlier, ref-none, ref-few, step-cases, taken-long, taken-last, left_is, steps-kept, steps-from}

module _ (chosen : ℕ → Bool) (step : ℕ → ℕ) (i : ℕ) (A : ℕ → ℕ → Bool) where
  -- the rows after the steps of the chosen nodes below n
  evaluated : ℕ → ℕ → ℕ → Bool
  evaluated zero = A
  evaluated (suc n) = let before = evaluated n in cond (chosen n) (put (row_of (step n)) (step_says before i (step n)) before) before

  evaluated-taken : (n : ℕ) → chosen n ≡ true → evaluated (suc n) ≡ put (row_of (step n)) (step_says (evaluated n) i (step n)) (evaluated n)
  unfolding evaluated
  evaluated-taken n e = ap (λ (b : Bool). cond b (put (row_of (step n)) (step_says (evaluated n) i (step n)) (evaluated n)) (evaluated n)) e

  evaluated-left : (n : ℕ) → chosen n ≡ false → evaluated (suc n) ≡ evaluated n
  unfolding evaluated
  evaluated-left n e = ap (λ (b : Bool). cond b (put (row_of (step n)) (step_says (evaluated n) i (step n)) (evaluated n)) (evaluated n)) e

  module _ (steps : List ℕ) (first : ℕ) where
    ran-more : (m : ℕ) → ran steps first i (suc m) A
        ≡ put (row_of (get_or steps (first + m) 0)) (step_says (ran steps first i m A) i (get_or steps (first + m) 0)) (ran steps first i m A)
    unfolding ran
    ran-more m = refl

    ran-evaluated : (n : ℕ) → ((j : ℕ) → j < length (steps_of chosen step n) → get_or steps (first + j) 0 ≡ get_or (steps_of chosen step n) j 0) →
        ran steps first i (length (steps_of chosen step n)) A ≡ evaluated n
    unfolding steps_of ran evaluated
    ran-evaluated zero f = refl
    ran-evaluated (suc n) f = go (chosen n) refl (λ g. ran-evaluated n g)
      where
        go : (b : Bool) → chosen n ≡ b
            → (((j : ℕ) → j < length (steps_of chosen step n) → get_or steps (first + j) 0 ≡ get_or (steps_of chosen step n) j 0)
            → ran steps first i (length (steps_of chosen step n)) A ≡ evaluated n)
            → ran steps first i (length (steps_of chosen step (suc n))) A ≡ evaluated (suc n)
        go true e r =
            let m = length (steps_of chosen step n) in
            let s : get_or steps (first + m) 0 ≡ step n = f m (omega (arith, taken-long chosen step n e)) ∙ taken-last chosen step n e in
            let q : ran steps first i m A ≡ evaluated n = r (λ j l. f j (omega (arith, taken-long chosen step n e)) ∙ steps-kept chosen step n j l) in
            ap (λ (k : ℕ). ran steps first i k A) (taken-long chosen step n e) ∙ ran-more m
            ∙ ap₂ (λ (s : ℕ) (B : ℕ → ℕ → Bool). put (row_of s) (step_says B i s) B) s q ∙ sym (evaluated-taken n e)
        go false e r =
            let d = left_is chosen step n e in
            ap (λ (l : List ℕ). ran steps first i (length l) A) d
            ∙ r (λ j l. f j (omega (arith, ap length d)) ∙ ap (λ (s : List ℕ). get_or s j 0) d) ∙ sym (evaluated-left n e)

  -- the list of all of them
  steps-evaluated : (n : ℕ) → ran (steps_of chosen step n) 0 i (length (steps_of chosen step n)) A ≡ evaluated n
  steps-evaluated n =
      ran-evaluated (steps_of chosen step n) 0 n (λ j l. ap (λ (k : ℕ). get_or (steps_of chosen step n) k 0) (omega arith))

joined-twice : (x : Bool) → joined_by 4 x x false ≡ x
unfolding joined_by
joined-twice true = refl
joined-twice false = refl

module _ {c : Lists} {nodes : List ℕ} {n : ℕ} {H : ℕ → Holders} {i own from : ℕ} {chosen differ indexed wanted : ℕ → Bool} {base : ℕ → ℕ}
    {A : ℕ → ℕ → Bool}
    (S : Start c nodes n H i own from chosen differ indexed wanted base A) where
  step_at : ℕ → ℕ
  step_at k = node_step own from (differ k) (indexed k) (get_or nodes k 0) k (base k)

  -- the rows after the steps of the chosen nodes below k
  after : ℕ → ℕ → ℕ → Bool
  after k = evaluated chosen step_at i A k

  -- each step's row is its node's
  own_row : (k : ℕ) → k < n → row_of (step_at k) ≡ own + k
  unfolding step_at
  own_row k l =
      let f = ref-few own (first_of (get_or nodes k 0)) k in
      let g = ref-few own (second_of (get_or nodes k 0)) k in
      let b = S.places.base-few k l in
      step-cases own from (differ k) (indexed k) (get_or nodes k 0) k (base k) (λ s. row_of s ≡ own + k)
      (λ d. row-of 5 (own + k) (from + k) 0 (omega (arith, S.places)) (omega (arith, S.places)) (omega arith))
      (λ d o. row-of (op_of (get_or nodes k 0)) (own + k) _ _ (omega (arith, S.places)) (omega (arith, S.places, f)) (omega (arith, S.places, g)))
      (λ d o x. row-of 6 (own + k) (base k) 0 (omega (arith, S.places)) b (omega arith))
      (λ d o x. row-of 4 (own + k) (base k) (base k) (omega (arith, S.places)) b b)

  -- a row that is no chosen node's stays
  untouched : (k : ℕ) → k ≤ n → (a v : ℕ) → ((j : ℕ) → j < k → chosen j ≡ true → a ≡ own + j → ⊥) → after k a v ≡ A a v
  unfolding after evaluated
  untouched zero l a v f = refl
  untouched (suc k) l a v f = go (chosen k) refl (untouched k (omega arith) a v (λ j p e d. f j (omega arith) e d))
    where
      go : (b : Bool) → chosen k ≡ b → after k a v ≡ A a v → after (suc k) a v ≡ A a v
      go true e r =
          ap (λ (B : ℕ → ℕ → Bool). B a v) (evaluated-taken chosen step_at i A k e)
          ∙ put_other (row_of (step_at k)) (step_says (after k) i (step_at k)) (after k) a v (λ d. f k (omega arith) e (d ∙ own_row k (omega arith))) ∙ r
      go false e r = ap (λ (B : ℕ → ℕ → Bool). B a v) (evaluated-left chosen step_at i A k e) ∙ r

  -- what the rows of the first k nodes are to say
  abbrev RightUpTo : ℕ → Type 0
  RightUpTo k = (j v : ℕ) → j < k → v < 256 → chosen j ≡ true → after k (own + j) v ≡ answer c nodes (H v) j

  wanted-right : (k : ℕ) → k ≤ n → RightUpTo k → (j v : ℕ) → j < k → v < 256 → wanted j ≡ true → after k (own + j) v ≡ answer c nodes (H v) j
  wanted-right k l R j v p h w = go (chosen j) refl
    where
      go : (b : Bool) → chosen j ≡ b → after k (own + j) v ≡ answer c nodes (H v) j
      go true e = R j v p h e
      go false e =
          untouched k l (own + j) v (λ x q t d. let z : j ≡ x = omega arith in true≢false (sym t ∙ ap chosen (sym z) ∙ e))
          ∙ S.kept j v (omega arith) h w e

  module _ (k : ℕ) (l : k < n) (R : RightUpTo k) (v : ℕ) (h : v < 256) where
    node : ℕ
    node = get_or nodes k 0

    -- the row of an earlier node says what is said of it before node k
    ref-right : (j : ℕ) → (j < k → wanted j ≡ true) → after k (ref_of own j k) v ≡ earlier c nodes (H v) k j
    ref-right j w = go (dec_lt j k)
      where
        go : Dec (j < k) → after k (ref_of own j k) v ≡ earlier c nodes (H v) k j
        go (yes p) =
            ap (λ (a : ℕ). after k a v) (ref-earlier own j k p) ∙ wanted-right k (omega arith) R j v p h (w p)
            ∙ sym (earlier-before c nodes (H v) k j p)
        go (no p) =
            ap (λ (a : ℕ). after k a v) (ref-none own j k (omega arith)) ∙ untouched k (omega arith) 0 v (λ x q t d. omega (arith, S.places.low, d))
            ∙ S.none v h ∙ sym (earlier-none c nodes (H v) k j (omega arith))

    -- a row outside those of the nodes stays
    base_stays : (a u : ℕ) → base k ≤ a → after k a u ≡ A a u
    base_stays a u b = untouched k (omega arith) a u (λ x q t d. omega (arith, S.places.apart-base k l, d))

    -- node k's step says what the node says
    step_right : chosen k ≡ true → step_says (after k) i (step_at k) v ≡ answer c nodes (H v) k
    unfolding step_at node
    step_right e =
        let f = ref-few own (first_of node) k in
        let g = ref-few own (second_of node) k in
        let b = S.places.base-few k l in
        let p : own + k < 65536 = omega (arith, S.places) in
        step-cases own from (differ k) (indexed k) node k (base k) (λ s. step_says (after k) i s v ≡ answer c nodes (H v) k)
        (λ d.
        let q : from + k < 65536 = omega (arith, S.places) in
        says-bit (after k) i (step_of 5 (own + k) (from + k) 0) v (does-of 5 (own + k) (from + k) 0 p q (omega arith))
        ∙ ap (λ (a : ℕ). after k a i) (left-of 5 (own + k) (from + k) 0 p q (omega arith))
        ∙ untouched k (omega arith) (from + k) i (λ x y t z. S.places.apart_from k x l (omega arith) z) ∙ S.told k v l h e d)
        (λ d o.
        let x = ref_of own (first_of node) k in
        let y = ref_of own (second_of node) k in
        let s = step_of (op_of node) (own + k) x y in
        let q : x < 65536 = omega (arith, S.places, f) in
        let r : y < 65536 = omega (arith, S.places, g) in
        let w = does-of (op_of node) (own + k) x y p q r in
        says-join (after k) i s v (omega (arith, w))
        ∙ ap (λ (z : ℕ). joined_by z (after k (left_of s) v) (after k (right_of s) v) false) w
        ∙ joined_same (op_of node) _ _ _ _ _ _
        (λ z w. ap (λ (a : ℕ). after k a v) (left-of (op_of node) (own + k) x y p q r) ∙ ref-right (first_of node) (S.first k l e d z o))
        (λ z w. ap (λ (a : ℕ). after k a v) (right_of_lem (op_of node) (own + k) x y p q r) ∙ ref-right (second_of node) (S.second k l e d z o))
        (λ z. refl)
        ∙ sym (answer-join c nodes (H v) k o))
        (λ d o x.
        says-table (after k) i (step_of 6 (own + k) (base k) 0) v (does-of 6 (own + k) (base k) 0 p b (omega arith))
        ∙ ap (λ (a : ℕ). after k (a + i) v) (left-of 6 (own + k) (base k) 0 p b (omega arith))
        ∙ base_stays (base k + i) v (omega arith) ∙ S.taken k v l h e d o x ∙ sym (answer-leaf c nodes (H v) k o))
        (λ d o x.
        let s = step_of 4 (own + k) (base k) (base k) in
        let w = does-of 4 (own + k) (base k) (base k) p b b in
        says-join (after k) i s v (omega (arith, w))
        ∙ ap (λ (z : ℕ). joined_by z (after k (left_of s) v) (after k (right_of s) v) false) w
        ∙ ap₂ (λ (a z : ℕ). joined_by 4 (after k a v) (after k z v) false) (left-of 4 (own + k) (base k) (base k) p b b)
        (right_of_lem 4 (own + k) (base k) (base k) p b b)
        ∙ joined-twice (after k (base k) v)
        ∙ base_stays (base k) v (omega arith) ∙ S.copied k v l h e d o x ∙ sym (answer-leaf c nodes (H v) k o))

  right : (k : ℕ) → k ≤ n → RightUpTo k
  unfolding after
  right zero l j v p h e = absurd (omega arith)
  right (suc k) l j v p h e = go (chosen k) refl (ℕ_discrete j k) (right k (omega arith))
    where
      go : (b : Bool) → chosen k ≡ b → Dec (j ≡ k) → RightUpTo k → after (suc k) (own + j) v ≡ answer c nodes (H v) j
      go true t (yes d) R =
          ap (λ (z : ℕ). after (suc k) (own + z) v) d ∙ ap (λ (B : ℕ → ℕ → Bool). B (own + k) v) (evaluated-taken chosen step_at i A k t)
          ∙ ap (λ (a : ℕ). put (row_of (step_at k)) (step_says (after k) i (step_at k)) (after k) a v) (sym (own_row k (omega arith)))
          ∙ put_same (row_of (step_at k)) (step_says (after k) i (step_at k)) (after k) v
          ∙ step_right k (omega arith) R v h t ∙ ap (λ (z : ℕ). answer c nodes (H v) z) (sym d)
      go true t (no d) R =
          ap (λ (B : ℕ → ℕ → Bool). B (own + j) v) (evaluated-taken chosen step_at i A k t)
          ∙ put_other (row_of (step_at k)) (step_says (after k) i (step_at k)) (after k) (own + j) v (λ z. d (omega (arith, own_row k (omega arith), z)))
          ∙ R j v (omega arith) h e
      go false t (yes d) R = absurd (true≢false (sym e ∙ ap chosen d ∙ t))
      go false t (no d) R = ap (λ (B : ℕ → ℕ → Bool). B (own + j) v) (evaluated-left chosen step_at i A k t) ∙ R j v (omega arith) h e

  module _ {steps : List ℕ} (L : steps ≡ steps_of chosen (λ k. node_step own from (differ k) (indexed k) (get_or nodes k 0) k (base k)) n) where
    is-after : (a v : ℕ) → ran steps 0 i (length steps) A a v ≡ after n a v
    unfolding after step_at
    is-after a v =
        ap (λ (l : List ℕ). ran l 0 i (length l) A a v) L ∙ ap (λ (B : ℕ → ℕ → Bool). B a v) (steps-evaluated chosen step_at i A n)

    -- the row of a node that is wanted says what the node says
    pub level-right : (k v : ℕ) → k < n → v < 256 → wanted k ≡ true → ran steps 0 i (length steps) A (own + k) v ≡ answer c nodes (H v) k
    level-right k v l h w = is-after (own + k) v ∙ wanted-right n (omega arith) (right n (omega arith)) k v l h w

    -- all rows below the board, past its end, and of nodes that are not chosen, stay
    pub level-low : (a v : ℕ) → a < own → ran steps 0 i (length steps) A a v ≡ A a v
    level-low a v l = is-after a v ∙ untouched n (omega arith) a v (λ j p e d. omega arith)

    pub level-high : (a v : ℕ) → own + n ≤ a → ran steps 0 i (length steps) A a v ≡ A a v
    level-high a v l = is-after a v ∙ untouched n (omega arith) a v (λ j p e d. omega arith)

    pub level-skipped : (k v : ℕ) → k < n → chosen k ≡ false → ran steps 0 i (length steps) A (own + k) v ≡ A (own + k) v
    level-skipped k v l e =
        is-after (own + k) v
        ∙ untouched n (omega arith) (own + k) v (λ j p t d. let z : k ≡ j = omega arith in true≢false (sym t ∙ ap chosen (sym z) ∙ e))

-- the steps of a level find their rows in an area of N words
module _ (nodes : List ℕ) (n i own from : ℕ) (chosen differ indexed : ℕ → Bool) (base : ℕ → ℕ) (N : ℕ)
    (few : n ≤ 64) (index : i < 256) (own-few : own + 64 ≤ 65536) (from-few : from + 64 ≤ 65536) (base-few : (k : ℕ) → k < n → base k < 65536)
    (own-fits : 4 * (own + n) ≤ N) (from-fits : 4 * (from + n) ≤ N)
    (base-fits : (k : ℕ) → k < n → chosen k ≡ true → differ k ≡ true → 5 ≤ op_of (get_or nodes k 0)
    → (indexed k ≡ true → 4 * (base k + i) + 4 ≤ N) × (4 * base k + 4 ≤ N)) where
  fits-of : (does row left right : ℕ) → row < 65536 → left < 65536 → right < 65536 → 4 * row + 4 ≤ N → 4 * left + 4 ≤ N → 4 * right + 4 ≤ N
      → (does ≡ 6 → 4 * (left + i) + 4 ≤ N) → Fits N i (step_of does row left right)
  fits-of does row left right p q r a b d t =
      let w = does-of does row left right p q r in
      let x = row-of does row left right p q r in
      let y = left-of does row left right p q r in
      let z = right_of_lem does row left right p q r in
      record {
        index = index;
        own = omega (arith, x, a);
        left = omega (arith, y, b);
        right = omega (arith, z, d);
        table = λ e. omega (arith, y, t (sym w ∙ e));
      }

  step_fits : (k : ℕ) → k < n → chosen k ≡ true → Fits N i (node_step own from (differ k) (indexed k) (get_or nodes k 0) k (base k))
  step_fits k l e =
      let node = get_or nodes k 0 in
      let f = ref-few own (first_of node) k in
      let g = ref-few own (second_of node) k in
      let b = base-few k l in
      step-cases own from (differ k) (indexed k) node k (base k) (Fits N i)
      (λ d.
      fits-of 5 (own + k) (from + k) 0 (omega arith) (omega arith) (omega arith) (omega arith) (omega arith) (omega arith)
      (λ z. absurd (omega arith)))
      (λ d o.
      fits-of (op_of node) (own + k) (ref_of own (first_of node) k) (ref_of own (second_of node) k)
      (omega arith) (omega (arith, f)) (omega (arith, g)) (omega arith) (omega (arith, f)) (omega (arith, g)) (λ z. absurd (omega (arith, o, z))))
      (λ d o x.
      let w = base-fits k l e d o in
      fits-of 6 (own + k) (base k) 0 (omega arith) b (omega arith) (omega arith) w.1 (omega arith) (λ z. w.0 x))
      (λ d o x.
      let w = base-fits k l e d o in
      fits-of 4 (own + k) (base k) (base k) (omega arith) b b (omega arith) w.1 w.1 (λ z. absurd (omega arith)))

  pub level-fits : (steps : List ℕ) → steps ≡ steps_of chosen (λ k. node_step own from (differ k) (indexed k) (get_or nodes k 0) k (base k)) n
      → (j : ℕ) → j < length steps → Fits N i (get_or steps j 0)
  level-fits steps L j l =
      let w = steps-from chosen (λ k. node_step own from (differ k) (indexed k) (get_or nodes k 0) k (base k)) n j (omega (arith, ap length L)) in
      subst (Fits N i) (sym (ap (λ (l : List ℕ). get_or l j 0) L ∙ w.3)) (step_fits w.0 w.1 w.2)
