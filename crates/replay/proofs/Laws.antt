-- Laws of replay. In order: a question's tests; whether a session and a row fit; rows from one on, and the end; a number is given exactly where
-- fewer rows than all were carried out; what a replay answers where all rows are carried out.
use mathlib.Core.Path.{◌≡◌, refl, sym, ap, subst, ◌∙◌}
use mathlib.Core.Bool.{Bool, true, false}
use mathlib.Core.List.{List, [], ◌∷◌}
use mathlib.Core.Option.{Option, none, some}
use Prim.Native.Nat.{ℕ, ◌+◌, ◌-◌, ◌≤◌, ◌<◌}
use native.Mathlib.Numerals.{add-one}
use native.Mathlib.Omega.{arith}
use borrow.Author.Tests.{eq-eqb, ne_eqb}
use lib.Dec.{ltb, eqb}
use lib.ListN.{length, drop, get_or, length-drop}
use lib.Seq.{drop-cons}
use Rattle.std.specs.Prelude.{Option as Read}
use Rattle.std.specs.Option.{option_map_or}
use Rattle.policy.specs.Policy.{Policy}
use Rattle.rules.specs.Answers.{Answer, rules}
use Rattle.runs.specs.Model.{Model}
use Rattle.runs.specs.State.{Session, closed, opened}
use Rattle.runs.specs.Grant.{session, user, anyone, item, anything}
use Rattle.allowed.specs.Allowed.{model_of}
use Rattle.cells.specs.Row.{parts_of as row_parts, step_of}
use Rattle.cells.specs.Cell.{session_read}
use Rattle.cells.specs.declared.Session.{Session as OpenSession}
use Rattle.cells.proofs.Laws.{read-closed, read-opened}
use Rattle.live.specs.Lent.{Lent}
use Rattle.steps.specs.Step.{step_in}
use Rattle.starting.specs.Start.{started}
use Rattle.replay.specs.Question.{parts_of, who_of, which_of, who_among, which_among, asks}
use Rattle.replay.specs.Rows.{Ran, ran_all, further, rows_in}
use Rattle.replay.specs.Replay.{is_of, step_fits, last_fits, judged, played, replayed}
use Rattle.replay.specs.declared.question.Question.{Question}

-- the question

module _ (sessions users : ℕ) (q : Question) where
  pub session-among : q.whokind ≡ 0 → who_among sessions users q ≡ ltb q.who sessions
  unfolding who_among
  session-among e = rw (eq-eqb q.whokind 0 e) refl

  module _ (n : q.whokind ≡ 0 → ⊥) where
    pub user-among : q.whokind ≡ 1 → who_among sessions users q ≡ ltb q.who users
    unfolding who_among
    user-among e = rw (ne_eqb q.whokind 0 n, eq-eqb q.whokind 1 e) refl

    module _ (o : q.whokind ≡ 1 → ⊥) where
      pub anyone-among : q.whokind ≡ 2 → who_among sessions users q ≡ eqb q.who 0
      unfolding who_among
      anyone-among e = rw (ne_eqb q.whokind 0 n, ne_eqb q.whokind 1 o, eq-eqb q.whokind 2 e) refl

      pub nobody-among : (q.whokind ≡ 2 → ⊥) → who_among sessions users q ≡ false
      unfolding who_among
      nobody-among t = rw (ne_eqb q.whokind 0 n, ne_eqb q.whokind 1 o, ne_eqb q.whokind 2 t) refl

module _ (items : ℕ) (q : Question) where
  pub item-among : q.itemkind ≡ 0 → which_among items q ≡ ltb q.item items
  unfolding which_among
  item-among e = rw (eq-eqb q.itemkind 0 e) refl

  module _ (n : q.itemkind ≡ 0 → ⊥) where
    pub anything-among : q.itemkind ≡ 1 → which_among items q ≡ eqb q.item 0
    unfolding which_among
    anything-among e = rw (ne_eqb q.itemkind 0 n, eq-eqb q.itemkind 1 e) refl

    pub no-item-among : (q.itemkind ≡ 1 → ⊥) → which_among items q ≡ false
    unfolding which_among
    no-item-among o = rw (ne_eqb q.itemkind 0 n, ne_eqb q.itemkind 1 o) refl

module _ (q : Question) where
  pub who-session : q.whokind ≡ 0 → who_of q ≡ session q.who
  unfolding who_of
  who-session e = rw (eq-eqb q.whokind 0 e) refl

  pub who-user : (q.whokind ≡ 0 → ⊥) → q.whokind ≡ 1 → who_of q ≡ user q.who
  unfolding who_of
  who-user n e = rw (ne_eqb q.whokind 0 n, eq-eqb q.whokind 1 e) refl

  pub who-anyone : (q.whokind ≡ 0 → ⊥) → (q.whokind ≡ 1 → ⊥) → who_of q ≡ anyone
  unfolding who_of
  who-anyone n o = rw (ne_eqb q.whokind 0 n, ne_eqb q.whokind 1 o) refl

  pub which-item : q.itemkind ≡ 0 → which_of q ≡ item q.item
  unfolding which_of
  which-item e = rw (eq-eqb q.itemkind 0 e) refl

  pub which-anything : (q.itemkind ≡ 0 → ⊥) → which_of q ≡ anything
  unfolding which_of
  which-anything d = rw (ne_eqb q.itemkind 0 d) refl

-- what fits

-- a session that is read is one of user a exactly when it is there and is a's
pub reads_as_of : (a : ℕ) (x : Session) → is_of a x ≡ option_map_or (λ t. eqb t.user a) (session_read x) false
unfolding is_of
reads_as_of a closed = ap (λ (r : Read OpenSession). option_map_or (λ t. eqb t.user a) r false) (sym read-closed)
reads_as_of a (opened u v) = ap (λ (r : Read OpenSession). option_map_or (λ t. eqb t.user a) r false) (sym (read-opened u v))

pub none_fits : (m : Model) (s : Lent) (q : Question) (rows : List ℕ) → length rows ≡ 0 → false ≡ last_fits m s q rows
unfolding last_fits
none_fits m s q [] e = refl
none_fits m s q (row ∷ rows) e = absurd (omega arith)

pub last_is : (m : Model) (s : Lent) (q : Question) (rows : List ℕ) → 0 < length rows
    → step_fits m s q (step_of (row_parts (get_or rows (length rows - 1) 0))) ≡ last_fits m s q rows
unfolding last_fits
last_is m s q [] h = absurd (omega arith)
last_is m s q (row ∷ rows) h =
    let e : length (row ∷ rows) - 1 ≡ length rows = omega arith in
    ap (λ (n : ℕ). step_fits m s q (step_of (row_parts (get_or (row ∷ rows) n 0)))) e

-- rows from one on

-- row i, and what follows it
pub row_next : (m : Model) (s : Lent) (rows : List ℕ) (i : ℕ) → i < length rows → rows_in m s i (drop i rows)
    ≡ further (step_in m s (get_or rows i 0)).refusal (step_in m s (get_or rows i 0)).lent i (λ k. rows_in m (step_in m s (get_or rows i 0)).lent k (drop (i + 1) rows))
unfolding rows_in
row_next m s rows i h = rw add-one (rw (drop-cons rows i 0) refl)

past : (l : List ℕ) → length l ≡ 0 → l ≡ []
past [] e = refl
past (x ∷ l) e = absurd (omega arith)

-- all rows were carried out
pub rows_all : (m : Model) (s : Lent) (rows : List ℕ) (i : ℕ) → i ≡ length rows
    → rows_in m s i (drop i rows) ≡ record { refusal = none; lent = s; count = length rows }
unfolding rows_in ran_all
rows_all m s rows i e =
    let d : drop i rows ≡ [] = past (drop i rows) (omega (arith, length-drop i rows)) in
    rw d (ap (λ (n : ℕ). record { refusal = none; lent = s; count = n }) e)

-- how many rows were carried out

-- of rows that end at n: a number is given, and fewer were carried out; or none is, and all were
data Counted (r : Ran) (n : ℕ) : Type 0 where
  fewer : (k : ℕ) → r.refusal ≡ some k → r.count < n → Counted r n
  every : r.refusal ≡ none → r.count ≡ n → Counted r n

counted-further : (o : Option ℕ) (s : Lent) (done : ℕ) (f : ℕ → Ran) (n : ℕ) → done < n → Counted (f (done + 1)) n → Counted (further o s done f) n
unfolding further
counted-further none s done f n h c = c
counted-further (some k) s done f n h c = fewer k refl h

-- by induction on the rows
counted : (m : Model) (s : Lent) (done : ℕ) (rows : List ℕ) (n : ℕ) → n ≡ done + length rows → Counted (rows_in m s done rows) n
unfolding rows_in ran_all
counted m s done [] n e = every refl (omega arith)
counted m s done (row ∷ rows) n e =
    let a = step_in m s row in
    counted-further a.refusal a.lent done (λ k. rows_in m a.lent k rows) n (omega arith) (counted m a.lent (done + 1) rows n (omega arith))

module _ (m : Model) (s t : Lent) (rows : List ℕ) {x : Option ℕ} {k : ℕ} (e : record { refusal = x; lent = t; count = k } ≡ rows_in m s 0 rows) where
  count-is : Counted record { refusal = x; lent = t; count = k } (length rows)
  count-is = subst (λ (r : Ran). Counted r (length rows)) (sym e) (counted m s 0 rows (length rows) (omega arith))

  -- fewer rows than all were carried out, so a number is given
  pub rows-fewer : k < length rows → (n : ℕ) × (x ≡ some n)
  rows-fewer h = go count-is
    where
      go : Counted record { refusal = x; lent = t; count = k } (length rows) → (n : ℕ) × (x ≡ some n)
      go (fewer n f l) = (n, f)
      go (every f l) = absurd (omega arith)

  -- all were, so none is
  pub rows-every : length rows ≤ k → x ≡ none
  rows-every h = go count-is
    where
      go : Counted record { refusal = x; lent = t; count = k } (length rows) → x ≡ none
      go (fewer n f l) = absurd (omega arith)
      go (every f l) = f

-- the same, said of the rows
pub carried_all : (m : Model) (s : Lent) (rows : List ℕ) → length rows ≤ (rows_in m s 0 rows).count → (rows_in m s 0 rows).refusal ≡ none
carried_all m s rows h = rows-every m s (rows_in m s 0 rows).lent rows refl h

-- what a replay answers

module _ {a : Answer} (question rows sessions items : List ℕ) (p : Policy) (read : a ≡ rules p) (asking : asks p question ≡ true) where
  play : replayed a question rows sessions items
      ≡ (let s = started (rules p) sessions items in played (model_of p) (parts_of question) rows s.refusal s.lent)
  unfolding replayed
  play = rw (read, asking) refl

  module _ {o : Option ℕ} {s : Lent} (begun : record { refusal = o; lent = s } ≡ started (rules p) sessions items) (d : o ≡ none) where
    ran : {r : Ran} → r ≡ rows_in (model_of p) s 0 rows → replayed a question rows sessions items ≡ judged (model_of p) (parts_of question) rows r.refusal r.lent
    unfolding played
    ran e = play ∙ rw (← begun, d, e) refl

    -- all rows are carried out, and the last fits
    pub replay-shown : {x : Option ℕ} {k : ℕ} {t : Lent} → record { refusal = x; lent = t; count = k } ≡ rows_in (model_of p) s 0 rows
        → x ≡ none → {b : Bool} {q : Question} → b ≡ last_fits (model_of p) t q rows → q ≡ parts_of question
        → b ≡ true → record { refusal = none; lent = t } ≡ replayed a question rows sessions items
    unfolding judged
    replay-shown e f h g z = sym (ran e ∙ rw (f, ← g, ← h, z) refl)
