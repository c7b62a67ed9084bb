-- Rows on cells are rows of the run. In order: which sessions and items fit, on cells and in the run; the last row; rows that are carried out on
-- cells are in the run; rows that the run carries out are on cells, where these are enough; what a replay that was carried out tells.
use mathlib.Core.Path.{◌≡◌, refl, sym, ap, ◌∙◌, subst}
use mathlib.Core.Bool.{Bool, true, false, ◌&&◌, cond}
use mathlib.Core.List.{List, [], ◌∷◌, ◌++◌, map, map-append}
use mathlib.Core.Option.{Option, none, some}
use Prim.Native.Nat.{ℕ, ◌+◌, ◌-◌}
use native.Mathlib.Omega.{arith}
use borrow.Author.Tests.{eqb-true, eq-eqb}
use lib.Dec.{eqb}
use lib.ListN.{length, get_or, length-append}
use lib.Seq.{get_or-append_seam}
use Rattle.bits.proofs.Set.{both_true}
use Rattle.policy.specs.Policy.{Policy}
use Rattle.rules.specs.Answers.{Answer, reading, rules}
use Rattle.runs.specs.Model.{Model}
use Rattle.runs.specs.State.{Session, closed, opened, State}
use Rattle.runs.specs.Step.{Step, Grants, Carried, opens, closes, changes, makes, modifies, grants}
use Rattle.runs.specs.Grant.{Who, session, user, anyone, Which, item, anything, IsWho, IsWhich, Fits}
use Rattle.runs.specs.Outcome.{CarriedAll, stop, then}
use Rattle.runs.proofs.Bring.{append-carried}
use Rattle.allowed.specs.Allowed.{model_of}
use Rattle.cells.specs.Row.{parts_of as row_parts, row_step}
use Rattle.cells.specs.Leak.{IsLeak}
use Rattle.live.specs.Lent.{Lent, After, refused}
use Rattle.live.proofs.Outcomes.{some-not-none, refused-not-done}
use Rattle.steps.specs.Step.{session_now, step_in}
use Rattle.steps.specs.Codes.{Bytes, Codes}
use Rattle.steps.proofs.Theorems.{step-is-the-table, files-are-bytes}
use Rattle.steps.proofs.Kept.{celled-step}
use Rattle.starting.specs.Start.{started, beginning}
use Rattle.starting.proofs.Theorems.{start-is-the-beginning}
use Rattle.replay.specs.Question.{parts_of, who_of, which_of, asks}
use Rattle.replay.specs.Rows.{Ran, ran_all, further, rows_in}
use Rattle.replay.specs.Replay.{is_of, who_fits, which_fits, step_fits, last_fits, judged, played, replayed}
use Rattle.replay.specs.Claims.{Enough, NumbersLeft, AskedLeak, ReplayIsTheRun}
use Rattle.replay.specs.declared.question.Question.{Question}
use Rattle.replay.proofs.Asked.{asks-asked, asked-asks, of_parts}
use Rattle.replay.proofs.Laws.{none_fits, last_is, replay-shown}
use Rattle.replay.proofs.Room.{Ample, ample-room, ample-after, rows_start, rows-ample}

-- what fits

of-user : (x : Session) (a : ℕ) → is_of a x ≡ true → (v : ℕ) × (x ≡ opened a v)
unfolding is_of
of-user closed a e = absurd (let z : ◌≡◌ {A = ℕ} 0 1 = cc in omega arith)
of-user (opened u v) a e = (v, ap (λ (n : ℕ). opened n v) (eqb-true u a e))

user-of : (x : Session) (a v : ℕ) → x ≡ opened a v → is_of a x ≡ true
unfolding is_of
user-of x a v e = rw e (eq-eqb a a refl)

module _ (m : Model) (s : Lent) (t : State) (c : Codes m s t) where
  is-who : (w : Who) (k : ℕ) → who_fits m s w k ≡ true → IsWho w t k
  unfolding who_fits
  is-who (session j) k e = eqb-true k j e
  is-who (user a) k e = let (v, o) = of-user (session_now m s k) a e in (v, sym (c.each-session k) ∙ o)
  is-who anyone k e = tt

  who-is : (w : Who) (k : ℕ) → IsWho w t k → who_fits m s w k ≡ true
  unfolding who_fits
  who-is (session j) k e = eq-eqb k j e
  who-is (user a) k (v, o) = user-of (session_now m s k) a v (c.each-session k ∙ o)
  who-is anyone k e = refl

is-which : (w : Which) (k : ℕ) → which_fits w k ≡ true → IsWhich w k
unfolding which_fits
is-which (item j) k e = eqb-true k j e
is-which anything k e = tt

which-is : (w : Which) (k : ℕ) → IsWhich w k → which_fits w k ≡ true
unfolding which_fits
which-is (item j) k e = eq-eqb k j e
which-is anything k e = refl

-- a step of kind 6 is a grant
granted : (m : Model) (t : State) (p : Step) (after : State) → p.kind ≡ 6 → Carried m t p after → Grants m t p after
granted m t p after k (opens h) = absurd (omega (arith, h.kind))
granted m t p after k (closes h) = absurd (omega (arith, h.kind))
granted m t p after k (changes h) = absurd (omega (arith, h.kind))
granted m t p after k (makes h) = absurd (omega (arith, h.kind))
granted m t p after k (modifies h) = absurd (omega (arith, h.kind))
granted m t p after k (grants h) = h

module _ (m : Model) (q : Question) (p : Step) where
  -- a step that was carried out and fits on the cells that it left is a grant that fits in the run
  fits-run : (s : Lent) (t after : State) → Codes m s after → Carried m t p after → step_fits m s q p ≡ true → Fits m t (who_of q) (which_of q) q.permission p
  unfolding step_fits
  fits-run s t after c d e =
      let (f, w) = both_true (eqb p.kind 6 && eqb p.value q.permission && who_fits m s (who_of q) p.actor) (which_fits (which_of q) p.target) e in
      let (g, h) = both_true (eqb p.kind 6 && eqb p.value q.permission) (who_fits m s (who_of q) p.actor) f in
      let (k, v) = both_true (eqb p.kind 6) (eqb p.value q.permission) g in
      let r : Grants m t p after = granted m t p after (eqb-true p.kind 6 k) d in
      record {
        granted = subst (λ (x : State). Grants m t p x) r.state r;
        asked = eqb-true p.value q.permission v;
        actor = is-who m s t (subst (λ (x : State). Codes m s x) r.state c) (who_of q) p.actor h;
        target = is-which (which_of q) p.target w;
      }

  run_fits : (s : Lent) (t : State) → Codes m s t → Fits m t (who_of q) (which_of q) q.permission p → step_fits m s q p ≡ true
  unfolding step_fits
  run_fits s t c f =
      rw (
        eq-eqb p.kind 6 f.granted.kind,
        eq-eqb p.value q.permission f.asked,
        who-is m s t c (who_of q) p.actor f.actor,
        which-is (which_of q) p.target f.target,
      ) refl

-- the last row

last_row : (m : Model) (s : Lent) (q : Question) (rows before : List ℕ) (last : ℕ) → rows ≡ before ++ last ∷ [] → last_fits m s q rows ≡ step_fits m s q (row_step last)
last_row m s q rows before last e =
    let n : length rows ≡ length before + 1 = ap length e ∙ length-append before (last ∷ []) in
    let i : length rows - 1 ≡ length before = omega arith in
    sym (last_is m s q rows (omega arith))
    ∙ ap (λ (x : ℕ). step_fits m s q (row_step x)) (ap (λ (k : ℕ). get_or rows k 0) i ∙ ap (λ (l : List ℕ). get_or l (length before) 0) e ∙ get_or-append_seam before last [] 0)

-- rows

abbrev spares : List ℕ → List ℕ
spares = map (λ row. (row_parts row).spare)

abbrev zeros : List ℕ → List ℕ
zeros = map (λ (row : ℕ). 0)

further-done : {C : Type 0} (o : Option ℕ) (s : Lent) (i : ℕ) (f : ℕ → Ran) → (further o s i f).refusal ≡ none
    → (o ≡ none → (f (i + 1)).refusal ≡ none → further o s i f ≡ f (i + 1) → C) → C
unfolding further
further-done none s i f e k = k refl e refl
further-done (some n) s i f e k = some-not-none e

done-further : (o : Option ℕ) (s : Lent) (i : ℕ) (f : ℕ → Ran) → o ≡ none → further o s i f ≡ f (i + 1)
unfolding further
done-further o s i f e = rw e refl

-- rows, one at least, that are carried out in the run, and the cells s code what the last leaves
record Told (m : Model) (t : State) (s : Lent) (rows : List ℕ) : Type 0 where
  before : List ℕ
  last : ℕ
  rows_are : rows ≡ before ++ last ∷ []
  state : State
  carried : CarriedAll m t (map row_step before) state
  after : State
  ends : Carried m state (row_step last) after
  codes : Codes m s after
  plain : spares rows ≡ zeros rows

module _ (m : Model) (bytes : Bytes m) where
  -- carried out on cells, carried out in the run
  told : (row : ℕ) (rows : List ℕ) (s : Lent) (t : State) → Codes m s t → (i : ℕ) → (rows_in m s i (row ∷ rows)).refusal ≡ none → Told m t (rows_in m s i (row ∷ rows)).lent (row ∷ rows)
  unfolding rows_in ran_all
  told row [] s t c i e =
      further-done _ _ _ _ e λ o d q.
      let x = step-is-the-table m bytes s t c row in
      let (z, _, (after, h)) = x.carried.0 o in
      record {
        before = [];
        last = row;
        rows_are = refl;
        state = t;
        carried = stop;
        after = after;
        ends = h;
        codes = subst (λ (y : Ran). Codes m y.lent after) (sym q) (x.codes after h o);
        plain = ap (λ (n : ℕ). n ∷ []) z;
      }
  told row (next ∷ rows) s t c i e =
      further-done _ _ _ _ e λ o d q.
      let x = step-is-the-table m bytes s t c row in
      let (z, _, (after, h)) = x.carried.0 o in
      let r = told next rows (step_in m s row).lent after (x.codes after h o) (i + 1) d in
      record {
        before = row ∷ r.before;
        last = r.last;
        rows_are = ap (λ (l : List ℕ). row ∷ l) r.rows_are;
        state = r.state;
        carried = then h r.carried;
        after = r.after;
        ends = r.ends;
        codes = subst (λ (y : Ran). Codes m y.lent r.after) (sym q) r.codes;
        plain = ap (λ (n : ℕ). n ∷ spares (next ∷ rows)) z ∙ ap (λ (l : List ℕ). 0 ∷ l) r.plain;
      }

  -- carried out in the run, carried out on cells that are enough
  record Shown (s : Lent) (after : State) (rows : List ℕ) (i : ℕ) : Type 0 where
    refusal : (rows_in m s i rows).refusal ≡ none
    codes : Codes m (rows_in m s i rows).lent after

  shown : (rows : List ℕ) (s : Lent) (t after : State) → Codes m s t → Ample s t rows → CarriedAll m t (map row_step rows) after → spares rows ≡ zeros rows → (i : ℕ) → Shown s after rows i
  unfolding rows_in ran_all
  shown [] s t after c a stop z i = record { refusal = refl; codes = c }
  shown (row ∷ rows) s t after c a (then {next = next} h l) z i =
      let x = step-is-the-table m bytes s t c row in
      let z₀ : (row_parts row).spare ≡ 0 = cc in
      let z₁ : spares rows ≡ zeros rows = cc in
      let o = x.carried.1 (z₀, ample-room m s t row rows a c, (next, h)) in
      let u = (step_in m s row).lent in
      let r = shown rows u next after (x.codes next h o) (ample-after m s t row rows a u next (celled-step m s row) h) l z₁ (i + 1) in
      let q = done-further (step_in m s row).refusal u i (λ k. rows_in m u k rows) o in
      record { refusal = ap (λ (y : Ran). y.refusal) q ∙ r.refusal; codes = subst (λ (y : Ran). Codes m y.lent after) (sym q) r.codes }

-- a replay that was carried out

cond-done : {C : Type 0} (b : Bool) (a : After) (n : ℕ) (s : Lent) → (cond b a (refused n s)).refusal ≡ none → (b ≡ true → a.refusal ≡ none → C) → C
cond-done true a n s e k = k refl e
cond-done false a n s e k = refused-not-done n s e

judged-done : {C : Type 0} (m : Model) (q : Question) (rows : List ℕ) (o : Option ℕ) (s : Lent) → (judged m q rows o s).refusal ≡ none
    → (o ≡ none → last_fits m s q rows ≡ true → C) → C
unfolding judged
judged-done m q rows none s e k = cond-done _ _ _ s e λ h _. k refl h
judged-done m q rows (some n) s e k = refused-not-done n s e

played-done : {C : Type 0} (m : Model) (q : Question) (rows : List ℕ) (o : Option ℕ) (s : Lent) → (played m q rows o s).refusal ≡ none
    → (o ≡ none → (rows_in m s 0 rows).refusal ≡ none → last_fits m (rows_in m s 0 rows).lent q rows ≡ true → C) → C
unfolding played
played-done m q rows none s e k = judged-done m q rows _ _ e λ d h. k refl d h
played-done m q rows (some n) s e k = refused-not-done n s e

replayed-done : {C : Type 0} (p : Policy) (question rows sessions items : List ℕ) → (replayed (rules p) question rows sessions items).refusal ≡ none
    → let s = started (rules p) sessions items in let r = rows_in (model_of p) s.lent 0 rows in
    (asks p question ≡ true → s.refusal ≡ none → r.refusal ≡ none → last_fits (model_of p) r.lent (parts_of question) rows ≡ true → C) → C
unfolding replayed
replayed-done p question rows sessions items e k =
    cond-done _ _ _ _ e λ a d. played-done (model_of p) (parts_of question) rows _ _ d λ b r f. k a b r f

module _ (file : List ℕ) (p : Policy) (read : reading file ≡ rules p) (question rows sessions items : List ℕ) where
  abbrev q : Question
  q = parts_of question

  abbrev s : Lent
  s = (started (rules p) sessions items).lent

  -- the cells after the start code the beginning
  begun : (started (rules p) sessions items).refusal ≡ none → Codes (model_of p) s (beginning p)
  begun d =
      subst (λ (a : Answer). Codes (model_of p) (started a sessions items).lent (beginning p)) read
      (start-is-the-beginning file p read sessions items (subst (λ (a : Answer). (started a sessions items).refusal ≡ none) (sym read) d))

  -- the rows are a leak of what the question asks
  abbrev Leaks : List ℕ → Type 0
  Leaks = IsLeak (model_of p) (beginning p) (who_of q) (which_of q) q.permission

  leak-shown : (l : List ℕ) → Codes (model_of p) s (beginning p) → (rows_in (model_of p) s 0 l).refusal ≡ none
      → last_fits (model_of p) (rows_in (model_of p) s 0 l).lent q l ≡ true → Leaks l
  leak-shown [] c d f = absurd (let z : false ≡ true = none_fits (model_of p) (rows_in (model_of p) s 0 []).lent q [] refl ∙ f in let y : ◌≡◌ {A = ℕ} 0 1 = cc in omega arith)
  leak-shown (row ∷ l) c d f =
      let r = told (model_of p) (files-are-bytes file p read) row l s (beginning p) c 0 d in
      let u = (rows_in (model_of p) s 0 (row ∷ l)).lent in
      record {
        before = r.before;
        last = r.last;
        rows_are = r.rows_are;
        state = r.state;
        carried = r.carried;
        fits =
            fits-run (model_of p) q (row_step r.last) u r.state r.after r.codes r.ends
            (sym (last_row (model_of p) u q (row ∷ l) r.before r.last r.rows_are) ∙ f);
        plain = r.plain;
      }

  pub is-sound : (replayed (reading file) question rows sessions items).refusal ≡ none → AskedLeak p question rows
  is-sound e =
      replayed-done p question rows sessions items (subst (λ (a : Answer). (replayed a question rows sessions items).refusal ≡ none) read e)
      λ a b d f. record { who = who_of q; which = which_of q; permission = q.permission; asked = asks-asked p question a; leak = leak-shown rows (begun b) d f }

  -- all rows of a leak are carried out
  leak-carried : (l : Leaks rows) → CarriedAll (model_of p) (beginning p) (map row_step rows) l.state
  leak-carried l =
      subst (λ (ps : List Step). CarriedAll (model_of p) (beginning p) ps l.state) (sym (ap (map row_step) l.rows_are ∙ map-append row_step l.before (l.last ∷ [])))
      (append-carried (model_of p) l.carried (then (grants l.fits.granted) stop))

  complete : asks p question ≡ true → Leaks rows → Enough p rows (length sessions) (length items) → NumbersLeft p rows
      → (replayed (reading file) question rows sessions items).refusal ≡ none
  complete a l e n =
      let d = rows_start p rows sessions items e in
      let x = shown (model_of p) (files-are-bytes file p read) rows s (beginning p) l.state (begun d) (rows-ample p rows sessions items e n) (leak-carried l) l.plain 0 in
      let u = (rows_in (model_of p) s 0 rows).lent in
      let f = last_row (model_of p) u q rows l.before l.last l.rows_are ∙ run_fits (model_of p) q (row_step l.last) u l.state x.codes l.fits in
      sym (ap (λ (y : After). y.refusal) (replay-shown question rows sessions items p read a refl d refl x.refusal (sym f) refl refl))

  pub is-complete : AskedLeak p question rows → Enough p rows (length sessions) (length items) → NumbersLeft p rows
      → (replayed (reading file) question rows sessions items).refusal ≡ none
  is-complete l =
      complete (asked-asks p question l.who l.which l.permission l.asked).0
      (of_parts (λ who which permission. IsLeak (model_of p) (beginning p) who which permission rows) p question l.who l.which l.permission l.asked l.leak)

pub is-the-run : ReplayIsTheRun
is-the-run = record { sound = is-sound; complete = is-complete }
