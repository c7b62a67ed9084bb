-- What the published promise of an answer rests on. In order: what is told, by how far it came; a number is told and means nothing of runs; what is
-- decided is told, and means what is said of runs.
use mathlib.Core.Path.{◌≡◌, refl, sym, ap, ◌∙◌, subst}
use mathlib.Core.Bool.{Bool, true, false, cond}
use Rattle.std.specs.Prelude.{Option, None, Some, MatchOption, is_some, unwrap_or}
use mathlib.Core.List.{List}
use mathlib.Core.Option.{none}
use Prim.Native.Nat.{ℕ, ◌≤◌, ◌<◌}
use native.Mathlib.Omega.{arith}
use borrow.Author.Tests.{le-ltb, lt-ltb}
use lib.Dec.{ltb}
use lib.ListN.{length, take, drop}
use lib.Seq.{length-take-le}
use Rattle.policy.specs.Policy.{Policy, width}
use Rattle.policy.specs.Rules.{attrs_of, policy_of}
use Rattle.policy.specs.declared.Rules.{Rules}
use Rattle.rules.specs.Answers.{Answer as Read, refusal, rules, reading}
use Rattle.lists.specs.Sound.{Sound}
use Rattle.runs.specs.Reach.{Brought}
use Rattle.runs.specs.Outcome.{SessionStands, ItemStands}
use Rattle.runs.proofs.Theorems.{no-step-is-no-leak}
use Rattle.verdict.specs.Meaning.{Counts}
use Rattle.verdict.specs.Verdict.{pairs, leaks, values}
use Rattle.verdict.proofs.Theorems.{verdict-is-computed, pairs-are-counted, values-are-counted}
use Rattle.allowed.specs.Allowed.{model_of}
use Rattle.allowed_rows.specs.Basis.{BasisOf}
use Rattle.allowed_rows.specs.declared.Basis.{Basis}
use Rattle.cells.specs.Leak.{IsLeak}
use Rattle.live.proofs.Laws.{numbers-are}
use Rattle.steps.proofs.Files.{file-sound}
use Rattle.starting.specs.Start.{beginning}
use Rattle.replay.specs.Question.{parts_of, who_of, which_of, asks}
use Rattle.replay.specs.Replay.{replayed}
use Rattle.replay.specs.Claims.{Enough, NumbersLeft, AskedLeak}
use Rattle.replay.specs.declared.question.Question.{Question}
use Rattle.replay.proofs.Asked.{of-asked}
use Rattle.replay.proofs.Room.{kind-few}
use Rattle.replay.proofs.Theorems.{question-is-asked, replay-is-the-run}
use Rattle.search.specs.declared.queue.Found.{Found}
use Rattle.std.specs.Prelude.{Ok}
use Rattle.analyser.specs.Told.{no_verdict, safe_verdict, leak_verdict, value_of, Told, told_in, told_of, refused}
use Rattle.analyser.specs.Answer.{session_values, item_values, rows_needed, starts_brought, decided, told}
use Rattle.user_results.specs.Found.{UsersFound}
use Rattle.decision.specs.Decide.{item_search, leak_place, LeakLeft, DecidedBy}
use Rattle.decision.specs.declared.Decision.{Decision}
use Rattle.analyser.specs.Checks.{rows_for, starts_found, answer_by}
use Rattle.analyser.specs.Never.{Never}
use Rattle.analyser.specs.Means.{Means}
use Rattle.analyser.specs.declared.Answer.{Answer}
use Rattle.analyser.specs.declared.Verdict.{Verdict}
use Rattle.analyser.proofs.Widths.{sessions-few, items-few, rows-bounded, rows_for-is}
use Rattle.user_results.proofs.UsersReach.{pairs-agree}
use Rattle.analyser.proofs.ItemsReach.{values_agree}
use Rattle.analyser.proofs.Asked.{Asks, asks-something, asked-who, asked-which, below, few-users}
use Rattle.analyser.proofs.Aims.{item-search}
use Rattle.analyser.proofs.LeakMeans.{all-found-agree, all-brought, place-agrees, left-leaks}

-- the rows that are reckoned from the widths are those that a leak may need
pub rows_for-needed : (r : Rules) → Sound (policy_of r) → rows_for (width (attrs_of r.classes.session)) (width (attrs_of r.classes.item)) ≡ rows_needed (policy_of r)
rows_for-needed r sound = rows_for-is r sound

-- the permission that is asked about is there
pub permission-there : (r : Rules) (b : Basis) (question : List ℕ) (q : Question) → BasisOf r b → asks (policy_of r) question ≡ true → q ≡ parts_of question
    → q.permission < b.permissions
unfolding policy_of
permission-there r b question q B t e = omega (arith, (asks-something (policy_of r) question t).permission, ap (λ (x : Question). x.permission) e, B.permissions)

-- a file is read as one policy
pub rules-same : {a : Read} {p p' : Policy} → a ≡ rules p → a ≡ rules p' → p ≡ p'
rules-same e f = cc

-- verdict and counts of an answer
abbrev pub told_by : Answer → Told
told_by a = told_of (Ok a)

-- what the cases of a verdict stand for

told_chosen : (b : Bool) (pairs values rows : ℕ)
    → told_by record { verdict = cond b Verdict.Leak Verdict.Safe; pairs = pairs; values = values; rows = rows }
    ≡ record { number = 0; verdict = cond b leak_verdict safe_verdict; pairs = pairs; values = values }
unfolding told_in value_of
told_chosen true pairs values rows = refl
told_chosen false pairs values rows = refl

pub refused_none : (n : ℕ) → (refused n).verdict ≡ no_verdict
unfolding refused
refused_none n = refl

-- what is told of rules
module _ (p : Policy) (question : List ℕ) (room : ℕ) where
  pub told-nine : starts_brought p ≡ false → told (rules p) question room ≡ refused 9
  unfolding told
  told-nine b = rw b refl

  pub told-ten : starts_brought p ≡ true → asks p question ≡ false → told (rules p) question room ≡ refused 10
  unfolding told
  told-ten b a = rw (b, a) refl

  pub told-eleven : starts_brought p ≡ true → asks p question ≡ true → room < rows_needed p → told (rules p) question room ≡ refused 11
  unfolding told
  told-eleven b a l = rw (b, a, lt-ltb room (rows_needed p) l) refl

  pub told-decided : starts_brought p ≡ true → asks p question ≡ true → rows_needed p ≤ room → told (rules p) question room ≡ decided p question
  unfolding told
  told-decided b a l = rw (b, a, le-ltb room (rows_needed p) l) refl

-- a number is told

pub refused-file-is-told : (file question : List ℕ) (room n : ℕ) → reading file ≡ refusal n → told (reading file) question room ≡ refused n
unfolding told
refused-file-is-told file question room n e = rw e refl

module _ (file question : List ℕ) (room : ℕ) (r : Rules) (users : List Found) (read : reading file ≡ rules (policy_of r)) (found : UsersFound (model_of (policy_of r)) users) where
  agree : starts_found r users ≡ starts_brought (policy_of r)
  agree = all-found-agree r (parts_of question) (file-sound file (policy_of r) read) users found

  as-told : (t : Told) → told (rules (policy_of r)) question room ≡ t → told (reading file) question room ≡ t
  as-told t e = ap (λ (a : Read). told a question room) read ∙ e

  pub refused-sessions-is-told : starts_found r users ≡ false → told (reading file) question room ≡ refused 9
  refused-sessions-is-told t = as-told (refused 9) (told-nine (policy_of r) question room (sym agree ∙ t))

  pub refused-question-is-told : starts_found r users ≡ true → asks (policy_of r) question ≡ false → told (reading file) question room ≡ refused 10
  refused-question-is-told t a = as-told (refused 10) (told-ten (policy_of r) question room (sym agree ∙ t) a)

  pub refused-room-is-told : starts_found r users ≡ true → asks (policy_of r) question ≡ true → room < rows_needed (policy_of r)
      → told (reading file) question room ≡ refused 11
  refused-room-is-told t a l = as-told (refused 11) (told-eleven (policy_of r) question room (sym agree ∙ t) a l)

  decided-told : starts_found r users ≡ true → asks (policy_of r) question ≡ true → rows_needed (policy_of r) ≤ room
      → told (reading file) question room ≡ decided (policy_of r) question
  decided-told t a l = as-told (decided (policy_of r) question) (told-decided (policy_of r) question room (sym agree ∙ t) a l)

-- a number means nothing of runs
pub refused-means : (file question before : List ℕ) (n : ℕ) → told (reading file) question (length before) ≡ refused n → Means file question before before (refused n) 0
refused-means file question before n t =
    let v = refused_none n in
    record {
      answer = sym t;
      rows_none = λ d. (refl, refl);
      rows_long = refl;
      rows-rest = refl;
      rows_few = λ p e. omega arith;
      safe = λ w. absurd (omega arith);
      leak = λ w. absurd (omega arith);
      replays = λ w. absurd (omega arith);
      pairs = λ d p e. absurd (d v);
      values = λ d p e. absurd (d v);
    }

module _ (file question before after : List ℕ) (r : Rules) (users : List Found) (d : Decision) (read : reading file ≡ rules (policy_of r))
    (found : UsersFound (model_of (policy_of r)) users) (all : starts_found r users ≡ true) (asked : asks (policy_of r) question ≡ true)
    (room : rows_needed (policy_of r) ≤ length before) (D : DecidedBy r users (parts_of question) before after d) where
  abbrev a : Answer
  a = answer_by d

  abbrev q : Question
  q = parts_of question

  sound : Sound (policy_of r)
  sound = file-sound file (policy_of r) read

  asking : Asks (policy_of r) q
  asking = asks-something (policy_of r) question asked

  brought : Brought (model_of (policy_of r)) (beginning (policy_of r))
  brought = all-brought r q sound users found all

  abbrev leaking : Bool
  leaking = leaks (model_of (policy_of r)) (beginning (policy_of r)) (session_values (policy_of r)) (item_values (policy_of r)) (who_of q) (which_of q) q.permission

  -- the verdict, by where the search found a leak
  abbrev hits : Bool
  hits = ltb (leak_place r users q) 256

  told_is : told_by a ≡ record { number = 0; verdict = cond hits leak_verdict safe_verdict; pairs = a.pairs; values = a.values }
  told_is =
      ap (λ (b : Bool). told_by record { verdict = cond b Verdict.Leak Verdict.Safe; pairs = a.pairs; values = a.values; rows = a.rows }) (hit-told d.leak D.leak)
      ∙ told_chosen hits a.pairs a.values a.rows
    where
      hit-told : (o : Option ℕ) → MatchOption o ((256 ≤ leak_place r users q) × (after ≡ before)) (λ n. (leak_place r users q < 256) × LeakLeft r users q before after n) → is_some o ≡ hits
      hit-told None l = sym (le-ltb (leak_place r users q) 256 l.0)
      hit-told (Some n) l = sym (lt-ltb (leak_place r users q) 256 l.0)

  hits-leak : hits ≡ leaking
  hits-leak = place-agrees r q sound users found asking brought

  pairs-are : a.pairs ≡ pairs (model_of (policy_of r)) (session_values (policy_of r)) (model_of (policy_of r)).users
  pairs-are = D.pairs ∙ pairs-agree (model_of (policy_of r)) (beginning (policy_of r)) _ _ (below r q sound) (sessions-few (policy_of r) sound) (few-users r q sound) users found

  values-are : a.values ≡ values (model_of (policy_of r)) (beginning (policy_of r)) (session_values (policy_of r)) (item_values (policy_of r)) (which_of q)
  values-are =
      D.values
      ∙ values_agree (model_of (policy_of r)) (beginning (policy_of r)) _ _ (below r q sound) (sessions-few (policy_of r) sound) (items-few (policy_of r) sound) (few-users r q sound) users found
      (which_of q) (asked-which (policy_of r) q asking.item) (item_search r users q) (item-search r q sound users found asking.item)

  answer-is : told_by a ≡ decided (policy_of r) question
  unfolding decided
  answer-is = told_is ∙ rw (hits-leak, pairs-are, values-are) refl

  -- where there is no hit, and where there is one
  unless : {C : Type 0} → ((told_by a).verdict ≡ safe_verdict → a.rows ≡ 0 → after ≡ before → C)
      → ((told_by a).verdict ≡ leak_verdict → leak_place r users q < 256 → LeakLeft r users q before after a.rows → C) → C
  unless {C} safe leak = go d.leak refl D.leak
    where
      verdict-of : (b : Bool) → hits ≡ b → (told_by a).verdict ≡ cond b leak_verdict safe_verdict
      verdict-of b e = ap (λ (t : Told). t.verdict) told_is ∙ ap (λ (x : Bool). cond x leak_verdict safe_verdict) e

      go : (o : Option ℕ) → d.leak ≡ o → MatchOption o ((256 ≤ leak_place r users q) × (after ≡ before)) (λ n. (leak_place r users q < 256) × LeakLeft r users q before after n) → C
      go None e l = safe (verdict-of false (le-ltb (leak_place r users q) 256 l.0)) (ap (λ (o : Option ℕ). unwrap_or o 0) e) l.1
      go (Some n) e l =
          leak (verdict-of true (lt-ltb (leak_place r users q) 256 l.0)) l.0
          (subst (LeakLeft r users q before after) (sym (ap (λ (o : Option ℕ). unwrap_or o 0) e)) l.1)

  never : (told_by a).verdict ≡ safe_verdict → Never (policy_of r) (who_of q) (which_of q) q.permission
  never v =
      (no-step-is-no-leak (model_of (policy_of r)) (beginning (policy_of r)) (who_of q) (which_of q) q.permission).1 λ l.
      let t : hits ≡ true =
      hits-leak
      ∙ (verdict-is-computed (model_of (policy_of r)) (beginning (policy_of r)) _ _ (below r q sound) brought (who_of q) (which_of q) q.permission
      (asked-who (policy_of r) q asking.who) (asked-which (policy_of r) q asking.item)).1 l
      in
      let w : (told_by a).verdict ≡ leak_verdict = ap (λ (x : Told). x.verdict) told_is ∙ ap (λ (x : Bool). cond x leak_verdict safe_verdict) t in
      omega arith

  -- the rows of a leak
  module _ (v : (told_by a).verdict ≡ leak_verdict) where
    is-leak : IsLeak (model_of (policy_of r)) (beginning (policy_of r)) (who_of q) (which_of q) q.permission (take a.rows after) × (a.rows ≤ length after)
    is-leak = unless (λ w _ _. absurd (omega arith)) λ _ h L. ((left-leaks r q sound users found asking brought before after a.rows room h L).0, L.inside)

    leak-asked : AskedLeak (policy_of r) question (take a.rows after)
    leak-asked = record { who = who_of q; which = which_of q; permission = q.permission; asked = question-is-asked.asked (policy_of r) question asked; leak = is-leak.0 }

  rows_few : a.rows ≤ rows_needed (policy_of r)
  rows_few = unless (λ _ z _. omega arith) λ _ h L. (left-leaks r q sound users found asking brought before after a.rows room h L).1

  numbers-left : (told_by a).verdict ≡ leak_verdict → NumbersLeft (policy_of r) (take a.rows after)
  numbers-left v =
      let rows = take a.rows after in
      let long : length rows ≡ a.rows = length-take-le a.rows after (is-leak v).1 in
      record {
        session-numbers = omega (arith, numbers-are, long, rows_few, rows-bounded (policy_of r) sound, kind-few 1 rows, sound.sessions);
        item-numbers = omega (arith, numbers-are, long, rows_few, rows-bounded (policy_of r) sound, kind-few 4 rows, sound.items);
      }

  replays : (told_by a).verdict ≡ leak_verdict → (sessions items : List ℕ) → Enough (policy_of r) (take a.rows after) (length sessions) (length items)
      → (replayed (reading file) question (take a.rows after) sessions items).refusal ≡ none
  replays v sessions items enough = replay-is-the-run.complete file (policy_of r) read question (take a.rows after) sessions items (leak-asked v) enough (numbers-left v)

  same : {p : Policy} → reading file ≡ rules p → policy_of r ≡ p
  same e = rules-same read e

  answer-means : told (reading file) question (length before) ≡ decided (policy_of r) question → Means file question before after (told_by a) a.rows
  answer-means told-so = record {
    answer = answer-is ∙ sym told-so;
    rows_none = λ d. unless (λ _ x y. (x, y)) λ v _ _. absurd (d v);
    rows_long = unless (λ _ _ y. ap length y) λ _ _ L. L.long;
    rows-rest = unless (λ _ _ y. ap (drop a.rows) y) λ _ _ L. L.rest;
    rows_few = λ p e. subst (λ (p : Policy). a.rows ≤ rows_needed p) (same e) rows_few;
    safe = λ v p e. of-asked (Never p) p question (subst (λ (p : Policy). Never p (who_of q) (which_of q) q.permission) (same e) (never v));
    leak = λ v p e. subst (λ (p : Policy). AskedLeak p question (take a.rows after)) (same e) (leak-asked v);
    replays = λ v p e sessions items. subst (λ (p : Policy). Enough p (take a.rows after) (length sessions) (length items)
        → (replayed (reading file) question (take a.rows after) sessions items).refusal ≡ none) (same e) (replays v sessions items);
    pairs = λ d p e. subst (λ (p : Policy). Counts (λ (x : ℕ × ℕ). SessionStands (model_of p) (beginning p) x.0 x.1) (told_by a).pairs) (same e)
        (subst (Counts (λ (x : ℕ × ℕ). SessionStands (model_of (policy_of r)) (beginning (policy_of r)) x.0 x.1)) (sym (ap (λ (t : Told). t.pairs) told_is ∙ pairs-are))
        (pairs-are-counted (model_of (policy_of r)) (beginning (policy_of r)) _ _ (below r q sound) brought));
    values = λ d p e. of-asked (λ who which permission. Counts (ItemStands (model_of p) (beginning p) which) (told_by a).values) p question
        (subst (λ (p : Policy). Counts (ItemStands (model_of p) (beginning p) (which_of q)) (told_by a).values) (same e)
        (subst (Counts (ItemStands (model_of (policy_of r)) (beginning (policy_of r)) (which_of q))) (sym (ap (λ (t : Told). t.values) told_is ∙ values-are))
        (values-are-counted (model_of (policy_of r)) (beginning (policy_of r)) _ _ (below r q sound) brought (which_of q) (asked-which (policy_of r) q asking.item))));
  }

-- what is decided is told, and means what is said of runs
pub decided-means : (file question before after : List ℕ) (r : Rules) (users : List Found) (d : Decision) (a : Answer) → reading file ≡ rules (policy_of r)
    → UsersFound (model_of (policy_of r)) users → starts_found r users ≡ true → asks (policy_of r) question ≡ true
    → rows_needed (policy_of r) ≤ length before → DecidedBy r users (parts_of question) before after d → a ≡ answer_by d → Means file question before after (told_by a) a.rows
decided-means file question before after r users d a read found all asked room D e =
    subst (λ (x : Answer). Means file question before after (told_by x) x.rows) (sym e)
    (answer-means file question before after r users d read found all asked room D (decided-told file question (length before) r users read found all asked room))
