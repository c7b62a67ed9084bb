-- The claims of specs/Claims. In order: the computed verdict and runs; demand 3; the numbers; what is accepted; list numbers.
use mathlib.Core.Path.{◌≡◌, refl, sym, ap, ◌∙◌, subst}
use mathlib.Core.Bool.{Bool, true, false, cond}
use mathlib.Core.Logic.{◌⊎◌, ◌↔◌}
use mathlib.Core.List.{List}
use Prim.Native.Nat.{ℕ}
use native.Mathlib.Omega.{arith}
use lib.ListN.{length, take}
use Rattle.policy.specs.Policy.{Policy}
use Rattle.rules.specs.Answers.{reading}
use Rattle.rules.proofs.Theorems.{bytes-again, rules-again}
use Rattle.lists.specs.Sound.{Sound}
use Rattle.runs.specs.Model.{Model}
use Rattle.runs.specs.Grant.{Leak}
use Rattle.runs.proofs.Theorems.{no-step-is-no-leak}
use Rattle.verdict.specs.Verdict.{leaks}
use Rattle.verdict.proofs.Theorems.{verdict-is-computed}
use Rattle.allowed.specs.Allowed.{model_of}
use Rattle.allowed.proofs.Theorems.{list-numbers-do-not-matter}
use Rattle.cells.specs.Leak.{IsLeak}
use Rattle.steps.specs.Step.{step_in}
use Rattle.steps.proofs.Files.{file-sound}
use Rattle.steps.proofs.Theorems.{step-is-the-table, files-are-bytes}
use Rattle.starting.specs.Start.{beginning}
use Rattle.starting.proofs.StartLaws.{started-unlisted}
use Rattle.starting.proofs.Theorems.{start-is-exact}
use Rattle.replay.specs.Question.{parts_of, who_of, which_of, asks}
use Rattle.replay.proofs.Asked.{of-asked, of_parts}
use Rattle.analyser.specs.Told.{no_verdict, safe_verdict, leak_verdict, Told, refused}
use Rattle.analyser.specs.Answer.{session_values, item_values, starts_brought, decided, told}
use Rattle.analyser.specs.Never.{Never, AsksSomething}
use Rattle.analyser.specs.Claims.{Demand3, SafeIsNever, FileNumbersComeFirst, NineIsExact, TenIsExact, ElevenIsExact, AcceptedIsJudged, VerdictsMeanWhatTheyDid}
use Rattle.analyser.proofs.Widths.{beginning-below}
use Rattle.analyser.proofs.Asked.{asks-something, asked-who, asked-which}
use Rattle.analyser.proofs.Decides.{refused_none, rules-same}
use Rattle.analyser.proofs.Unlisted.{replayed-unlisted, told-unlisted, never-unlisted, needed-unlisted}
use Rattle.analyser.proofs.Starts.{brought-of, starts-could}
use Rattle.analyser.proofs.Numbers.{Came, unread, nine, ten, eleven, judged, came, asks-is, decided-two, is-of-file, is-either, is-empty, is-nine, is-ten, is-eleven, is-decided, is-judged}

safe-not : (b : Bool) → cond b leak_verdict safe_verdict ≡ safe_verdict → b ≡ true → ⊥
safe-not false e t = let z : ◌≡◌ {A = ℕ} 0 1 = cc in omega arith
safe-not true e t = omega arith

not-safe : (b : Bool) → (b ≡ true → ⊥) → cond b leak_verdict safe_verdict ≡ safe_verdict
not-safe false n = refl
not-safe true n = absurd (n refl)

-- the computed verdict and runs
module _ (p : Policy) (question : List ℕ) (sound : Sound p) (all : starts_brought p ≡ true) (asked : asks p question ≡ true) where
  abbrev leaking : Bool
  leaking =
      leaks (model_of p) (beginning p) (session_values p) (item_values p) (who_of (parts_of question)) (which_of (parts_of question)) (parts_of question).permission

  decided-verdict : (decided p question).verdict ≡ cond leaking leak_verdict safe_verdict
  unfolding decided
  decided-verdict = refl

  leaking-is : (leaking ≡ true) ↔ Leak (model_of p) (beginning p) (who_of (parts_of question)) (which_of (parts_of question)) (parts_of question).permission
  leaking-is =
      let asking = asks-something p question asked in
      verdict-is-computed (model_of p) (beginning p) (session_values p) (item_values p) (beginning-below p sound) (brought-of p sound all) (who_of (parts_of question)) (which_of (parts_of question))
      (parts_of question).permission (asked-who p (parts_of question) asking.who) (asked-which p (parts_of question) asking.item)

  no_step : Never p (who_of (parts_of question)) (which_of (parts_of question)) (parts_of question).permission
      ↔ (Leak (model_of p) (beginning p) (who_of (parts_of question)) (which_of (parts_of question)) (parts_of question).permission → ⊥)
  no_step = no-step-is-no-leak (model_of p) (beginning p) (who_of (parts_of question)) (which_of (parts_of question)) (parts_of question).permission

  safe-is : ((decided p question).verdict ≡ safe_verdict) ↔ Never p (who_of (parts_of question)) (which_of (parts_of question)) (parts_of question).permission
  safe-is = (
    λ v. no_step.1 (λ l. safe-not leaking (sym decided-verdict ∙ v) (leaking-is.1 l)),
    λ n. decided-verdict ∙ not-safe leaking (λ t. no_step.0 n (leaking-is.0 t)),
  )

pub safe-is-never : SafeIsNever
safe-is-never file question room p r v =
    of-asked (Never p) p question (go (came file question room (told (reading file) question room) refl))
  where
    none : (n : ℕ) → told (reading file) question room ≡ refused n → (told (reading file) question room).verdict ≡ no_verdict
    none n x = ap (λ (t : Told). t.verdict) x ∙ refused_none n

    go : Came file question room (told (reading file) question room) → Never p (who_of (parts_of question)) (which_of (parts_of question)) (parts_of question).permission
    go (unread n x e) = absurd (omega (arith, none n e))
    go (nine p x b e) = absurd (omega (arith, none 9 e))
    go (ten p x b a e) = absurd (omega (arith, none 10 e))
    go (eleven p x b a l e) = absurd (omega (arith, none 11 e))
    go (judged other x b a l e) =
        subst (λ (p : Policy). Never p (who_of (parts_of question)) (which_of (parts_of question)) (parts_of question).permission) (rules-same x r)
        ((safe-is other question (file-sound file other x) b a).0 (sym (ap (λ (t : Told). t.verdict) e) ∙ v))

-- demand 3
pub demand3 : Demand3
demand3 file question before after t n M p r could who which permission A enough =
    let a = (asks-is p question).1 (who, which, permission, A) in
    let b = (starts-could p (file-sound file p r)).1 could in
    let s : AsksSomething p question = (who, which, permission, A) in
    let e = is-decided file question (length before) t M.answer p r could s enough in
    let v : (decided p question).verdict ≡ t.verdict = sym (ap (λ (x : Told). x.verdict) e) in
    let safe = safe-is p question (file-sound file p r) b a in
    record {
      alone = λ other left u k N l. is-decided file question (length other) u N.answer p r could s l ∙ sym e;
      two = subst (λ (x : ℕ). (x ≡ safe_verdict) ⊎ (x ≡ leak_verdict)) v (decided-two p question);
      safe = (
        λ w. of-asked (Never p) p question (safe.0 (v ∙ w)) who which permission A,
        λ never. sym v ∙ safe.1 (of_parts (Never p) p question who which permission A never),
      );
      leak = λ w. (
        let l = M.leak w p r in
            of-asked (λ who which permission. IsLeak (model_of p) (beginning p) who which permission (take n after)) p question
            (of_parts (λ who which permission. IsLeak (model_of p) (beginning p) who which permission (take n after)) p question l.who l.which l.permission l.asked l.leak)
            who which permission A,
        M.replays w p r,
      );
    }

-- the numbers

pub file-numbers-come-first : FileNumbersComeFirst
file-numbers-come-first file question before after t n M =
    record {
      file-number = is-of-file file question (length before) t M.answer;
      either = is-either file question (length before) t M.answer;
      empty = λ z.
          let c = is-empty file question (length before) t M.answer z in
          let r = M.rows_none (λ l. omega arith) in
          (c.0, c.1, r.0, r.1);
    }

pub nine-is-exact : NineIsExact
nine-is-exact file question before after t n M = is-nine file question (length before) t M.answer

pub ten-is-exact : TenIsExact
ten-is-exact file question before after t n M = is-ten file question (length before) t M.answer

pub eleven-is-exact : ElevenIsExact
eleven-is-exact file question before after t n M = is-eleven file question (length before) t M.answer

-- what is accepted

pub accepted-is-judged : AcceptedIsJudged
accepted-is-judged = record {
  verdict = λ file question before after t n M whole.
      let j = is-judged file question (length before) t M.answer in (
        λ d. let (p, r, c, s, l) = j.0 d in (p, bytes-again file p whole r, c, s, l),
        λ (p, w, c, s, l). j.1 (p, rules-again p file w, c, s, l),
      );
  start = start-is-exact;
  step = λ file p r s t c row.
      let x = (step-is-the-table (model_of p) (files-are-bytes file p r) s t c row).carried in
      (λ e. let (z, room, d) = x.0 e in (z, d, room), λ (z, d, room). x.1 (z, room, d));
}

-- list numbers

pub verdicts-mean-what-they-did : VerdictsMeanWhatTheyDid
verdicts-mean-what-they-did p =
    record {
      starts = started-unlisted p;
      steps = λ s row. ap (λ (m : Model). step_in m s row) (list-numbers-do-not-matter p);
      replays = replayed-unlisted p;
      answers = told-unlisted p;
      never = never-unlisted p;
      needed = needed-unlisted p;
    }
