-- List numbers do not matter to what is told of rules. In order: how many values and rows there are; replays; what can never be granted; answers.
use mathlib.Core.Path.{◌≡◌, sym, ap, ap₂, subst}
use mathlib.Core.Bool.{not, cond}
use mathlib.Core.Logic.{◌↔◌}
use mathlib.Core.List.{List}
use Prim.Native.Nat.{ℕ, ◌+◌, ◌*◌, ◌^◌}
use lib.Dec.{ltb}
use Rattle.policy.specs.Policy.{Policy}
use Rattle.policy.proofs.Laws.{width-unlisted}
use Rattle.rules.specs.Answers.{rules}
use Rattle.runs.specs.Model.{Model}
use Rattle.runs.specs.State.{State}
use Rattle.runs.specs.Step.{Step}
use Rattle.runs.specs.Grant.{Who, Which, NoStepFits}
use Rattle.verdict.specs.Verdict.{all_brought, pairs, leaks, values}
use Rattle.allowed.specs.Allowed.{model_of}
use Rattle.allowed.specs.Claims.{unlisted_policy}
use Rattle.allowed.proofs.Theorems.{list-numbers-do-not-matter}
use Rattle.live.specs.Lent.{After, lent_as, refused as refused_after}
use Rattle.starting.specs.Start.{nothing_given, beginning}
use Rattle.starting.proofs.StartLaws.{started-unlisted}
use Rattle.starting.proofs.Beginning.{beginning-unlisted}
use Rattle.replay.specs.Question.{parts_of, who_of, which_of, parts_ask, asks}
use Rattle.replay.specs.Replay.{played, replayed}
use Rattle.analyser.specs.Told.{safe_verdict, leak_verdict, refused}
use Rattle.analyser.specs.Answer.{session_values, item_values, rows_needed, starts_brought, decided, told}
use Rattle.analyser.specs.Never.{Never}

module _ (p : Policy) where
  model : model_of (unlisted_policy p) ≡ model_of p
  model = list-numbers-do-not-matter p

  session-values : session_values (unlisted_policy p) ≡ session_values p
  unfolding session_values
  session-values = ap (λ (w : ℕ). 2 ^ w) (width-unlisted p.lists.of_session)

  item-values : item_values (unlisted_policy p) ≡ item_values p
  unfolding item_values
  item-values = ap (λ (w : ℕ). 2 ^ w) (width-unlisted p.lists.of_item)

  pub needed-unlisted : rows_needed (unlisted_policy p) ≡ rows_needed p
  unfolding rows_needed
  needed-unlisted = ap₂ (λ (n k : ℕ). n + k * (n + 1) + 1) session-values item-values

  pub replayed-unlisted : (question rows sessions items : List ℕ)
      → replayed (rules (unlisted_policy p)) question rows sessions items ≡ replayed (rules p) question rows sessions items
  unfolding replayed asks parts_ask
  replayed-unlisted question rows sessions items =
      let none = refused_after 10 (lent_as sessions items nothing_given) in
      ap₂ (λ (m : Model) (s : After). cond (asks p question) (played m (parts_of question) rows s.refusal s.lent) none) model
      (started-unlisted p sessions items)

  pub never-unlisted : (who : Who) (which : Which) (permission : ℕ) → Never (unlisted_policy p) who which permission ↔ Never p who which permission
  never-unlisted who which permission =
      let at : Model → State → List Step → Type 0 = λ m s steps. NoStepFits m s who which permission steps in (
        λ n steps.
            subst (λ (m : Model). at m (beginning p) steps) model
            (subst (λ (s : State). at (model_of (unlisted_policy p)) s steps) (beginning-unlisted p) (n steps)),
        λ n steps.
            subst (λ (s : State). at (model_of (unlisted_policy p)) s steps) (sym (beginning-unlisted p))
            (subst (λ (m : Model). at m (beginning p) steps) (sym model) (n steps)),
      )

  brought-unlisted : starts_brought (unlisted_policy p) ≡ starts_brought p
  unfolding starts_brought
  brought-unlisted = λ i. all_brought (model i) (session-values i) (beginning-unlisted p i).sessions

  decided-unlisted : (question : List ℕ) → decided (unlisted_policy p) question ≡ decided p question
  unfolding decided
  decided-unlisted question =
      let q = parts_of question in
      λ i.
      let m = model i in
      let s = beginning-unlisted p i in
      let n = session-values i in
      let k = item-values i in
      record {
        number = 0;
        verdict = cond (leaks m s n k (who_of q) (which_of q) q.permission) leak_verdict safe_verdict;
        pairs = pairs m n m.users;
        values = values m s n k (which_of q);
      }

  pub told-unlisted : (question : List ℕ) (room : ℕ) → told (rules (unlisted_policy p)) question room ≡ told (rules p) question room
  unfolding told asks parts_ask
  told-unlisted question room =
      λ i.
      cond (not (brought-unlisted i)) (refused 9)
      (cond (not (asks p question)) (refused 10) (cond (ltb room (needed-unlisted i)) (refused 11) (decided-unlisted question i)))
