-- Live states of hosts. In order: after starting, after many rows.
use mathlib.Core.Path.{◌≡◌, refl, sym, ap, ◌∙◌}
use mathlib.Core.Bool.{Bool, true, false}
use mathlib.Core.List.{List, [], ◌∷◌}
use mathlib.Core.Option.{Option, none, some}
use Prim.Native.Nat.{ℕ}
use Rattle.std.specs.Prelude.{Result, Ok, Err}
use Rattle.std.specs.Result.{result_unwrap_or}
use Rattle.refusal.specs.declared.Refusal.{Refusal}
use Rattle.refusal.specs.Number.{number_of}
use Rattle.policy.specs.Policy.{Policy}
use Rattle.rules.specs.Answers.{Answer, refusal, rules}
use Rattle.allowed.specs.Allowed.{model_of}
use Rattle.live.specs.Lent.{Lent, After, lent_as, leaves, refused as refused_in, done, tested}
use Rattle.live.proofs.Outcomes.{some-not-none}
use Rattle.starting.specs.Start.{started, nothing_given}
use Rattle.steps.specs.Step.{step_in}
use Rattle.live.specs.declared.Next.{Next}
use Rattle.replay.specs.Rows.{Ran, further, rows_in}
use Rattle.host_steps.specs.Steps.{or_kept, host_started, host_stepped, host_rows}

-- starting

-- a test that gives a number keeps the state
tested-kept : (l : List (Bool × ℕ)) (s t : Lent) (n : ℕ) → (tested l s (done t)).refusal ≡ some n → (tested l s (done t)).lent ≡ s
unfolding tested done refused_in
tested-kept [] s t n e = some-not-none (sym e)
tested-kept ((true, m) ∷ l) s t n e = tested-kept l s t n e
tested-kept ((false, m) ∷ l) s t n e = refl

-- starting that gives a number keeps the cells
start-kept : (a : Answer) (sessions items : List ℕ) (n : ℕ) → (started a sessions items).refusal ≡ some n
    → ((started a sessions items).lent.sessions ≡ sessions) × ((started a sessions items).lent.items ≡ items)
unfolding started refused_in
start-kept (refusal m) sessions items n e = (refl, refl)
start-kept (rules p) sessions items n e = let k = tested-kept _ _ _ n e in (ap (λ (x : Lent). x.sessions) k, ap (λ (x : Lent). x.items) k)

-- where it gives a number the next numbers stay
pub start_told : (r : Result Next Refusal) (a : Answer) (sessions items s i : List ℕ) (next : Next)
    → leaves r (result_unwrap_or r nothing_given) s i ≡ started a sessions items
    → leaves r (result_unwrap_or r next) s i ≡ host_started a (lent_as sessions items next)
unfolding host_started or_kept
start_told (Ok n) a sessions items s i next e = rw (← e) refl
start_told (Err n) a sessions items s i next e =
    let (k, l) = start-kept a sessions items (number_of n) (sym (ap (λ (y : After). y.refusal) e)) in
    let p : s ≡ sessions = ap (λ (y : After). y.lent.sessions) e ∙ k in
    let q : i ≡ items = ap (λ (y : After). y.lent.items) e ∙ l in
    rw (← e) (rw (p, q) refl)

-- many rows

further_same : (o : Option ℕ) (s : Lent) (done : ℕ) (f g : ℕ → Ran) → ((k : ℕ) → f k ≡ g k) → further o s done f ≡ further o s done g
unfolding further
further_same none s done f g e = e _
further_same (some n) s done f g e = refl

-- rows of a file that was read are the rows of its model
pub rows_same : (p : Policy) (s : Lent) (k : ℕ) (rows : List ℕ) → host_rows (rules p) s k rows ≡ rows_in (model_of p) s k rows
unfolding host_rows host_stepped rows_in
rows_same p s k [] = refl
rows_same p s k (row ∷ rows) =
    let a = step_in (model_of p) s row in
    further_same a.refusal a.lent k (λ j. host_rows (rules p) a.lent j rows) (λ j. rows_in (model_of p) a.lent j rows) (λ j. rows_same p a.lent j rows)
