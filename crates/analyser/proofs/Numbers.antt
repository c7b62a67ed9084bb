-- The numbers and verdicts of an answer, by relations. In order: how far an answer came; what each test comes to; 9, 10 and 11; a verdict.
use mathlib.Core.Path.{◌≡◌, refl, sym, ap, ◌∙◌}
use mathlib.Core.Bool.{Bool, true, false, cond}
use mathlib.Core.Logic.{◌⊎◌, inl, inr, ◌↔◌}
use mathlib.Core.List.{List}
use Prim.Native.Nat.{ℕ, ◌≤◌, ◌<◌}
use native.Mathlib.Decide.{dec_lt}
use native.Mathlib.Omega.{arith}
use Rattle.policy.specs.Policy.{Policy}
use Rattle.rules.specs.Answers.{Answer as Read, refusal, rules, reading}
use Rattle.rules.specs.Claims.{FileNumber}
use Rattle.rules.proofs.Theorems.{reading-numbers}
use Rattle.verdict.specs.Verdict.{leaks}
use Rattle.allowed.specs.Allowed.{model_of}
use Rattle.steps.proofs.Files.{file-sound}
use Rattle.starting.specs.Start.{beginning}
use Rattle.replay.specs.Question.{parts_of, who_of, which_of, asks}
use Rattle.replay.proofs.Theorems.{question-is-asked}
use Rattle.analyser.specs.Told.{no_verdict, safe_verdict, leak_verdict, Told, refused}
use Rattle.analyser.specs.Answer.{rows_needed, session_values, item_values, starts_brought, decided, told}
use Rattle.analyser.specs.Never.{StartCould, StartCouldNot, AsksSomething, RowsEnough, RowsTooFew}
use Rattle.analyser.proofs.Decides.{refused_none, told-nine, told-ten, told-eleven, told-decided, refused-file-is-told}
use Rattle.analyser.proofs.Starts.{starts-could, one-could-not, not-all}

-- how far an answer came
pub data Came (file question : List ℕ) (room : ℕ) (t : Told) : Type 0 where
  unread : (n : ℕ) → reading file ≡ refusal n → t ≡ refused n → Came file question room t
  nine : (p : Policy) → reading file ≡ rules p → starts_brought p ≡ false → t ≡ refused 9 → Came file question room t
  ten : (p : Policy) → reading file ≡ rules p → starts_brought p ≡ true → asks p question ≡ false → t ≡ refused 10 → Came file question room t
  eleven : (p : Policy) → reading file ≡ rules p → starts_brought p ≡ true → asks p question ≡ true → room < rows_needed p → t ≡ refused 11 → Came file question room t
  judged : (p : Policy) → reading file ≡ rules p → starts_brought p ≡ true → asks p question ≡ true → rows_needed p ≤ room → t ≡ decided p question
      → Came file question room t

pub came : (file question : List ℕ) (room : ℕ) (t : Told) → t ≡ told (reading file) question room → Came file question room t
came file question room t e = read (reading file) refl
  where
    last : (p : Policy) → reading file ≡ rules p → starts_brought p ≡ true → asks p question ≡ true → Dec (room < rows_needed p) → Came file question room t
    last p r b a (yes l) = eleven p r b a l (e ∙ ap (λ (x : Read). told x question room) r ∙ told-eleven p question room b a l)
    last p r b a (no l) =
        let h : rows_needed p ≤ room = omega arith in
        judged p r b a h (e ∙ ap (λ (x : Read). told x question room) r ∙ told-decided p question room b a h)

    second : (p : Policy) → reading file ≡ rules p → starts_brought p ≡ true → (a : Bool) → asks p question ≡ a → Came file question room t
    second p r b false a = ten p r b a (e ∙ ap (λ (x : Read). told x question room) r ∙ told-ten p question room b a)
    second p r b true a = last p r b a (dec_lt room (rows_needed p))

    first : (p : Policy) → reading file ≡ rules p → (b : Bool) → starts_brought p ≡ b → Came file question room t
    first p r false b = nine p r b (e ∙ ap (λ (x : Read). told x question room) r ∙ told-nine p question room b)
    first p r true b = second p r b (asks p question) refl

    read : (a : Read) → reading file ≡ a → Came file question room t
    read (refusal n) r = unread n r (e ∙ refused-file-is-told file question room n r)
    read (rules p) r = first p r (starts_brought p) refl

-- what each test comes to

refused-number : (n : ℕ) → (refused n).number ≡ n
unfolding refused
refused-number n = refl

refused-counts : (n : ℕ) → ((refused n).pairs ≡ 0) × ((refused n).values ≡ 0)
unfolding refused
refused-counts n = (refl, refl)

pub decided-number : (p : Policy) (question : List ℕ) → (decided p question).number ≡ 0
unfolding decided
decided-number p question = refl

verdict-some : (b : Bool) → (cond b leak_verdict safe_verdict ≡ safe_verdict) ⊎ (cond b leak_verdict safe_verdict ≡ leak_verdict)
verdict-some true = inr refl
verdict-some false = inl refl

pub decided-two : (p : Policy) (question : List ℕ) → ((decided p question).verdict ≡ safe_verdict) ⊎ ((decided p question).verdict ≡ leak_verdict)
unfolding decided
decided-two p question =
    let q = parts_of question in
    verdict-some (leaks (model_of p) (beginning p) (session_values p) (item_values p) (who_of q) (which_of q) q.permission)

pub asks-is : (p : Policy) (question : List ℕ) → (asks p question ≡ true) ↔ AsksSomething p question
asks-is p question = (
  λ a. (_, _, _, question-is-asked.asked p question a),
  λ (who, which, permission, a). (question-is-asked.only p question who which permission a).0,
)

true-false : {C : Type 0} {b : Bool} → b ≡ true → b ≡ false → C
true-false t f = absurd (let z : ◌≡◌ {A = ℕ} 0 1 = cc in omega arith)

asks-not : (p : Policy) (question : List ℕ) → (asks p question ≡ false) ↔ (AsksSomething p question → ⊥)
asks-not p question = (λ f s. true-false ((asks-is p question).1 s) f, λ n. go (asks p question) refl n)
  where
    go : (b : Bool) → asks p question ≡ b → (AsksSomething p question → ⊥) → asks p question ≡ false
    go false e n = e
    go true e n = absurd (n ((asks-is p question).0 e))

pub enough-is : (p : Policy) (room : ℕ) → RowsEnough p room ↔ (rows_needed p ≤ room)
unfolding rows_needed session_values item_values
enough-is p room = (λ h. h, λ h. h)

few-is : (p : Policy) (room : ℕ) → RowsTooFew p room ↔ (room < rows_needed p)
unfolding rows_needed session_values item_values
few-is p room = (λ h. h, λ h. h)

-- the numbers

-- a number of a file that is not above the analyser's own
early : (n : ℕ) → FileNumber n → n ≤ 17 → (1 ≤ n) × (n ≤ 8)
early n (inl g) h = g
early n (inr g) h = absurd (omega arith)

module _ (file question : List ℕ) (room : ℕ) (t : Told) (e : t ≡ told (reading file) question room) where
  number_is : {n : ℕ} → t ≡ refused n → t.number ≡ n
  number_is {n} x = ap (λ (y : Told). y.number) x ∙ refused-number n

  judged-number : (p : Policy) → t ≡ decided p question → t.number ≡ 0
  judged-number p x = ap (λ (y : Told). y.number) x ∙ decided-number p question

  module _ (p : Policy) (r : reading file ≡ rules p) where
    told-as : {u : Told} → told (rules p) question room ≡ u → t ≡ u
    told-as x = e ∙ ap (λ (a : Read). told a question room) r ∙ x

    could-true : StartCould p → starts_brought p ≡ true
    could-true = (starts-could p (file-sound file p r)).1

    true-could : starts_brought p ≡ true → StartCould p
    true-could = (starts-could p (file-sound file p r)).0

    not-false : StartCouldNot p → starts_brought p ≡ false
    not-false n = go (starts_brought p) refl
      where
        go : (b : Bool) → starts_brought p ≡ b → starts_brought p ≡ false
        go false x = x
        go true x = absurd (not-all p (file-sound file p r) n x)

  counts-are : (n : ℕ) → t ≡ refused n → (t.pairs ≡ 0) × (t.values ≡ 0)
  counts-are n x = (ap (λ (y : Told). y.pairs) x ∙ (refused-counts n).0, ap (λ (y : Told). y.values) x ∙ (refused-counts n).1)

  verdict-is : (n : ℕ) → t ≡ refused n → t.verdict ≡ no_verdict
  verdict-is n x = ap (λ (y : Told). y.verdict) x ∙ refused_none n

  judged-verdict : (p : Policy) → t ≡ decided p question → t.verdict ≡ no_verdict → ⊥
  judged-verdict p x z = neither (decided p question).verdict (decided-two p question) (sym (ap (λ (y : Told). y.verdict) x) ∙ z)
    where
      neither : (v : ℕ) → (v ≡ safe_verdict) ⊎ (v ≡ leak_verdict) → v ≡ no_verdict → ⊥
      neither v (inl x) z = omega arith
      neither v (inr x) z = omega arith

  pub is-of-file : (k : ℕ) → FileNumber k → (t.number ≡ k) ↔ (reading file ≡ refusal k)
  is-of-file k g = (forth (came file question room t e), λ r. number_is (e ∙ refused-file-is-told file question room k r))
    where
      forth : Came file question room t → t.number ≡ k → reading file ≡ refusal k
      forth (unread n r x) y = r ∙ ap refusal (sym (number_is x) ∙ y)
      forth (nine p r b x) y = absurd (omega (arith, number_is x, (early k g (omega (arith, number_is x))).1))
      forth (ten p r b a x) y = absurd (omega (arith, number_is x, (early k g (omega (arith, number_is x))).1))
      forth (eleven p r b a l x) y = absurd (omega (arith, number_is x, (early k g (omega (arith, number_is x))).1))
      forth (judged p r b a l x) y = absurd (omega (arith, judged-number p x, (early k g (omega (arith, judged-number p x))).0))

  pub is-either : (t.number ≡ 0) ↔ (t.verdict ≡ no_verdict → ⊥)
  is-either = (forth (came file question room t e), back (came file question room t e))
    where
      forth : Came file question room t → t.number ≡ 0 → t.verdict ≡ no_verdict → ⊥
      forth (unread n r x) y = λ z. omega (arith, number_is x, (early n (reading-numbers file n r) (omega (arith, number_is x))).0)
      forth (nine p r b x) y = λ z. omega (arith, number_is x)
      forth (ten p r b a x) y = λ z. omega (arith, number_is x)
      forth (eleven p r b a l x) y = λ z. omega (arith, number_is x)
      forth (judged p r b a l x) y = judged-verdict p x

      back : Came file question room t → (t.verdict ≡ no_verdict → ⊥) → t.number ≡ 0
      back (unread n r x) y = absurd (y (verdict-is n x))
      back (nine p r b x) y = absurd (y (verdict-is 9 x))
      back (ten p r b a x) y = absurd (y (verdict-is 10 x))
      back (eleven p r b a l x) y = absurd (y (verdict-is 11 x))
      back (judged p r b a l x) y = judged-number p x

  pub is-empty : t.verdict ≡ no_verdict → (t.pairs ≡ 0) × (t.values ≡ 0)
  is-empty = go (came file question room t e)
    where
      go : Came file question room t → t.verdict ≡ no_verdict → (t.pairs ≡ 0) × (t.values ≡ 0)
      go (unread n r x) z = counts-are n x
      go (nine p r b x) z = counts-are 9 x
      go (ten p r b a x) z = counts-are 10 x
      go (eleven p r b a l x) z = counts-are 11 x
      go (judged p r b a l x) z = absurd (judged-verdict p x z)

  pub is-nine : (t.number ≡ 9) ↔ ((p : Policy) × (reading file ≡ rules p) × StartCouldNot p)
  is-nine = (forth (came file question room t e), λ (p, r, n). number_is (told-as p r (told-nine p question room (not-false p r n))))
    where
      forth : Came file question room t → t.number ≡ 9 → (p : Policy) × (reading file ≡ rules p) × StartCouldNot p
      forth (unread n r x) y = absurd (omega (arith, number_is x, (early n (reading-numbers file n r) (omega (arith, number_is x))).1))
      forth (nine p r b x) y = (p, r, one-could-not p (file-sound file p r) b)
      forth (ten p r b a x) y = absurd (omega (arith, number_is x))
      forth (eleven p r b a l x) y = absurd (omega (arith, number_is x))
      forth (judged p r b a l x) y = absurd (omega (arith, judged-number p x))

  pub is-ten : (t.number ≡ 10) ↔ ((p : Policy) × (reading file ≡ rules p) × StartCould p × (AsksSomething p question → ⊥))
  is-ten = (
    forth (came file question room t e),
    λ (p, r, c, n). number_is (told-as p r (told-ten p question room (could-true p r c) ((asks-not p question).1 n))),
  )
    where
      forth : Came file question room t → t.number ≡ 10 → (p : Policy) × (reading file ≡ rules p) × StartCould p × (AsksSomething p question → ⊥)
      forth (unread n r x) y = absurd (omega (arith, number_is x, (early n (reading-numbers file n r) (omega (arith, number_is x))).1))
      forth (nine p r b x) y = absurd (omega (arith, number_is x))
      forth (ten p r b a x) y = (p, r, true-could p r b, (asks-not p question).0 a)
      forth (eleven p r b a l x) y = absurd (omega (arith, number_is x))
      forth (judged p r b a l x) y = absurd (omega (arith, judged-number p x))

  pub is-eleven : (t.number ≡ 11) ↔ ((p : Policy) × (reading file ≡ rules p) × StartCould p × AsksSomething p question × RowsTooFew p room)
  is-eleven = (
    forth (came file question room t e),
    λ (p, r, c, s, l). number_is (told-as p r (told-eleven p question room (could-true p r c) ((asks-is p question).1 s) ((few-is p room).0 l))),
  )
    where
      forth : Came file question room t → t.number ≡ 11 → (p : Policy) × (reading file ≡ rules p) × StartCould p × AsksSomething p question × RowsTooFew p room
      forth (unread n r x) y = absurd (omega (arith, number_is x, (early n (reading-numbers file n r) (omega (arith, number_is x))).1))
      forth (nine p r b x) y = absurd (omega (arith, number_is x))
      forth (ten p r b a x) y = absurd (omega (arith, number_is x))
      forth (eleven p r b a l x) y = (p, r, true-could p r b, (asks-is p question).0 a, (few-is p room).1 l)
      forth (judged p r b a l x) y = absurd (omega (arith, judged-number p x))

  -- a verdict

  pub is-decided : (p : Policy) → reading file ≡ rules p → StartCould p → AsksSomething p question → RowsEnough p room → t ≡ decided p question
  is-decided p r c s l = told-as p r (told-decided p question room (could-true p r c) ((asks-is p question).1 s) ((enough-is p room).0 l))

  pub is-judged : (t.verdict ≡ no_verdict → ⊥) ↔ ((p : Policy) × (reading file ≡ rules p) × StartCould p × AsksSomething p question × RowsEnough p room)
  is-judged = (forth (came file question room t e), λ (p, r, c, s, l). judged-verdict p (is-decided p r c s l))
    where
      forth : Came file question room t → (t.verdict ≡ no_verdict → ⊥) → (p : Policy) × (reading file ≡ rules p) × StartCould p × AsksSomething p question × RowsEnough p room
      forth (unread n r x) y = absurd (y (verdict-is n x))
      forth (nine p r b x) y = absurd (y (verdict-is 9 x))
      forth (ten p r b a x) y = absurd (y (verdict-is 10 x))
      forth (eleven p r b a l x) y = absurd (y (verdict-is 11 x))
      forth (judged p r b a l x) y = (p, r, true-could p r b, (asks-is p question).0 a, (enough-is p room).1 l)
