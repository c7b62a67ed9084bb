-- How large an answer's counts are. In order: pairs of user and session value; an answer that gives a number; every answer.
use mathlib.Core.Path.{◌≡◌, ap}
use mathlib.Core.List.{List}
use Prim.Native.Nat.{ℕ, zero, suc, ◌*◌, ◌≤◌}
use native.Mathlib.Nat.{suc-mul, mul-le-mul}
use native.Mathlib.Omega.{arith}
use lib.ListN.{length}
use Rattle.policy.specs.Policy.{Policy}
use Rattle.lanes.proofs.Counts.{count-below-le}
use Rattle.lists.specs.Sound.{Sound}
use Rattle.runs.specs.Model.{Model}
use Rattle.runs.specs.Grant.{Which}
use Rattle.runs.specs.State.{State}
use Rattle.verdict.specs.Closure.{in_table}
use Rattle.verdict.specs.Verdict.{reached, pairs, values, which_can}
use Rattle.allowed.specs.Allowed.{model_of}
use Rattle.allowed.proofs.ModelLaws.{model-user-count}
use Rattle.steps.proofs.Files.{file-sound}
use Rattle.starting.specs.Start.{beginning}
use Rattle.replay.specs.Question.{parts_of, which_of}
use Rattle.analyser.specs.Told.{Told, refused}
use Rattle.analyser.specs.Answer.{session_values, item_values, decided}
use Rattle.analyser.specs.Means.{Means}
use Rattle.analyser.proofs.Widths.{sessions-few, items-few, rows-bounded}
use Rattle.analyser.proofs.Numbers.{Came, unread, nine, ten, eleven, judged, came}

pairs-few : (m : Model) (n u : ℕ) → pairs m n u ≤ u * n
unfolding pairs
pairs-few m n zero = omega arith
pairs-few m n (suc u) = omega (arith, pairs-few m n u, count-below-le (in_table (reached m n u)) n, suc-mul u n)

values-few : (m : Model) (start : State) (n k : ℕ) (which : Which) → values m start n k which ≤ k
unfolding values
values-few m start n k which = count-below-le (which_can m start n k which) k

-- both counts, and how many rows there are
unfoldable pub Few : Told → ℕ → Type 0
Few t n = (t.pairs ≤ 4096) × (t.values ≤ 256) × (n ≤ 66049)

module _ (file question before after : List ℕ) (t : Told) (n : ℕ) (means : Means file question before after t n) where
  number-few : (k : ℕ) → t ≡ refused k → Few t n
  unfolding Few refused
  number-few k e =
      let p : t.pairs ≡ 0 = ap (λ (x : Told). x.pairs) e in
      let v : t.values ≡ 0 = ap (λ (x : Told). x.values) e in
      let none : t.verdict ≡ 0 = ap (λ (x : Told). x.verdict) e in
      let z : n ≡ 0 = (means.rows_none (λ l. omega arith)).0 in
      (omega arith, omega arith, omega arith)

  verdict-few : (p : Policy) → Sound p → n ≤ 66049 → t ≡ decided p question → Few t n
  unfolding Few decided
  verdict-few p sound rows e =
      let m = model_of p in
      let k = session_values p in
      let q = parts_of question in
      let v : t.values ≡ values m (beginning p) k (item_values p) (which_of q) = ap (λ (x : Told). x.values) e in
      let c : t.pairs ≡ pairs m k m.users = ap (λ (x : Told). x.pairs) e in
      let u : m.users ≤ 16 = omega (arith, model-user-count p, sound.users) in
      let most : m.users * k ≤ 16 * 256 = mul-le-mul u (sessions-few p sound) in
      (omega (arith, pairs-few m k m.users), omega (arith, values-few m (beginning p) k (item_values p) (which_of q), items-few p sound), rows)

  pub means-few : Few t n
  means-few = by-case (came file question (length before) t means.answer)
    where
      by-case : Came file question (length before) t → Few t n
      by-case (unread k r e) = number-few k e
      by-case (nine p r b e) = number-few 9 e
      by-case (ten p r b a e) = number-few 10 e
      by-case (eleven p r b a l e) = number-few 11 e
      by-case (judged p r b a l e) =
          let sound = file-sound file p r in
          verdict-few p sound (let f = means.rows_few p r in omega (arith, f, rows-bounded p sound)) e
