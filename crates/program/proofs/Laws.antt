-- Laws of what the program answers. In order: inputs by their length; counts; files that are read alike.
-- Assumes nothing.
use mathlib.Core.Path.{◌≡◌, sym, ap, ◌∙◌, subst}
use mathlib.Core.Logic.{◌↔◌}
use mathlib.Core.List.{List, [], ◌∷◌}
use mathlib.Core.Option.{none}
use Prim.Native.Nat.{ℕ, zero, suc, ◌+◌, ◌≤◌, ◌<◌}
use native.Mathlib.Omega.{arith}
use lib.ListN.{length, take, drop}
use Rattle.rules.specs.Answers.{Answer, reading}
use Rattle.replay.specs.Replay.{replayed}
use Rattle.analyser.specs.Told.{Told, refused}
use Rattle.analyser.specs.Answer.{told}
use Rattle.analyser.specs.Means.{Means}
use Rattle.analyser.proofs.Few.{Few, means-few}
use Rattle.program.specs.Program.{TooShort, ProgramMeans}

module _ (before after : List ℕ) (t : Told) (n : ℕ) where
  pub short-means : (input : List ℕ) → length input < 3 → TooShort before after t n → ProgramMeans input before after t n
  unfolding ProgramMeans
  short-means [] h x = x
  short-means (a ∷ []) h x = x
  short-means (a ∷ b ∷ []) h x = x
  short-means (a ∷ b ∷ c ∷ file) h x = absurd (omega arith)

  pub long-means : (input : List ℕ) → 3 ≤ length input → Means (drop 3 input) (take 3 input) before after t n → ProgramMeans input before after t n
  unfolding ProgramMeans
  long-means [] h x = absurd (omega arith)
  long-means (a ∷ []) h x = absurd (omega arith)
  long-means (a ∷ b ∷ []) h x = absurd (omega arith)
  long-means (a ∷ b ∷ c ∷ file) h x = x

too-short-few : (before after : List ℕ) (t : Told) (n : ℕ) → TooShort before after t n → Few t n
unfolding TooShort Few refused
too-short-few before after t n h =
    let p : t.pairs ≡ 0 = ap (λ (x : Told). x.pairs) h.0 in
    let v : t.values ≡ 0 = ap (λ (x : Told). x.values) h.0 in
    let z : n ≡ 0 = h.1 in
    (omega arith, omega arith, omega arith)

-- how large the counts of an answer are
pub program-few : (input before after : List ℕ) (t : Told) (n : ℕ) → ProgramMeans input before after t n → Few t n
unfolding ProgramMeans
program-few [] before after t n h = too-short-few before after t n h
program-few (a ∷ []) before after t n h = too-short-few before after t n h
program-few (a ∷ b ∷ []) before after t n h = too-short-few before after t n h
program-few (a ∷ b ∷ c ∷ file) before after t n h = means-few file (a ∷ b ∷ c ∷ []) before after t n h

-- an answer speaks of a file only by what is read of it
means-read : (file other question before after : List ℕ) (t : Told) (n : ℕ) → reading file ≡ reading other → Means file question before after t n
    → Means other question before after t n
means-read file other question before after t n e m = record {
  answer = m.answer ∙ ap (λ (x : Answer). told x question (length before)) e;
  rows_none = m.rows_none;
  rows_long = m.rows_long;
  rows-rest = m.rows-rest;
  rows_few = λ p r. m.rows_few p (e ∙ r);
  safe = λ v p r. m.safe v p (e ∙ r);
  leak = λ v p r. m.leak v p (e ∙ r);
  replays = λ v p r sessions items enough. subst (λ (x : Answer). (replayed x question (take n after) sessions items).refusal ≡ none) e (m.replays v p (e ∙ r) sessions items enough);
  pairs = λ v p r. m.pairs v p (e ∙ r);
  values = λ v p r. m.values v p (e ∙ r);
}

-- where the first bytes of a file decide what is read, so do the first bytes of an input
module _ (largest : ℕ) (same : (s : List ℕ) (k : ℕ) → largest < k → reading (take k s) ≡ reading s) where
  pub input-front : (input before after : List ℕ) (t : Told) (n k : ℕ) → 3 + largest < k
      → ProgramMeans (take k input) before after t n ↔ ProgramMeans input before after t n
  unfolding ProgramMeans
  input-front input before after t n zero h = absurd (omega arith)
  input-front input before after t n (suc zero) h = absurd (omega arith)
  input-front input before after t n (suc (suc zero)) h = absurd (omega arith)
  input-front [] before after t n (suc (suc (suc k))) h = ((λ m. m), (λ m. m))
  input-front (a ∷ []) before after t n (suc (suc (suc k))) h = ((λ m. m), (λ m. m))
  input-front (a ∷ b ∷ []) before after t n (suc (suc (suc k))) h = ((λ m. m), (λ m. m))
  input-front (a ∷ b ∷ c ∷ file) before after t n (suc (suc (suc k))) h =
      let e : reading (take k file) ≡ reading file = same file k (omega arith) in
      let q = a ∷ b ∷ c ∷ [] in
      ((λ m. means-read (take k file) file q before after t n e m), (λ m. means-read file (take k file) q before after t n (sym e) m))
