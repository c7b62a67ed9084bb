-- An answer that gives a number, as the published promise has it; and what a file's answer tells.
use mathlib.Core.Path.{◌≡◌, sym, ap, ◌∙◌}
use mathlib.Core.Bool.{Bool, true, false}
use mathlib.Core.List.{List}
use Prim.Native.Nat.{ℕ}
use lib.ListN.{length}
use Rattle.std.specs.Prelude.{Result, Ok, Err}
use Rattle.refusal.specs.declared.Refusal.{Refusal}
use Rattle.refusal.specs.Number.{number_of}
use Rattle.policy.specs.Rules.{policy_of}
use Rattle.policy.specs.declared.Rules.{Rules}
use Rattle.rules.specs.Answers.{reading, refusal, rules, answer_of}
use Rattle.analyser.specs.Told.{refused, told_in, told_of}
use Rattle.analyser.specs.Answer.{told}
use Rattle.analyser.specs.Means.{Means}
use Rattle.analyser.proofs.Decides.{refused-means}

pub gives-number : (file question before : List ℕ) (e : Refusal) → told (reading file) question (length before) ≡ refused (number_of e)
    → Means file question before before (told_of (Err e)) 0
unfolding told_in
gives-number file question before e t = refused-means file question before (number_of e) t

-- a test of the code is the definition's: it held, or it didn't

pub held : {b t : Bool} → b ≡ t → b ≡ true → t ≡ true
held e h = sym e ∙ h

pub denied : {b t : Bool} → b ≡ t → b ≡ false → t ≡ false
denied e h = sym e ∙ h

-- what a file's answer tells

pub was-read : (file : List ℕ) (a : Result Rules Refusal) (r : Rules) → answer_of a ≡ reading file → a ≡ Ok r → reading file ≡ rules (policy_of r)
unfolding answer_of
was-read file a r e d = sym e ∙ ap answer_of d

pub was-refused : (file : List ℕ) (a : Result Rules Refusal) (n : Refusal) → answer_of a ≡ reading file → a ≡ Err n → reading file ≡ refusal (number_of n)
unfolding answer_of
was-refused file a n e d = sym e ∙ ap answer_of d
