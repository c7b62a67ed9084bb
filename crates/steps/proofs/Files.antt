-- Rules that were read from a file are sound, and their users and values are bytes.
use mathlib.Core.Path.{◌≡◌}
use mathlib.Core.List.{List}
use Prim.Native.Nat.{ℕ}
use native.Mathlib.Omega.{arith}
use Rattle.format.proofs.Round.{read-judged}
use Rattle.policy.specs.Policy.{Policy}
use Rattle.policy.specs.File.{policy_format}
use Rattle.policy.proofs.PolicyLaw.{lawful-policy}
use Rattle.rules.specs.Answers.{reading, rules}
use Rattle.rules.proofs.Laws.{reading-rules}
use Rattle.lists.specs.Sound.{Sound}
use Rattle.lists.proofs.Laws.{listed-byte}
use Rattle.lists.proofs.Judged.{judged-is-sound}
use Rattle.allowed.specs.Allowed.{model_of}
use Rattle.steps.specs.Codes.{Bytes}

-- rules that were read are sound
pub file-sound : (file : List ℕ) (p : Policy) → reading file ≡ rules p → Sound p
file-sound file p e = reading-rules file p e λ q r. judged-is-sound p (read-judged policy_format lawful-policy p file q r)

pub file-bytes : (file : List ℕ) (p : Policy) → reading file ≡ rules p → Bytes (model_of p)
unfolding model_of
file-bytes file p e =
    let sound = file-sound file p e in
    record {
      users = omega (arith, sound.users);
      sessions = λ v l. listed-byte p.lists.of_session v l;
      items = λ o l. listed-byte p.lists.of_item o l;
    }
