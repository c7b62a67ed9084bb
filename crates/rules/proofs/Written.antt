-- Laws of what writing makes: where the pass over the parts gave a place, the bytes begin with the file, which is as long as the place says.
use mathlib.Core.Path.{◌≡◌, sym, ap, ◌∙◌}
use mathlib.Core.List.{List}
use Prim.Native.Nat.{ℕ, ◌≤◌}
use native.Mathlib.Omega.{arith}
use lib.ListN.{length, take, replicate, length-replicate}
use lib.Seq.{take_at}
use Rattle.std.specs.Prelude.{Ok}
use Rattle.std.specs.Int.{div_ceil}
use Rattle.bits.specs.Packed.{packed}
use Rattle.bits.proofs.Packed.{packed-length}
use Rattle.format.specs.File.{bytes}
use Rattle.format.specs.Steps.{Stores}
use Rattle.format.proofs.Store.{stores-length, written}
use Rattle.policy.specs.Policy.{Policy}
use Rattle.policy.specs.File.{policy_format}
use Rattle.policy.proofs.PolicyLaw.{lawful-policy}
use Rattle.rules.specs.Answers.{writing}
use Rattle.rules.proofs.Laws.{writing-is, written-short}

-- the bytes made begin with the file of the rules, which ends at this place
pub record Made (p : Policy) (end : ℕ) (made : List ℕ) : Type 0 where
  pub room : div_ceil end 8 ≤ length made
  pub file : writing p ≡ bytes (take (div_ceil end 8) made)

pub made-file : {p : Policy} {end : ℕ} {made : List ℕ} → Stores policy_format p (replicate 2069 0) made 0 (Ok end) → Made p end made
made-file {p} {end} {made} s =
    let l = packed (policy_format.fields p) in
    let (e, d, f) = written policy_format lawful-policy s in
    let file : writing p ≡ bytes l = writing-is p ∙ e in
    let room : length l ≤ length (replicate {A = ℕ} 2069 0) = omega (arith, written-short p l file, length-replicate {A = ℕ} 2069 0) in
    let long : length l ≡ div_ceil end 8 = omega (arith, d, packed-length (policy_format.fields p)) in
    let front : l ≡ take (div_ceil end 8) made = sym (rw (f room) (take_at l _ _ long)) in
    record { room = omega (arith, room, long, stores-length s); file = file ∙ ap bytes front }
