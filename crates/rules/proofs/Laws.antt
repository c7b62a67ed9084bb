-- Laws of the answers. In order: an answer to reading and the result behind it, the bits taken, what judging says of the rules, what the program read, what writing
-- answers and leaves.
use mathlib.Core.Path.{◌≡◌, refl, sym, ap, ◌∙◌, subst}
use mathlib.Core.Logic.{◌⊎◌, inl, inr}
use mathlib.Core.List.{List, ◌++◌}
use mathlib.Core.Option.{none, some}
use Prim.Native.Nat.{ℕ, ◌*◌, ◌≤◌, ◌<◌}
use native.Mathlib.Omega.{arith}
use borrow.Author.Tests.{le-leb, lt-leb}
use lib.ListN.{length, drop}
use Rattle.format.specs.Format.{Res, ok, bad, bits_until}
use Rattle.format.specs.File.{SameBits, Bytes, refused, bytes, read_file, write_file}
use Rattle.format.specs.Reads.{res_of}
use Rattle.format.proofs.Fault.{BadAt}
use Rattle.format.proofs.Bounded.{file-short}
use Rattle.format.proofs.Cut.{Again, file-enough}
use Rattle.format.proofs.Round.{write_read, read-judged, refused-judged}
use Rattle.policy.specs.Policy.{Policy}
use Rattle.policy.specs.File.{policy_format}
use Rattle.policy.proofs.Bound.{bounded-policy}
use Rattle.policy.proofs.Cut.{cuts-policy}
use Rattle.policy.proofs.PolicyLaw.{lawful-policy}
use Rattle.rules.specs.Answers.{refusal, rules, answer_of, answered, reading, bits_taken, writing, written, written_of, filled}
use Rattle.rules.specs.Claims.{largest_file}
use Rattle.policy.specs.Rules.{policy_of}
use Rattle.policy.specs.declared.Rules.{Rules}
use Rattle.refusal.specs.declared.Refusal.{Refusal}
use Rattle.refusal.specs.Number.{number_of}
use Rattle.std.specs.Prelude.{Result, Ok, Err, IsErrAnd}
use Rattle.std.proofs.lemmas.Result.{err_from_is_err_and}

answered-rules : {C : Type 0} (r : Res Policy) (p : Policy) → answered r ≡ rules p → ((q : ℕ) → r ≡ ok p q → C) → C
unfolding answered
answered-rules (ok a q) p e k = k q (let h : a ≡ p = cc in ap (λ (x : Policy). ok x q) h)
answered-rules (bad n q) p e k = absurd (let z : ◌≡◌ {A = ℕ} 0 1 = cc in omega arith)

pub reading-rules : {C : Type 0} (s : List ℕ) (p : Policy) → reading s ≡ rules p → ((q : ℕ) → read_file policy_format s ≡ ok p q → C) → C
unfolding reading
reading-rules s p e k = answered-rules (read_file policy_format s) p e k

answered-refusal : {C : Type 0} (r : Res Policy) (n : ℕ) → answered r ≡ refusal n → ((q : ℕ) → r ≡ bad n q → C) → C
unfolding answered
answered-refusal (ok a q) n e k = absurd (let z : ◌≡◌ {A = ℕ} 0 1 = cc in omega arith)
answered-refusal (bad m q) n e k = k q (let h : m ≡ n = cc in ap (λ (x : ℕ). bad x q) h)

pub reading-refusal : {C : Type 0} (s : List ℕ) (n : ℕ) → reading s ≡ refusal n → ((q : ℕ) → read_file policy_format s ≡ bad n q → C) → C
unfolding reading
reading-refusal s n e k = answered-refusal (read_file policy_format s) n e k

pub rules-reading : (s : List ℕ) (p : Policy) (q : ℕ) → read_file policy_format s ≡ ok p q → reading s ≡ rules p
unfolding reading answered
rules-reading s p q e = rw e refl

pub refusal-reading : (s : List ℕ) (n : ℕ) → BadAt (read_file policy_format s) n → reading s ≡ refusal n
unfolding reading answered
refusal-reading s n b = let e = b.is in rw e refl

-- equal results are the same answer
pub same-reading : (s s' : List ℕ) → read_file policy_format s ≡ read_file policy_format s' → reading s ≡ reading s'
unfolding reading
same-reading s s' e = ap answered e

-- the bits taken are the place of the result
pub place-taken : (s : List ℕ) → bits_until (read_file policy_format s) ≡ bits_taken s
unfolding bits_taken
place-taken s = refl

pub ok-taken : (s : List ℕ) (p : Policy) (q : ℕ) → read_file policy_format s ≡ ok p q → bits_taken s ≡ q
unfolding bits_taken bits_until
ok-taken s p q e = rw e refl

pub bad-taken : (s : List ℕ) (n q : ℕ) → read_file policy_format s ≡ bad n q → bits_taken s ≡ q
unfolding bits_taken bits_until
bad-taken s n q e = rw e refl

-- the answer to bytes that have the bits taken, from the result behind it
pub taken-enough : (s s' : List ℕ) (n q : ℕ) → read_file policy_format s ≡ bad n q → (n ≡ 1 → ⊥) → SameBits s s' (bits_taken s)
    → ((reading s' ≡ refusal n) × (bits_taken s' ≡ bits_taken s)) ⊎ ((p : Policy) × ((n ≡ 3) × (8 * length s' ≡ bits_taken s) × (reading s' ≡ rules p)))
taken-enough s s' n q d h g = go (file-enough policy_format cuts-policy s s' n q d h (subst (SameBits s s') (bad-taken s n q d) g))
  where
    go : Again policy_format s' n q
        → ((reading s' ≡ refusal n) × (bits_taken s' ≡ bits_taken s)) ⊎ ((p : Policy) × ((n ≡ 3) × (8 * length s' ≡ bits_taken s) × (reading s' ≡ rules p)))
    go (inl e) = inl (refusal-reading s' n record { place = q; is = e }, bad-taken s' n q e ∙ sym (bad-taken s n q d))
    go (inr (p, (z, i, e))) = inr (p, (z, i ∙ sym (bad-taken s n q d), rules-reading s' p q e))

pub writing-is : (p : Policy) → writing p ≡ write_file policy_format p
unfolding writing
writing-is p = refl

-- rules that are read have no fault; what writing refuses has one
pub reading-judged : (s : List ℕ) (p : Policy) → reading s ≡ rules p → policy_format.judge p ≡ none
reading-judged s p e = reading-rules s p e (λ q f. read-judged policy_format lawful-policy p s q f)

pub writing-judged : (p : Policy) (n : ℕ) → writing p ≡ refused n → policy_format.judge p ≡ some n
writing-judged p n e = refused-judged policy_format p n (sym (writing-is p) ∙ e)

module _ (s : List ℕ) (a : Result Rules Refusal) (q : ℕ) (e : res_of policy_of a q ≡ read_file policy_format s) where
  -- what the program read is the answer
  pub whole-answer : answer_of a ≡ reading s
  unfolding answer_of
  whole-answer = go a e
    where
      go : (a : Result Rules Refusal) → res_of policy_of a q ≡ read_file policy_format s → answer_of a ≡ reading s
      go (Ok r) e = sym (rules-reading s (policy_of r) q (sym e))
      go (Err x) e = sym (refusal-reading s (number_of x) record { place = q; is = sym e })

  -- and as many bits were taken as stand before its place
  pub whole-bits : q ≡ bits_taken s
  whole-bits = go a e
    where
      go : (a : Result Rules Refusal) → res_of policy_of a q ≡ read_file policy_format s → q ≡ bits_taken s
      go (Ok r) e = sym (ok-taken s (policy_of r) q (sym e))
      go (Err x) e = sym (bad-taken s (number_of x) q (sym e))

-- a refusal of writing is handed on
pub refused-written : (b : Bytes) (why : Refusal) (r : Result ℕ Refusal) (room : ℕ) → IsErrAnd r (λ e. e ≡ why) → b ≡ refused (number_of why) → written r ≡ written_of b room
unfolding written written_of
refused-written b why r room h e = let d = err_from_is_err_and r h in rw (d.1, d.2, e) refl

pub refused-filled : (b : Bytes) (n : ℕ) (out : List ℕ) → b ≡ refused n → out ≡ filled b out
unfolding filled
refused-filled b n out e = rw e refl

module _ (l : List ℕ) where
  pub short-written : (room : ℕ) → room < length l → written (Err Refusal.Room) ≡ written_of (bytes l) room
  unfolding written written_of number_of
  short-written room h = simp (lt-leb (length l) room h)

  pub short-filled : (out : List ℕ) → length out < length l → out ≡ filled (bytes l) out
  unfolding filled
  short-filled out h = simp (lt-leb (length l) (length out) h)

  pub long-written : (room : ℕ) → length l ≤ room → written (Ok (length l)) ≡ written_of (bytes l) room
  unfolding written written_of
  long-written room h = simp (le-leb (length l) room h)

  pub long_filled : (out : List ℕ) → length l ≤ length out → l ++ drop (length l) out ≡ filled (bytes l) out
  unfolding filled
  long_filled out h = simp (le-leb (length l) (length out) h)

-- a file that is written is no longer than the largest
pub written-short : (p : Policy) (l : List ℕ) → writing p ≡ bytes l → length l ≤ largest_file
written-short p l e =
    file-short policy_format bounded-policy largest_file (omega arith) l p (8 * length l) (write_read policy_format lawful-policy p l (sym (writing-is p) ∙ e))

-- what a caller knows from the answer
module _ (s : List ℕ) (a : Result Rules Refusal) (e : answer_of a ≡ reading s) where
  pub was-accepted : (r : Rules) → a ≡ Ok r → reading s ≡ rules (policy_of r)
  unfolding answer_of
  was-accepted r d = sym e ∙ ap answer_of d

  pub was-refused : (x : Refusal) → a ≡ Err x → reading s ≡ refusal (number_of x)
  unfolding answer_of
  was-refused x d = sym e ∙ ap answer_of d
