-- `analyser::analyse` meets its contract: the file's number is given where it has one; else an area is lent that is enough for the widths of the classes.
use mathlib.Core.Path.{◌≡◌}
use mathlib.Core.List.{List}
use Prim.Native.Nat.{ℕ, ◌+◌, ◌*◌, ◌^◌, ◌≤◌}
use native.Mathlib.Omega.{arith}
use lib.ListN.{length}
use Rattle.std.proofs.lemmas.Result.{err_from_is_err_and}
use Rattle.policy.specs.Rules.{policy_of}
use Rattle.lists.specs.Sound.{Sound}
use Rattle.allowed_rows.specs.Basis.{BasisOf}
use Rattle.allowed_rows.specs.Scratch.{Scratch}
use Rattle.allowed_rows.specs.declared.Basis.{Basis}
use Rattle.allowed_rows.proofs.ScratchLaws.{scratch-wide, scratch-any}
use Rattle.steps.proofs.Files.{file-sound}
use Rattle.analyser.proofs.Decides.{refused-file-is-told}
use Rattle.analyser.proofs.Refusals.{gives-number, was-read, was-refused}
use borrow.Author.Rules.{rules as search_rules}
use Rattle.analyser.proofs.analyse.Goals as goal

pub returns-in_err-rules : goal.returns-in_err-rules
returns-in_err-rules c =
    let a = c.args in
    let p = err_from_is_err_and c.from_residual.result c.from_residual.ensures.1 in
    rw (p.1, p.2) (gives-number _ _ _ _ (refused-file-is-told _ _ _ _ (was-refused a.file.now _ _ c.read_rules.ensures.answer c.in_err-rules.was)))

pub answer_in-requires : goal.answer_in-requires
answer_in-requires c =
    let accepted = was-read c.args.file.now _ _ c.read_rules.ensures.answer c.in_ok-rules.was in
    let sound : Sound (policy_of c.in_ok-rules.rules) =
    file-sound _ _ accepted in
    let enough : (n : ℕ) → c.widest-w.result ≤ n → (area : List ℕ) → 4 * (193 + 64 * 2 ^ n) ≤ length area
    → (b : Basis) → BasisOf c.in_ok-rules.rules b → Scratch b area =
    λ n. λ narrow. λ area. λ large. λ b. λ B. let (u, s, i) = c.widest-w.ensures in
    scratch-wide _ b area n B sound (omega (arith, u)) (omega (arith, s)) (omega (arith, i)) large in record { file_value = accepted; scratch = enough 2 c.if-w-le2.true _ (omega arith) }

pub returns-then-w-le2 : goal.returns-then-w-le2
returns-then-w-le2 c = c.answer_in.ensures

pub answer_in-requires-then-w-le5 : goal.answer_in-requires-then-w-le5
answer_in-requires-then-w-le5 c =
    let accepted = was-read c.args.file.now _ _ c.read_rules.ensures.answer c.in_ok-rules.was in
    let sound : Sound (policy_of c.in_ok-rules.rules) =
    file-sound _ _ accepted in
    let enough : (n : ℕ) → c.widest-w.result ≤ n → (area : List ℕ) → 4 * (193 + 64 * 2 ^ n) ≤ length area
    → (b : Basis) → BasisOf c.in_ok-rules.rules b → Scratch b area =
    λ n. λ narrow. λ area. λ large. λ b. λ B. let (u, s, i) = c.widest-w.ensures in
    scratch-wide _ b area n B sound (omega (arith, u)) (omega (arith, s)) (omega (arith, i)) large in record { file_value = accepted; scratch = enough 5 c.if-w-le5.true _ (omega arith) }

pub returns-then-w-le5 : goal.returns-then-w-le5
returns-then-w-le5 c = c.answer_in-then-w-le5.ensures

pub answer_in-requires-2 : goal.answer_in-requires-2
answer_in-requires-2 c =
    let accepted = was-read c.args.file.now _ _ c.read_rules.ensures.answer c.in_ok-rules.was in
    let sound : Sound (policy_of c.in_ok-rules.rules) =
    file-sound _ _ accepted in record { file_value = accepted; scratch = λ b B. scratch-any _ b _ B (sound) (search search_rules) }

pub returns : goal.returns
returns c = c.answer_in-2.ensures
