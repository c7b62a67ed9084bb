-- The bytes that fit are pasted at place `at`.
use Rattle.std.proofs.Common.{rules, ◌≡◌, ℕ, List, ◌+◌, ◌-◌, ◌++◌, ◌≤◌, length, take, drop, sym, ap, ◌∙◌, arith}
use Rattle.std.proofs.Math.Seq.{paste}
use Rattle.std.proofs.lemmas.List.{length-take-le, take-take}
use Rattle.std.proofs.lemmas.Slice.{put_mid-paste}
use Rattle.output.specs.Put.{fitting, put_at}
use Rattle.output.proofs.put_bytes.Goals as goal

pub returns-clause-value : goal.returns-clause-value
unfolding fitting
returns-clause-value c = search rules

pub returns-clause-out_after : goal.returns-clause-out_after
unfolding fitting put_at
returns-clause-out_after c =
    let o = c.args.out.now in
    let w = c.args.word.now in
    let a = c.args.at in
    let n = c.min-n.result in
    let fits : n ≤ length w = omega arith in
    put_mid-paste a (a + n - a) o c.copy_from_slice.new.self (take n w) n c.copy_from_slice.ensures.after (omega arith) (sym (length-take-le n w fits))
    ∙ ap (λ (l : List ℕ). take a o ++ l ++ drop (a + n) o) (take-take n n w (omega arith))
    ∙ ap (λ (k : ℕ). paste o a w k) (search rules)
