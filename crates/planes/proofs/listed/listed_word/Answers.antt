-- `planes::listed::listed_word` meets its contract. The loop's invariant: what the attributes from k on take of the number is in their lists,
-- whatever the numbers of these, and right is their width.
use mathlib.Core.Path.{◌≡◌, sym, ap, ap₂, ◌∙◌}
use mathlib.Core.Bool.{◌&&◌, and_comm}
use Prim.Native.Nat.{ℕ, ◌+◌, ◌-◌, ◌/◌, ◌%◌, ◌^◌}
use native.Mathlib.Omega.{arith}
use lib.ListN.{drop}
use lib.Dec.{ltb, eqb}
use Rattle.policy.specs.Policy.{Attr, bits_for, codes, width}
use Rattle.policy.specs.Rules.{attr_at, attrs_of}
use Rattle.lists.specs.Lists.{in_lists}
use Rattle.lists.proofs.Laws.{later-width}
use Rattle.formulas.proofs.TableLaws.{later-none}
use Rattle.planes.proofs.Words.{word-as, told-as, told-all, told-word}
use Rattle.planes.proofs.Turns.{told_and}
use Rattle.planes.proofs.Values.{in_start, in-more, in_whole}
use borrow.Author.Rules.{rules}
use Rattle.planes.proofs.listed.listed_word.Goals as goal

pub loop-k-init : goal.loop-k-init
loop-k-init c =
    let d = c.args.class in
    (search rules, sym (later-none d), told-as _ _ _ _ (told-all _) (λ v. sym (in_start d v)))

pub loop-k-preserved : goal.loop-k-preserved
loop-k-preserved c =
    let t = c.loop-k in
    let a = c.args in
    let d = a.class in
    let k = t.k - 1 in
    let l = attrs_of d in
    let e : t.k ≡ k + 1 = omega arith in
    let own : c.bits-own.result ≡ bits_for (attr_at d k) = c.bits-own.ensures ∙ ap bits_for c.attribute-attribute.ensures in
    let later : t.right ≡ width (drop (k + 1) l) = t.invariant.1 ∙ ap (λ (n : ℕ). width (drop n l)) e in (
      search rules,
      omega (arith, later-width d k (omega arith)),
      told-as _ _ _ _ (told_and _ _ _ _ _ t.invariant.2 c.coded-r.ensures)
          (λ v.
          and_comm (in_lists (drop t.k l) (v % 2 ^ t.right)) _
          ∙ ap₂ ◌&&◌ (ap (λ (x : Attr). ltb (v / 2 ^ t.right % 2 ^ c.bits-own.result) (codes x)) c.attribute-attribute.ensures) (ap (λ (n : ℕ). in_lists (drop n l) (v % 2 ^ t.right)) e)
          ∙ in-more d k v t.right c.bits-own.result (omega arith) later),
    )

pub returns : goal.returns
returns c =
    let t = c.loop-k in
    let a = c.args in
    let l = attrs_of a.class in
    let e : t.k ≡ 0 = omega arith in
    let r : t.right ≡ width l = t.invariant.1 ∙ ap (λ (n : ℕ). width (drop n l)) e in
    word-as _ _ a.w _ c.requires
    (told-word _ _ _ _ c.planes_of-planes.ensures (told_and _ _ _ _ _ c.narrow.ensures t.invariant.2))
    (λ v m. ap₂ (λ (n k : ℕ). eqb (v / 2 ^ n) 0 && in_lists (drop k l) (v % 2 ^ n)) r e ∙ in_whole l v m)
