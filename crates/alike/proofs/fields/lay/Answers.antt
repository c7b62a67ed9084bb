-- `alike::fields::lay` meets its contract. The loop's invariant: the places from k on are filled in, in both tables, and left is the width of
-- these attributes.
use mathlib.Core.Path.{◌≡◌, sym, ap, ◌∙◌}
use Prim.Native.Nat.{ℕ, suc, ◌+◌, ◌-◌, ◌<◌, ◌≤◌, min}
use native.Mathlib.Omega.{arith}
use lib.ListN.{length, drop}
use Rattle.policy.specs.Policy.{no_attr, bits_for, width}
use Rattle.policy.specs.Rules.{attr_at, attrs_of}
use Rattle.formulas.specs.Value.{attr_of}
use Rattle.formulas.proofs.TableLaws.{fill_start, fill-next, fill_end, none-bits, none-past, later-past, later_more, attr-at}
use Rattle.alike.proofs.FieldLaws.{right-at}
use borrow.Author.Rules.{rules}
use Rattle.alike.proofs.fields.lay.Invariants.{own-by, right_by}
use Rattle.alike.proofs.fields.lay.Goals as goal

pub loop-k-init : goal.loop-k-init
loop-k-init c =
    let a = c.args in
    let l = attrs_of a.class in
    let r : length a.class.attributes ≡ 8 = search rules in
    let e : c.byte_of-k.result ≡ min a.class.count 8 = c.byte_of-k.ensures in
    let none : (p : ℕ) → c.byte_of-k.result ≤ p → attr_of l p ≡ no_attr = λ p m. none-past a.class p (omega (arith, r)) (omega (arith, e)) in (
      search rules,
      search rules,
      search rules,
      search rules,
      sym (later-past a.class c.byte_of-k.result none),
      fill_start (right_by l) a.h a.h a.shifts.now c.byte_of-k.result (λ i p m n. ap (λ (z : ℕ). min z 8) (later-past a.class (suc p) (λ q o. none q (omega arith)))),
      fill_start (own-by l) a.h a.h a.bits.now c.byte_of-k.result (λ i p m n. none-bits l p (none p m)),
    )

pub loop-k-preserved : goal.loop-k-preserved
loop-k-preserved c =
    let t = c.loop-k in
    let a = c.args in
    let k = t.k - 1 in
    let l = attrs_of a.class in
    let e : t.k ≡ k + 1 = omega arith in
    let low : k < a.class.count = omega arith in
    let own : c.bits-own.result ≡ bits_for (attr_at a.class k) = c.bits-own.ensures ∙ ap bits_for c.attribute.ensures in
    let later : t.left ≡ width (drop (k + 1) l) = t.invariant.4 ∙ ap (λ (n : ℕ). width (drop n l)) e in
    let right : c.byte_of-right.result ≡ right_by l a.h k = c.byte_of-right.ensures ∙ right-at l k t.left later in
    let bits : c.bits-own.result ≡ own-by l a.h k = own ∙ ap bits_for (sym (attr-at a.class k low)) in (
      search rules,
      search rules,
      search rules,
      search rules,
      omega (arith, later_more a.class k low),
      fill-next (right_by l) a.h a.h _ t.k k c.byte_of-right.result c.byte_of-right.result _ _ (omega arith) (omega arith) t.invariant.5 e (omega arith) (λ n. right) right c.place.ensures,
      fill-next (own-by l) a.h a.h _ t.k k c.bits-own.result c.bits-own.result _ _ (omega arith) (omega arith) t.invariant.6 e (omega arith) (λ n. bits) bits c.place-in-loop-k.ensures,
    )

pub returns : goal.returns
returns c =
    let a = c.args in
    let t = c.loop-k in
    let l = attrs_of a.class in record { shifts = fill_end (right_by l) a.h a.h _ t.k _ t.invariant.5 (omega arith); bits = fill_end (own-by l) a.h a.h _ t.k _ t.invariant.6 (omega arith) }
