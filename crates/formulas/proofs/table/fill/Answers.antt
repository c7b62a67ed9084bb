-- `formulas::table::fill` meets its contract. The loop's invariant: the places from k on are filled in, in both tables, and x and y are what stands
-- left of these attributes in v and w.
use mathlib.Core.Path.{◌≡◌, refl, sym, ap, ◌∙◌}
use mathlib.Core.Bool.{Bool, cond}
use Prim.Native.Nat.{ℕ, ◌+◌, ◌-◌, ◌/◌, ◌^◌, ◌<◌, ◌≤◌, min}
use native.Mathlib.Omega.{arith}
use borrow.Author.Tests.{eq-eqb, ne_eqb}
use lib.Dec.{eqb}
use lib.ListN.{length, drop}
use lib.Pow.{shr_le}
use Rattle.policy.specs.Policy.{Attr, no_attr, bits_for, width}
use Rattle.policy.specs.Rules.{attr_at, attrs_of}
use Rattle.formulas.specs.Value.{attr_of, part_of}
use Rattle.formulas.proofs.TableLaws.{fill_start, fill-next, none-part, none-size, none-past, later-past, part_at, left_at, size-at}
use borrow.Author.Rules.{rules}
use Rattle.formulas.proofs.table.fill.Invariants.{sizes-by, values-by}
use Rattle.formulas.proofs.table.fill.Goals as goal

pub loop-k-init : goal.loop-k-init
loop-k-init c =
    let a = c.args in
    let l = attrs_of a.class in
    let r : length a.class.attributes ≡ 8 = search rules in
    let e : c.byte_of-k.result ≡ min a.class.count 8 = c.byte_of-k.ensures in
    let none : (p : ℕ) → c.byte_of-k.result ≤ p → attr_of l p ≡ no_attr = λ p m. none-past a.class p (omega (arith, r)) (omega (arith, e)) in
    let zero : width (drop c.byte_of-k.result l) ≡ 0 = later-past a.class c.byte_of-k.result none in (
      search rules,
      search rules,
      search rules,
      search rules,
      search rules,
      sym (ap (λ (z : ℕ). a.v / 2 ^ z) zero ∙ omega arith),
      sym (ap (λ (z : ℕ). a.w / 2 ^ z) zero ∙ omega arith),
      fill_start (values-by l a.h a.v a.w) a.g a.h a.values.now c.byte_of-k.result (λ i p m n. none-part l (cond (eqb i a.h) a.w a.v) p (none p m)),
      fill_start (sizes-by l) a.g a.h a.sizes.now c.byte_of-k.result (λ i p m n. none-size l p (none p m)),
    )

pub last-requires : goal.last-requires
last-requires c = (search rules, omega (arith, c.bits_of-bits.ensures))

pub last-requires-in-loop-k : goal.last-requires-in-loop-k
last-requires-in-loop-k c = (search rules, omega (arith, c.bits_of-bits.ensures))

pub overflow_shr-x : goal.overflow_shr-x
overflow_shr-x c = omega (arith, c.bits_of-bits.ensures)

pub overflow_shr-y : goal.overflow_shr-y
overflow_shr-y c = omega (arith, c.bits_of-bits.ensures)

pub loop-k-preserved : goal.loop-k-preserved
loop-k-preserved c =
    let t = c.loop-k in
    let a = c.args in
    let k = t.k - 1 in
    let l = attrs_of a.class in
    let e : t.k ≡ k + 1 = omega arith in
    let low : k < a.class.count = omega arith in
    let bits : c.bits_of-bits.result ≡ min (bits_for (attr_at a.class k)) 8 = c.bits_of-bits.ensures ∙ ap (λ (d : Attr). min (bits_for d) 8) c.attribute-attribute.ensures in
    let left-x : t.x ≡ a.v / 2 ^ width (drop (k + 1) l) = t.invariant.5 ∙ ap (λ (n : ℕ). a.v / 2 ^ width (drop n l)) e in
    let left-y : t.y ≡ a.w / 2 ^ width (drop (k + 1) l) = t.invariant.6 ∙ ap (λ (n : ℕ). a.w / 2 ^ width (drop n l)) e in
    let size : c.attribute-attribute.result.size ≡ (attr_of l k).size = ap (λ (d : Attr). d.size) c.attribute-attribute.ensures ∙ size-at a.class k low in (
      search rules,
      search rules,
      search rules,
      omega (arith, shr_le t.x c.bits_of-bits.result),
      omega (arith, shr_le t.y c.bits_of-bits.result),
      left_at a.class a.v k t.x c.bits_of-bits.result low left-x t.invariant.3 bits,
      left_at a.class a.w k t.y c.bits_of-bits.result low left-y t.invariant.4 bits,
      fill-next (values-by l a.h a.v a.w) a.g a.h _ t.k k c.last.result c.last-in-loop-k.result _ _ c.requires.1 c.requires.0 t.invariant.7 e (omega arith)
          (λ n. c.last.ensures ∙ part_at a.class a.v k t.x c.bits_of-bits.result low left-x t.invariant.3 bits
          ∙ ap (λ (z : Bool). part_of l k (cond z a.w a.v)) (sym (ne_eqb a.g a.h n)))
          (c.last-in-loop-k.ensures ∙ part_at a.class a.w k t.y c.bits_of-bits.result low left-y t.invariant.4 bits
          ∙ ap (λ (z : Bool). part_of l k (cond z a.w a.v)) (sym (eq-eqb a.h a.h refl)))
          c.place.ensures,
      fill-next (sizes-by l) a.g a.h _ t.k k c.attribute-attribute.result.size c.attribute-attribute.result.size _ _ c.requires.1 c.requires.0 t.invariant.8 e (omega arith) (λ n. size) size c.place-in-loop-k.ensures,
    )
