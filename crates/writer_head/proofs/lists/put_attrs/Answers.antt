-- `writer_head::lists::put_attrs` meets its contract. The loop's invariant: the first i attributes are stored, in no more than 12 bits each, and
-- the sizes of the lists are those after them.
use mathlib.Core.Path.{◌≡◌, sym, ap}
use native.Mathlib.Omega.{arith}
use Rattle.bits.proofs.Packed.{tab-more}
use Rattle.bits.specs.Packed.{tab}
use Rattle.format.proofs.Store.{stores-rows-begin, stores-rows-turn, stores-rows-stop, stores-given}
use Rattle.policy.specs.File.{attr_format}
use Rattle.policy.specs.Rules.{attr_at, attrs_of}
use Rattle.policy.proofs.Laws.{sizes-none, sizes-more}
use Rattle.writer_head.proofs.lists.put_attrs.Goals as goal

pub loop-i-init : goal.loop-i-init
unfolding tab
loop-i-init c = (omega arith, sym (sizes-none _), stores-rows-begin _ (attr_at c.args.class))

pub loop-i-preserved : goal.loop-i-preserved
loop-i-preserved c =
    let l = c.loop-i in
    let g = attr_at c.args.class in
    let attribute = c.attribute-attribute in (
      omega (arith, c.in_ok-next.ensures.pos_bound),
      rw (tab-more g l.i, sizes-more c.args.known.now (tab g 0 l.i) (g l.i), ← l.invariant.1, ← attribute.ensures) c.set_size.ensures,
      stores-rows-turn _ g l.i (ap attr_format l.invariant.1) attribute.ensures l.invariant.2 c.in_ok-next.ensures.stores,
    )

pub returns-in_err-next-clause-stores : goal.returns-in_err-next-clause-stores
unfolding attrs_of
returns-in_err-next-clause-stores c =
    let l = c.loop-i in
    let g = attr_at c.args.class in
    stores-given c.from_residual.ensures.1
    (stores-rows-stop _ g l.i _ c.loop-i-test.true (ap attr_format l.invariant.1) c.attribute-attribute.ensures l.invariant.2 c.in_err-next.ensures.stores)

pub returns-clause-stores : goal.returns-clause-stores
unfolding attrs_of
returns-clause-stores c =
    let l = c.loop-i in
    let e : l.i ≡ c.args.class.count = omega arith in
    rw e at l.invariant.2

pub returns-clause-known_after : goal.returns-clause-known_after
unfolding attrs_of
returns-clause-known_after c =
    let l = c.loop-i in
    let e : l.i ≡ c.args.class.count = omega arith in
    rw e at l.invariant.1
