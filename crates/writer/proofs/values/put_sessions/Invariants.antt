-- `writer::values::put_sessions` meets its contract. The loop's invariant: the first i sessions are stored, in no more than 65029 bits each.
use Prim.Native.Nat.{◌+◌, ◌*◌, ◌≤◌}
use Rattle.std.specs.Prelude.{Ok}
use Rattle.bits.specs.Packed.{tab}
use Rattle.format.specs.Format.{rows}
use Rattle.format.specs.Steps.{Stores}
use Rattle.policy.specs.File.{session_format}
use Rattle.policy.specs.Rules.{attrs_of, session_at}
use Rattle.writer.proofs.values.put_sessions.Given as goal

abbrev pub invariant-loop-i : goal.invariant-loop-i
invariant-loop-i l =
    (l.next ≤ l.at + 65029 * l.i)
    × Stores (rows l.i (λ _. session_format l.users (attrs_of l.fn.class))) (tab (session_at l.fn.sessions) 0 l.i) l.initial.out l.out l.at (Ok l.next)
