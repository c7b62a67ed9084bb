-- `reader::values::read_sessions` meets its contract. The loop's invariant: the array holds the sessions that were read so far, each took at most
-- 12 bits, and reading them all goes on by the reader as it is.
use mathlib.Core.Path.{◌≡◌}
use mathlib.Core.List.{List}
use Prim.Native.Nat.{ℕ, ◌+◌, ◌*◌, ◌≤◌}
use lib.ListN.{length}
use Rattle.format.specs.Format.{Format}
use Rattle.policy.specs.Policy.{Session}
use Rattle.policy.specs.File.{session_format}
use Rattle.policy.specs.Rules.{attrs_of, sessions_of}
use Rattle.policy.specs.declared.Class.{Class}
use Rattle.reader_head.proofs.Reached.{Reached}
use Rattle.reader.proofs.values.read_sessions.Given as goal

abbrev pub row : ℕ → Class → List Session → Format Session
row users class _ = session_format users (attrs_of class)

abbrev pub invariant-loop-session : goal.invariant-loop-session
invariant-loop-session l =
    record {
      items : length l.session-items ≡ l.n;
      near : l.reader.bits.at ≤ l.initial.reader.bits.at + 12 * l.session-index;
      reached : Reached (row l.user_count l.class) l.n l.initial.reader l.reader (sessions_of record { count = l.session-index; sessions = l.session-items })
          l.session-index;
    }
