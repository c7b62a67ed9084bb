-- The claims, one line each.
use Rattle.leak.specs.Claims.{LeakIsWritten}
use Rattle.leak.proofs.Leaks.{written-leaks}

pub leak-is-written : LeakIsWritten
leak-is-written m start n k room B hn hk r users by q pos own a who which A w e S = written-leaks m start n k room B hn hk r users by q pos own a who which A w e S
