-- The claims of specs/Claims.antt, one line each.
use mathlib.Core.Logic.Iff
use Rattle.runs.proofs.Theorems.{never-is-exact}
use Rattle.verdict.specs.Claims.{ClosureIsComputed, BroughtIsComputed, VerdictIsComputed, PairsAreCounted, ValuesAreCounted}
use Rattle.verdict.proofs.Closed.{closure-at}
use Rattle.verdict.proofs.Decided.{brought-is, leaks-is}
use Rattle.verdict.proofs.Counted.{pairs-counted, values-counted}

pub closure-is-computed : ClosureIsComputed
closure-is-computed n start edge v h = closure-at n start edge v

pub brought-is-computed : BroughtIsComputed
brought-is-computed m start n k w = brought-is m start n k w

pub verdict-is-computed : VerdictIsComputed
verdict-is-computed m start n k w b who which permission a c = Iff.trans (leaks-is m start n k w b who which permission c) (Iff.symm (never-is-exact m start b who which permission a c))

pub pairs-are-counted : PairsAreCounted
pairs-are-counted m start n k w b = pairs-counted m start n k w b

pub values-are-counted : ValuesAreCounted
values-are-counted m start n k w b which c = values-counted m start n k w b which c
