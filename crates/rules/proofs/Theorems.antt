-- The claims of specs/Claims.antt, one line each: the laws behind them are proved once, for every lawful or bounded format.
use mathlib.Core.Path.{sym, ◌∙◌}
use Prim.Native.Nat.{◌*◌}
use native.Mathlib.Omega.{arith}
use lib.ListN.{length, take}
use Rattle.format.proofs.Bounded.{file-short, file-cut}
use Rattle.format.proofs.Cut.{file-end, file-one, file-needed}
use Rattle.format.proofs.Round.{write_read, read-write, write-refused}
use Rattle.policy.proofs.Bound.{bounded-policy}
use Rattle.policy.proofs.Cut.{cuts-policy}
use Rattle.policy.proofs.Laws.{fewest-enough, fewest-least}
use Rattle.policy.proofs.Listed.{one_size, compared-agree}
use Rattle.policy.proofs.ListFaults.{eighteen-says, nineteen-says, gives-unlisted}
use Rattle.policy.proofs.Numbers.{given_above, gives-given}
use Rattle.policy.proofs.ReadNumbers.{read_told, read-unlisted}
use Rattle.policy.proofs.PolicyLaw.{lawful-policy}
use Rattle.policy.specs.File.{policy_format}
use Rattle.policy.specs.Rules.{policy_of}
use Rattle.rules.specs.Claims.{BytesAgain, RulesAgain, ReadingNumbers, WritingNumbers, WritingRefusesAsReading, SizeTakesFewestBits}
use Rattle.rules.specs.Claims.{OneSizePerList, ComparedListsAgree, ListZeroFitsAll, ListFaults, largest_file, FrontDecides, BitsTaken}
use Rattle.rules.proofs.Laws.{reading-rules, reading-refusal, rules-reading, refusal-reading, same-reading, writing-is, reading-judged, writing-judged}
use Rattle.rules.proofs.Laws.{place-taken, ok-taken, bad-taken, taken-enough}

pub bytes-again : BytesAgain
bytes-again s p b e = reading-rules s p e (λ q f. writing-is p ∙ (read-write policy_format lawful-policy p s q b f).0)

pub rules-again : RulesAgain
rules-again p s e = rules-reading s p _ (write_read policy_format lawful-policy p s (sym (writing-is p) ∙ e))

pub reading-numbers : ReadingNumbers
reading-numbers s n e = reading-refusal s n e (read_told s n)

pub writing-numbers : WritingNumbers
writing-numbers r n e = (gives-given r).only n (writing-judged (policy_of r) n e)

pub writing-refuses-as-reading : WritingRefusesAsReading
writing-refuses-as-reading r n e f = refusal-reading _ n (write-refused policy_format lawful-policy (policy_of r) n (sym (writing-is (policy_of r)) ∙ e) (given_above (writing-numbers r n e)) f)

pub one-size-per-list : OneSizePerList
one-size-per-list s p e = one_size p (reading-judged s p e)

pub compared-lists-agree : ComparedListsAgree
compared-lists-agree s p e f i c = compared-agree p (reading-judged s p e) f i c.from-5 c.to-10 c.first c.second

pub list-zero-fits-all : ListZeroFitsAll
list-zero-fits-all =
    record {
      read = λ s n z e. reading-refusal s n e (read-unlisted s z n);
      written = λ r n z e. gives-unlisted r z n (writing-judged (policy_of r) n e);
    }

pub list-faults : ListFaults
list-faults =
    record {
      eighteen = λ r e. eighteen-says r (writing-judged (policy_of r) 18 e);
      nineteen = λ r e.
          let (f, i, d) = nineteen-says r (writing-judged (policy_of r) 19 e) in
          (f, i, (record { from-5 = d.from-5; to-10 = d.to-10; first = d.first; second = d.second }, d.differ));
    }

pub size-takes-fewest-bits : SizeTakesFewestBits
size-takes-fewest-bits n = (fewest-enough n, fewest-least n)

pub front-decides : FrontDecides
front-decides =
    record {
      same = λ s k h. same-reading (take k s) s (file-cut policy_format bounded-policy largest_file (omega arith) s k h);
      short = λ s p e. reading-rules s p e (λ q f. file-short policy_format bounded-policy largest_file (omega arith) s p q f);
    }

pub bits-taken : BitsTaken
bits-taken =
    record {
      accepted = λ s p e. reading-rules s p e (λ q d. ok-taken s p q d ∙ file-end policy_format s p q d);
      cut = λ s e. reading-refusal s 1 e (λ q d. bad-taken s 1 q d ∙ file-one policy_format cuts-policy s q d);
      enough = λ s s' n e h g. reading-refusal s n e (λ q d. taken-enough s s' n q d h g);
      needed = λ s s' g h.
          let d = file-needed policy_format cuts-policy s s' g (omega (arith, place-taken s)) in
          refusal-reading s' 1 record { place = 8 * length s'; is = d };
    }
