-- What is proved of what rules allow. The proofs are in proofs/Theorems.antt.
-- Assumes nothing.
use Rattle.std.specs.Prelude.{◌≡◌}
use Rattle.policy.specs.Policy.{unlisted, Policy}
use Rattle.allowed.specs.Allowed.{model_of}

-- the same rules with every attribute of list 0
abbrev pub unlisted_policy : Policy → Policy
unlisted_policy p =
    record {
      head = p.head;
      lists = record { of_user = unlisted p.lists.of_user; of_session = unlisted p.lists.of_session; of_item = unlisted p.lists.of_item };
      users = p.users;
      sessions = p.sessions;
      items = p.items;
      formulas = p.formulas;
    }

-- [02:T-01, "Verdicts mean what they did"]: what rules allow is the same whatever the numbers of their lists
abbrev pub ListNumbersDoNotMatter : Type 0
ListNumbersDoNotMatter = (p : Policy) → model_of (unlisted_policy p) ≡ model_of p
