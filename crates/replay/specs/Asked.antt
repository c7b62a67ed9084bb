-- What a question asks, said of its bytes [01:The question 1; When a number is given instead, 10]. Relations: nothing here is computed.
-- Assumes nothing.
use Rattle.std.specs.Prelude.{◌≡◌, List, [], ◌∷◌, ℕ, ◌+◌, ◌*◌, ◌<◌, length}
use Rattle.policy.specs.Policy.{Policy}
use Rattle.runs.specs.Grant.{Who, session, user, anyone, Which, item, anything}

-- who kind 0 is a starting session, 1 a user's sessions, 2 any session; an unused number is zero
pub data AsksWho (p : Policy) (kind number : ℕ) (who : Who) : Type 0 where
  one-session : kind ≡ 0 → number < length p.sessions → who ≡ session number → AsksWho p kind number who
  one-user : kind ≡ 1 → number < length p.users → who ≡ user number → AsksWho p kind number who
  any-session : kind ≡ 2 → number ≡ 0 → who ≡ anyone → AsksWho p kind number who

-- item kind 0 is a starting item, 1 any item; an unused number is zero
pub data AsksItem (p : Policy) (kind number : ℕ) (which : Which) : Type 0 where
  one-item : kind ≡ 0 → number < length p.items → which ≡ item number → AsksItem p kind number which
  any-item : kind ≡ 1 → number ≡ 0 → which ≡ anything → AsksItem p kind number which

-- three bytes: who kind (2 bits), who number (6); item kind (1), a spare bit, item number (6); permission (4), four spare bits; spares are zero
pub record Asked (p : Policy) (question : List ℕ) (who : Who) (which : Which) (permission : ℕ) : Type 0 where
  pub who-kind : ℕ
  pub who-number : ℕ
  pub item-kind : ℕ
  pub item-number : ℕ
  pub bytes : question ≡ (who-kind * 64 + who-number) ∷ (item-kind * 128 + item-number) ∷ (permission * 16) ∷ []
  pub who-bits : who-number < 64
  pub item-bits : item-number < 64
  pub who-there : AsksWho p who-kind who-number who
  pub item-there : AsksItem p item-kind item-number which
  pub permission-there : permission < p.head.permissions
