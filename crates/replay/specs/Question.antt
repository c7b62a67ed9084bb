-- The question, computed [01:The question 1]: three bytes. Who kind (2 bits), who number (6), item kind (1), spare (1), item number (6), permission (4),
-- spare (4). What names something absent or breaks the layout asks nothing, and gets 10.
-- Assumes nothing.
use Rattle.std.specs.Prelude.{Bool, ◌&&◌, cond, List, ℕ, ◌+◌, ◌/◌, ◌%◌, ltb, eqb, length, get_or, Option, Some, None}
use Rattle.policy.specs.Policy.{Policy}
use Rattle.runs.specs.Grant.{Who, session, user, anyone, Which, item, anything}
use Rattle.replay.specs.declared.question.Question.{Question}
use Rattle.replay.specs.declared.question.Who.{Who as AskedWho}
use Rattle.replay.specs.declared.question.Who.TheVariants as Who
use Rattle.replay.specs.declared.question.Which.{Which as AskedItem}
use Rattle.replay.specs.declared.question.Which.TheVariants as Which

-- the parts of three bytes
unfoldable pub parts_of : List ℕ → Question
parts_of q =
    let a = get_or q 0 0 in
    let b = get_or q 1 0 in
    let c = get_or q 2 0 in
    record {
      whokind = a / 64;
      who = a % 64;
      itemkind = b / 128;
      item = b % 64;
      permission = c / 16;
      spares = b / 64 % 2 + c % 16;
    }

-- who is asked about as the program reads it: nothing where the kind is unknown
abbrev pub asked_who : Question → Option AskedWho
asked_who q = cond (eqb q.whokind 0) (Some (Who.Session q.who)) (cond (eqb q.whokind 1) (Some (Who.User q.who)) (cond (eqb q.whokind 2) (Some Who.Anyone) None))

-- which item is asked about as the program reads it
abbrev pub asked_item : Question → Option AskedItem
asked_item q = cond (eqb q.itemkind 0) (Some (Which.Item q.item)) (cond (eqb q.itemkind 1) (Some Which.Anything) None)

-- who is asked about: unused numbers are zero
unfoldable pub who_of : Question → Who
who_of q = cond (eqb q.whokind 0) (session q.who) (cond (eqb q.whokind 1) (user q.who) anyone)

-- which item is asked about
unfoldable pub which_of : Question → Which
which_of q = cond (eqb q.itemkind 0) (item q.item) anything

-- who is asked about is there, among so many starting sessions and users: a starting session, a user, or any session
unfoldable pub who_among : ℕ → ℕ → Question → Bool
who_among sessions users q =
    cond (eqb q.whokind 0) (ltb q.who sessions) (cond (eqb q.whokind 1) (ltb q.who users) (eqb q.whokind 2 && eqb q.who 0))

-- the item is there, among so many starting ones: a starting one, or any
unfoldable pub which_among : ℕ → Question → Bool
which_among items q = cond (eqb q.itemkind 0) (ltb q.item items) (eqb q.itemkind 1 && eqb q.item 0)

-- the question's parts ask something of the rules
unfoldable pub parts_ask : Policy → Question → Bool
parts_ask p q = eqb q.spares 0 && who_among (length p.sessions) (length p.users) q && which_among (length p.items) q && ltb q.permission p.head.permissions

-- the bytes ask something of the rules; any other length breaks the layout
unfoldable pub asks : Policy → List ℕ → Bool
asks p q = eqb (length q) 3 && parts_ask p (parts_of q)
