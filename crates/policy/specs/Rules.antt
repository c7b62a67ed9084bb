-- Rules in memory stand for a policy: lists cut to their counts, so that places that no count covers are not seen
-- [01:The rule file, "places that no count covers are not compared"]. A place past the end of an array holds 0. Where a number is given
-- instead of rules, the rules of no file stand beside it.
-- Assumes nothing.
use Rattle.std.specs.Prelude.{cond, List, ℕ, ◌+◌, ◌*◌, eqb, get_or, replicate}
use Rattle.bits.specs.Packed.{tab}
use Rattle.policy.specs.Policy.{Attr, Lists, Session, Policy}
use Rattle.policy.specs.declared.Attribute.{Attribute}
use Rattle.policy.specs.declared.Class.{Class}
use Rattle.policy.specs.declared.Classes.{Classes}
use Rattle.policy.specs.declared.Values.{Values}
use Rattle.policy.specs.declared.Session.{Session as StartingSession}
use Rattle.policy.specs.declared.Sessions.{Sessions}
use Rattle.policy.specs.declared.Rules.{Rules}

-- what an attribute in memory stands for
abbrev pub as_attr : Attribute → Attr
as_attr a = record { kind = a.kind; size = a.size; list = a.list }

-- what stands where there is no attribute
abbrev pub no_attribute : Attribute
no_attribute = record { kind = 0; size = 0; list = 0 }

-- attribute k of a class
unfoldable pub attr_at : Class → ℕ → Attr
attr_at c k = as_attr (get_or c.attributes k no_attribute)

-- the attributes of a class
unfoldable pub attrs_of : Class → List Attr
attrs_of c = tab (attr_at c) 0 c.count

-- the values of some holders
unfoldable pub values_of : Values → List ℕ
values_of v = tab (λ k. get_or v.values k 0) 0 v.count

-- what a starting session in memory stands for
abbrev pub as_session : StartingSession → Session
as_session s = record { user = s.user; value = s.value }

-- what stands where there is no starting session
abbrev pub no_session : StartingSession
no_session = record { user = 0; value = 0 }

-- starting session k
unfoldable pub session_at : Sessions → ℕ → Session
session_at t k = as_session (get_or t.sessions k no_session)

-- the starting sessions
unfoldable pub sessions_of : Sessions → List Session
sessions_of t = tab (session_at t) 0 t.count

-- n nodes of formula f, 64 places for each formula
unfoldable pub nodes_of : List ℕ → ℕ → ℕ → List ℕ
nodes_of nodes f n = tab (λ k. get_or nodes (64 * f + k) 0) 0 n

-- the first n formulas: their nodes, as many as the lengths say
unfoldable pub formulas_of : List ℕ → List ℕ → ℕ → List (List ℕ)
formulas_of nodes lengths n = tab (λ f. nodes_of nodes f (get_or lengths f 0)) 0 n

-- the three classes
unfoldable pub lists_of : Classes → Lists
lists_of c = record { of_user = attrs_of c.user; of_session = attrs_of c.session; of_item = attrs_of c.item }

-- what the rules say: two rules are the same when this is
unfoldable pub policy_of : Rules → Policy
policy_of r =
    record {
      head =
          record {
            user_attrs = r.classes.user.count;
            session_attrs = r.classes.session.count;
            item_attrs = r.classes.item.count;
            users = r.users.count;
            sessions = r.sessions.count;
            items = r.items.count;
            permissions = r.permissions;
          };
      lists = lists_of r.classes;
      users = values_of r.users;
      sessions = sessions_of r.sessions;
      items = values_of r.items;
      formulas = formulas_of r.nodes r.lengths (4 + r.permissions);
    }

-- the rules of no file: every count and every place is 0
unfoldable pub no_rules : Rules
no_rules =
    let none : Class = record { count = 0; attributes = replicate 8 no_attribute } in
    let empty : Values = record { count = 0; values = replicate 32 0 } in
    record {
      classes = record { user = none; session = none; item = none };
      users = empty;
      sessions = record { count = 0; sessions = replicate 32 no_session };
      items = empty;
      permissions = 0;
      lengths = replicate 12 0;
      nodes = replicate 768 0;
    }

-- the rules beside a number: those of no file, unless it is 0, which stands for none
unfoldable pub rules_beside : ℕ → Rules → Rules
rules_beside n r = cond (eqb n 0) r no_rules
