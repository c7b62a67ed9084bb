-- What the parts of the reader say of the head and the lists of attributes that they read. The promises of the published calls do not cite this file.
-- Assumes nothing.
use Rattle.std.specs.Prelude.{◌≤◌}
use Rattle.policy.specs.Policy.{Head, width}
use Rattle.policy.specs.Rules.{attrs_of}
use Rattle.policy.specs.declared.Class.{Class}
use Rattle.policy.specs.declared.Classes.{Classes}
use Rattle.reader_head.specs.declared.Counts.{Counts}

-- the head of some counts
unfoldable pub head_of : Counts → Head
head_of c =
    record {
      user_attrs = c.user;
      session_attrs = c.session;
      item_attrs = c.item;
      users = c.users;
      sessions = c.sessions;
      items = c.items;
      permissions = c.permissions;
    }

-- a class has at most 8 attributes and is at most 8 bits wide
pub record Narrow (c : Class) : Type 0 where
  pub count : c.count ≤ 8
  pub wide : width (attrs_of c) ≤ 8

-- all three are
pub record AllNarrow (c : Classes) : Type 0 where
  pub user : Narrow c.user
  pub session : Narrow c.session
  pub item : Narrow c.item
