-- What the parts of the writer say of what they store. The promises of the published calls do not cite this file.
-- Assumes nothing.
use Rattle.policy.specs.Policy.{Head}
use Rattle.policy.specs.declared.Classes.{Classes}
use Rattle.writer_head.specs.declared.Counts.{Counts}

-- the head of some counts
unfoldable pub head_of : Counts → Head
head_of c =
    record {
      user_attrs = c.user;
      session_attrs = c.session;
      item_attrs = c.item;
      users = c.users;
      sessions = c.sessions;
      items = c.items;
      permissions = c.permissions;
    }

-- a head that counts the attributes of the classes, and nothing else
unfoldable pub head_for : Classes → Head
head_for c =
    record {
      user_attrs = c.user.count;
      session_attrs = c.session.count;
      item_attrs = c.item.count;
      users = 0;
      sessions = 0;
      items = 0;
      permissions = 0;
    }
