-- What a question asks. In order: who and which, where it asks something; one session's search; what is searched and aimed at, by kind; whether one
-- that is asked about can have a value. Not here: the search of items (Aims).
use mathlib.Core.Path.{◌≡◌, refl, sym, ap, ◌∙◌, subst}
use mathlib.Core.Bool.{Bool, true}
use mathlib.Core.Logic.{◌↔◌}
use mathlib.Core.List.{List}
use Prim.Native.Nat.{ℕ, ◌≤◌, ◌<◌}
use native.Mathlib.Omega.{arith}
use borrow.Author.Tests.{lt-ltb, eq-eqb, ne_eqb}
use lib.ListN.{length, get_or}
use Rattle.lanes.specs.Lanes.{lane_of}
use Rattle.policy.specs.Policy.{Session, Policy}
use Rattle.policy.specs.Rules.{session_at as starting_at, values_of, policy_of}
use Rattle.policy.specs.declared.Rules.{Rules}
use Rattle.lists.specs.Sound.{Sound, starting_session}
use Rattle.lists.proofs.Laws.{listed-byte}
use Rattle.runs.specs.Model.{Model}
use Rattle.runs.specs.State.{opened, State, session_at}
use Rattle.runs.specs.Grant.{session}
use Rattle.runs.specs.Reach.{Reach, ReachFrom, WhoReach, AskedWho, AskedWhich}
use Rattle.runs.specs.Outcome.{Below}
use Rattle.verdict.proofs.Decided.{star-map, changes-to}
use Rattle.allowed.specs.Allowed.{model_of}
use Rattle.allowed.proofs.ModelLaws.{model-user-count}
use Rattle.starting.specs.Start.{beginning}
use Rattle.starting.proofs.Beginning.{beginning-items, beginning-long, beginning-session}
use Rattle.replay.specs.Asked.{AsksWho, one-session, one-user, any-session, AsksItem, one-item, any-item}
use Rattle.replay.specs.Question.{parts_of, who_of, which_of, asks}
use Rattle.replay.specs.declared.question.Question.{Question}
use Rattle.replay.proofs.Asked.{who-asked, item-asked, parts-asked}
use Rattle.search.specs.Sessions.{own_found}
use Rattle.search.specs.Items.{one_found, any_found}
use Rattle.search.specs.Claims.{Change}
use Rattle.search.specs.declared.queue.Found.{Found}
use Rattle.search.proofs.Theorems.{own-is-searched, searched-is-closure}
use Rattle.analyser.specs.Answer.{session_values, item_values}
use Rattle.user_results.specs.Found.{user_found, UsersFound, any_has}
use Rattle.leak.specs.declared.Actor.TheVariants as Acting
use Rattle.goal.specs.Asked.{item_found, session_found, who_found, aim_of}
use Rattle.decision.specs.Decide.{own_search}
use Rattle.analyser.proofs.Widths.{sessions-few, beginning-below, rules-session}
use Rattle.user_results.proofs.UsersReach.{user-lane, lane-user, any-is}

-- a question that asks something
pub record Asks (p : Policy) (q : Question) : Type 0 where
  pub who : AsksWho p q.whokind q.who (who_of q)
  pub item : AsksItem p q.itemkind q.item (which_of q)
  pub permission : q.permission < p.head.permissions

module _ (p : Policy) (q : Question) where
  pub asked-who : AsksWho p q.whokind q.who (who_of q) → AskedWho (model_of p) (beginning p) (who_of q)
  asked-who (one-session e h w) = rw w (omega (arith, h, beginning-long p))
  asked-who (one-user e h w) = rw w tt
  asked-who (any-session e h w) = rw w tt

  pub asked-which : AsksItem p q.itemkind q.item (which_of q) → AskedWhich (model_of p) (beginning p) (which_of q)
  asked-which (one-item e h w) = rw w (rw (beginning-items p) h)
  asked-which (any-item e h w) = rw w tt

pub asks-something : (p : Policy) (question : List ℕ) → asks p question ≡ true → Asks p (parts_of question)
asks-something p question t = let (_, _, who, which, permission) = parts-asked p question t in record {
  who = who-asked p (parts_of question) who;
  item = item-asked p (parts_of question) which;
  permission = permission;
}

-- one session's own values
own_lane : (m : Model) (u held v : ℕ) → ((w : ℕ) → m.session_value w ≡ true → w < 256) → held < 256 → v < 256 → (lane_of (own_found m u held).seen v ≡ true) ↔ ReachFrom m u held v
own_lane m u held v byte h l =
    let c =
    searched-is-closure (λ via v. v ≡ held) (Change m u) (own_found m u held) (own-is-searched m u held h) (λ via v e. omega arith)
    (λ x via v e. byte v ((changes-to m u x v).0 e).0) v l
    in (
      λ t. star-map (λ x s. sym s.1) (λ x y e. (changes-to m u x y).0 e.1) (c.0 t),
      λ r. c.1 (star-map (λ x e. (0, sym e)) (λ x y e. (0, (changes-to m u x y).1 e)) r),
    )

own-tests : (m : Model) (start : State) (j u held v : ℕ) → ((w : ℕ) → m.session_value w ≡ true → w < 256) → session_at start j ≡ opened u held → held < 256 → v < 256
    → (lane_of (own_found m u held).seen v ≡ true) ↔ ((u : ℕ) × WhoReach m start (session j) u v)
own-tests m start j u held v byte e h l = (λ t. (u, (held, e, (own_lane m u held v byte h l).0 t)), λ (a, (b, f, r)). (own_lane m u held v byte h l).1 (same a b (sym e ∙ f) r))
  where
    same : (a b : ℕ) → opened u held ≡ opened a b → ReachFrom m a b v → ReachFrom m u held v
    same a b g r =
        let x : a ≡ u = cc in
        let y : b ≡ held = cc in
        subst (λ (z : ℕ). ReachFrom m u z v) y (subst (λ (z : ℕ). ReachFrom m z b v) x r)

module _ (r : Rules) (q : Question) where
  -- the owner and value of the starting session
  abbrev pub owner_of : ℕ
  owner_of = (starting_at r.sessions q.who).user

  abbrev pub held_of : ℕ
  held_of = (starting_at r.sessions q.who).value

  pub session-found : q.whokind ≡ 0 → session_found (model_of (policy_of r)) r.sessions q ≡ own_found (model_of (policy_of r)) owner_of held_of
  unfolding session_found
  session-found e = rw (eq-eqb q.whokind 0 e) refl

  module _ (users : List Found) (helper : ℕ → Bool) (own : Found) (v : ℕ) where
    pub who-found-session : q.whokind ≡ 0 → who_found users helper own q v ≡ lane_of own.seen v
    unfolding who_found
    who-found-session e = rw (eq-eqb q.whokind 0 e) refl

    pub who-found-user : q.whokind ≡ 1 → q.who < 16 → who_found users helper own q v ≡ lane_of (user_found users q.who).seen v
    unfolding who_found
    who-found-user e h = rw (ne_eqb q.whokind 0 (λ z. omega arith), eq-eqb q.whokind 1 e, lt-ltb q.who 16 h) refl

    pub who-found-any : q.whokind ≡ 2 → who_found users helper own q v ≡ helper v
    unfolding who_found
    who-found-any e = rw (ne_eqb q.whokind 0 (λ z. omega arith), ne_eqb q.whokind 1 (λ z. omega arith)) refl

  pub item-found-one : (helper : ℕ → Bool) → q.itemkind ≡ 0 → item_found (model_of (policy_of r)) r.items helper q ≡ one_found (model_of (policy_of r)) helper q.item (get_or r.items.values q.item 0)
  unfolding item_found
  item-found-one helper e = rw (eq-eqb q.itemkind 0 e) refl

  pub item-found-any : (helper : ℕ → Bool) → (q.itemkind ≡ 0 → ⊥) → item_found (model_of (policy_of r)) r.items helper q ≡ any_found (model_of (policy_of r)) helper (values_of r.items)
  unfolding item_found
  item-found-any helper d = rw (ne_eqb q.itemkind 0 d) refl

  pub acts-session : (v : ℕ) → q.whokind ≡ 0 → (aim_of r.sessions r.items q v).actor ≡ Acting.Session q.who owner_of
  unfolding aim_of
  acts-session v e = rw (eq-eqb q.whokind 0 e) refl

  pub acts-user : (v : ℕ) → q.whokind ≡ 1 → (aim_of r.sessions r.items q v).actor ≡ Acting.User q.who
  unfolding aim_of
  acts-user v e = rw (ne_eqb q.whokind 0 (λ z. omega arith), eq-eqb q.whokind 1 e) refl

  pub acts-any : (v : ℕ) → q.whokind ≡ 2 → (aim_of r.sessions r.items q v).actor ≡ Acting.Anyone
  unfolding aim_of
  acts-any v e = rw (ne_eqb q.whokind 0 (λ z. omega arith), ne_eqb q.whokind 1 (λ z. omega arith)) refl

  pub aim-value : (v : ℕ) → v < 256 → (aim_of r.sessions r.items q v).value ≡ v
  unfolding aim_of
  aim-value v h = omega arith

  pub aim-permission : (v : ℕ) → (aim_of r.sessions r.items q v).permission ≡ q.permission
  unfolding aim_of
  aim-permission v = refl

  pub aim-items : (v : ℕ) → (aim_of r.sessions r.items q v).items ≡ r.items.count
  unfolding aim_of
  aim-items v = refl

  module _ (sound : Sound (policy_of r)) where
    pub stands-open : q.who < length (policy_of r).sessions → session_at (beginning (policy_of r)) q.who ≡ opened owner_of held_of
    stands-open h = beginning-session (policy_of r) q.who h ∙ ap (λ (t : Session). opened t.user t.value) (rules-session r q.who h)

    pub held-byte : q.who < length (policy_of r).sessions → held_of < 256
    held-byte h =
        let e : (starting_session (policy_of r) q.who).value ≡ held_of = ap (λ (t : Session). t.value) (rules-session r q.who h) in
        omega (arith, e, listed-byte (policy_of r).lists.of_session (starting_session (policy_of r) q.who).value (sound.session-value q.who h))

    pub below : Below (model_of (policy_of r)) (beginning (policy_of r)) (session_values (policy_of r)) (item_values (policy_of r))
    below = beginning-below (policy_of r) sound

    session-byte : (w : ℕ) → (model_of (policy_of r)).session_value w ≡ true → w < 256
    session-byte w e = omega (arith, sessions-few (policy_of r) sound, below.sessions w e)

    pub few-users : (model_of (policy_of r)).users ≤ 16
    few-users = omega (arith, model-user-count (policy_of r), sound.users)

    module _ (users : List Found) (found : UsersFound (model_of (policy_of r)) users) where
      abbrev pub tested : ℕ → Bool
      tested = who_found users (any_has users) (own_search r users q) q

      pub who-tests : AsksWho (policy_of r) q.whokind q.who (who_of q) → (v : ℕ) → v < 256 → (tested v ≡ true) ↔ ((u : ℕ) × WhoReach (model_of (policy_of r)) (beginning (policy_of r)) (who_of q) u v)
      who-tests (one-session e h w) v l =
          rw (w, who-found-session users (any_has users) (own_search r users q) v e, session-found e)
          (own-tests (model_of (policy_of r)) (beginning (policy_of r)) q.who owner_of held_of v session-byte (stands-open h) (held-byte h) l)
      who-tests (one-user e h w) v l =
          let few : q.who < 16 = omega (arith, h, sound.users) in
          rw (w, who-found-user users (any_has users) (own_search r users q) v e few) (
            λ t. (q.who, (refl, (user-lane (model_of (policy_of r)) (beginning (policy_of r)) _ _ below (sessions-few (policy_of r) sound) few-users users found q.who v few l t).1)),
            λ (u, (z, s)). lane-user (model_of (policy_of r)) (beginning (policy_of r)) _ _ below (sessions-few (policy_of r) sound) few-users users found q.who v
                (subst (λ (a : ℕ). Reach (model_of (policy_of r)) a v) z s),
          )
      who-tests (any-session e h w) v l =
          rw (w, who-found-any users (any_has users) (own_search r users q) v e)
          (any-is (model_of (policy_of r)) (beginning (policy_of r)) _ _ below (sessions-few (policy_of r) sound) few-users users found v l)
