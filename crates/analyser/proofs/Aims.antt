-- What the searches say of a question's item, and what a leak aims at. In order: the search of items; users that are named; who the leak aims at;
-- what it aims at where there is a hit; the pen before the first row.
use mathlib.Core.Path.{◌≡◌, refl, sym, ap, ◌∙◌, subst}
use mathlib.Core.Bool.{true, not}
use mathlib.Core.List.{List, []}
use Prim.Native.Nat.{ℕ, ◌-◌, ◌≤◌, ◌<◌}
use native.Mathlib.Decide.{ℕ_discrete}
use native.Mathlib.Omega.{arith}
use borrow.Author.Tests.{eq-eqb}
use lib.ListN.{length, get_or}
use Rattle.lanes.specs.Lanes.{lane_of}
use Rattle.policy.specs.Policy.{Session}
use Rattle.policy.specs.Rules.{sessions_of, policy_of}
use Rattle.policy.specs.declared.Rules.{Rules}
use Rattle.lists.specs.Sound.{Sound, starting_session}
use Rattle.runs.specs.State.{opened}
use Rattle.runs.specs.Grant.{item, anything}
use Rattle.runs.specs.Reach.{Brought}
use Rattle.runs.specs.Outcome.{stop}
use Rattle.verdict.proofs.Below.{not-both}
use Rattle.allowed.specs.Allowed.{model_of}
use Rattle.allowed.proofs.ModelLaws.{model-user-count}
use Rattle.starting.specs.Start.{beginning}
use Rattle.starting.proofs.Beginning.{beginning-items, beginning-long, beginning-session}
use Rattle.replay.specs.Asked.{AsksWho, one-session, one-user, any-session, AsksItem, one-item, any-item}
use Rattle.replay.specs.Question.{who_of, which_of}
use Rattle.replay.specs.declared.question.Question.{Question}
use Rattle.search.specs.Sessions.{sessions_found}
use Rattle.search.specs.Items.{one_found, any_found}
use Rattle.search.specs.declared.queue.Found.{Found}
use Rattle.session_rows.specs.Writing.{writing_of}
use Rattle.leak.specs.Standing.{Stands, Ready, WhoAimed, Aimed}
use Rattle.user_results.specs.Found.{named}
use Rattle.session_rows.specs.declared.Pen.{Pen}
use Rattle.user_results.specs.Found.{user_found, UsersFound, any_has, Names}
use Rattle.goal.specs.Asked.{aim_of, PenReady}
use Rattle.decision.specs.Decide.{item_search, own_search}
use Rattle.analyser.proofs.Widths.{sessions-few, items-few, rules-sessions, rules-items, rules-items-long, rules-item}
use Rattle.user_results.proofs.UsersReach.{user-is, user-lane}
use Rattle.analyser.proofs.ItemsReach.{ItemSearch, one-search, any-search, good-as}
use Rattle.analyser.proofs.Hits.{Hit}
use Rattle.analyser.proofs.Asked.{Asks, session-found, who-found-session, who-found-user, who-found-any, item-found-one, item-found-any, held_of, owner_of, acts-session, acts-user, acts-any, aim-value, aim-permission, aim-items, stands-open, held-byte, below, few-users, tested}

named_some : (by : List ℕ) (v : ℕ) → named by v ≡ true → 0 < get_or by v 0
unfolding named
named_some by v t = go (ℕ_discrete (get_or by v 0) 0)
  where
    go : Dec (get_or by v 0 ≡ 0) → 0 < get_or by v 0
    go (yes e) = not-both (ap not (eq-eqb (get_or by v 0) 0 e)) t
    go (no d) = omega arith

module _ (r : Rules) (q : Question) (sound : Sound (policy_of r)) (users : List Found) (found : UsersFound (model_of (policy_of r)) users) where
  few-items : length (beginning (policy_of r)).items ≤ 32
  few-items = rw (beginning-items (policy_of r)) sound.items

  pub item-search : AsksItem (policy_of r) q.itemkind q.item (which_of q) → ItemSearch (model_of (policy_of r)) (beginning (policy_of r)) users (which_of q) (item_search r users q)
  item-search (one-item e h w) =
      let i : q.item < length (beginning (policy_of r)).items = rw (beginning-items (policy_of r)) h in
      let g : get_or (beginning (policy_of r)).items q.item 0 ≡ get_or r.items.values q.item 0 =
      ap (λ (l : List ℕ). get_or l q.item 0) (beginning-items (policy_of r)) ∙ rules-item r q.item h
      in
      let f : one_found (model_of (policy_of r)) (any_has users) q.item (get_or (beginning (policy_of r)).items q.item 0) ≡ item_search r users q =
      ap (one_found (model_of (policy_of r)) (any_has users) q.item) g ∙ sym (item-found-one r q (any_has users) e)
      in
      rw w
      (subst (ItemSearch (model_of (policy_of r)) (beginning (policy_of r)) users (item q.item)) f
      (one-search (model_of (policy_of r)) (beginning (policy_of r)) _ _ (below r q sound) (sessions-few (policy_of r) sound) (items-few (policy_of r) sound) (few-users r q sound) users found
      q.item i few-items))
  item-search (any-item e h w) =
      let d : q.itemkind ≡ 0 → ⊥ = λ n. omega arith in
      let f : any_found (model_of (policy_of r)) (any_has users) (beginning (policy_of r)).items ≡ item_search r users q =
      ap (any_found (model_of (policy_of r)) (any_has users)) (beginning-items (policy_of r) ∙ rules-items r) ∙ sym (item-found-any r q (any_has users) d)
      in
      rw w
      (subst (ItemSearch (model_of (policy_of r)) (beginning (policy_of r)) users anything) f
      (any-search (model_of (policy_of r)) (beginning (policy_of r)) _ _ (below r q sound) (sessions-few (policy_of r) sound) (items-few (policy_of r) sound) (few-users r q sound) users found
      few-items))

  module _ (by : List ℕ) (names : Names users by) where
    named-lane : (v : ℕ) → v < 256 → named by v ≡ true → (get_or by v 0 - 1 < (model_of (policy_of r)).users)
    named-lane v h t =
        let z = named_some by v t in
        (user-lane (model_of (policy_of r)) (beginning (policy_of r)) _ _ (below r q sound) (sessions-few (policy_of r) sound) (few-users r q sound) users found
        (get_or by v 0 - 1) v (omega (arith, z, names.few v h)) h (names.has v h t)).0

    user-of : (u : ℕ) → u < (model_of (policy_of r)).users → user_found users u ≡ sessions_found (model_of (policy_of r)) u
    user-of u h = user-is (model_of (policy_of r)) (beginning (policy_of r)) _ _ (below r q sound) (sessions-few (policy_of r) sound) (few-users r q sound) users found u h

    ready : Ready (model_of (policy_of r)) users by
    ready = record {
      users-searched = user-of;
      named-user = named-lane;
      named-reaches = λ v h t. sym (ap (λ (x : Found). lane_of x.seen v) (user-of (get_or by v 0 - 1) (named-lane v h t))) ∙ names.has v h t;
    }

    -- who is asked about can have the value
    who-aimed : AsksWho (policy_of r) q.whokind q.who (who_of q) → (v : ℕ) → v < 256 → tested r q sound users found v ≡ true
        → WhoAimed (model_of (policy_of r)) (beginning (policy_of r)) by (own_search r users q) (aim_of r.sessions r.items q v) (who_of q)
    who-aimed (one-session e h w) v l t =
        rw (w, aim-value r q v l) (
          (owner_of r q, acts-session r q v e, (held_of r q, stands-open r q sound h, held-byte r q sound h, session-found r q e)),
          sym (who-found-session r q users (any_has users) (own_search r users q) v e) ∙ t,
        )
    who-aimed (one-user e h w) v l t =
        let few : q.who < 16 = omega (arith, h, sound.users) in
        let i : q.who < (model_of (policy_of r)).users = omega (arith, h, model-user-count (policy_of r)) in
        rw (w, aim-value r q v l) (
          acts-user r q v e,
          i,
          sym (ap (λ (x : Found). lane_of x.seen v) (user-of q.who i)) ∙ sym (who-found-user r q users (any_has users) (own_search r users q) v e few) ∙ t,
        )
    who-aimed (any-session e h w) v l t =
        rw (w, aim-value r q v l)
        (acts-any r q v e, names.named-is v l ∙ sym (who-found-any r q users (any_has users) (own_search r users q) v e) ∙ t)

    -- what the analyser has found where there is a hit
    pub hit-aimed : Asks (policy_of r) q → Brought (model_of (policy_of r)) (beginning (policy_of r)) → (i v : ℕ)
        → Hit (model_of (policy_of r)) q.permission (tested r q sound users found) (item_search r users q) i v
        → Aimed (model_of (policy_of r)) (beginning (policy_of r)) users by (item_search r users q) i (own_search r users q) (aim_of r.sessions r.items q v) (who_of q) (which_of q)
    hit-aimed a b i v h =
        let I = item-search a.item in
        record {
          brought = b;
          ready = ready;
          searched = good-as (model_of (policy_of r)) (any_has users) (named by) (beginning (policy_of r)).items (item_search r users q) (λ v l. sym (names.named-is v l)) I.good;
          place = h.place;
          value = omega (arith, aim-value r q v h.byte, h.byte);
          permission = omega (arith, aim-permission r q v, a.permission, sound.permissions);
          items = aim-items r q v ∙ sym (ap length (beginning-items (policy_of r)) ∙ rules-items-long r);
          few-items = few-items;
          few-sessions = omega (arith, beginning-long (policy_of r), sound.sessions);
          few-users = few-users r q sound;
          who-aimed = who-aimed a.who v h.byte h.asked;
          which-aimed = I.aimed i h.place;
          granted = rw (aim-permission r q v, aim-value r q v h.byte) h.granted;
        }

  -- the pen before the first row
  pub pen-stands : (pen : Pen) → PenReady (sessions_of r.sessions) pen → Stands (model_of (policy_of r)) (beginning (policy_of r)) (writing_of pen []) (beginning (policy_of r))
  unfolding starting_session
  pen-stands pen P =
      let long : length (beginning (policy_of r)).sessions ≡ length (sessions_of r.sessions) = beginning-long (policy_of r) ∙ ap length (rules-sessions r) in
      record {
        carried = rw P.at stop;
        plain = rw P.at refl;
        next = P.next ∙ sym long;
        few = omega (arith, P.next, long);
        sized = P.sized;
        standing = λ v j h e.
            let (l, s) = P.standing v j h e in
            let i : j < length (policy_of r).sessions = rw (rules-sessions r) l in
            beginning-session (policy_of r) j i
            ∙ ap (λ (t : Session). opened t.user t.value) (ap (λ (l : List Session). get_or l j record { user = 0; value = 0 }) (rules-sessions r) ∙ s);
      }
