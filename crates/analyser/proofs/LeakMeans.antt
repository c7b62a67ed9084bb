-- The rows that are left where there is a hit are a leak of the run, and few. In order: the starting sessions; where the hit is; the rows.
use mathlib.Core.Path.{◌≡◌, refl, sym, ap, ◌∙◌, subst}
use mathlib.Core.Bool.{true}
use mathlib.Core.List.{List, []}
use Prim.Native.Nat.{ℕ, ◌≤◌, ◌<◌}
use native.Mathlib.Omega.{arith}
use lib.Dec.{ltb}
use lib.ListN.{length, take}
use lib.Seq.{length-take-le}
use Rattle.policy.specs.Rules.{sessions_of, policy_of}
use Rattle.policy.specs.declared.Rules.{Rules}
use Rattle.lists.specs.Sound.{Sound, starting_session}
use Rattle.lists.proofs.Laws.{listed-byte}
use Rattle.runs.specs.Reach.{Brought}
use Rattle.verdict.specs.Verdict.{all_brought, leaks}
use Rattle.allowed.specs.Allowed.{model_of}
use Rattle.allowed.proofs.ModelLaws.{model-user-count}
use Rattle.starting.specs.Start.{beginning}
use Rattle.starting.proofs.Beginning.{beginning-sessions}
use Rattle.cells.specs.Leak.{IsLeak}
use Rattle.replay.specs.Question.{who_of, which_of}
use Rattle.replay.specs.declared.question.Question.{Question}
use Rattle.search.specs.declared.queue.Found.{Found}
use Rattle.session_rows.specs.Writing.{writing_of}
use Rattle.leak.proofs.Theorems.{leak-is-written}
use Rattle.analyser.specs.Answer.{session_values, item_values, rows_needed, starts_brought}
use Rattle.user_results.specs.Found.{UsersFound, all_found}
use Rattle.goal.specs.Asked.{aim_of}
use Rattle.decision.specs.Decide.{item_search, own_search, leak_place, leak_value, LeakLeft}
use Rattle.analyser.specs.Checks.{starts_found}
use Rattle.analyser.proofs.Widths.{needed-is, sessions-few, items-few}
use Rattle.analyser.proofs.Starts.{brought-of}
use Rattle.user_results.proofs.UsersReach.{all-agree}
use Rattle.analyser.proofs.Hits.{Hit, hit-here, hits-agree}
use Rattle.analyser.proofs.Asked.{Asks, asked-which, aim-permission, below, few-users, tested, who-tests}
use Rattle.analyser.proofs.Aims.{item-search, hit-aimed, pen-stands}

module _ (r : Rules) (q : Question) (sound : Sound (policy_of r)) (users : List Found) (found : UsersFound (model_of (policy_of r)) users) where
  found-agree : all_found users (sessions_of r.sessions) ≡ all_brought (model_of (policy_of r)) (session_values (policy_of r)) (beginning (policy_of r)).sessions
  unfolding policy_of starting_session
  found-agree =
      all-agree (model_of (policy_of r)) (beginning (policy_of r)) _ _ (below r q sound) (sessions-few (policy_of r) sound) (few-users r q sound) users found (sessions_of r.sessions)
      (λ j h. (
        omega (arith, model-user-count (policy_of r), sound.session-user j h),
        listed-byte (policy_of r).lists.of_session (starting_session (policy_of r) j).value (sound.session-value j h),
      ))
      ∙ ap (all_brought (model_of (policy_of r)) (session_values (policy_of r))) (sym (beginning-sessions (policy_of r)))

  -- the starting sessions were all found exactly where they could have been brought about
  pub all-found-agree : starts_found r users ≡ starts_brought (policy_of r)
  unfolding starts_brought
  all-found-agree = found-agree

  pub all-brought : starts_found r users ≡ true → Brought (model_of (policy_of r)) (beginning (policy_of r))
  all-brought t = brought-of (policy_of r) sound (sym all-found-agree ∙ t)

  leak-hit : leak_place r users q < 256
      → Hit (model_of (policy_of r)) q.permission (tested r q sound users found) (item_search r users q) (leak_place r users q) (leak_value r users q)
  unfolding leak_place leak_value
  leak-hit h = hit-here (model_of (policy_of r)) q.permission (tested r q sound users found) (item_search r users q) h

  module _ (asked : Asks (policy_of r) q) (brought : Brought (model_of (policy_of r)) (beginning (policy_of r))) where
    -- the verdict
    pub place-agrees : ltb (leak_place r users q) 256
        ≡ leaks (model_of (policy_of r)) (beginning (policy_of r)) (session_values (policy_of r)) (item_values (policy_of r)) (who_of q) (which_of q) q.permission
    unfolding leak_place
    place-agrees =
        hits-agree (model_of (policy_of r)) (beginning (policy_of r)) _ _ (below r q sound) (sessions-few (policy_of r) sound) (items-few (policy_of r) sound) users brought (who_of q)
        (tested r q sound users found) (who-tests r q sound users found asked.who) (which_of q) (asked-which (policy_of r) q asked.item) (item_search r users q)
        (item-search r q sound users found asked.item) q.permission

    -- what is written is a leak, and short
    pub left-leaks : (before after : List ℕ) (n : ℕ) → rows_needed (policy_of r) ≤ length before → leak_place r users q < 256 → LeakLeft r users q before after n
        → IsLeak (model_of (policy_of r)) (beginning (policy_of r)) (who_of q) (which_of q) q.permission (take n after) × (n ≤ rows_needed (policy_of r))
    left-leaks before after n room h L =
        let e = needed-is (policy_of r) in
        let (x, y) =
        leak-is-written (model_of (policy_of r)) (beginning (policy_of r)) (session_values (policy_of r)) (item_values (policy_of r)) (length before) (below r q sound)
        (sessions-few (policy_of r) sound) (items-few (policy_of r) sound) (omega (arith, e, room)) users L.by (item_search r users q) (leak_place r users q)
        (own_search r users q) (aim_of r.sessions r.items q (leak_value r users q)) (who_of q) (which_of q)
        (hit-aimed r q sound users found L.by L.names asked brought (leak_place r users q) (leak_value r users q) (leak-hit h)) (writing_of L.pen [])
        (rw L.ready.at refl) (pen-stands r q sound users found L.pen L.ready)
        in
        let long : length (take n after) ≡ n = length-take-le n after L.inside in
        let front = ap length L.front in (
          subst (λ (k : ℕ). IsLeak (model_of (policy_of r)) (beginning (policy_of r)) (who_of q) (which_of q) k (take n after)) (aim-permission r q (leak_value r users q))
              (subst (IsLeak (model_of (policy_of r)) (beginning (policy_of r)) (who_of q) (which_of q) (aim_of r.sessions r.items q (leak_value r users q)).permission) (sym L.front) x),
          omega (arith, e, y, long, front),
        )
