-- Starting sessions that their users could have brought about: computed, and of runs of the file without its starting sessions.
-- In order: that file; what its runs have open; all starting sessions; one that could not.
use mathlib.Core.Path.{◌≡◌, refl, sym, ap, ◌∙◌, subst}
use mathlib.Core.Bool.{true, false}
use mathlib.Core.Logic.{◌↔◌}
use mathlib.Core.List.{[]}
use Prim.Native.Nat.{ℕ, ◌<◌}
use native.Mathlib.Omega.{arith}
use lib.ListN.{length}
use Rattle.policy.specs.Policy.{Policy}
use Rattle.lists.specs.Sound.{Sound, starting_session}
use Rattle.runs.specs.State.{opened, begin, session_at}
use Rattle.runs.specs.Reach.{Reach, Brought}
use Rattle.runs.proofs.Laws.{open-inside}
use Rattle.runs.proofs.Theorems.{could-is-reach}
use Rattle.verdict.proofs.Decided.{unbrought-is}
use Rattle.verdict.proofs.Theorems.{brought-is-computed}
use Rattle.allowed.specs.Allowed.{model_of}
use Rattle.allowed.proofs.ModelLaws.{model-same}
use Rattle.starting.specs.Start.{beginning}
use Rattle.starting.proofs.Beginning.{beginning-is, beginning-items, beginning-long, beginning-session}
use Rattle.analyser.specs.Answer.{session_values, item_values, starts_brought}
use Rattle.analyser.specs.Never.{without_sessions, CouldBring, StartCould, StartCouldNot}
use Rattle.analyser.proofs.Widths.{beginning-below}

module _ (p : Policy) where
  without-model : model_of (without_sessions p) ≡ model_of p
  unfolding without_sessions
  without-model = model-same (without_sessions p) p refl refl refl refl

  without-start : beginning (without_sessions p) ≡ begin [] (beginning p).items
  unfolding without_sessions
  without-start = beginning-is (without_sessions p) ∙ ap (begin []) (sym (beginning-items p))

  could-reach : (u v : ℕ) → CouldBring p u v ↔ Reach (model_of p) u v
  could-reach u v = rw (without-model, without-start) (could-is-reach (model_of p) (beginning p).items u v)

  -- starting session number k, where it is open as a session of user u with value v
  starts-as : (k u v : ℕ) → session_at (beginning p) k ≡ opened u v → (k < length p.sessions) × ((starting_session p k).user ≡ u) × ((starting_session p k).value ≡ v)
  starts-as k u v e =
      let h : k < length p.sessions = omega (arith, open-inside (beginning p) k u v e, beginning-long p) in
      let x : opened (starting_session p k).user (starting_session p k).value ≡ opened u v = sym (beginning-session p k h) ∙ e in
      (h, cc, cc)

  module _ (sound : Sound p) where
    pub brought-of : starts_brought p ≡ true → Brought (model_of p) (beginning p)
    unfolding starts_brought
    brought-of t = (brought-is-computed (model_of p) (beginning p) (session_values p) (item_values p) (beginning-below p sound)).0 t

    of-brought : Brought (model_of p) (beginning p) → starts_brought p ≡ true
    unfolding starts_brought
    of-brought b = (brought-is-computed (model_of p) (beginning p) (session_values p) (item_values p) (beginning-below p sound)).1 b

    pub starts-could : (starts_brought p ≡ true) ↔ StartCould p
    starts-could = (
      λ t k h. (could-reach _ _).1 (brought-of t k _ _ (beginning-session p k h)),
      λ c. of-brought λ k u v e.
          let (h, x, y) = starts-as k u v e in
          subst (λ (a : ℕ). Reach (model_of p) a v) x (subst (Reach (model_of p) (starting_session p k).user) y ((could-reach _ _).0 (c k h))),
    )

    pub one-could-not : starts_brought p ≡ false → StartCouldNot p
    unfolding starts_brought
    one-could-not t =
        let (k, u, v, e, n) = unbrought-is (model_of p) (beginning p) (session_values p) (item_values p) (beginning-below p sound) t in
        let (h, x, y) = starts-as k u v e in
        (k, h, λ c. n (subst (λ (a : ℕ). Reach (model_of p) a v) x (subst (Reach (model_of p) (starting_session p k).user) y ((could-reach _ _).0 c))))

    pub not-all : StartCouldNot p → starts_brought p ≡ true → ⊥
    not-all (k, h, n) t = n (starts-could.0 t k h)
