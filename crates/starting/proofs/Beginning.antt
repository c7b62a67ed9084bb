-- Laws of the state that a run begins with. In order: what it is; its items; its sessions.
use mathlib.Core.Path.{◌≡◌, refl, ap, ◌∙◌}
use mathlib.Core.List.{List, [], ◌∷◌, map}
use Prim.Native.Nat.{ℕ, zero, suc, ◌≤◌, ◌<◌}
use native.Mathlib.Omega.{arith}
use lib.ListN.{length, get_or, length-map, get_or-eq_default}
use Rattle.policy.specs.Policy.{Session, Policy}
use Rattle.lists.specs.Sound.{starting_session}
use Rattle.runs.specs.State.{closed, opened, begin, session_at, item_at}
use Rattle.allowed.specs.Claims.{unlisted_policy}
use Rattle.starting.specs.Start.{beginning}

pub map_at : {A B : Type 0} (f : A → B) (l : List A) (d : A) (e : B) (k : ℕ) → k < length l → get_or (map f l) k e ≡ f (get_or l k d)
map_at f [] d e k h = absurd (omega arith)
map_at f (x ∷ l) d e zero h = refl
map_at f (x ∷ l) d e (suc k) h = map_at f l d e k (omega arith)

module _ (p : Policy) where
  pub beginning-is : beginning p ≡ begin (map (λ (t : Session). (t.user, t.value)) p.sessions) p.items
  unfolding beginning
  beginning-is = refl

  -- it has nothing of the attributes
  pub beginning-unlisted : beginning (unlisted_policy p) ≡ beginning p
  unfolding beginning
  beginning-unlisted = refl

  pub beginning-items : (beginning p).items ≡ p.items
  unfolding beginning begin
  beginning-items = refl

  pub beginning-item : (j : ℕ) → item_at (beginning p) j ≡ get_or p.items j 0
  unfolding beginning begin item_at
  beginning-item j = refl

  pub beginning-sessions : (beginning p).sessions ≡ map (λ (x : ℕ × ℕ). opened x.0 x.1) (map (λ (t : Session). (t.user, t.value)) p.sessions)
  unfolding beginning begin
  beginning-sessions = refl

  pub beginning-long : length (beginning p).sessions ≡ length p.sessions
  beginning-long = let pair : Session → ℕ × ℕ = λ t. (t.user, t.value) in ap length beginning-sessions ∙ length-map (map pair p.sessions) (λ (x : ℕ × ℕ). opened x.0 x.1) ∙ length-map p.sessions pair

  -- a starting session stands open
  pub beginning-session : (k : ℕ) → k < length p.sessions → session_at (beginning p) k ≡ opened (starting_session p k).user (starting_session p k).value
  unfolding beginning begin session_at starting_session
  beginning-session k h =
      let pair : Session → ℕ × ℕ = λ t. (t.user, t.value) in
      let pairs = map pair p.sessions in
      let m : length pairs ≡ length p.sessions = length-map p.sessions pair in
      map_at (λ (x : ℕ × ℕ). opened x.0 x.1) pairs (0, 0) closed k (omega (arith, h, m))
      ∙ ap (λ (x : ℕ × ℕ). opened x.0 x.1) (map_at pair p.sessions record { user = 0; value = 0 } (0, 0) k h)

  -- no other does
  pub beginning-past : (k : ℕ) → length p.sessions ≤ k → session_at (beginning p) k ≡ closed
  unfolding session_at
  beginning-past k h = get_or-eq_default (beginning p).sessions closed {n = k} (omega (arith, beginning-long))
