-- Packed values of a holder that a formula cannot tell apart.
-- Assumes nothing.
use Rattle.std.specs.Prelude.{◌≡◌, true, cond, List, ℕ, ◌≤◌, ◌<◌, eqb}
use Rattle.lanes.specs.Lanes.{lane_of}
use Rattle.policy.specs.Policy.{Lists}
use Rattle.formulas.specs.Meaning.{holds}
use Rattle.dependence.specs.Answers.{holders_of}

module _ (c : Lists) (nodes : List ℕ) (h : ℕ) where
  -- whatever values the other holders have, the formula says of v as the value of holder h what it says of w
  abbrev pub Same : ℕ → ℕ → Type 0
  Same v w = (f : ℕ → ℕ) → holds c (holders_of (λ g. cond (eqb g h) v (f g))) nodes ≡ holds c (holders_of (λ g. cond (eqb g h) w (f g))) nodes

  -- r has some of the values of `among`, and for each of them the same or a later one that the formula cannot tell from it
  pub record OneOfEach (among r : List ℕ) : Type 0 where
    pub inside : (v : ℕ) → v < 256 → lane_of r v ≡ true → lane_of among v ≡ true
    pub later : (w : ℕ) → w < 256 → lane_of among w ≡ true → (v : ℕ) × (v < 256) × (w ≤ v) × (lane_of r v ≡ true) × Same v w
