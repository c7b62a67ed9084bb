-- What the rows are to be before the steps of a level. In order: where the rows stand; what they say; where they stand on the three boards.
use mathlib.Core.Path.{◌≡◌}
use mathlib.Core.Bool.{Bool, true, false}
use mathlib.Core.List.{List}
use mathlib.Core.Logic.{◌⊎◌, inl, inr}
use Prim.Native.Nat.{ℕ, ◌+◌, ◌≤◌, ◌<◌}
use native.Mathlib.Omega.{arith}
use lib.ListN.{get_or}
use Rattle.policy.specs.Policy.{Lists}
use Rattle.policy.specs.Nodes.{op_of, first_of, second_of}
use Rattle.formulas.specs.declared.Holders.{Holders}
use Rattle.dependence.specs.Answers.{answer, leaf_of}

-- the rows of n nodes from `own` on, those that they are told by, from `from` on, and their tables, from `base k` on: where an index i decides
pub record Places (n i own from : ℕ) (base : ℕ → ℕ) : Type 0 where
  pub few : n ≤ 64
  pub index : i < 256
  pub low : 0 < own
  pub own-few : own + 64 ≤ 65536
  pub from-few : from + 64 ≤ 65536
  pub base-few : (k : ℕ) → k < n → base k < 65536
  pub apart_from : (j k : ℕ) → j < n → k < n → from + j ≡ own + k → ⊥
  pub apart-base : (k : ℕ) → k < n → own + n ≤ base k

-- the rows A before the steps of the chosen nodes, so that afterwards the rows of the nodes that are wanted say in each bit v what the nodes say of the
-- holders H v
pub record Start (c : Lists) (nodes : List ℕ) (n : ℕ) (H : ℕ → Holders) (i own from : ℕ) (chosen differ indexed wanted : ℕ → Bool) (base : ℕ → ℕ) (A : ℕ → ℕ → Bool) : Type 0 where
  pub places : Places n i own from base
  pub none : (v : ℕ) → v < 256 → A 0 v ≡ false
  pub told : (k v : ℕ) → k < n → v < 256 → chosen k ≡ true → differ k ≡ false → A (from + k) i ≡ answer c nodes (H v) k
  pub taken : (k v : ℕ) → k < n → v < 256 → chosen k ≡ true → differ k ≡ true → 5 ≤ op_of (get_or nodes k 0) → indexed k ≡ true → A (base k + i) v ≡ leaf_of c nodes (H v) k
  pub copied : (k v : ℕ) → k < n → v < 256 → chosen k ≡ true → differ k ≡ true → 5 ≤ op_of (get_or nodes k 0) → indexed k ≡ false → A (base k) v ≡ leaf_of c nodes (H v) k
  pub first : (k : ℕ) → k < n → chosen k ≡ true → differ k ≡ true → 2 ≤ op_of (get_or nodes k 0) → op_of (get_or nodes k 0) < 5 → first_of (get_or nodes k 0) < k → wanted (first_of (get_or nodes k 0)) ≡ true
  pub second : (k : ℕ) → k < n → chosen k ≡ true → differ k ≡ true → 3 ≤ op_of (get_or nodes k 0) → op_of (get_or nodes k 0) < 5 → second_of (get_or nodes k 0) < k → wanted (second_of (get_or nodes k 0)) ≡ true
  pub kept : (k v : ℕ) → k < n → v < 256 → wanted k ≡ true → chosen k ≡ false → A (own + k) v ≡ answer c nodes (H v) k

-- the boards are apart, and the tables stand past them
pub places_of : (n i own from : ℕ) (base : ℕ → ℕ) → n ≤ 64 → i < 256 → 0 < own → own + 64 ≤ 193 → from + 64 ≤ 193 → (own + 64 ≤ from) ⊎ (from + 64 ≤ own)
    → ((k : ℕ) → k < n → (193 ≤ base k) × (base k < 65536)) → Places n i own from base
places_of n i own from base few index low a b apart past =
    record {
      few = few;
      index = index;
      low = low;
      own-few = omega arith;
      from-few = omega arith;
      base-few = λ k l. (past k l).1;
      apart_from = λ j k l m e. elim apart [ inl x ↦ omega arith | inr x ↦ omega arith ];
      apart-base = λ k l. omega (arith, (past k l).0);
    }
