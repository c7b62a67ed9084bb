-- Laws of a file's rules, for the theory of answers. In order: the rows that widths need; how many values there are and what rows they need,
-- and that the values of a file are below these; rules in memory.
use mathlib.Core.Path.{◌≡◌, refl, sym, ap, ◌∙◌}
use mathlib.Core.Bool.{Bool, cond}
use Prim.Native.Nat.{ℕ, ◌+◌, ◌*◌, ◌^◌, ◌≤◌, ◌<◌}
use native.Mathlib.Nat.{mul-le-mul_right}
use native.Mathlib.Omega.{arith}
use borrow.Author.Tests.{lt-ltb, le-ltb}
use lib.Dec.{ltb}
use lib.ListN.{length, get_or}
use lib.Pow.{pow_mono}
use Rattle.bits.proofs.Packed.{get_or-tab}
use Rattle.policy.specs.Policy.{Policy, width}
use Rattle.policy.specs.Rules.{attrs_of, lists_of, session_at as starting_at, sessions_of, values_of, policy_of}
use Rattle.policy.specs.declared.Rules.{Rules}
use Rattle.policy.proofs.Laws.{values_length, sessions-at, sessions-length}
use Rattle.lists.proofs.Narrow.{listed-narrow}
use Rattle.lists.specs.Sound.{Sound, starting_session}
use Rattle.runs.specs.Outcome.{Below}
use Rattle.allowed.specs.Allowed.{model_of}
use Rattle.allowed.proofs.ModelLaws.{model-session-listed, model-item-listed}
use Rattle.starting.specs.Start.{beginning}
use Rattle.starting.proofs.Beginning.{beginning-item, beginning-items}
use Rattle.analyser.specs.Answer.{session_values, item_values, rows_needed}
use Rattle.analyser.specs.Checks.{rows_for}

module _ (s o : ℕ) where
  pub rows-session : 8 < s → 0 ≡ rows_for s o
  unfolding rows_for
  rows-session h = simp (lt-ltb 8 s h)

  pub rows-item : s ≤ 8 → 8 < o → 0 ≡ rows_for s o
  unfolding rows_for
  rows-item h l = simp (le-ltb 8 s h, lt-ltb 8 o l)

  pub rows_are : s ≤ 8 → o ≤ 8 → 2 ^ s + 2 ^ o * (2 ^ s + 1) + 1 ≡ rows_for s o
  unfolding rows_for
  rows_are h l = simp (le-ltb 8 s h, le-ltb 8 o l)

module _ (p : Policy) where
  pub needed-is : rows_needed p ≡ session_values p + item_values p * (session_values p + 1) + 1
  unfolding rows_needed
  needed-is = refl

module _ (p : Policy) (sound : Sound p) where
  pub sessions-few : session_values p ≤ 256
  unfolding session_values
  sessions-few = let m : 2 ^ width p.lists.of_session ≤ 2 ^ 8 = pow_mono sound.session-width in omega arith

  pub items-few : item_values p ≤ 256
  unfolding item_values
  items-few = let m : 2 ^ width p.lists.of_item ≤ 2 ^ 8 = pow_mono sound.item-width in omega arith

  pub rows-bounded : rows_needed p ≤ 66049
  rows-bounded =
      let n = session_values p in
      let m : item_values p * (n + 1) ≤ 256 * (n + 1) = mul-le-mul_right (n + 1) items-few in
      omega (arith, needed-is p, m, sessions-few)

  -- values of a file are below the numbers that rows are reckoned by
  pub beginning-below : Below (model_of p) (beginning p) (session_values p) (item_values p)
  unfolding session_values item_values
  beginning-below = record {
    sessions = λ v e. listed-narrow p.lists.of_session v (sym (model-session-listed p v) ∙ e);
    items = λ o e. listed-narrow p.lists.of_item o (sym (model-item-listed p o) ∙ e);
    starting =
        λ j h.
        rw (beginning-item p j)
        (listed-narrow p.lists.of_item (get_or p.items j 0) (sound.item-value j (omega (arith, h, ap length (beginning-items p)))));
  }

module _ (r : Rules) where
  pub rules-sessions : (policy_of r).sessions ≡ sessions_of r.sessions
  unfolding policy_of
  rules-sessions = refl

  pub rules-items : (policy_of r).items ≡ values_of r.items
  unfolding policy_of
  rules-items = refl

  pub rules-items-long : length (policy_of r).items ≡ r.items.count
  unfolding policy_of
  rules-items-long = values_length r.items

  pub rules-session : (k : ℕ) → k < length (policy_of r).sessions → starting_session (policy_of r) k ≡ starting_at r.sessions k
  unfolding policy_of starting_session
  rules-session k h = sessions-at r.sessions k _ (omega (arith, h, sessions-length r.sessions))

  pub rules-item : (k : ℕ) → k < length (policy_of r).items → get_or (policy_of r).items k 0 ≡ get_or r.items.values k 0
  unfolding policy_of values_of
  rules-item k h =
      get_or-tab (λ k. get_or r.items.values k 0) 0 r.items.count k 0 (omega (arith, h, values_length r.items))
      ∙ ap (λ (k : ℕ). get_or r.items.values k 0) (let z : 0 + k ≡ k = omega arith in z)

  pub rows_for-is : Sound (policy_of r) → rows_for (width (attrs_of r.classes.session)) (width (attrs_of r.classes.item)) ≡ rows_needed (policy_of r)
  unfolding rows_for rows_needed session_values item_values policy_of lists_of
  rows_for-is sound =
      let s = width (attrs_of r.classes.session) in
      let o = width (attrs_of r.classes.item) in
      let n = 2 ^ s + 2 ^ o * (2 ^ s + 1) + 1 in
      ap (λ (b : Bool). cond b 0 (cond (ltb 8 o) 0 n)) (le-ltb 8 s sound.session-width) ∙ ap (λ (b : Bool). cond b 0 n) (le-ltb 8 o sound.item-width)
