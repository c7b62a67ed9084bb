-- By item values: of those that aren't found yet, the ones that sessions may make are brought in as starts.
-- In order: who may make a value; all that sessions may make is brought in.
use mathlib.Core.Path.{◌≡◌, refl, sym, ◌∙◌}
use mathlib.Core.Bool.{Bool, true, false, ◌&&◌, and-true}
use mathlib.Core.Logic.{⊎_elim}
use Prim.Native.Nat.{ℕ, ◌<◌}
use native.Mathlib.Omega.{arith}
use borrow.Author.Tests.{ltb-true, lt-ltb}
use lib.Dec.{ltb}
use Rattle.lanes.specs.Lanes.{lane_of, last_below}
use Rattle.lanes.proofs.Laws.{lt-or-ge, last-here, last_off}
use Rattle.runs.specs.Model.{Model}
use Rattle.runs.specs.Edge.{makes_with}
use Rattle.verdict.proofs.Below.{not-both, both, both_of}
use Rattle.verdict.proofs.Decided.{makes-with}
use Rattle.search.specs.Queue.{unmet}
use Rattle.search.specs.Items.{last_maker, asked}
use Rattle.search.specs.Searched.{Good}
use Rattle.search.specs.declared.queue.Found.{Found}
use Rattle.search.proofs.Turns.{unmet-new, unmet-known, last-maker-is, asked-none, asked-turn}
use Rattle.search.proofs.Pushing.{Comes, start}
use Rattle.search.proofs.Spreading.{Brings, each-brings}

module _ (m : Model) (ready : ℕ → Bool) where
  -- a session with value v can be had, and may make an item with value n
  abbrev pub May : ℕ → ℕ → Type 0
  May n v = (v < 256) × (ready v ≡ true) × (m.session_value v ≡ true) × (makes_with m v n ≡ true)

  abbrev maker : ℕ → ℕ → Bool
  maker n v = ready v && (m.session_value v && makes_with m v n)

  abbrev last : ℕ → ℕ
  last n = last_maker m ready n

  last-may : (n : ℕ) → last n < 256 → May n (last n)
  last-may n h =
      let k : last_below (maker n) 256 < 256 = rw (last-maker-is m ready n) at h in
      let v = last_below (maker n) 256 in
      let (a, b) = both_of (ready v) (m.session_value v && makes_with m v n) (last-here (maker n) 256 (omega arith) k).1 in
      let (c, d) = both_of (m.session_value v) (makes_with m v n) b in
      rw (last-maker-is m ready n) (k, a, c, d)

  may-last : (n v : ℕ) → May n v → last n < 256
  may-last n v (h, a, b, c) =
      let t : maker n v ≡ true = both (ready v) (m.session_value v && makes_with m v n) a (both (m.session_value v) (makes_with m v n) b c) in
      rw (last-maker-is m ready n) (⊎_elim (λ l. l) (λ g. not-both (last_off (maker n) 256 (omega arith) g v h) t) (lt-or-ge (last_below (maker n) 256) 256))

  -- all that sessions may make, where what they may make is a start
  pub asked-brings : (S : ℕ → ℕ → Type 0) (E : ℕ → ℕ → ℕ → Type 0) (q : Found) → Good S E q → ((n v : ℕ) → May n v → S v n)
      → Brings S E q (λ n. (v : ℕ) × May n v) (asked m ready q 256)
  asked-brings S E q G c =
      each-brings S E (λ n. (v : ℕ) × May n v) q 0 last (λ n. unmet m.item_value q n && ltb (last n) 256) G new old (asked m ready q) (asked-none m ready q)
      (asked-turn m ready q)
    where
      new : (n : ℕ) → n < 256 → unmet m.item_value q n && ltb (last n) 256 ≡ true → (lane_of q.seen n ≡ false) × Comes S E q 0 (last n) n
      new n h e =
          let (a, b) = both_of (unmet m.item_value q n) (ltb (last n) 256) e in
          ((unmet-new m.item_value q n a).1, start refl (c n (last n) (last-may n (ltb-true (last n) 256 b))))

      old : (n : ℕ) → n < 256 → unmet m.item_value q n && ltb (last n) 256 ≡ false → (v : ℕ) × May n v → lane_of q.seen n ≡ true
      old n h e (v, p) =
          let c : unmet m.item_value q n && true ≡ false = rw (lt-ltb (last n) 256 (may-last n v p)) at e in
          unmet-known m.item_value q n (sym (and-true (unmet m.item_value q n)) ∙ c) ((makes-with m v n).0 p.3).0
