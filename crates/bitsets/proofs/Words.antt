-- Laws of rows by their four words. In order: four words stored, a bit of a word.
use mathlib.Core.Path.{◌≡◌, refl, sym, ap, ◌∙◌}
use mathlib.Core.List.{List}
use mathlib.Core.Logic.{◌⊎◌, inl, inr}
use Prim.Native.Nat.{ℕ, ◌+◌, ◌*◌, ◌/◌, ◌%◌, ◌≤◌, ◌<◌}
use native.Mathlib.Decide.{ℕ_discrete, dec_lt}
use native.Mathlib.Omega.{arith}
use lib.ListN.{get_or}
use Rattle.lanes.specs.Lanes.{bit_of, lane_of}
use Rattle.bitsets.specs.Rows.{bit_at, Rows, put}
use Rattle.bitsets.proofs.Rows.{put_same, put_other}

-- the four words of x are those of row k, and all other words are as before
pub rows-stored : (t new x : List ℕ) (k : ℕ) → ((q : ℕ) → q < 4 → get_or new (4 * k + q) 0 ≡ get_or x q 0)
    → ((p : ℕ) → (p < 4 * k) ⊎ (4 * k + 4 ≤ p) → get_or new p 0 ≡ get_or t p 0) → Rows (put k (lane_of x) (bit_at t)) new
unfolding bit_at lane_of
rows-stored t new x k own other = record { each = λ a v l. go a v l (ℕ_discrete a k) }
  where
    go : (a v : ℕ) → v < 256 → Dec (a ≡ k) → bit_at new a v ≡ put k (lane_of x) (bit_at t) a v
    go a v l (yes e) =
        ap (λ (b : ℕ). bit_at new b v) e ∙ ap (λ (z : ℕ). bit_of z (v % 64)) (own (v / 64) (omega arith))
        ∙ sym (put_same k (lane_of x) (bit_at t) v) ∙ ap (λ (b : ℕ). put k (lane_of x) (bit_at t) b v) (sym e)
    go a v l (no n) =
        ap (λ (z : ℕ). bit_of z (v % 64)) (other (4 * a + v / 64) (off (4 * a + v / 64) (λ g h. n (omega arith))))
        ∙ sym (put_other k (lane_of x) (bit_at t) a v n)
      where
        off : (p : ℕ) → (4 * k ≤ p → p < 4 * k + 4 → ⊥) → (p < 4 * k) ⊎ (4 * k + 4 ≤ p)
        off p f = elim (dec_lt p (4 * k)) [ yes g ↦ inl g | no g ↦ inr (elim (dec_lt p (4 * k + 4)) [ yes h ↦ absurd (f (omega arith) h) | no h ↦ omega arith ]) ]

-- bit j of word w of a row
pub bit_is : (t : List ℕ) (a w j : ℕ) → j < 64 → bit_of (get_or t (4 * a + w) 0) j ≡ bit_at t a (64 * w + j)
unfolding bit_at
bit_is t a w j h =
    let e : (64 * w + j) / 64 ≡ w = omega arith in
    let d : (64 * w + j) % 64 ≡ j = omega arith in
    rw (e, d) refl
