-- A part of a list after it was lent and changed. In order: its length, a place before the part, a place of the part; the nodes of a formula there.
use mathlib.Core.Path.{◌≡◌, ap, sym, ◌∙◌}
use mathlib.Core.List.{List}
use Prim.Native.Nat.{ℕ, ◌+◌, ◌*◌, ◌≤◌, ◌<◌}
use native.Mathlib.Omega.{arith}
use borrow.Author.Rules.{rules}
use borrow.Rule.Slice.PartMut.{put_mid}
use lib.ListN.{length, length-append, length-take, length-drop, get_or}
use lib.Seq.{ext_get_or}
use Rattle.std.proofs.lemmas.List.{places}
use Rattle.bits.proofs.Packed.{get_or-tab}
use Rattle.policy.specs.Rules.{nodes_of}
use Rattle.policy.proofs.Laws.{nodes-length}

module _ (xs ys : List ℕ) (a k : ℕ) (room : a + k ≤ length xs) (long : length ys ≡ k) where
  pub placed-length : length (put_mid a k xs ys) ≡ length xs
  placed-length = simp (length-append, length-take, length-drop) (omega arith)

  pub placed-below : (j : ℕ) → j < a → get_or (put_mid a k xs ys) j 0 ≡ get_or xs j 0
  placed-below j h = search (rules, places)

  pub placed-at : (j : ℕ) → j < k → get_or (put_mid a k xs ys) (a + j) 0 ≡ get_or ys j 0
  placed-at j h = search (rules, places)

-- the nodes of formula f are those that its places were given
pub placed_nodes : (xs ys : List ℕ) (f k : ℕ) → 64 * f + k ≤ length xs → length ys ≡ k → nodes_of (put_mid (64 * f) k xs ys) f k ≡ ys
unfolding nodes_of
placed_nodes xs ys f k room long =
    ext_get_or 0 _ ys (nodes-length _ f k ∙ sym long) (λ i h. let j : i < k = omega (arith, nodes-length (put_mid (64 * f) k xs ys) f k) in get_or-tab _ 0 k i 0 j ∙ ap (λ (z : ℕ). get_or (put_mid (64 * f) k xs ys) (64 * f + z) 0) (omega arith) ∙ placed-at xs ys (64 * f) k room long i j)
