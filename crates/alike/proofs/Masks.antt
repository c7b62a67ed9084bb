-- Laws of values that agree in the bits of a mask. In order: masks with more bits; the mask of a field; those of a node; one node more.
use mathlib.Core.Path.{◌≡◌, sym, ap, ◌∙◌, subst}
use mathlib.Core.List.{List}
use Prim.Native.Nat.{ℕ, zero, suc, ◌+◌, ◌-◌, ◌*◌, ◌/◌, ◌%◌, ◌^◌, ◌≤◌, ◌<◌, min, max}
use native.Mathlib.Decide.{dec_lt}
use native.Mathlib.Nat.{one-mul}
use native.Mathlib.Omega.{arith}
use lib.Bits.{bit_and, bit_or, and_step, or_step, or_comm, and_high}
use lib.ListN.{get_or}
use lib.Pow.{pow_mono, shl_exact, shl-shr, shr_le}
use Rattle.policy.specs.Nodes.{op_of, first_of, second_of}
use Rattle.formulas.proofs.BitLaws.{byte_low, byte_high}
use Rattle.alike.specs.Mask.{Keeps, KeepsNode}

-- values that agree in the bits of two masks agree in those of one
agree_less : (k v w m x : ℕ) → v < 2 ^ k → w < 2 ^ k → bit_and v (bit_or m x) ≡ bit_and w (bit_or m x) → bit_and v m ≡ bit_and w m
agree_less zero v w m x p q e = let d : v ≡ w = omega arith in ap (λ (z : ℕ). bit_and z m) d
agree_less (suc k) v w m x p q e =
    let h : bit_or m x / 2 ≡ bit_or (m / 2) (x / 2) = omega (arith, or_step m x) in
    let l : bit_or m x % 2 ≡ max (m % 2) (x % 2) = omega (arith, or_step m x) in
    let a : bit_and (v / 2) (bit_or m x / 2) ≡ bit_and (w / 2) (bit_or m x / 2) = omega (arith, and_step v (bit_or m x), and_step w (bit_or m x)) in
    let b : min (v % 2) (bit_or m x % 2) ≡ min (w % 2) (bit_or m x % 2) = omega (arith, and_step v (bit_or m x), and_step w (bit_or m x)) in
    let c : bit_and (v / 2) (m / 2) ≡ bit_and (w / 2) (m / 2) =
    agree_less k (v / 2) (w / 2) (m / 2) (x / 2) (omega arith) (omega arith) (sym (ap (bit_and (v / 2)) h) ∙ a ∙ ap (bit_and (w / 2)) h) in
    let d : min (v % 2) (m % 2) ≡ min (w % 2) (m % 2) = omega arith in
    omega (arith, and_step v m, and_step w m)

module _ (shift bits m x : ℕ) where
  keeps-more : Keeps shift bits m → Keeps shift bits (bit_or m x)
  keeps-more K = record { field = λ v w p q e. K.field v w p q (agree_less 8 v w m x (omega arith) (omega arith) e) }

  keeps-other : Keeps shift bits x → Keeps shift bits (bit_or m x)
  keeps-other K =
      record {
        field = λ v w p q e.
            K.field v w p q (agree_less 8 v w x m (omega arith) (omega arith) (ap (bit_and v) (or_comm x m) ∙ e ∙ ap (bit_and w) (or_comm m x)));
      }

-- one bit of a word
one_bit : (k : ℕ) → k ≤ 16 → 1 * 2 ^ k % 2 ^ 64 ≡ 2 ^ k
one_bit k h = shl_exact {a = 1} 1 k 64 (omega arith) (omega arith) ∙ one-mul (2 ^ k)

pub bit_le : (k n : ℕ) → k ≤ n → n ≤ 16 → 1 * 2 ^ k % 2 ^ 64 ≤ 1 * 2 ^ n % 2 ^ 64
bit_le k n h l = omega (arith, one_bit k (omega arith), one_bit n l, pow_mono {i = k} {j = n} h)

-- the bits of a field, of which a byte has at most 8
pub keeps-field : (shift bits from to : ℕ) → from ≡ min shift 8 → to ≡ from + min bits 8 → Keeps shift bits (1 * 2 ^ to % 2 ^ 64 - 1 * 2 ^ from % 2 ^ 64)
keeps-field shift bits from to e d =
    record { field = λ v w p q a. sym (cut v p) ∙ sym (own v) ∙ ap (λ (z : ℕ). z / 2 ^ from) a ∙ own w ∙ cut w q }
  where
    mask : 1 * 2 ^ to % 2 ^ 64 - 1 * 2 ^ from % 2 ^ 64 ≡ 2 ^ (min bits 8 + from) - 2 ^ from
    mask =
        ap (λ (z : ℕ). z - 1 * 2 ^ from % 2 ^ 64) (one_bit to (omega arith)) ∙ ap (λ (z : ℕ). 2 ^ to - z) (one_bit from (omega arith))
        ∙ ap (λ (z : ℕ). 2 ^ z - 2 ^ from) (omega arith)

    own : (v : ℕ) → bit_and v (1 * 2 ^ to % 2 ^ 64 - 1 * 2 ^ from % 2 ^ 64) / 2 ^ from ≡ v / 2 ^ from % 2 ^ min bits 8
    own v = ap (λ (z : ℕ). bit_and v z / 2 ^ from) mask ∙ ap (λ (z : ℕ). z / 2 ^ from) (and_high v (min bits 8) from) ∙ shl-shr _ from

    cut : (v : ℕ) → v < 256 → v / 2 ^ from % 2 ^ min bits 8 ≡ v / 2 ^ shift % 2 ^ bits
    cut v p =
        byte_low (v / 2 ^ from) bits (omega (arith, shr_le v from))
        ∙ ap (λ (z : ℕ). z % 2 ^ bits) (ap (λ (z : ℕ). v / 2 ^ z) e ∙ byte_high v shift (omega arith))

module _ (shifts bits : List ℕ) (node : ℕ) where
  -- a node that is no comparison
  pub node-none : (m : ℕ) → op_of node < 5 → KeepsNode shifts bits node m
  node-none m h = record { first = λ l. absurd (omega arith); second = λ l. absurd (omega arith) }

  pub node-both : (m x : ℕ) → Keeps (get_or shifts (first_of node) 0) (get_or bits (first_of node) 0) m
      → Keeps (get_or shifts (second_of node) 0) (get_or bits (second_of node) 0) x → KeepsNode shifts bits node (bit_or m x)
  node-both m x K L = record { first = λ l. keeps-more _ _ m x K; second = λ l. keeps-other _ _ m x L }

  node-more : (m x : ℕ) → KeepsNode shifts bits node m → KeepsNode shifts bits node (bit_or m x)
  node-more m x K = record { first = λ l. keeps-more _ _ m x (K.first l); second = λ l. keeps-more _ _ m x (K.second l) }

  node-other : (m x : ℕ) → KeepsNode shifts bits node x → KeepsNode shifts bits node (bit_or m x)
  node-other m x K = record { first = λ l. keeps-other _ _ m x (K.first l); second = λ l. keeps-other _ _ m x (K.second l) }

-- one node more
pub nodes-more : (shifts bits : List ℕ) (node : ℕ → ℕ) (k m x y : ℕ) → ((i : ℕ) → i < k → KeepsNode shifts bits (node i) m) → KeepsNode shifts bits y x
    → y ≡ node k → (i : ℕ) → i < k + 1 → KeepsNode shifts bits (node i) (bit_or m x)
nodes-more shifts bits node k m x y K Y e i l = go (dec_lt i k)
  where
    go : Dec (i < k) → KeepsNode shifts bits (node i) (bit_or m x)
    go (yes p) = node-more shifts bits (node i) m x (K i p)
    go (no p) =
        let d : k ≡ i = omega arith in
        subst (λ (z : ℕ). KeepsNode shifts bits z (bit_or m x)) (e ∙ ap node d) (node-other shifts bits y m x Y)
