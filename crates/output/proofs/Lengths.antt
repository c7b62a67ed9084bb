-- How long the lines are. In order: numerals; lines by their words; the verdict's line; a row's line.
-- Assumes nothing.
use mathlib.Core.Path.{◌≡◌, ◌∙◌}
use mathlib.Core.Bool.{Bool, true, false, cond}
use mathlib.Core.List.{List, [], ◌∷◌, ◌++◌}
use Prim.Native.Nat.{ℕ, zero, suc, ◌+◌, ◌-◌, ◌/◌, ◌%◌, ◌^◌, ◌≤◌, ◌<◌}
use native.Mathlib.Nat.{pow-le-pow_right}
use native.Mathlib.Decide.{dec_lt}
use native.Mathlib.Omega.{arith}
use lib.Dec.{ltb, eqb}
use lib.ListN.{length, length-append}
use Rattle.cells.specs.Row.{parts_of}
use Rattle.analyser.specs.Told.{Told, no_verdict, safe_verdict}
use Rattle.output.specs.Lines.{numeral_in, numeral, safe_word, leak_word, refused_word, line, verdict_line, row_line}
use Rattle.output.proofs.Laws.{numeral-fewest}

cond_short : (b : Bool) (x y : List ℕ) (k : ℕ) → length x ≤ k → length y ≤ k → length (cond b x y) ≤ k
cond_short true x y k h l = h
cond_short false x y k h l = l

numeral_in-short : (f n : ℕ) → length (numeral_in f n) ≤ f
unfolding numeral_in
numeral_in-short zero n = omega arith
numeral_in-short (suc f) n =
    let front = numeral_in f (n / 10) in
    cond_short (ltb n 10) ((48 + n) ∷ []) (front ++ ((48 + n % 10) ∷ [])) (suc f) (omega arith)
    (omega (arith, length-append front ((48 + n % 10) ∷ []), numeral_in-short f (n / 10)))

numeral-most : (n : ℕ) → length (numeral n) ≤ 20
unfolding numeral
numeral-most n = numeral_in-short 20 n

-- a number below 10 ^ k has at most k digits
numeral-short : (n k : ℕ) → n < 2 ^ 64 → 1 ≤ k → n < 10 ^ k → length (numeral n) ≤ k
numeral-short n k small some h = by-test (dec_lt k (length (numeral n)))
  where
    by-test : Dec (k < length (numeral n)) → length (numeral n) ≤ k
    by-test (yes more) =
        let b : 10 ^ (length (numeral n) - 1) ≤ n = (numeral-fewest n small).2 (omega arith) in
        let p : 10 ^ k ≤ 10 ^ (length (numeral n) - 1) = pow-le-pow_right (omega arith) (omega arith) in
        absurd (omega arith)
    by-test (no less) = omega arith

length_last : (w : List ℕ) → length (line (w ∷ [])) ≡ length w + 1
unfolding line
length_last w = length-append w (10 ∷ [])

length_more : (w v : List ℕ) (ws : List (List ℕ)) → length (line (w ∷ v ∷ ws)) ≡ length w + (1 + length (line (v ∷ ws)))
unfolding line
length_more w v ws = length-append w (32 ∷ line (v ∷ ws)) ∙ (let e : length w + suc (length (line (v ∷ ws))) ≡ length w + (1 + length (line (v ∷ ws))) = omega arith in e)

module _ (t : Told) (n : ℕ) (pairs-few : t.pairs ≤ 4096) (values-few : t.values ≤ 256) (rows_few : n ≤ 66049) where
  pairs-short : length (numeral t.pairs) ≤ 4
  pairs-short = numeral-short t.pairs 4 (omega arith) (omega arith) (omega arith)

  values-short : length (numeral t.values) ≤ 3
  values-short = numeral-short t.values 3 (omega arith) (omega arith) (omega arith)

  rows_short : length (numeral n) ≤ 5
  rows_short = numeral-short n 5 (omega arith) (omega arith) (omega arith)

  refused-short : length (line (refused_word ∷ numeral t.number ∷ [])) ≤ 32
  unfolding refused_word
  refused-short = omega (arith, length_more refused_word (numeral t.number) [], length_last (numeral t.number), numeral-most t.number)

  safe-short : length (line (safe_word ∷ numeral t.pairs ∷ numeral t.values ∷ [])) ≤ 32
  unfolding safe_word
  safe-short =
      let p = numeral t.pairs in
      let v = numeral t.values in
      omega (arith, length_more safe_word p (v ∷ []), length_more p v [], length_last v, pairs-short, values-short)

  leak-short : length (line (leak_word ∷ numeral n ∷ numeral t.pairs ∷ numeral t.values ∷ [])) ≤ 32
  unfolding leak_word
  leak-short =
      let r = numeral n in
      let p = numeral t.pairs in
      let v = numeral t.values in
      omega (arith, length_more leak_word r (p ∷ v ∷ []), length_more r p (v ∷ []), length_more p v [], length_last v, rows_short, pairs-short, values-short)

  pub verdict_line-short : length (verdict_line t n) ≤ 32
  unfolding verdict_line
  verdict_line-short =
      let safe = line (safe_word ∷ numeral t.pairs ∷ numeral t.values ∷ []) in
      let leak = line (leak_word ∷ numeral n ∷ numeral t.pairs ∷ numeral t.values ∷ []) in
      cond_short (eqb t.verdict no_verdict) (line (refused_word ∷ numeral t.number ∷ [])) (cond (eqb t.verdict safe_verdict) safe leak) 32 refused-short
      (cond_short (eqb t.verdict safe_verdict) safe leak 32 safe-short leak-short)

pub row_line-short : (x : ℕ) → x < 2 ^ 64 → length (row_line x) ≤ 32
unfolding row_line parts_of
row_line-short x h =
    let kind = x / 2 ^ 60 in
    let actor = x / 2 ^ 40 % 2 ^ 20 in
    let target = x / 2 ^ 20 % 2 ^ 20 in
    let value = x / 2 ^ 8 % 2 ^ 12 in
    let kind-few : kind < 16 = omega arith in
    let actor-few : actor < 2 ^ 20 = omega arith in
    let target-few : target < 2 ^ 20 = omega arith in
    let value-few : value < 2 ^ 12 = omega arith in
    let k = numeral kind in
    let a = numeral actor in
    let t = numeral target in
    let v = numeral value in
    let k-short : length k ≤ 2 = numeral-short kind 2 (omega arith) (omega arith) (omega arith) in
    let a-short : length a ≤ 7 = numeral-short actor 7 (omega arith) (omega arith) (omega arith) in
    let t-short : length t ≤ 7 = numeral-short target 7 (omega arith) (omega arith) (omega arith) in
    let v-short : length v ≤ 4 = numeral-short value 4 (omega arith) (omega arith) (omega arith) in
    omega (arith, length_more k a (t ∷ v ∷ []), length_more a t (v ∷ []), length_more t v [], length_last v)
