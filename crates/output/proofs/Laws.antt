-- Laws of the lines and of texts in lent bytes. In order: one text after another (`Holds`); numerals, a number's last digits and what std prints of it.
-- Assumes nothing.
use mathlib.Core.Path.{◌≡◌, refl, sym, ap, ◌∙◌, subst}
use mathlib.Core.Logic.{⊎_elim}
use mathlib.Core.List.{List, [], ◌∷◌, ◌++◌, append_assoc, append-nil}
use Prim.Native.Nat.{ℕ, zero, suc, ◌+◌, ◌-◌, ◌*◌, ◌/◌, ◌%◌, ◌^◌, ◌≤◌, ◌<◌, min}
use native.Mathlib.Nat.{pow-suc, one-le-pow}
use native.Mathlib.Numerals.{add-one}
use native.Mathlib.Omega.{arith}
use lib.ListN.{length, get_or, take, drop, length-append, length-take, length-drop, drop_of_length-le, take-append-drop}
use lib.Seq.{length-take-le, paste, paste-zero, take_all, take-length, take-append-le, take-append-add, drop-append-add, take-append_seam, drop-drop}
use borrow.Author.Tests.{lt-ltb, le-ltb}
use Rattle.std.specs.Fmt.{decimal}
use Rattle.std.proofs.lemmas.Fmt.{decimal_from_appends, length-decimal-le}
use Rattle.lanes.proofs.Laws.{lt-or-ge}
use Rattle.analyser.specs.Told.{Told}
use Rattle.output.specs.Digits.{hex_digit_ascii, last_digits, IsDigitCount}
use Rattle.output.specs.Lines.{numeral_in, numeral, row_line, line_at}
use Rattle.output.specs.Put.{over, fitting, put_at}

-- `out` was lent, `now` is what it holds with a text at its front, and `at` is the place behind that text
abbrev pub Holds : List ℕ → List ℕ → List ℕ → ℕ → Type 0
Holds text out now at = (now ≡ over text out) × (at ≡ min (length text) (length out))

-- where the text fills all
over-full : (text out : List ℕ) → length out ≤ length text → over text out ≡ take (length out) text
unfolding over
over-full text out h = ap (λ (l : List ℕ). take (length out) text ++ l) (drop_of_length-le out h) ∙ append-nil (take (length out) text)

-- where it fits
over-short : (text out : List ℕ) → length text ≤ length out → over text out ≡ text ++ drop (length text) out
unfolding over
over-short text out h = ap (λ (l : List ℕ). l ++ drop (length text) out) (take_all (length out) text h)

pub length_over : (text out : List ℕ) → length (over text out) ≡ length out
unfolding over
length_over text out = omega (arith, length-append (take (length out) text) (drop (length text) out), length-take (length out) text, length-drop (length text) out)

-- with no room left nothing is put
put_full : (text word out : List ℕ) → length out ≤ length text → put_at (over text out) (length out) word ≡ over (text ++ word) out
unfolding put_at fitting
put_full text word out h =
    let none : min (length word) (length (over text out) - length out) ≡ 0 = omega (arith, length_over text out) in
    ap (λ (k : ℕ). paste (over text out) (length out) word k) none ∙ sym (paste-zero (over text out) (length out) word)
    ∙ over-full text out h ∙ sym (take-append-le (length out) text word h)
    ∙ sym (over-full (text ++ word) out (omega (arith, length-append text word)))

-- all of the word fits
put_whole : (text word out : List ℕ) → length text + length word ≤ length out
    → put_at (over text out) (length text) word ≡ over (text ++ word) out
unfolding put_at fitting
put_whole text word out h =
    let t = length text in
    let w = length word in
    let rest = drop t out in
    let all : min w (length (over text out) - t) ≡ w = omega (arith, length_over text out) in
    ap (λ (k : ℕ). paste (over text out) t word k) all
    ∙ ap (λ (l : List ℕ). paste l t word w) (over-short text out (omega arith))
    ∙ ap (λ (l : List ℕ). l ++ take w word ++ drop (t + w) (text ++ rest)) (take-append_seam text rest)
    ∙ ap (λ (l : List ℕ). text ++ l ++ drop (t + w) (text ++ rest)) (take-length word)
    ∙ ap (λ (l : List ℕ). text ++ word ++ l) (drop-append-add text rest w ∙ drop-drop w t out)
    ∙ sym (over-short (text ++ word) out (omega (arith, length-append text word)) ∙ ap (λ (k : ℕ). text ++ word ++ drop k out) (length-append text word))

-- its front fits
put_front : (text word out : List ℕ) → length text ≤ length out → length out ≤ length text + length word
    → put_at (over text out) (length text) word ≡ over (text ++ word) out
unfolding put_at fitting
put_front text word out h more =
    let t = length text in
    let w = length word in
    let k = length out - t in
    let rest = drop t out in
    let some : min w (length (over text out) - t) ≡ k = omega (arith, length_over text out) in
    ap (λ (k : ℕ). paste (over text out) t word k) some
    ∙ ap (λ (l : List ℕ). paste l t word k) (over-short text out h)
    ∙ ap (λ (l : List ℕ). l ++ take k word ++ drop (t + k) (text ++ rest)) (take-append_seam text rest)
    ∙ ap (λ (l : List ℕ). text ++ take k word ++ l) (drop-append-add text rest k ∙ drop_of_length-le rest {i = k} (omega (arith, length-drop t out)))
    ∙ append-nil (text ++ take k word)
    ∙ sym (over-full (text ++ word) out (omega (arith, length-append text word))
    ∙ ap (λ (n : ℕ). take n (text ++ word)) (let e : length out ≡ t + k = omega arith in e) ∙ take-append-add text word k)

-- nothing was put yet
pub holds-none : (out : List ℕ) → Holds [] out out 0
unfolding over
holds-none out = (sym (over-short [] out (omega arith)), omega arith)

-- a word is put after a text
pub put-more : (text word out now next : List ℕ) (at r : ℕ) → Holds text out now at → r ≡ at + fitting now at word → next ≡ put_at now at word
    → Holds (text ++ word) out next r
unfolding fitting
put-more text word out now next at r h r-is next-is =
    let long : length now ≡ length out = ap length h.0 ∙ length_over text out in
    let place : r ≡ min (length (text ++ word)) (length out) = omega (arith, length-append text word) in
    let full : length out ≤ length text → next ≡ over (text ++ word) out
    = λ f. let e : at ≡ length out = omega arith in next-is ∙ ap (λ (k : ℕ). put_at now k word) e ∙ ap (λ (l : List ℕ). put_at l (length out) word) h.0 ∙ put_full text word out f
    in
    let fits : length text < length out → next ≡ over (text ++ word) out
    = λ f.
    let e : at ≡ length text = omega arith in
    next-is ∙ ap (λ (k : ℕ). put_at now k word) e ∙ ap (λ (l : List ℕ). put_at l (length text) word) h.0
    ∙ ⊎_elim (λ short. put_front text word out (omega arith) (omega arith)) (λ more. put_whole text word out more)
    (lt-or-ge (length out) (length text + length word))
    in
    (⊎_elim fits full (lt-or-ge (length text) (length out)), place)

-- bytes as they stand, up to a place
holds-front : (out : List ℕ) (at : ℕ) → at ≤ length out → Holds (take at out) out out at
holds-front out at h =
    let e : length (take at out) ≡ at = length-take-le at out h in
    (sym (over-short (take at out) out (omega arith) ∙ ap (λ (k : ℕ). take at out ++ drop k out) e ∙ take-append-drop at out), omega arith)

-- a word is put, and then another
pub put_two : (out now next word first second : List ℕ) (at r q : ℕ) → at ≤ length out → word ≡ first → r ≡ at + fitting out at word → now ≡ put_at out at word
    → q ≡ r + fitting now r second → next ≡ put_at now r second → (q ≡ at + fitting out at (first ++ second)) × (next ≡ put_at out at (first ++ second))
put_two out now next word first second at r q h e r-is now-is q-is next-is =
    let front = take at out in
    let s = holds-front out at h in
    let one = put-more front word out out now at r s r-is now-is in
    let two = put-more (front ++ word) second out now next r q one q-is next-is in
    let both = put-more front (first ++ second) out out (put_at out at (first ++ second)) at (at + fitting out at (first ++ second)) s refl refl in
    let same : front ++ word ++ second ≡ front ++ (first ++ second) = ap (λ (w : List ℕ). front ++ w ++ second) e ∙ append_assoc front first second in
    (two.1 ∙ ap (λ (l : List ℕ). min (length l) (length out)) same ∙ sym both.1, two.0 ∙ ap (λ (l : List ℕ). over l out) same ∙ sym both.0)

-- what is put is a line
pub put_all : (text whole out now : List ℕ) (at : ℕ) → Holds text out now at → text ≡ whole
    → (at ≡ min (length whole) (length out)) × (now ≡ over whole out)
put_all text whole out now at h e = (h.1 ∙ ap (λ (l : List ℕ). min (length l) (length out)) e, h.0 ∙ ap (λ (l : List ℕ). over l out) e)

-- a numeral of one digit, and of more
numeral_in-one : (f n : ℕ) → n < 10 → numeral_in (suc f) n ≡ (48 + n) ∷ []
unfolding numeral_in
numeral_in-one f n h = simp (lt-ltb n 10 h)

numeral_in-more : (f n : ℕ) → 10 ≤ n → numeral_in (suc f) n ≡ numeral_in f (n / 10) ++ ((48 + n % 10) ∷ [])
unfolding numeral_in
numeral_in-more f n h = simp (le-ltb n 10 h)

glyph_decimal : (d : ℕ) → d < 10 → hex_digit_ascii d ≡ 48 + d
glyph_decimal d h = simp (lt-ltb d 10 h)

-- the digits before the last, and one digit more
fewest-front : (n k : ℕ) → IsDigitCount 10 1 n (suc (suc k)) → IsDigitCount 10 1 (n / 10) (suc k)
fewest-front n k w =
    let e : suc k - 1 ≡ k = omega arith in
    let e' : suc (suc k) - 1 ≡ suc k = omega arith in
    let h : n < 10 ^ suc k * 10 = subst (λ (x : ℕ). n < x) (pow-suc 10 (suc k)) w.1 in
    let b : 10 ^ suc k ≤ n = subst (λ (x : ℕ). 10 ^ x ≤ n) e' (w.2 (omega arith)) in
    let b' : 10 ^ k * 10 ≤ n = subst (λ (x : ℕ). x ≤ n) (pow-suc 10 k) b in
    (omega arith, omega arith, λ more. subst (λ (x : ℕ). 10 ^ x ≤ n / 10) (sym e) (omega arith))

fewest-ten : (n k : ℕ) → IsDigitCount 10 1 n (suc (suc k)) → 10 ≤ n
fewest-ten n k w =
    let e : suc (suc k) - 1 ≡ suc k = omega arith in
    let b : 10 ^ suc k ≤ n = subst (λ (x : ℕ). 10 ^ x ≤ n) e (w.2 (omega arith)) in
    let b' : 10 ^ k * 10 ≤ n = subst (λ (x : ℕ). x ≤ n) (pow-suc 10 k) b in
    omega (arith, one-le-pow k 10 (omega arith))

fewest-more : (n k : ℕ) → IsDigitCount 10 1 (n / 10) k → 10 ≤ n → IsDigitCount 10 1 n (suc k)
fewest-more n zero w ten = absurd (let z : 1 ≤ 0 = w.0 in omega arith)
fewest-more n (suc zero) w ten = (omega arith, omega (arith, w.1), λ more. omega arith)
fewest-more n (suc (suc k)) w ten =
    let e : suc (suc k) - 1 ≡ suc k = omega arith in
    let e' : suc (suc (suc k)) - 1 ≡ suc (suc k) = omega arith in
    let b : 10 ^ suc k ≤ n / 10 = subst (λ (x : ℕ). 10 ^ x ≤ n / 10) e (w.2 (omega arith)) in
    (omega arith, omega (arith, w.1, pow-suc 10 (suc (suc k))), λ more. subst (λ (x : ℕ). 10 ^ x ≤ n) (sym e') (omega (arith, pow-suc 10 (suc k))))

-- a numeral is the number's last digits
numeral_in-digits : (f n k : ℕ) → n < 10 ^ suc f → IsDigitCount 10 1 n k → numeral_in (suc f) n ≡ last_digits 10 k n
numeral_in-digits f n zero h w = absurd (let z : 1 ≤ 0 = w.0 in omega arith)
numeral_in-digits f n (suc zero) h w =
    let small : n < 10 = omega (arith, w.1) in
    let same : n % 10 ≡ n = omega arith in
    numeral_in-one f n small ∙ ap (λ (d : ℕ). d ∷ []) (sym (glyph_decimal (n % 10) (omega arith) ∙ ap (λ (d : ℕ). 48 + d) same))
numeral_in-digits zero n (suc (suc k)) h w = absurd (omega (arith, fewest-ten n k w))
numeral_in-digits (suc f) n (suc (suc k)) h w =
    let h' : n < 10 ^ suc f * 10 = subst (λ (x : ℕ). n < x) (pow-suc 10 (suc f)) h in
    numeral_in-more (suc f) n (fewest-ten n k w)
    ∙ ap (λ (l : List ℕ). l ++ ((48 + n % 10) ∷ [])) (numeral_in-digits f (n / 10) (suc k) (omega arith) (fewest-front n k w))
    ∙ ap (λ (d : ℕ). last_digits 10 (suc k) (n / 10) ++ (d ∷ [])) (sym (glyph_decimal (n % 10) (omega arith)))

-- and as few as hold the number
numeral_in-fewest : (f n : ℕ) → n < 10 ^ suc f → IsDigitCount 10 1 n (length (numeral_in (suc f) n))
numeral_in-fewest zero n h =
    let small : n < 10 = omega arith in
    subst (λ (l : List ℕ). IsDigitCount 10 1 n (length l)) (sym (numeral_in-one 0 n small)) (omega arith, h, λ more. omega arith)
numeral_in-fewest (suc f) n h =
    let h' : n < 10 ^ suc f * 10 = subst (λ (x : ℕ). n < x) (pow-suc 10 (suc f)) h in
    let front = numeral_in (suc f) (n / 10) in
    let more = numeral_in-fewest f (n / 10) (omega arith) in
    ⊎_elim
    (λ small. subst (λ (l : List ℕ). IsDigitCount 10 1 n (length l)) (sym (numeral_in-one (suc f) n small)) (omega arith, omega arith, λ more. omega arith))
    (λ ten.
    let e : length (numeral_in (suc (suc f)) n) ≡ suc (length front)
    = ap length (numeral_in-more (suc f) n ten) ∙ length-append front ((48 + n % 10) ∷ []) ∙ add-one (length front)
    in
    subst (λ (k : ℕ). IsDigitCount 10 1 n k) (sym e) (fewest-more n (length front) more ten))
    (lt-or-ge n 10)

-- of every number that the program has
pub numeral-digits : (n k : ℕ) → n < 2 ^ 64 → IsDigitCount 10 1 n k → numeral n ≡ last_digits 10 k n
unfolding numeral
numeral-digits n k h w = numeral_in-digits 19 n k (omega arith) w

pub numeral-fewest : (n : ℕ) → n < 2 ^ 64 → IsDigitCount 10 1 n (length (numeral n))
unfolding numeral
numeral-fewest n h = numeral_in-fewest 19 n (omega arith)

-- and what std prints of it
pub numeral-decimal : (n : ℕ) → n < 2 ^ 64 → numeral n ≡ decimal n
unfolding numeral
numeral-decimal n h =
    decimal_from_appends numeral_in (record { one = numeral_in-one; more = numeral_in-more }) 20 n h (length-decimal-le 20 n (omega arith) (omega arith) h)

-- a line that is not the first is that of the row before it
pub line_at-row : (t : Told) (n : ℕ) (rows : List ℕ) (i : ℕ) → (i ≡ 0 → ⊥) → line_at t n rows i ≡ row_line (get_or rows (i - 1) 0)
unfolding line_at
line_at-row t n rows zero h = absurd (h refl)
line_at-row t n rows (suc i) h = let e : i ≡ suc i - 1 = omega arith in ap (λ (k : ℕ). row_line (get_or rows k 0)) e
