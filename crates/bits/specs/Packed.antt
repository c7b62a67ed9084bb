-- Fields side by side, most significant bit first, as bytes [01:The rule file 1]. A field is a width and a number.
-- Assumes nothing.
use Rattle.std.specs.Prelude.{cond, List, [], ◌∷◌, ℕ, zero, suc, ◌+◌, ◌-◌, ◌*◌, ◌/◌, ◌%◌, ◌^◌, length, get_or, set, ltb, leb, eqb}
use Rattle.bits.specs.Field.{number_of}

-- f k, f (k + 1) and so on, n of them
unfoldable pub tab : {A : Type 0} → (ℕ → A) → ℕ → ℕ → List A
tab f k zero = []
tab f k (suc n) = f k ∷ tab f (suc k) n

-- how many bits the fields take
unfoldable pub widths : List (ℕ × ℕ) → ℕ
widths [] = 0
widths ((w, x) ∷ fs) = w + widths fs

-- bit i of the fields side by side, and zeros after them
unfoldable pub bit_of : List (ℕ × ℕ) → ℕ → ℕ
bit_of [] i = 0
bit_of ((w, x) ∷ fs) i = cond (ltb i w) (x / 2 ^ (w - 1 - i) % 2) (bit_of fs (i - w))

-- the bytes that hold the fields; zero bits fill the last byte
unfoldable pub packed : List (ℕ × ℕ) → List ℕ
packed fs = tab (λ k. number_of (bit_of fs) (8 * k) 8) 0 ((widths fs + 7) / 8)

-- byte v with bit i of the file stored in it: the first bit of a byte clears it, a later one is added
unfoldable pub with_bit : ℕ → ℕ → ℕ → ℕ
with_bit v i b = cond (eqb (i % 8) 0) (b * 128) ((v + b * 2 ^ (7 - i % 8)) % 256)

-- the bytes o after k of the w bits of x are stored from bit pos on
unfoldable pub put_to : List ℕ → ℕ → ℕ → ℕ → ℕ → List ℕ
put_to o pos w x zero = o
put_to o pos w x (suc k) =
    let l = put_to o pos w x k in
    let i = pos + k in
    set l (i / 8) (with_bit (get_or l (i / 8) 0) i (x / 2 ^ (w - 1 - k) % 2))

-- the bytes o after x is stored in the w bits from bit pos on; they stay as they are where it has no room
unfoldable pub put : List ℕ → ℕ → ℕ → ℕ → List ℕ
put o pos w x = cond (leb (pos + w) (8 * length o)) (put_to o pos w x w) o

-- the bytes o after the fields are stored one after another from bit pos on
unfoldable pub puts : List ℕ → ℕ → List (ℕ × ℕ) → List ℕ
puts o pos [] = o
puts o pos ((w, x) ∷ fs) = puts (put o pos w x) (pos + w) fs
