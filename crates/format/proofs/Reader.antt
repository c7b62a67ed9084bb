-- What a reader finds: the field at its place, and then it stands after it; or none, and then it stays.
use mathlib.Core.Path.{◌≡◌, refl, sym, ap, ◌∙◌}
use mathlib.Core.List.{List}
use Prim.Native.Nat.{ℕ, ◌+◌, ◌*◌, ◌^◌, ◌≤◌, ◌<◌}
use native.Mathlib.Decide.{dec_le}
use native.Mathlib.Omega.{arith}
use lib.ListN.{length}
use Rattle.bits.specs.Field.{number_at, field_at}
use Rattle.bits.proofs.Laws.{number_lt, field-value, field-short}
use Rattle.std.specs.Prelude.{Option, Some, None}
use Rattle.format.specs.Format.{ok, bad, taken}
use Rattle.format.specs.Reader.{after, found_at, past}
use Rattle.format.specs.declared.bit_reader.BitReader.{BitReader}
use Rattle.format.proofs.Fault.{taken-value, taken-short}

module _ (s : List ℕ) (at w : ℕ) where
  pub found-field : (found_at s at w).field ≡ field_at s at w
  unfolding found_at
  found-field = refl

  pub found-on : (found_at s at w).at ≡ after (field_at s at w) at w
  unfolding found_at
  found-on = refl

-- the reader b found o in the next w bits, and is then b'
module _ (b b' : BitReader) (w : ℕ) (o : Option ℕ) (f : (o ≡ (found_at b.src.now b.at w).field) × (b' ≡ past b w)) where
  field_is : o ≡ field_at b.src.now b.at w
  field_is = f.0 ∙ found-field b.src.now b.at w

  pub same_source : b'.src ≡ b.src
  same_source = ap (λ (r : BitReader). r.src) f.1

  place_is : b'.at ≡ after o b.at w
  place_is = ap (λ (r : BitReader). r.at) f.1 ∙ found-on b.src.now b.at w ∙ ap (λ (x : Option ℕ). after x b.at w) (sym field_is)

  pub goes_on : (x : ℕ) → o ≡ Some x → (taken b.src.now b.at w ≡ ok x (b.at + w)) × (x < 2 ^ w) × (b.at + w ≤ 8 * length b.src.now) × (b'.at ≡ b.at + w)
  goes_on x e = go (dec_le (b.at + w) (8 * length b.src.now))
    where
      go : Dec (b.at + w ≤ 8 * length b.src.now) → (taken b.src.now b.at w ≡ ok x (b.at + w)) × (x < 2 ^ w) × (b.at + w ≤ 8 * length b.src.now) × (b'.at ≡ b.at + w)
      go (yes h) =
          let v = field-value b.src.now b.at w h in
          let n : number_at b.src.now b.at w ≡ x = cc (field_is) in
          (taken-value b.src.now b.at w h ∙ ap (λ (y : ℕ). ok y (b.at + w)) n, omega (arith, number_lt b.src.now b.at w), h, place_is ∙ ap (λ (y : Option ℕ). after y b.at w) e)
      go (no h) = let v = field-short b.src.now b.at w (omega arith) in let z : ◌≡◌ {A = ℕ} 0 1 = cc (field_is) in absurd (omega arith)

  pub stays : o ≡ None → (taken b.src.now b.at w ≡ bad 1 (8 * length b.src.now)) × (8 * length b.src.now < b.at + w) × (b'.at ≡ b.at)
  stays e = go (dec_le (b.at + w) (8 * length b.src.now))
    where
      go : Dec (b.at + w ≤ 8 * length b.src.now) → (taken b.src.now b.at w ≡ bad 1 (8 * length b.src.now)) × (8 * length b.src.now < b.at + w) × (b'.at ≡ b.at)
      go (yes h) = let v = field-value b.src.now b.at w h in let z : ◌≡◌ {A = ℕ} 0 1 = cc (field_is) in absurd (omega arith)
      go (no h) = (taken-short b.src.now b.at w (omega arith), omega arith, place_is ∙ ap (λ (y : Option ℕ). after y b.at w) e)
