-- What is told of an answer to writing: its number, and the length.
use mathlib.Core.Path.{◌≡◌, refl, sym, ap, ◌∙◌}
use mathlib.Core.Bool.{Bool, true, false, cond}
use Prim.Native.Nat.{ℕ}
use lib.Dec.{leb}
use lib.ListN.{length}
use Rattle.std.specs.Prelude.{Result, Ok, Err}
use Rattle.std.specs.Result.{result_unwrap_or}
use Rattle.refusal.specs.declared.Refusal.{Refusal}
use Rattle.format.specs.File.{Bytes, refused, bytes}
use Rattle.rules.specs.Answers.{Written, wrote, unwritten, written, written_of}
use Rattle.live.specs.Lent.{refusal_of, host_number}
use Rattle.host_files.specs.Numbers.{write_number, write_length}

-- the number and the length that an answer to writing tells

number_in : Written → ℕ
number_in (wrote n) = 0
number_in (unwritten n) = n

length_in : Written → ℕ
length_in (wrote n) = n
length_in (unwritten n) = 0

number-written : (b : Bytes) (room : ℕ) → write_number b room ≡ number_in (written_of b room)
unfolding written_of write_number number_in
number-written (refused n) room = refl
number-written (bytes l) room = go (leb (length l) room)
  where
    go : (t : Bool) → cond t 0 11 ≡ number_in (cond t (wrote (length l)) (unwritten 11))
    go true = refl
    go false = refl

length-written : (b : Bytes) (room : ℕ) → write_length b room ≡ length_in (written_of b room)
unfolding written_of write_length length_in
length-written (refused n) room = refl
length-written (bytes l) room = go (leb (length l) room)
  where
    go : (t : Bool) → cond t (length l) 0 ≡ length_in (cond t (wrote (length l)) (unwritten 11))
    go true = refl
    go false = refl

number-answered : (r : Result ℕ Refusal) → number_in (written r) ≡ host_number (refusal_of r)
unfolding written number_in host_number
number-answered (Ok n) = refl
number-answered (Err e) = refl

length-answered : (r : Result ℕ Refusal) → length_in (written r) ≡ result_unwrap_or r 0
unfolding written length_in
length-answered (Ok n) = refl
length-answered (Err e) = refl

pub number_told : (r : Result ℕ Refusal) (b : Bytes) (room : ℕ) → written r ≡ written_of b room → write_number b room ≡ host_number (refusal_of r)
number_told r b room e = number-written b room ∙ sym (ap number_in e) ∙ number-answered r

pub length_told : (r : Result ℕ Refusal) (b : Bytes) (room : ℕ) → written r ≡ written_of b room → write_length b room ≡ result_unwrap_or r 0
length_told r b room e = length-written b room ∙ sym (ap length_in e) ∙ length-answered r
