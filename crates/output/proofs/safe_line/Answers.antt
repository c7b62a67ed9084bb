-- `output::safe_line` meets its contract: the word and both counts, one after another.
use mathlib.Core.Path.{◌≡◌}
use mathlib.Core.List.{List, [], ◌∷◌, ◌++◌, append_assoc}
use Prim.Native.Nat.{ℕ}
use Rattle.output.specs.Lines.{numeral, line, safe_word}
use Rattle.output.proofs.Laws.{holds-none, put-more, put_all}
use Rattle.output.proofs.safe_line.Goals as goal

pub returns : goal.returns
unfolding line safe_word
returns c =
    let a = c.args in
    let o = a.out.now in
    let c0 = c.put_bytes-a in
    let w0 : List ℕ = safe_word ++ (32 ∷ []) in
    let c1 = c.put_number-b in
    let w1 : List ℕ = numeral a.pairs ++ (32 ∷ []) in
    let c2 = c.put_number in
    let w2 : List ℕ = numeral a.values ++ (10 ∷ []) in
    let h0 = put-more [] w0 o o c0.new.out 0 c0.result (holds-none o) c0.ensures.value c0.ensures.out_after in
    let h1 = put-more w0 w1 o c0.new.out c1.new.out c0.result c1.result h0 c1.ensures.value c1.ensures.out_after in
    let h2 = put-more (w0 ++ w1) w2 o c1.new.out c2.new.out c1.result c2.result h1 c2.ensures.value c2.ensures.out_after in
    let e : w0 ++ w1 ++ w2 ≡ line (safe_word ∷ numeral a.pairs ∷ numeral a.values ∷ []) = simp append_assoc in let both = put_all (w0 ++ w1 ++ w2) (line (safe_word ∷ numeral a.pairs ∷ numeral a.values ∷ [])) o c2.new.out c2.result h2 e in record { value = both.0; out_after = both.1 }
