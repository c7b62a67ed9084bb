-- `output::refused_line` meets its contract: the word and the number, one after another.
use mathlib.Core.Path.{◌≡◌}
use mathlib.Core.List.{List, [], ◌∷◌, ◌++◌, append_assoc}
use Prim.Native.Nat.{ℕ}
use Rattle.output.specs.Lines.{numeral, line, refused_word}
use Rattle.output.proofs.Laws.{holds-none, put-more, put_all}
use Rattle.output.proofs.refused_line.Goals as goal

pub returns : goal.returns
unfolding line refused_word
returns c =
    let a = c.args in
    let o = a.out.now in
    let c0 = c.put_bytes-at in
    let w0 : List ℕ = refused_word ++ (32 ∷ []) in
    let c1 = c.put_number in
    let w1 : List ℕ = numeral a.n ++ (10 ∷ []) in
    let h0 = put-more [] w0 o o c0.new.out 0 c0.result (holds-none o) c0.ensures.value c0.ensures.out_after in
    let h1 = put-more w0 w1 o c0.new.out c1.new.out c0.result c1.result h0 c1.ensures.value c1.ensures.out_after in
    let e : w0 ++ w1 ≡ line (refused_word ∷ numeral a.n ∷ []) = simp append_assoc in let both = put_all (w0 ++ w1) (line (refused_word ∷ numeral a.n ∷ [])) o c1.new.out c1.result h1 e in record { value = both.0; out_after = both.1 }
