-- `output::row_line` meets its contract: the row's four parts, one after another.
use mathlib.Core.Path.{◌≡◌}
use mathlib.Core.List.{List, [], ◌∷◌, ◌++◌, append_assoc}
use Prim.Native.Nat.{ℕ}
use Rattle.output.specs.Lines.{numeral, line, row_line}
use Rattle.output.proofs.Laws.{holds-none, put-more, put_all}
use Rattle.output.proofs.row_line.Goals as goal

pub returns : goal.returns
unfolding row_line line
returns c =
    let a = c.args in
    let o = a.out.now in
    let p = c.of-row in
    let r = p.result in
    let c0 = c.put_number-a in
    let w0 : List ℕ = numeral r.kind ++ (32 ∷ []) in
    let c1 = c.put_number-b in
    let w1 : List ℕ = numeral r.actor ++ (32 ∷ []) in
    let c2 = c.put_number-c in
    let w2 : List ℕ = numeral r.target ++ (32 ∷ []) in
    let c3 = c.put_number in
    let w3 : List ℕ = numeral r.value ++ (10 ∷ []) in
    let h0 = put-more [] w0 o o c0.new.out 0 c0.result (holds-none o) c0.ensures.value c0.ensures.out_after in
    let h1 = put-more w0 w1 o c0.new.out c1.new.out c0.result c1.result h0 c1.ensures.value c1.ensures.out_after in
    let h2 = put-more (w0 ++ w1) w2 o c1.new.out c2.new.out c1.result c2.result h1 c2.ensures.value c2.ensures.out_after in
    let h3 = put-more (w0 ++ w1 ++ w2) w3 o c2.new.out c3.new.out c2.result c3.result h2 c3.ensures.value c3.ensures.out_after in
    let e : w0 ++ w1 ++ w2 ++ w3 ≡ row_line a.x = simp (p.ensures, append_assoc) in let both = put_all (w0 ++ w1 ++ w2 ++ w3) (row_line a.x) o c3.new.out c3.result h3 e in record { value = both.0; out_after = both.1 }
