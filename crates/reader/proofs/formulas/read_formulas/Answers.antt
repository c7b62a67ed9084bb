-- `reader::formulas::read_formulas` meets its contract: each formula that is read is one more row.
use mathlib.Core.Path.{◌≡◌, ap, sym, ◌∙◌}
use mathlib.Core.List.{List, ◌∷◌, ◌++◌, []}
use Prim.Native.Nat.{ℕ, ◌+◌, ◌-◌, ◌*◌, ◌≤◌, ◌<◌}
use native.Mathlib.Decide.{dec_lt}
use native.Mathlib.Omega.{arith}
use borrow.Rule.Slice.PartMut.{put_mid}
use lib.ListN.{length, length-drop, drop, get_or, set}
use Rattle.std.proofs.lemmas.List.{length-take-le}
use lib.Seq.{get_or-set_same, get_or-set_other}
use Rattle.std.specs.Prelude.{Result, Ok}
use Rattle.refusal.specs.declared.Refusal.{Refusal}
use Rattle.refusal.specs.Number.{number_of}
use Rattle.format.specs.Format.{rows, field, within}
use Rattle.format.specs.Reads.{Reads}
use Rattle.format.specs.declared.file_reader.FileReader.{FileReader}
use Rattle.format.proofs.Chain.{pair-stops, pair-goes, via-reads, refused}
use Rattle.policy.specs.File.{node_format, formula_format}
use Rattle.policy.specs.Rules.{lists_of, formulas_of}
use Rattle.policy.specs.declared.Classes.{Classes}
use Rattle.policy.proofs.Laws.{formulas-none, formulas-more, formulas-length}
use Rattle.reader_head.proofs.Reached.{reached-none, reached-more, reached-stops, reached-all}
use Rattle.reader.proofs.Placed.{placed-length, placed-below, placed_nodes}
use Rattle.reader.proofs.formulas.read_formulas.Invariants.{row}
use Rattle.reader.proofs.formulas.read_formulas.Goals as goal

-- one more length of at most 64
short-more : (l : List ℕ) (f n : ℕ) → f < length l → n ≤ 64 → ((g : ℕ) → g < f → get_or l g 0 ≤ 64) → (g : ℕ) → g < f + 1 → get_or (set l f n) g 0 ≤ 64
short-more l f n h k short g m = go (dec_lt g f)
  where
    go : Dec (g < f) → get_or (set l f n) g 0 ≤ 64
    go (yes b) = omega (arith, get_or-set_other l f g n 0 (λ e. omega arith), short g b)
    go (no b) =
        let e : f ≡ g = omega arith in
        omega (arith, sym (ap (λ (i : ℕ). get_or (set l f n) i 0) e) ∙ get_or-set_same l f n 0 h)

pub loop-f-init : goal.loop-f-init
loop-f-init c =
    let a = c.args in record {
      nodes = omega arith;
      near = omega arith;
      short = λ g h. absurd (omega arith);
      reached = reached-none (row a.classes) (length a.lengths.now) a.reader.now _ (formulas-none _ _);
    }

-- a count and as many nodes, read as formula f after those in fs
formula : {r r' r'' : FileReader} (classes : Classes) (fs : List (List ℕ)) (f m n : ℕ) (nodes : List ℕ) (o : Result (Unit {0}) Refusal) → length fs ≡ f → m ≡ n
    → Reads (field 8 (within 1 65) 8) 8 (λ x. x) r r' (Ok n) → Reads (rows m (λ l. node_format (lists_of classes) f (length l))) 1280 (λ _. nodes) r' r'' o
    → Reads (row classes fs) 1288 (λ _. nodes) r r'' o
unfolding formula_format
formula classes fs f m n nodes o e k h g =
    let g' = rw (k, ← e) at g in via-reads _ _ _ (pair-goes _ _ h g')

pub returns-in_err-n : goal.returns-in_err-n
unfolding formula_format number_of
returns-in_err-n c =
    let a = c.args in
    let l = c.loop-f in
    let one = via-reads _ _ _ (pair-stops _ _ c.in_err-n.ensures.reads) in record {
      reads = refused _ c.from_residual.result c.from_residual.ensures.1
          (reached-stops (row a.classes) (length a.lengths.now) a.reader.now l.reader _ _ l.f _ _ (omega arith) l.invariant.reached 15456 one (omega arith)) (omega arith);
    }

pub returns-in_err-read_nodes : goal.returns-in_err-read_nodes
unfolding number_of
returns-in_err-read_nodes c =
    let a = c.args in
    let l = c.loop-f in
    let r = c.from_residual-in_err-read_nodes in
    let n = c.in_ok-n.n in
    let below : n < 65 = c.in_ok-n.ensures.below in
    let places = length-take-le (64 * l.f + n - 64 * l.f) (drop (64 * l.f) l.nodes) (simp length-drop (omega arith)) in
    let one = formula a.classes (formulas_of l.nodes l.lengths l.f) l.f _ n _ _ (formulas-length l.nodes l.lengths l.f) (places ∙ omega arith) c.in_ok-n.ensures.reads c.in_err-read_nodes.ensures.reads in
    record {
      reads = refused _ r.result r.ensures.1
          (reached-stops (row a.classes) (length a.lengths.now) a.reader.now l.reader _ _ l.f _ _ (omega arith) l.invariant.reached 15456 one (omega arith)) (omega arith);
    }

pub loop-f-preserved : goal.loop-f-preserved
unfolding number_of
loop-f-preserved c =
    let a = c.args in
    let l = c.loop-f in
    let n = c.in_ok-n.n in
    let below : n < 65 = c.in_ok-n.ensures.below in
    let nodes = c.read_nodes.new.nodes in
    let k : 64 * l.f + n - 64 * l.f ≡ n = omega arith in
    let places = length-take-le (64 * l.f + n - 64 * l.f) (drop (64 * l.f) l.nodes) (simp length-drop (omega arith)) in
    let long : length nodes ≡ n = omega (arith, c.read_nodes.auto.nodes) in
    let room : 64 * l.f + n ≤ length l.nodes = omega arith in
    let one = formula a.classes (formulas_of l.nodes l.lengths l.f) l.f _ n _ _ (formulas-length l.nodes l.lengths l.f) (places ∙ k) c.in_ok-n.ensures.reads c.in_ok-read_nodes.ensures.reads in
    record {
      nodes = rw k (placed-length l.nodes nodes (64 * l.f) n room long ∙ l.invariant.nodes);
      near = omega arith;
      short = short-more l.lengths l.f n (omega arith) (omega arith) l.invariant.short;
      reached = rw k
          (reached-more (row a.classes) (length a.lengths.now) a.reader.now l.reader _ _ l.f _ _ (omega arith) l.invariant.reached _ _ one
          (formulas-more l.nodes (put_mid (64 * l.f) n l.nodes nodes) l.lengths l.f n (omega arith) l.invariant.short (placed-below l.nodes nodes (64 * l.f) n room long)
          ∙ ap (λ (m : List ℕ). formulas_of l.nodes l.lengths l.f ++ m ∷ []) (placed_nodes l.nodes nodes l.f n room long)));
    }

pub returns : goal.returns
returns c =
    let a = c.args in
    let l = c.loop-f in
    record { reads = reached-all (row a.classes) (length a.lengths.now) a.reader.now l.reader _ l.f _ _ (omega arith) l.invariant.reached (ap (formulas_of l.nodes l.lengths) (let z : length a.lengths.now ≡ l.f = omega arith in z)) (omega arith) }
