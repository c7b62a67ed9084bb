-- Rows that were read so far, as the loops that read them say it. In order: none is read, one more, a refusal, all of them.
use mathlib.Core.Path.{◌≡◌, refl, sym, ap, ◌∙◌}
use mathlib.Core.List.{List, [], ◌∷◌, ◌++◌}
use Prim.Native.Nat.{ℕ, suc, ◌+◌, ◌-◌, ◌≤◌, ◌<◌}
use native.Mathlib.Omega.{arith}
use Rattle.std.specs.Prelude.{Ok, Err}
use Rattle.refusal.specs.declared.Refusal.{Refusal}
use Rattle.format.specs.Format.{Res, ok, Format, and_then, rows_read, rows}
use Rattle.format.specs.Reads.{Reads}
use Rattle.format.proofs.Chain.{no_view}
use Rattle.format.specs.declared.file_reader.FileReader.{FileReader}

-- reading n rows by the first reader goes on by the second, i of them read: those in l
pub record Reached {A : Type 0} (f : List A → Format A) (n : ℕ) (r p : FileReader) (l : List A) (i : ℕ) : Type 0 where
  pub same : (rows n f).read r.bits.src.now r.bits.at ≡ rows_read f r.bits.src.now l (n - i) p.bits.at
  pub source : p.bits.src ≡ r.bits.src

module _ {A : Type 0} (f : List A → Format A) (n : ℕ) where
  more : (s : List ℕ) (l : List A) (i q : ℕ) → i < n → rows_read f s l (n - i) q ≡ and_then ((f l).read s q) (λ a p. rows_read f s (l ++ a ∷ []) (n - (i + 1)) p)
  unfolding rows_read
  more s l i q h = ap (λ (m : ℕ). rows_read f s l m q) (let z : n - i ≡ suc (n - (i + 1)) = omega arith in z)

  last : (s : List ℕ) (l : List A) (i q : ℕ) → n ≤ i → rows_read f s l (n - i) q ≡ ok l q
  unfolding rows_read
  last s l i q h = ap (λ (m : ℕ). rows_read f s l m q) (let z : n - i ≡ 0 = omega arith in z)

  module _ (r : FileReader) where
    pub reached-none : (l : List A) → l ≡ [] → Reached f n r r l 0
    unfolding rows
    reached-none l e =
        record {
          same =
              ap (λ (m : List A). rows_read f r.bits.src.now m n r.bits.at) (sym e)
              ∙ ap (λ (m : ℕ). rows_read f r.bits.src.now l m r.bits.at) (let z : n ≡ n - 0 = omega arith in z);
          source = refl;
        }

    module _ {B : Type 0} (p p' : FileReader) (l : List A) (i m : ℕ) (v : B → A) (h : i < n) (k : Reached f n r p l i) where
      -- what was read next is what reading goes on by
      next : {x : Res A} → x ≡ (f l).read p.bits.src.now p.bits.at
          → (rows n f).read r.bits.src.now r.bits.at ≡ and_then x (λ a q. rows_read f r.bits.src.now (l ++ a ∷ []) (n - (i + 1)) q)
      next e =
          k.same ∙ more r.bits.src.now l i p.bits.at h
          ∙ ap (λ (x : Res A). and_then x (λ a q. rows_read f r.bits.src.now (l ++ a ∷ []) (n - (i + 1)) q)) (sym (e ∙ ap (λ (s : _). (f l).read s.now p.bits.at) k.source))

      pub reached-more : (b : B) (l' : List A) → Reads (f l) m v p p' (Ok b) → l' ≡ l ++ v b ∷ [] → Reached f n r p' l' (i + 1)
      unfolding and_then
      reached-more b l' e g =
          record { same = next e.answer ∙ ap (λ (m : List A). rows_read f r.bits.src.now m (n - (i + 1)) p'.bits.at) (sym g); source = e.source ∙ k.source }

      pub reached-stops : {e : Refusal} (most : ℕ) → Reads (f l) m v p p' (Err e) → p'.bits.at ≤ r.bits.at + most → Reads (rows n f) most no_view r p' (Err e)
      unfolding and_then
      reached-stops most g z = record { answer = sym (next g.answer); source = g.source ∙ k.source; near = z }

    pub reached-all : {D : Type 0} {w : D → List A} (p : FileReader) (l : List A) (i most : ℕ) (d : D) → n ≤ i → Reached f n r p l i → w d ≡ l → p.bits.at ≤ r.bits.at + most
        → Reads (rows n f) most w r p (Ok d)
    reached-all p l i most d h k g z =
        record { answer = ap (λ (m : List A). ok m p.bits.at) g ∙ sym (k.same ∙ last r.bits.src.now l i p.bits.at h); source = k.source; near = z }
