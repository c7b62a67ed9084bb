-- Laws of the rows of a leak, as the program writes them one after another. In order: rows at the end,
-- all or none; what two writings keep; a way; the next number. Not here: the parts of a leak (Parts).
use mathlib.Core.Path.{◌≡◌, refl, sym, ap, ◌∙◌}
use mathlib.Core.List.{List, [], ◌∷◌, ◌++◌}
use mathlib.Core.Bool.{Bool, true, false, cond}
use Prim.Native.Nat.{ℕ, ◌+◌, ◌-◌, ◌≤◌, ◌<◌}
use native.Mathlib.Numerals.{add-one}
use native.Mathlib.Omega.{arith}
use borrow.Author.Tests.{le-leb, lt-leb}
use lib.Dec.{leb, eqb}
use lib.ListN.{length, get_or, take, drop, set}
use lib.Seq.{length-take-le, take-suc-set, drop-drop}
use Rattle.bits.specs.Packed.{tab}
use Rattle.std.proofs.Common.{length-append, length-drop}
use Rattle.std.proofs.lemmas.List.{ext_get_or}
use Rattle.std.proofs.lemmas.Slice.{take-put_mid, drop-put_mid}
use borrow.Rule.Slice.PartMut.{put_mid}
use Rattle.bits.proofs.Packed.{length-tab, get_or-tab}
use Rattle.search.specs.Searched.{value_at, depth_at}
use Rattle.search.specs.Path.{way_at}
use Rattle.search.specs.declared.queue.Found.{Found}
use Rattle.session_rows.specs.Writing.{Writing, row_of, wrote, writing_of, Wrote}
use Rattle.session_rows.specs.Way.{way_rows}
use Rattle.session_rows.specs.declared.Pen.{Pen}

-- rows at the end, all or none

abbrev longer : Writing → List ℕ → Writing
longer w l = record { rows = w.rows ++ l; next = w.next; number = w.number; owner = w.owner }

wrote-all : (room : ℕ) (l : List ℕ) (w : Writing) → length w.rows + length l ≤ room → wrote room l w ≡ longer w l
unfolding wrote
wrote-all room l w h = simp (le-leb _ _ h)

wrote_none : (room : ℕ) (l : List ℕ) (w : Writing) → room < length w.rows + length l → w ≡ wrote room l w
unfolding wrote
wrote_none room l w h = simp (lt-leb _ _ h)

abbrev pub on_to : Pen → ℕ → Pen
on_to p at = record { at = at; next = p.next; number = p.number; owner = p.owner }

module _ (p : Pen) (before : List ℕ) (h : p.at ≤ length before) where
  -- no room: nothing is written
  pub none_written : (l : List ℕ) → length before < p.at + length l → writing_of p before ≡ wrote (length before) l (writing_of p before)
  none_written l g =
      let e : length (take p.at before) ≡ p.at = length-take-le p.at before h in
      wrote_none (length before) l (writing_of p before) (omega arith)

  -- rows that stand after those so far were written
  all-written : (l after : List ℕ) (n : ℕ) → length l ≡ n → take (p.at + n) after ≡ take p.at before ++ l → p.at + n ≤ length before
      → writing_of (on_to p (p.at + n)) after ≡ wrote (length before) l (writing_of p before)
  all-written l after n m e g =
      let d : length (take p.at before) ≡ p.at = length-take-le p.at before h in
      ap (λ (t : List ℕ). record { rows = t; next = p.next; number = p.number; owner = p.owner }) e
      ∙ sym (wrote-all (length before) l (writing_of p before) (omega arith))

  pub kept : Wrote p before p before
  kept = record { long = refl; onward = omega arith; inside = h; rest = refl }

  pub one_written : (x : ℕ) → p.at < length before
      → writing_of (on_to p (p.at + 1)) (set before p.at x) ≡ wrote (length before) (x ∷ []) (writing_of p before)
  one_written x g = all-written (x ∷ []) (set before p.at x) 1 refl (rw add-one (take-suc-set before p.at x g)) (omega arith)

-- what two writings keep

pub kept_on : {p q r : Pen} {a b c : List ℕ} → Wrote p a q b → Wrote q b r c → Wrote p a r c
kept_on {p} {q} {r} {a} {b} {c} v w =
    let e : q.at + (r.at - q.at) ≡ r.at = omega (arith, w.onward) in
    let dropped : drop r.at b ≡ drop r.at a =
    ap (λ (n : ℕ). drop n b) (sym e) ∙ sym (drop-drop (r.at - q.at) q.at b) ∙ ap (drop (r.at - q.at)) v.rest ∙ drop-drop (r.at - q.at) q.at a ∙ ap (λ (n : ℕ). drop n a) e in
    record {
      long = w.long ∙ v.long;
      onward = omega (arith, v.onward, w.onward);
      inside = w.inside;
      rest = w.rest ∙ dropped;
    }

pub kept_at : {p q : Pen} {a b : List ℕ} (r : Pen) → r.at ≡ q.at → Wrote p a q b → Wrote p a r b
kept_at {p} {q} {a} {b} r e w = record {
  long = w.long;
  onward = omega (arith, w.onward);
  inside = omega (arith, w.inside);
  rest = ap (λ (n : ℕ). drop n b) e ∙ w.rest ∙ ap (λ (n : ℕ). drop n a) (sym e);
}

-- a way

abbrev pub way_row : Found → ℕ → ℕ → ℕ → ℕ → ℕ
way_row q pos u n j = row_of (cond (eqb j 0) 1 3) u n (value_at q (way_at q pos j))

module _ (q : Found) (pos first u n : ℕ) where
  way-rows : way_rows q pos first u n ≡ tab (way_row q pos u n) first (depth_at q pos + 1 - first)
  unfolding way_rows
  way-rows = refl

  way_long : length (way_rows q pos first u n) ≡ depth_at q pos + 1 - first
  way_long = ap length way-rows ∙ length-tab (way_row q pos u n) first (depth_at q pos + 1 - first)

  module _ (p : Pen) (before : List ℕ) (h : p.at ≤ length before) (count : ℕ) (d : count ≡ depth_at q pos + 1 - first) where
    pub no_way : length before < p.at + count → writing_of p before ≡ wrote (length before) (way_rows q pos first u n) (writing_of p before)
    no_way g = none_written p before h (way_rows q pos first u n) (omega (arith, way_long))

    -- its rows stand after those so far
    module _ (k : ℕ) (rows : List ℕ) (e : k ≡ count) (m : length rows ≡ count) (g : p.at + count ≤ length before) where
      pub way-written : ((j : ℕ) → j < count → get_or rows j 0 ≡ way_row q pos u n (first + j))
          → writing_of (on_to p (p.at + count)) (put_mid p.at k before rows) ≡ wrote (length before) (way_rows q pos first u n) (writing_of p before)
      way-written f =
          all-written p before h (way_rows q pos first u n) (put_mid p.at k before rows) count (way_long ∙ sym d)
          (take-put_mid p.at k before rows (p.at + count) (omega arith) h ∙ ap (λ (l : List ℕ). take p.at before ++ l) whole) g
        where
          whole : rows ≡ way_rows q pos first u n
          whole =
              ext_get_or 0 rows (way_rows q pos first u n) (omega (arith, way_long))
              (λ j l. f j (omega arith) ∙ sym (ap (λ (r : List ℕ). get_or r j 0) way-rows ∙ get_or-tab (way_row q pos u n) first (depth_at q pos + 1 - first) j 0 (omega arith)))

      pub way-kept : Wrote p before (on_to p (p.at + count)) (put_mid p.at k before rows)
      way-kept =
          let l : length (put_mid p.at k before rows) ≡ length before = simp (length-append, length-take-le p.at before h, length-drop) (omega arith) in
          record { long = l; onward = omega arith; inside = omega arith; rest = drop-put_mid p.at k before rows (p.at + count) (omega arith) h (omega arith) }

-- the next number

pub same_next : {w v : Writing} → w ≡ v → w.next ≡ v.next
same_next e = ap (λ (x : Writing). x.next) e

pub wrote-next : (room : ℕ) (l : List ℕ) (w : Writing) → (wrote room l w).next ≡ w.next
unfolding wrote
wrote-next room l w = go (leb (length w.rows + length l) room)
  where
    go : (b : Bool) → (cond b (longer w l) w).next ≡ w.next
    go true = refl
    go false = refl

-- what was written has the next number of what it was written on
pub after-way : {v : Writing} (room : ℕ) (l : List ℕ) (w : Writing) → v ≡ wrote room l w → v.next ≡ w.next
after-way room l w e = same_next e ∙ wrote-next room l w
