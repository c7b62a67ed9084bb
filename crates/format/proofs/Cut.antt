-- Which bits reading needs: those up to the place of its result are enough to give the same, and none of them can be left out. In order: the
-- law, that it holds of what readings are made of, the law of a format and of each way of building one, a whole file.
use mathlib.Core.Path.{◌≡◌, refl, sym, ap, ◌∙◌, subst}
use mathlib.Core.Bool.{Bool, true, false}
use mathlib.Core.Logic.{◌⊎◌, inl, inr}
use mathlib.Core.List.{List, [], ◌∷◌, ◌++◌}
use Prim.Native.Nat.{ℕ, zero, suc, ◌+◌, ◌-◌, ◌*◌, ◌%◌, ◌≤◌, ◌<◌}
use native.Mathlib.Decide.{ℕ_discrete, dec_lt, dec_le}
use native.Mathlib.Omega.{arith}
use borrow.Author.Tests.{eq-eqb, ne_eqb, eqb-true}
use lib.Dec.{eqb}
use lib.ListN.{length}
use Rattle.bits.specs.Field.{number_at}
use Rattle.format.specs.Format.{Res, ok, bad, bits_until, Format, tested, and_then, taken, field, check, rows_read, rows, pair, via, zeros}
use Rattle.format.specs.File.{SameBits, ended, read_file}
use Rattle.format.proofs.Fault.{then_ok, ok-then, tested-ok, ok-tested, taken-value, taken-short}
use Rattle.format.proofs.Bounded.{agree_less, agree-taken}

-- no refusal by 1
abbrev pub Whole : {A : Type 0} → Res A → Type 0
Whole r = (q : ℕ) → r ≡ bad 1 q → ⊥

-- k reads bytes from pos on; of the bytes s it gives r
pub record Reads {A : Type 0} (k : List ℕ → Res A) (s : List ℕ) (pos : ℕ) (r : Res A) : Type 0 where
  -- it goes onward, and not past the end
  pub onward : pos ≤ bits_until r
  pub inside : bits_until r ≤ 8 * length s
  -- 1 is given at the end
  pub one : (q : ℕ) → r ≡ bad 1 q → q ≡ 8 * length s
  -- bytes that have the bits up to the place give the same
  pub enough : (s' : List ℕ) → SameBits s s' (bits_until r) → Whole r → k s' ≡ r
  -- bytes that end before the place give 1
  pub needed : (s' : List ℕ) → SameBits s s' (8 * length s') → pos ≤ 8 * length s' → 8 * length s' < bits_until r → k s' ≡ bad 1 (8 * length s')

-- so it is of all bytes, from every place in them
abbrev Goes : {A : Type 0} → (List ℕ → ℕ → Res A) → Type 0
Goes f = (s : List ℕ) (pos : ℕ) → pos ≤ 8 * length s → Reads (λ s'. f s' pos) s pos (f s pos)

ok-whole : {A : Type 0} (a : A) (p : ℕ) → Whole (ok a p)
ok-whole a p q e = let z : ◌≡◌ {A = ℕ} 0 1 = cc in omega arith

bad-whole : {A : Type 0} (n p : ℕ) → (n ≡ 1 → ⊥) → Whole {A = A} (bad n p)
bad-whole n p h q e = h cc

bad-place : {A : Type 0} (m p n q : ℕ) → ◌≡◌ {A = Res A} (bad m p) (bad n q) → p ≡ q
bad-place m p n q e = cc

-- no bits, and no refusal by 1
goes-stays : {A : Type 0} (r : ℕ → Res A) → ((pos : ℕ) → bits_until (r pos) ≡ pos) → ((pos : ℕ) → Whole (r pos)) → Goes (λ s pos. r pos)
goes-stays r d h s pos l =
    record {
      onward = omega (arith, d pos);
      inside = omega (arith, d pos);
      one = λ q e. absurd (h pos q e);
      enough = λ s' g i. refl;
      needed = λ s' g i j. absurd (omega (arith, d pos));
    }

goes-ok : {A : Type 0} (a : A) → Goes (λ s pos. ok a pos)
unfolding bits_until
goes-ok a = goes-stays (ok a) (λ pos. refl) (λ pos. ok-whole a pos)

goes-tested : {A : Type 0} (b : Bool) (n : ℕ) (a : A) → (n ≡ 1 → ⊥) → Goes (λ s pos. tested b n a pos)
unfolding bits_until tested
goes-tested true n a h = goes-ok a
goes-tested {A} false n a h = goes-stays {A = A} (bad n) (λ pos. refl) (λ pos. bad-whole n pos h)

goes-taken : (w : ℕ) → Goes (λ s pos. taken s pos w)
unfolding bits_until
goes-taken w s pos h = go (dec_le (pos + w) (8 * length s))
  where
    go : Dec (pos + w ≤ 8 * length s) → Reads (λ s'. taken s' pos w) s pos (taken s pos w)
    go (yes l) =
        subst (Reads (λ s'. taken s' pos w) s pos) (sym (taken-value s pos w l))
        record {
          onward = omega arith;
          inside = l;
          one = λ q e. absurd (ok-whole (number_at s pos w) (pos + w) q e);
          enough = λ s' g i. sym (agree-taken s s' pos w g) ∙ taken-value s pos w l;
          needed = λ s' g i j. taken-short s' pos w j;
        }
    go (no l) =
        subst (Reads (λ s'. taken s' pos w) s pos) (sym (taken-short s pos w (omega arith)))
        record {
          onward = h;
          inside = omega arith;
          one = λ q e. sym (bad-place 1 (8 * length s) 1 q e);
          enough = λ s' g i. absurd (i (8 * length s) refl);
          needed = λ s' g i j. taken-short s' pos w (omega arith);
        }

module _ {A B : Type 0} (f : List ℕ → ℕ → Res A) (g : A → List ℕ → ℕ → Res B) (F : Goes f) (G : (a : A) → Goes (g a)) where
  -- one reading after another
  goes_then : Goes (λ s pos. and_then (f s pos) (λ a q. g a s q))
  unfolding bits_until and_then
  goes_then s pos h = go (f s pos) (F s pos h)
    where
      then : List ℕ → Res B
      then s' = and_then (f s' pos) (λ a q. g a s' q)

      short : (s' : List ℕ) → f s' pos ≡ bad 1 (8 * length s') → then s' ≡ bad 1 (8 * length s')
      short s' e = rw e refl

      go : (r : Res A) → Reads (λ s'. f s' pos) s pos r → Reads then s pos (and_then r (λ a q. g a s q))
      go (bad n p) t =
          record {
            onward = t.onward;
            inside = t.inside;
            one = λ q e. sym (bad-place n p 1 q e) ∙ t.one p (ap (λ (x : ℕ). bad x p) (let d : n ≡ 1 = cc in d));
            enough = λ s' u i. rw (t.enough s' u (bad-whole n p (λ d. i p (ap (λ (x : ℕ). bad x p) d)))) refl;
            needed = λ s' u i j. short s' (t.needed s' u i j);
          }
      go (ok a p) t =
          record {
            onward = omega (arith, t.onward, v.onward);
            inside = v.inside;
            one = v.one;
            enough = λ s' u i. found s' v.onward u ∙ v.enough s' u i;
            needed = λ s' u i j. either s' u i j (dec_lt (8 * length s') p);
          }
        where
          v : Reads (λ s'. g a s' p) s p (g a s p)
          v = G a s p t.inside

          found : (s' : List ℕ) {m : ℕ} → p ≤ m → SameBits s s' m → then s' ≡ g a s' p
          found s' l u = ok-then (f s' pos) _ a p (t.enough s' (agree_less l u) (ok-whole a p))

          either : (s' : List ℕ) → SameBits s s' (8 * length s') → pos ≤ 8 * length s' → 8 * length s' < bits_until (g a s p) → Dec (8 * length s' < p)
              → then s' ≡ bad 1 (8 * length s')
          either s' u i j (yes l) = short s' (t.needed s' u i l)
          either s' u i j (no l) = found s' (omega arith) u ∙ v.needed s' u (omega arith) j

-- so it is of a format
pub record Cuts {A : Type 0} (f : Format A) : Type 0 where
  pub reads : (s : List ℕ) (pos : ℕ) → pos ≤ 8 * length s → Reads (λ s'. f.read s' pos) s pos (f.read s pos)

pub cuts-field : (w : ℕ) (t : ℕ → Bool) (n : ℕ) → (n ≡ 1 → ⊥) → Cuts (field w t n)
unfolding field
cuts-field w t n h = record { reads = goes_then (λ s pos. taken s pos w) (λ x s q. tested (t x) n x q) (goes-taken w) (λ x. goes-tested (t x) n x h) }

pub cuts-check : {A : Type 0} (f : Format A) (t : A → Bool) (n : ℕ) → (n ≡ 1 → ⊥) → Cuts f → Cuts (check f t n)
unfolding check
cuts-check f t n h c = record { reads = goes_then f.read (λ a s q. tested (t a) n a q) c.reads (λ a. goes-tested (t a) n a h) }

module _ {A B : Type 0} where
  pub cuts-pair : (f : Format A) (g : A → Format B) → Cuts f → ((a : A) → Cuts (g a)) → Cuts (pair f g)
  unfolding pair
  cuts-pair f g c d =
      record {
        reads =
            goes_then f.read (λ a s q. and_then ((g a).read s q) (λ b r. ok (a, b) r)) c.reads
            (λ a. goes_then (g a).read (λ b s q. ok (a, b) q) (d a).reads (λ b. goes-ok (a, b)));
      }

  pub cuts-via : (to : B → A) (from : A → B) (f : Format A) → Cuts f → Cuts (via to from f)
  unfolding via
  cuts-via to from f c = record { reads = goes_then f.read (λ a s q. ok (from a) q) c.reads (λ a. goes-ok (from a)) }

pub cuts-zeros : {A : Type 0} (f : Format A) (w n : ℕ) → (n ≡ 1 → ⊥) → Cuts f → Cuts (zeros f w n)
unfolding zeros
cuts-zeros f w n h c = cuts-via _ _ _ (cuts-pair f _ c (λ _. cuts-field w (eqb 0) n h))

module _ {A : Type 0} (f : List A → Format A) (each : (l : List A) → Cuts (f l)) where
  goes-rows : (l : List A) (c : ℕ) → Goes (λ s pos. rows_read f s l c pos)
  unfolding rows_read
  goes-rows l zero = goes-ok l
  goes-rows l (suc c) = goes_then (f l).read (λ a s q. rows_read f s (l ++ a ∷ []) c q) (each l).reads (λ a. goes-rows (l ++ a ∷ []) c)

  pub cuts-rows : (c : ℕ) → Cuts (rows c f)
  unfolding rows
  cuts-rows c = record { reads = goes-rows [] c }

tested-bad : {A : Type 0} (b : Bool) (m : ℕ) (a : A) (p n q : ℕ) → tested b m a p ≡ bad n q → (m ≡ n) × (p ≡ q)
unfolding tested
tested-bad true m a p n q e = absurd (let z : ◌≡◌ {A = ℕ} 0 1 = cc in omega arith)
tested-bad false m a p n q e = (cc, cc)

tested-fails : {A : Type 0} (b : Bool) (m : ℕ) (a : A) (p : ℕ) → b ≡ false → tested b m a p ≡ bad m p
unfolding tested
tested-fails b m a p e = rw e refl

tested-place : {A : Type 0} (b : Bool) (m : ℕ) (a : A) (p : ℕ) → bits_until (tested b m a p) ≡ p
unfolding tested bits_until
tested-place true m a p = refl
tested-place false m a p = refl

module _ {A : Type 0} where
  -- the filling bits after what was read
  filled : A → List ℕ → ℕ → Res A
  filled a s q = and_then ((field ((8 - q % 8) % 8) (eqb 0) 3).read s q) (λ x r. ok a r)

  goes-filled : (a : A) → Goes (filled a)
  unfolding filled
  goes-filled a s q h =
      goes_then (field ((8 - q % 8) % 8) (eqb 0) 3).read (λ x s r. ok a r) (cuts-field ((8 - q % 8) % 8) (eqb 0) 3 (λ e. omega arith)).reads (λ x. goes-ok a) s q h

  -- what is given of a file, its filling bits judged: 3 where bytes follow
  closed : List ℕ → Res A → Res A
  closed s r = and_then r (λ a q. tested (eqb q (8 * length s)) 3 a q)

  closed-place : (s : List ℕ) (r : Res A) → bits_until (closed s r) ≡ bits_until r
  unfolding closed and_then bits_until
  closed-place s (bad n q) = refl
  closed-place s (ok a q) = tested-place (eqb q (8 * length s)) 3 a q

module _ {A : Type 0} (f : Format A) where
  -- the bytes s' get n at the place q, or they end there and are read, where n is 3
  abbrev pub Again : List ℕ → ℕ → ℕ → Type 0
  Again s' n q = (read_file f s' ≡ bad n q) ⊎ ((a : A) × ((n ≡ 3) × (8 * length s' ≡ q) × (read_file f s' ≡ ok a q)))

  -- a file up to its last filling bit
  front : List ℕ → ℕ → Res A
  front s pos = and_then (f.read s pos) (λ a q. filled a s q)

  file-is : (s : List ℕ) → read_file f s ≡ closed s (front s 0)
  unfolding read_file ended closed front filled and_then
  file-is s = go (f.read s 0)
    where
      filling : (a : A) (r : Res ℕ) → and_then r (λ x p. tested (eqb p (8 * length s)) 3 a p) ≡ closed s (and_then r (λ x p. ok a p))
      filling a (bad n p) = refl
      filling a (ok x p) = refl

      go : (r : Res A) → and_then r (λ a q. ended s a q) ≡ closed s (and_then r (λ a q. filled a s q))
      go (bad n q) = refl
      go (ok a q) = filling a ((field ((8 - q % 8) % 8) (eqb 0) 3).read s q)

  -- a file that is read is taken to its end
  pub file-end : (s : List ℕ) (a : A) (q : ℕ) → read_file f s ≡ ok a q → q ≡ 8 * length s
  unfolding closed
  file-end s a q e =
      then_ok (front s 0) _ a q (sym (file-is s) ∙ e) λ b p e₀ e₁.
      let (t₀, t₁, t₂) = tested-ok (eqb p (8 * length s)) 3 b p a q e₁ in
      sym t₂ ∙ eqb-true p (8 * length s) t₀

  module _ (c : Cuts f) where
    front_reads : (s : List ℕ) → Reads (λ s'. front s' 0) s 0 (front s 0)
    unfolding front
    front_reads s = goes_then f.read filled c.reads goes-filled s 0 (omega arith)

    -- and so is one that gets 1
    pub file-one : (s : List ℕ) (q : ℕ) → read_file f s ≡ bad 1 q → q ≡ 8 * length s
    unfolding closed and_then
    file-one s q e = go (front s 0) (front_reads s) (sym (file-is s) ∙ e)
      where
        go : (r : Res A) → Reads (λ s'. front s' 0) s 0 r → closed s r ≡ bad 1 q → q ≡ 8 * length s
        go (bad n p) t d = t.one q d
        go (ok a p) t d = absurd (omega (arith, (tested-bad (eqb p (8 * length s)) 3 a p 1 q d).0))

    -- with another number the bits up to its place are enough; bytes that end there are read where 3 was for bytes that follow
    pub file-enough : (s s' : List ℕ) (n q : ℕ) → read_file f s ≡ bad n q → (n ≡ 1 → ⊥) → SameBits s s' q → Again s' n q
    unfolding closed and_then bits_until
    file-enough s s' n q e h g = go (front s 0) (front_reads s) (sym (file-is s) ∙ e)
      where
        gives : (r : Res A) → front s' 0 ≡ r → read_file f s' ≡ closed s' r
        gives r d = file-is s' ∙ ap (closed s') d

        at : (a : A) → front s' 0 ≡ ok a q → n ≡ 3 → Dec (q ≡ 8 * length s') → Again s' n q
        at a d z (yes i) = inr (a, (z, sym i, gives (ok a q) d ∙ ok-tested (eqb q (8 * length s')) 3 a q (eq-eqb q (8 * length s') i)))
        at a d z (no i) = inl (gives (ok a q) d ∙ tested-fails (eqb q (8 * length s')) 3 a q (ne_eqb q (8 * length s') i) ∙ ap (λ (x : ℕ). bad x q) (sym z))

        go : (r : Res A) → Reads (λ s'. front s' 0) s 0 r → closed s r ≡ bad n q → Again s' n q
        go (bad m p) t d =
            let i : m ≡ n = cc in
            inl (gives (bad m p) (t.enough s' (subst (SameBits s s') (sym (bad-place m p n q d)) g) (bad-whole m p (λ z. h (omega arith)))) ∙ d)
        go (ok a p) t d =
            let (z, i) = tested-bad (eqb p (8 * length s)) 3 a p n q d in
            at a (t.enough s' (subst (SameBits s s') (sym i) g) (ok-whole a p) ∙ ap (ok a) i) (sym z) (ℕ_discrete q (8 * length s'))

    -- and bytes that end before the place get 1
    pub file-needed : (s s' : List ℕ) → SameBits s s' (8 * length s') → 8 * length s' < bits_until (read_file f s) → read_file f s' ≡ bad 1 (8 * length s')
    unfolding closed and_then
    file-needed s s' g h =
        file-is s' ∙ ap (closed s') ((front_reads s).needed s' g (omega arith) (omega (arith, ap bits_until (file-is s), closed-place s (front s 0))))
