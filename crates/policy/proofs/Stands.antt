-- Where the attributes of a rule file stand, and the numbers of their lists there. In order: an attribute, some of them, the attributes of a class, of all
-- classes, the head before them.
use mathlib.Core.Path.{◌≡◌, refl, sym, ap, ◌∙◌}
use mathlib.Core.List.{List, [], ◌∷◌, ◌++◌}
use mathlib.Core.Option.{none}
use Prim.Native.Nat.{ℕ, zero, suc, ◌+◌, ◌-◌, ◌*◌, ◌%◌, ◌^◌, ◌≤◌, ◌<◌}
use native.Mathlib.Decide.{dec_lt}
use native.Mathlib.Nat.{mod-eq_of_lt}
use native.Mathlib.Omega.{arith}
use lib.ListN.{length, get_or, length-append, get_or-append}
use lib.Seq.{get_or-append-add}
use Rattle.bits.specs.Field.{number_at}
use Rattle.bits.specs.Packed.{widths}
use Rattle.bits.proofs.Packed.{widths-app}
use Rattle.format.specs.Format.{ok, Format, within, field, check, rows_judge, rows_fields, rows, pair, via, zeros}
use Rattle.format.proofs.Fault.{first-none}
use Rattle.format.proofs.Holds.{Has, has_left, has_right}
use Rattle.format.proofs.Law.{judged-field, judged-rows}
use Rattle.policy.specs.Policy.{Attr, no_attr, Head, Lists}
use Rattle.policy.specs.File.{count, head_format, no_sizes, sizes_after, attr_format, class_format, lists_format}
use Rattle.policy.proofs.Listed.{attributes, attr-fits}
use Rattle.policy.proofs.PolicyLaw.{lawful-head, lawful-attr, lawful-class, lawful-lists}

-- an attribute after those of its class
abbrev attr_after : List ℕ → List Attr → Format Attr
attr_after sizes l = attr_format (sizes_after sizes l)

module _ (s : List ℕ) where
  -- the number of the list of an attribute that stands at a place
  abbrev pub list_at : ℕ → ℕ
  list_at pos = number_at s (pos + 6) 5

  attr-list : (sizes : List ℕ) (a : Attr) (pos : ℕ) → (attr_format sizes).judge a ≡ none → Has s pos ((attr_format sizes).fields a) → a.list ≡ list_at pos
  unfolding attr_format via zeros pair field
  attr-list sizes a pos j h =
      sym (ap (λ (p : ℕ). number_at s p 5) (let e : pos + 6 ≡ pos + 1 + 5 = omega arith in e) ∙ h.1.1.0 ∙ mod-eq_of_lt (omega (arith, (attr-fits sizes a j).short)))

  attr-width : (sizes : List ℕ) (a : Attr) → widths ((attr_format sizes).fields a) ≡ 12
  unfolding attr_format via zeros pair field widths
  attr-width sizes a = refl

  -- n attributes stand from a place on, each 12 bits
  pub record Stand (l : List Attr) (n pos : ℕ) : Type 0 where
    pub long : length l ≡ n
    pub lists : (k : ℕ) → k < n → (get_or l k no_attr).list ≡ list_at (pos + 12 * k)

  stand-app : (l m : List Attr) (n i pos q : ℕ) → Stand l n pos → Stand m i q → q ≡ pos + 12 * n → Stand (l ++ m) (n + i) pos
  stand-app l m n i pos q f g e =
      record { long = omega (arith, length-append l m, f.long, g.long); lists = λ k h. go k h (dec_lt k n) }
    where
      go : (k : ℕ) → k < n + i → Dec (k < n) → (get_or (l ++ m) k no_attr).list ≡ list_at (pos + 12 * k)
      go k h (yes d) = ap (λ (a : Attr). a.list) (get_or-append l m no_attr k (omega (arith, f.long))) ∙ f.lists k d
      go k h (no d) =
          let j : k ≡ length l + (k - n) = omega (arith, f.long) in
          ap (λ (x : ℕ). (get_or (l ++ m) x no_attr).list) j ∙ ap (λ (a : Attr). a.list) (get_or-append-add l m (k - n) no_attr)
          ∙ g.lists (k - n) (omega arith) ∙ ap list_at (omega arith)

  rows-stand : (sizes : List ℕ) (l : List Attr) (n : ℕ) (m : List Attr) (pos : ℕ) → rows_judge (attr_after sizes) l n m ≡ none → Has s pos (rows_fields (attr_after sizes) l m)
      → (k : ℕ) → k < length m → (get_or m k no_attr).list ≡ list_at (pos + 12 * k)
  unfolding rows_judge rows_fields
  rows-stand sizes l n [] pos j h k i = absurd (omega arith)
  rows-stand sizes l zero (a ∷ m) pos j h k i = absurd (let z : ◌≡◌ {A = ℕ} 0 1 = cc in omega arith)
  rows-stand sizes l (suc n) (a ∷ m) pos j h zero i =
      let t = attr_after sizes in
      attr-list _ a pos (first-none _ _ j).0 (has_left s pos ((t l).fields a) (rows_fields t (l ++ a ∷ []) m) h) ∙ ap list_at (omega arith)
  rows-stand sizes l (suc n) (a ∷ m) pos j h (suc k) i =
      let t = attr_after sizes in
      rows-stand sizes (l ++ a ∷ []) n m (pos + widths ((t l).fields a)) (first-none ((t l).judge a) _ j).1
      (has_right s pos ((t l).fields a) (rows_fields t (l ++ a ∷ []) m) h) k (omega arith)
      ∙ ap list_at (omega (arith, attr-width (sizes_after sizes l) a))

  rows-width : (sizes : List ℕ) (l m : List Attr) → widths (rows_fields (attr_after sizes) l m) ≡ 12 * length m
  unfolding rows_fields widths
  rows-width sizes l [] = omega arith
  rows-width sizes l (a ∷ m) =
      let fs = (attr_after sizes l).fields a in
      omega (arith, widths-app fs (rows_fields (attr_after sizes) (l ++ a ∷ []) m), attr-width (sizes_after sizes l) a, rows-width sizes (l ++ a ∷ []) m)

  -- a class that is judged sound, and its bits
  class-stands : (sizes : List ℕ) (n : ℕ) (l : List Attr) (pos : ℕ) → (class_format sizes n).judge l ≡ none → Has s pos ((class_format sizes n).fields l) → Stand l n pos
  unfolding class_format check rows
  class-stands sizes n l pos j h =
      let j₀ = (first-none _ _ j).0 in
      let e : length l ≡ n = judged-rows n _ l j₀ in
      record { long = e; lists = λ k i. rows-stand sizes [] n l pos j₀ h k (omega arith) }

  class-width : (sizes : List ℕ) (n : ℕ) (l : List Attr) → (class_format sizes n).judge l ≡ none → widths ((class_format sizes n).fields l) ≡ 12 * n
  unfolding class_format check rows
  class-width sizes n l j = let e : length l ≡ n = judged-rows n _ l (first-none _ _ j).0 in omega (arith, rows-width sizes [] l)

  -- the place after what is read, and what stands there
  pub attr-place : (sizes : List ℕ) (a : Attr) (pos q : ℕ) → pos ≤ 8 * length s → (attr_format sizes).read s pos ≡ ok a q → (q ≡ pos + 12) × (q ≤ 8 * length s)
  attr-place sizes a pos q h e =
      let b = (lawful-attr sizes).back a s pos q h e in
      (omega (arith, b.place, attr-width sizes a), omega (arith, b.place, b.holds.ends))

  pub class-place : (sizes : List ℕ) (n : ℕ) (l : List Attr) (pos q : ℕ) → pos ≤ 8 * length s → (class_format sizes n).read s pos ≡ ok l q → (q ≡ pos + 12 * n) × (q ≤ 8 * length s)
  class-place sizes n l pos q h e =
      let b = (lawful-class sizes n).back l s pos q h e in
      (omega (arith, b.place, class-width sizes n l b.judged), omega (arith, b.place, b.holds.ends))

  pub lists-stand : (h : Head) (c : Lists) (pos q : ℕ) → pos ≤ 8 * length s → (lists_format h).read s pos ≡ ok c q
      → Stand (attributes c) (h.user_attrs + h.session_attrs + h.item_attrs) pos
  unfolding lists_format via pair
  lists-stand h c pos q l e =
      let b = (lawful-lists h).back c s pos q l e in
      let (u, v) = first-none _ _ b.judged in
      let (t, i) = first-none _ _ v in
      let f = (class_format no_sizes h.user_attrs).fields c.of_user in
      let k = has_right s pos f _ b.holds.has in
      let g = (class_format (sizes_after no_sizes c.of_user) h.session_attrs).fields c.of_session in
      stand-app (c.of_user ++ c.of_session) c.of_item (h.user_attrs + h.session_attrs) h.item_attrs pos (pos + widths f + widths g)
      (stand-app c.of_user c.of_session h.user_attrs h.session_attrs pos (pos + widths f) (class-stands _ _ _ pos u (has_left s pos f _ b.holds.has))
      (class-stands _ _ _ (pos + widths f) t (has_left s (pos + widths f) g _ k)) (omega (arith, class-width _ _ _ u)))
      (class-stands _ _ _ (pos + widths f + widths g) i (has_right s (pos + widths f) g _ k)) (omega (arith, class-width _ _ _ u, class-width _ _ _ t))

  -- the counts of a head that is read
  pub record HeadAt (h : Head) (q : ℕ) : Type 0 where
    pub place : q ≡ 40
    pub ends : q ≤ 8 * length s
    pub user : h.user_attrs ≡ number_at s 0 4
    pub session : h.session_attrs ≡ number_at s 4 4
    pub item : h.item_attrs ≡ number_at s 8 4

  pub head_at : (h : Head) (q : ℕ) → head_format.read s 0 ≡ ok h q → HeadAt h q
  unfolding head_format count via zeros pair field widths
  head_at h q e =
      let b = lawful-head.back h s 0 q (omega arith) e in
      let g = b.holds.has in
      let j₀ = first-none _ _ (first-none _ _ b.judged).0 in
      let j₁ = first-none _ _ j₀.1 in
      let j₂ = first-none _ _ j₁.1 in
      record {
        place = omega (arith, b.place);
        ends = omega (arith, b.place, b.holds.ends);
        user = fits h.user_attrs 0 j₀.0 g.0;
        session = fits h.session_attrs 4 j₁.0 g.1.0;
        item = fits h.item_attrs 8 j₂.0 g.1.1.0;
      }
    where
      fits : (x pos : ℕ) → (count 4 0 8).judge x ≡ none → number_at s pos 4 ≡ x % 2 ^ 4 → x ≡ number_at s pos 4
      fits x pos j d = sym (d ∙ mod-eq_of_lt (judged-field 4 (within 0 9) 2 x j).0)
