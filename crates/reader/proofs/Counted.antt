-- The lists that were read are as long as the head says. In order: what holds of every value that a format reads, by each
-- way of building one; the rule file's lists.
use mathlib.Core.Path.{◌≡◌, sym, ap, subst, ◌∙◌}
use mathlib.Core.Bool.{Bool}
use mathlib.Core.List.{List, [], ◌∷◌, ◌++◌}
use Prim.Native.Nat.{ℕ, zero, suc, ◌+◌}
use native.Mathlib.Omega.{arith}
use lib.ListN.{length, length-append}
use Rattle.format.specs.Format.{ok, Format, tested, check, rows_read, rows, pair, via}
use Rattle.std.specs.Prelude.{Ok}
use Rattle.format.specs.Reads.{Reads}
use Rattle.format.specs.declared.file_reader.FileReader.{FileReader}
use Rattle.format.proofs.Chain.{shown}
use Rattle.format.proofs.Fault.{then_ok, tested-ok}
use Rattle.policy.specs.Policy.{Head, Lists, Policy}
use Rattle.policy.specs.File.{class_format, lists_format, policy_format}
use Rattle.policy.specs.Rules.{lists_of, values_of, sessions_of, formulas_of, policy_of}
use Rattle.policy.specs.declared.Rules.{Rules}
use Rattle.policy.proofs.Laws.{attrs-length}
use Rattle.reader_head.specs.Parts.{head_of}
use Rattle.reader_head.specs.declared.Counts.{Counts}

-- every value that the format reads is such
record Only {A : Type 0} (f : Format A) (P : A → Type 0) : Type 0 where
  has : (s : List ℕ) (pos : ℕ) (a : A) (q : ℕ) → f.read s pos ≡ ok a q → P a

same-value : {A : Type 0} (a b : A) (p q : ℕ) → ok a p ≡ ok b q → a ≡ b
same-value a b p q e = cc

module _ {A : Type 0} where
  only-any : (f : Format A) → Only f (λ _. Unit {0})
  only-any f = record { has = λ s pos a q e. tt }

  only-check : (f : Format A) (P : A → Type 0) (t : A → Bool) (n : ℕ) → Only f P → Only (check f t n) P
  unfolding check
  only-check f P t n o =
      record {
        has = λ s pos a q e.
            then_ok (f.read s pos) (λ a q. tested (t a) n a q) a q e λ b p e₀ e₁.
            subst P (tested-ok (t b) n b p a q e₁).1 (o.has s pos b p e₀);
      }

  rows_long : (f : List A → Format A) (s : List ℕ) (l : List A) (n pos : ℕ) (m : List A) (q : ℕ) → rows_read f s l n pos ≡ ok m q → length m ≡ length l + n
  unfolding rows_read
  rows_long f s l zero pos m q e = omega (arith, ap length (same-value l m pos q e))
  rows_long f s l (suc n) pos m q e =
      then_ok ((f l).read s pos) _ m q e λ a p e₀ e₁.
      omega (arith, rows_long f s (l ++ a ∷ []) n p m q e₁, length-append l (a ∷ []))

  only-rows : (n : ℕ) (f : List A → Format A) → Only (rows n f) (λ l. length l ≡ n)
  unfolding rows
  only-rows n f = record { has = λ s pos l q e. omega (arith, rows_long f s [] n pos l q e) }

module _ {A B : Type 0} where
  only-pair : (f : Format A) (g : A → Format B) (P : A → Type 0) (Q : A → B → Type 0) → Only f P → ((a : A) → Only (g a) (Q a))
      → Only (pair f g) (λ p. P p.0 × Q p.0 p.1)
  unfolding pair
  only-pair f g P Q o k =
      record {
        has = λ s pos p q e.
            then_ok (f.read s pos) _ p q e λ a r e₀ e₁.
            then_ok ((g a).read s r) _ p q e₁ λ b t e₂ e₃.
            subst (λ (x : A × B). P x.0 × Q x.0 x.1) (same-value (a, b) p t q e₃) (o.has s pos a r e₀, (k a).has s r b t e₂);
      }

  only-via : (to : B → A) (back : A → B) (f : Format A) (P : A → Type 0) (Q : B → Type 0) → Only f P → ((a : A) → P a → Q (back a)) → Only (via to back f) Q
  unfolding via
  only-via to back f P Q o k =
      record {
        has = λ s pos b q e.
            then_ok (f.read s pos) _ b q e λ a r e₀ e₁.
            subst Q (same-value (back a) b r q e₁) (k a (o.has s pos a r e₀));
      }

-- the lists are as long as the head says
record Long (h : Head) (c : Lists) : Type 0 where
  user : length c.of_user ≡ h.user_attrs
  session : length c.of_session ≡ h.session_attrs
  item : length c.of_item ≡ h.item_attrs

only-class : (sizes : List ℕ) (n : ℕ) → Only (class_format sizes n) (λ l. length l ≡ n)
unfolding class_format
only-class sizes n = only-check _ _ _ _ (only-rows n _)

only-lists : (h : Head) → Only (lists_format h) (Long h)
unfolding lists_format
only-lists h =
    only-via _ _ _ _ _
    (only-pair _ _ _ _ (only-class _ h.user_attrs) λ _. only-pair _ _ _ _ (only-class _ h.session_attrs) λ _. only-class _ h.item_attrs)
    (λ p k. record { user = k.0; session = k.1.0; item = k.1.1 })

only-policy : Only policy_format (λ p. Long p.head p.lists)
unfolding policy_format
only-policy =
    only-via _ _ _ _ _ (only-pair _ _ _ (λ h r. Long h r.0 × Unit {0}) (only-any _) λ h. only-pair _ _ _ (λ _ _. Unit {0}) (only-lists h) λ _. only-any _)
    (λ p k. k.1.0)

-- what the rules say, with the counts of a head
unfoldable pub under_head : Counts → Rules → Policy
under_head h r =
    record {
      head = head_of h;
      lists = lists_of r.classes;
      users = values_of r.users;
      sessions = sessions_of r.sessions;
      items = values_of r.items;
      formulas = formulas_of r.nodes r.lengths (4 + r.permissions);
    }

module _ (h : Counts) (r : Rules) (users : r.users.count ≡ h.users) (sessions : r.sessions.count ≡ h.sessions) (items : r.items.count ≡ h.items)
    (permissions : r.permissions ≡ h.permissions) where
  counted : Long (head_of h) (lists_of r.classes) → policy_of r ≡ under_head h r
  unfolding policy_of under_head head_of lists_of
  counted l =
      let eu : r.classes.user.count ≡ h.user = sym (attrs-length r.classes.user) ∙ l.user in
      let et : r.classes.session.count ≡ h.session = sym (attrs-length r.classes.session) ∙ l.session in
      let ei : r.classes.item.count ≡ h.item = sym (attrs-length r.classes.item) ∙ l.item in
      cc

  -- the counts that the rules keep are the head's
  pub read-counted : {old new : FileReader} (most : ℕ) → Reads policy_format most (under_head h) old new (Ok r) → Reads policy_format most policy_of old new (Ok r)
  unfolding under_head
  read-counted most e = shown r most e (sym (counted (only-policy.has _ _ _ _ (sym e.answer)))) (omega arith)
