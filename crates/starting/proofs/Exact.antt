-- A start is carried out exactly when the file is read and the cells are enough. In order: of rules, and how many cells it leaves; of a file.
use mathlib.Core.Path.{◌≡◌, refl, sym, ap, ◌∙◌}
use mathlib.Core.Logic.{◌↔◌}
use mathlib.Core.List.{List}
use mathlib.Core.Option.{none}
use Prim.Native.Nat.{ℕ, ◌≤◌}
use native.Mathlib.Omega.{arith}
use borrow.Author.Tests.{leb-true, le-leb}
use lib.ListN.{length}
use Rattle.policy.specs.Policy.{Policy}
use Rattle.rules.specs.Answers.{Answer, refusal, rules, reading}
use Rattle.live.specs.Lent.{Lent, After, done}
use Rattle.live.proofs.Outcomes.{refused-not-done, tested-done, tested-all, done-refusal, done-lent}
use Rattle.starting.specs.Start.{over, session_cells, item_cells, started}
use Rattle.starting.proofs.StartLaws.{over-length, session-cells-long, item-cells-long}

module _ (p : Policy) (sessions items : List ℕ) where
  cells-enough : (started (rules p) sessions items).refusal ≡ none → (length p.sessions ≤ length sessions) × (length p.items ≤ length items)
  unfolding started
  cells-enough e =
      tested-done _ _ _ e λ h _. (leb-true (length p.sessions) (length sessions) h.0, leb-true (length p.items) (length items) h.1.0)

  module _ (s : length p.sessions ≤ length sessions) (i : length p.items ≤ length items) where
    abbrev begun : Lent
    begun =
        record {
          sessions = over (session_cells p.sessions) sessions;
          items = over (item_cells p.items) items;
          next = record { session = length p.sessions; item = length p.items };
        }

    carried-out : started (rules p) sessions items ≡ done begun
    unfolding started
    carried-out = tested-all _ _ _ (le-leb (length p.sessions) (length sessions) s, (le-leb (length p.items) (length items) i, tt))

    pub enough-starts : (started (rules p) sessions items).refusal ≡ none
    enough-starts = ap (λ (a : After). a.refusal) carried-out ∙ done-refusal begun

    started-lent : (started (rules p) sessions items).lent ≡ begun
    started-lent = ap (λ (a : After). a.lent) carried-out ∙ done-lent begun

    -- as many cells as were lent
    pub started-sessions : length (started (rules p) sessions items).lent.sessions ≡ length sessions
    started-sessions =
        ap (λ (l : Lent). length l.sessions) started-lent
        ∙ over-length (session_cells p.sessions) sessions (omega (arith, s, session-cells-long p.sessions))

    pub started-items : length (started (rules p) sessions items).lent.items ≡ length items
    started-items =
        ap (λ (l : Lent). length l.items) started-lent ∙ over-length (item_cells p.items) items (omega (arith, i, item-cells-long p.items))

unread : {C : Type 0} (n : ℕ) (sessions items : List ℕ) → (started (refusal n) sessions items).refusal ≡ none → C
unfolding started
unread n sessions items e = refused-not-done n _ e

pub start-exact : (file sessions items : List ℕ) → ((started (reading file) sessions items).refusal ≡ none)
    ↔ ((p : Policy) × (reading file ≡ rules p) × (length p.sessions ≤ length sessions) × (length p.items ≤ length items))
start-exact file sessions items = (
  forth (reading file) refl,
  λ (p, r, s, i). ap (λ (a : Answer). (started a sessions items).refusal) r ∙ enough-starts p sessions items s i,
)
  where
    forth : (a : Answer) → reading file ≡ a → (started (reading file) sessions items).refusal ≡ none
        → (p : Policy) × (reading file ≡ rules p) × (length p.sessions ≤ length sessions) × (length p.items ≤ length items)
    forth (refusal n) r e = unread n sessions items (sym (ap (λ (a : Answer). (started a sessions items).refusal) r) ∙ e)
    forth (rules p) r e =
        let (s, i) = cells-enough p sessions items (sym (ap (λ (a : Answer). (started a sessions items).refusal) r) ∙ e) in
        (p, r, s, i)
