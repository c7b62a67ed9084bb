-- Starting leaves cells that code the beginning of the file's runs. In order: cells over the front of others; the starting cells read as the beginning stands.
use mathlib.Core.Path.{◌≡◌, refl, sym, ap, ◌∙◌, subst}
use mathlib.Core.List.{List}
use mathlib.Core.Option.{none, some}
use Prim.Native.Nat.{ℕ, ◌≤◌, ◌<◌}
use native.Mathlib.Decide.{dec_lt}
use native.Mathlib.Omega.{arith}
use lib.ListN.{length, get_or, drop, length-map, length-append, get_or-append}
use Rattle.policy.specs.Policy.{Session, Policy}
use Rattle.rules.specs.Answers.{Answer, reading, rules}
use Rattle.lists.specs.Sound.{Sound, starting_session}
use Rattle.runs.specs.State.{begin, session_at, item_at as value_at}
use Rattle.allowed.specs.Allowed.{model_of}
use Rattle.cells.specs.Cell.{open_cell, item_cell}
use Rattle.cells.proofs.Laws.{place_of-is, session-there, session-past, item-there}
use Rattle.live.specs.Lent.{Lent, After, numbers}
use Rattle.live.proofs.Outcomes.{tested-done, done-lent}
use Rattle.steps.specs.Step.{session_now, item_now}
use Rattle.steps.specs.Codes.{Bytes, Codes}
use Rattle.steps.proofs.Files.{file-sound, file-bytes}
use Rattle.starting.specs.Start.{over, session_cells, item_cells, started, beginning}
use Rattle.starting.proofs.Beginning.{map_at, beginning-long, beginning-session, beginning-past}

-- a place at the front
over-at : (l cells : List ℕ) (k : ℕ) → k < length l → get_or (over l cells) k 0 ≡ get_or l k 0
unfolding over
over-at l cells k h = get_or-append l (drop (length l) cells) 0 k h

over-long : (l cells : List ℕ) → length l ≤ length (over l cells)
unfolding over
over-long l cells = omega (arith, length-append l (drop (length l) cells))

module _ (p : Policy) (sound : Sound p) (bytes : Bytes (model_of p)) (sessions items : List ℕ) where
  abbrev lent : Lent
  lent =
      record {
        sessions = over (session_cells p.sessions) sessions;
        items = over (item_cells p.items) items;
        next = record { session = length p.sessions; item = length p.items };
      }

  session-begins : (k : ℕ) → Dec (k < length p.sessions) → session_now (model_of p) lent k ≡ session_at (beginning p) k
  unfolding session_now session_cells model_of starting_session
  session-begins k (yes h) =
      let t = starting_session p k in
      let cells = over (session_cells p.sessions) sessions in
      let f : Session → ℕ = λ t. open_cell t.user t.value in
      let n : length (session_cells p.sessions) ≡ length p.sessions = length-map p.sessions f in
      let i : k < length (session_cells p.sessions) = omega arith in
      let known : t.user < length p.users = sound.session-user k h in
      let value = sound.session-value k h in
      session-there (model_of p).users (model_of p).session_value cells (length p.sessions) k t.user t.value
      (omega (arith, known, sound.users)) (bytes.sessions t.value value)
      record {
        given = h;
        celled = omega (arith, i, place_of-is k, over-long (session_cells p.sessions) sessions);
        coded =
            ap (λ (j : ℕ). get_or cells j 0) (place_of-is k)
            ∙ over-at (session_cells p.sessions) sessions k i
            ∙ map_at f p.sessions record { user = 0; value = 0 } 0 k h;
        known = known;
        in-lists = value;
      }
      ∙ sym (beginning-session p k h)
  session-begins k (no h) =
      let past : length p.sessions ≤ k = omega arith in
      session-past (model_of p).users (model_of p).session_value (over (session_cells p.sessions) sessions) (length p.sessions) k past
      ∙ sym (beginning-past p k past)

  item-begins : (k : ℕ) → k < length p.items → item_now (model_of p) lent k ≡ some (value_at (beginning p) k)
  unfolding item_now value_at beginning begin item_cells model_of
  item-begins k h =
      let o = get_or p.items k 0 in
      let cells = over (item_cells p.items) items in
      let n : length (item_cells p.items) ≡ length p.items = length-map p.items item_cell in
      let i : k < length (item_cells p.items) = omega arith in
      let value = sound.item-value k h in
      item-there (model_of p).item_value cells (length p.items) k o (bytes.items o value)
      record {
        given = h;
        celled = omega (arith, i, place_of-is k, over-long (item_cells p.items) items);
        coded = ap (λ (j : ℕ). get_or cells j 0) (place_of-is k) ∙ over-at (item_cells p.items) items k i ∙ map_at item_cell p.items 0 0 k h;
        in-lists = value;
      }

  codes-beginning : Codes (model_of p) lent (beginning p)
  unfolding beginning begin numbers
  codes-beginning =
      record {
        session-count = sym (beginning-long p);
        item_count = refl;
        session-numbers = omega (arith, sound.sessions);
        item-numbers = omega (arith, sound.items);
        each-session = λ k. session-begins k (dec_lt k (length p.sessions));
        each_item = item-begins;
      }

done-codes : (p : Policy) → Sound p → Bytes (model_of p) → (sessions items : List ℕ) → (started (rules p) sessions items).refusal ≡ none
    → Codes (model_of p) (started (rules p) sessions items).lent (beginning p)
unfolding started
done-codes p sound bytes sessions items d =
    tested-done _ _ _ d λ h q.
    subst (λ (s : Lent). Codes (model_of p) s (beginning p)) (sym (ap (λ (a : After). a.lent) q ∙ done-lent (lent p sound bytes sessions items)))
    (codes-beginning p sound bytes sessions items)

pub start-codes : (file : List ℕ) (p : Policy) → reading file ≡ rules p → (sessions items : List ℕ)
    → (started (reading file) sessions items).refusal ≡ none → Codes (model_of p) (started (reading file) sessions items).lent (beginning p)
start-codes file p e sessions items d =
    subst (λ (a : Answer). Codes (model_of p) (started a sessions items).lent (beginning p)) (sym e)
    (done-codes p (file-sound file p e) (file-bytes file p e) sessions items
    (subst (λ (a : Answer). (started a sessions items).refusal ≡ none) e d))
