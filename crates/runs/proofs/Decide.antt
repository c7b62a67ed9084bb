-- Some run grants what is asked exactly when the closures hold a granted pair; what stands after some run is what they hold.
-- In order: from a leak to the pair; first the item is brought about, then the session; the grant; what stands after some run.
use mathlib.Core.Path.{◌≡◌, refl, ap, ◌∙◌, subst}
use mathlib.Core.Logic.{inl, inr, ◌↔◌}
use mathlib.Core.Bool.{true}
use mathlib.Core.List.{List, [], ◌∷◌, ◌++◌}
use Prim.Native.Nat.{ℕ, suc, ◌+◌, ◌<◌}
use native.Mathlib.Omega.{arith}
use lib.ListN.{length, get_or, set, length-append, length-set}
use lib.Seq.{get_or-set_same, get_or-append_seam}
use Rattle.runs.specs.Model.{Model}
use Rattle.runs.specs.State.{Session, opened, Item, State, session_at, item_at, begin}
use Rattle.runs.specs.Step.{Grants}
use Rattle.runs.specs.Run.{run}
use Rattle.runs.specs.Grant.{Who, session, user, anyone, Which, item, anything, IsWho, IsWhich, Leak}
use Rattle.runs.specs.Reach.{Reach, ItemFrom, Brought, WhoReach, WhichReach, AskedWho, AskedWhich, Risk}
use Rattle.runs.specs.Outcome.{SessionStands, ItemStands, LeakWithin}
use Rattle.runs.proofs.Laws.{state, item_at-is, session_at-added, session_at-kept, session_at-set, begin-none}
use Rattle.runs.proofs.Invariant.{Within, session-within, start-within, run-within, who-within, which-within}
use Rattle.runs.proofs.Bring.{row, edges, item_rows, no_rows, make_rows, Leads, leads-on, Widens, carried-run, bring-new, bring-session, bring-item, bring-made}

module _ (m : Model) (start : State) where
  pub leak-risk : Brought m start → (who : Who) (which : Which) (permission : ℕ) → AskedWho m start who → AskedWhich m start which → Leak m start who which permission → Risk m start who which permission
  leak-risk b who which permission a c l =
      let s : State = run m start l.steps in
      let w : Within m start s = run-within m start (start-within m start b) l.steps in
      let g : Grants m s l.last s = l.fits.granted in
      record {
        owner = g.user;
        held = g.held;
        content = item_at s l.last.target;
        actor = who-within m start w who a l.last.actor g.user g.held g.actor l.fits.actor;
        target = which-within m start w which c l.last.target g.there l.fits.target;
        known = rw l.fits.asked at g.permission;
        allowed = subst (λ (x : ℕ). m.may_access x g.held (item_at s l.last.target) ≡ true) l.fits.asked g.allowed;
      }

  -- an item that is asked about has value o, after at most n rows that only add sessions
  pub record ItemReady (n : ℕ) (which : Which) (o : ℕ) : Type 0 where
    pub items : List Item
    pub to : Widens m n start items
    pub place : ℕ
    pub there : place < length items
    pub content : get_or items place 0 ≡ o
    pub asked : IsWhich which place

  abbrev pub which_rows : (which : Which) (o : ℕ) → WhichReach m start which o → ℕ
  which_rows (item k) o r = item_rows m (no_rows m) r
  which_rows anything o (inl r) = item_rows m (make_rows m) r
  which_rows anything o (inr (k, l, r)) = item_rows m (no_rows m) r

  item_from : (which : Which) (o k : ℕ) → k < length start.items → (r : ItemFrom m (item_at start k) o) → IsWhich which k → ItemReady (item_rows m (no_rows m) r) which o
  item_from which o k l r f = record {
    items = set start.items k o;
    to = bring-item m start k (item_at start k) l refl r;
    place = k;
    there = rw length-set l;
    content = get_or-set_same start.items k o 0 l;
    asked = f;
  }

  pub item-ready : (which : Which) (o : ℕ) → AskedWhich m start which → (r : WhichReach m start which o) → ItemReady (which_rows which o r) which o
  item-ready (item k) o c r = item_from (item k) o k c r refl
  item-ready anything o c (inl r) = record {
    items = start.items ++ o ∷ [];
    to = bring-made m r start;
    place = length start.items;
    there = rw length-append (omega arith);
    content = get_or-append_seam start.items o [] 0;
    asked = tt;
  }
  item-ready anything o c (inr (k, l, r)) = item_from anything o k l r tt

  -- a session that is asked about is one of user u with value v, at most n rows after s, and items are as they were
  pub record WhoReady (n : ℕ) (who : Who) (s : State) (u v : ℕ) : Type 0 where
    pub sessions : List Session
    pub to : Leads m n s (state sessions s.items)
    pub place : ℕ
    pub acts : session_at (state sessions s.items) place ≡ opened u v
    pub asked : IsWho who (state sessions s.items) place

  abbrev pub who_rows : (who : Who) (u v : ℕ) → WhoReach m start who u v → ℕ
  who_rows (session k) u v r = edges r.2
  who_rows (user a) u v r = suc (edges r.1)
  who_rows anyone u v r = suc (edges r)

  who-ready : (who : Who) (added : List Session) (items : List Item) (u v : ℕ) (r : WhoReach m start who u v) → WhoReady (who_rows who u v r) who (state (start.sessions ++ added) items) u v
  who-ready (session k) added items u v (held, e, r) =
      let s : State = state (start.sessions ++ added) items in
      let q : session_at s k ≡ opened u held = session_at-kept start added items k u held e in
      record { sessions = set s.sessions k (opened u v); to = bring-session m s k u held q r; place = k; acts = session_at-set s k u held v q; asked = refl }
  who-ready (user a) added items u v (e, r) =
      let s : State = state (start.sessions ++ added) items in
      record {
        sessions = s.sessions ++ opened u v ∷ [];
        to = bring-new m r s;
        place = length s.sessions;
        acts = session_at-added s u v;
        asked = (v, session_at-added s u v ∙ ap (λ (z : ℕ). opened z v) e);
      }
  who-ready anyone added items u v r =
      let s : State = state (start.sessions ++ added) items in
      record { sessions = s.sessions ++ opened u v ∷ []; to = bring-new m r s; place = length s.sessions; acts = session_at-added s u v; asked = tt }

  -- the rows of a leak: for the item, for the session, and the grant
  abbrev pub risk_rows : {who : Who} {which : Which} {permission : ℕ} → Risk m start who which permission → ℕ
  risk_rows {who} {which} r = which_rows which r.content r.target + who_rows who r.owner r.held r.actor + 1

  pub risk-within : (who : Who) (which : Which) (permission : ℕ) → AskedWhich m start which → (r : Risk m start who which permission) → LeakWithin m start who which permission (risk_rows r)
  risk-within who which permission c r =
      let p : ItemReady (which_rows which r.content r.target) which r.content = item-ready which r.content c r.target in
      let s : State = state (start.sessions ++ p.to.added) p.items in
      let q : WhoReady (who_rows who r.owner r.held r.actor) who s r.owner r.held = who-ready who p.to.added p.items r.owner r.held r.actor in
      let t : State = state q.sessions p.items in
      let l : Leads m (which_rows which r.content r.target + who_rows who r.owner r.held r.actor) start t = leads-on m p.to.to q.to in
      record {
        steps = l.steps;
        last = row 6 q.place p.place permission;
        before = t;
        carried = l.carried;
        fits = record {
          granted = record {
            kind = refl;
            user = r.owner;
            held = r.held;
            actor = q.acts;
            there = p.there;
            permission = r.known;
            allowed = rw (item_at-is t p.place, p.content) r.allowed;
            state = refl;
          };
          asked = refl;
          actor = q.asked;
          target = p.asked;
        };
        short = omega (arith, l.short);
      }

  pub within-leak : {who : Who} {which : Which} {permission n : ℕ} → LeakWithin m start who which permission n → Leak m start who which permission
  within-leak l = let e = carried-run m l.carried in record { steps = l.steps; last = l.last; fits = rw e l.fits }

  pub session-stands : Brought m start → (u v : ℕ) → SessionStands m start u v ↔ Reach m u v
  session-stands b u v = (
    λ p. (session-within m start (run-within m start (start-within m start b) p.steps) p.number u v p.stands).0,
    λ r.
        let l = bring-new m r start in
        record { steps = l.steps; number = length start.sessions; stands = rw (carried-run m l.carried) (session_at-added start u v) },
  )

  pub item-stands : Brought m start → (which : Which) → AskedWhich m start which → (o : ℕ) → ItemStands m start which o ↔ WhichReach m start which o
  item-stands b which c o = (
    λ p. rw p.content at (which-within m start (run-within m start (start-within m start b) p.steps) which c p.number p.there p.asked),
    λ r.
        let d = item-ready which o c r in
        let e : run m start d.to.to.steps ≡ state (start.sessions ++ d.to.added) d.items = carried-run m d.to.to.carried in
        record { steps = d.to.to.steps; number = d.place; asked = d.asked; there = rw e d.there; content = ap (λ (z : State). item_at z d.place) e ∙ item_at-is _ d.place ∙ d.content },
  )

-- no session stands at the start, so each was brought about
pub none-brought : (m : Model) (items : List Item) → Brought m (begin [] items)
none-brought m items k u v e = absurd (begin-none items k u v e)
