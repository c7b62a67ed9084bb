-- Laws of the pen before the first row: the starting sessions stand open in it, one more at a time.
use mathlib.Core.Path.{◌≡◌, sym, ap, ap₂, ◌∙◌}
use mathlib.Core.List.{List}
use Prim.Native.Nat.{ℕ, ◌+◌, ◌<◌}
use native.Mathlib.Decide.{ℕ_discrete}
use native.Mathlib.Omega.{arith}
use lib.ListN.{length, get_or, set, replicate, length-set, length-replicate, get_or-replicate}
use lib.Seq.{get_or-set_same, get_or-set_other}
use Rattle.policy.specs.Policy.{Session}
use Rattle.policy.specs.Rules.{session_at, sessions_of}
use Rattle.policy.specs.declared.Sessions.{Sessions}
use Rattle.policy.proofs.Laws.{sessions-at, sessions-length}
use Rattle.session_rows.specs.declared.Pen.{Pen}
use Rattle.goal.specs.Asked.{PenReady}

-- of the first k starting sessions those that are kept stand
pub record Standing (t : Sessions) (number owner : List ℕ) (k : ℕ) : Type 0 where
  pub sized : (length number ≡ 256) × (length owner ≡ 256)
  pub standing : (v j : ℕ) → v < 256 → get_or number v 0 ≡ j + 1 → (j < k) × (session_at t j ≡ record { user = get_or owner v 0; value = v })

module _ (t : Sessions) where
  pub standing-none : Standing t (replicate 256 0) (replicate 256 0) 0
  standing-none =
      record {
        sized = (length-replicate {A = ℕ} 256 0, length-replicate {A = ℕ} 256 0);
        standing = λ v j h e. absurd (omega (arith, get_or-replicate {A = ℕ} 256 v 0 0 h));
      }

  module _ (number owner : List ℕ) (k : ℕ) (s : Standing t number owner k) where
    pub standing-stays : Standing t number owner (k + 1)
    standing-stays = record { sized = s.sized; standing = λ v j h e. let x = s.standing v j h e in (omega (arith, x.0), x.1) }

    pub standing-more : (u v : ℕ) → v < 256 → ◌≡◌ {A = Session} (record { user = u; value = v }) (session_at t k) → Standing t (set number v (k + 1)) (set owner v u) (k + 1)
    standing-more u v b e₀ =
        record {
          sized = (length-set number v (k + 1) ∙ s.sized.0, length-set owner v u ∙ s.sized.1);
          standing = λ w j h e. go w j h e (ℕ_discrete w v);
        }
      where
        held : ℕ → ℕ → Session
        held a b = record { user = a; value = b }

        go : (w j : ℕ) → w < 256 → get_or (set number v (k + 1)) w 0 ≡ j + 1 → Dec (w ≡ v)
            → (j < k + 1) × (session_at t j ≡ record { user = get_or (set owner v u) w 0; value = w })
        go w j h e (yes i) =
            let n : get_or (set number v (k + 1)) w 0 ≡ k + 1 = ap (λ (x : ℕ). get_or (set number v (k + 1)) x 0) i ∙ get_or-set_same number v (k + 1) 0 (omega (arith, s.sized.0)) in
            let o : get_or (set owner v u) w 0 ≡ u = ap (λ (x : ℕ). get_or (set owner v u) x 0) i ∙ get_or-set_same owner v u 0 (omega (arith, s.sized.1)) in
            let jk : j ≡ k = omega arith in
            (omega arith, ap (session_at t) jk ∙ sym e₀ ∙ ap₂ held (sym o) (sym i))
        go w j h e (no d) =
            let x = s.standing w j h (sym (get_or-set_other number v w (k + 1) 0 d) ∙ e) in
            (omega (arith, x.0), x.1 ∙ ap (λ (a : ℕ). held a w) (sym (get_or-set_other owner v w u 0 d)))

pub pen-ready : (t : Sessions) (p : Pen) (k : ℕ) → k ≡ t.count → p.at ≡ 0 → p.next ≡ t.count → Standing t p.number p.owner k → PenReady (sessions_of t) p
pen-ready t p k ek a n s =
    record {
      at = a;
      next = n ∙ sym (sessions-length t);
      sized = s.sized;
      standing = λ v j h e. let x = s.standing v j h e in (omega (arith, x.0, sessions-length t), sessions-at t j _ (omega (arith, x.0)) ∙ x.1);
    }
