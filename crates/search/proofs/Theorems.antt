-- The claims, one line each.
use mathlib.Core.Path.{refl}
use Prim.Native.Nat.{◌+◌}
use Rattle.runs.specs.Edge.{opens_with, changes_to}
use Rattle.verdict.proofs.Decided.{changes-to}
use Rattle.search.specs.Claims.{SessionsAreSearched, OwnIsSearched, OneItemIsSearched, AnyItemIsSearched, SearchedIsClosure}
use Rattle.search.proofs.Turns.{sessions-is, own_is, one-is, any-is}
use Rattle.search.proofs.Growing.{tested, single, grow-searched}
use Rattle.search.proofs.ItemGrowing.{begun, grow-items-searched}
use Rattle.search.proofs.Paths.{seen-in, in-seen}

pub sessions-are-searched : SessionsAreSearched
sessions-are-searched m u = rw (sessions-is m u) (grow-searched _ m.session_value (changes_to m u) (λ x y e. ((changes-to m u x y).0 e).0) _ (tested _ _ (opens_with m u) (λ v e. e) (λ via v e. e)))

pub own-is-searched : OwnIsSearched
own-is-searched m u held h = rw (own_is m u held) (grow-searched _ m.session_value (changes_to m u) (λ x y e. ((changes-to m u x y).0 e).0) _ (single _ _ held 0 h refl (λ w v e. e)))

pub one-item-is-searched : OneItemIsSearched
one-item-is-searched m helper j held h l = rw (one-is m helper j held) (grow-items-searched m helper _ _ (single _ _ held (256 + j) h (refl, refl) (λ w v e. e.1)))

pub any-item-is-searched : AnyItemIsSearched
any-item-is-searched m helper values l byte = rw (any-is m helper values) (grow-items-searched m helper _ _ (begun m helper values byte _))

pub searched-is-closure : SearchedIsClosure
searched-is-closure S E q c s e v h = (seen-in S E q c.good v h, λ r. (in-seen S E q c s e r).1)
