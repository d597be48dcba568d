-- In a legal log no position was ever held by two peers.
use Rattle.std.proofs.Common.{◌≡◌, ◌≢◌, ◌∙◌, sym, subst, ℕ, List, [], ◌∷◌, ◌++◌, IsTrue}
use Rattle.part_hashset.specs.declared.aim.Aim.{Aim}
use Rattle.reserve_core.specs.Events.{events, CallsRise}
use Rattle.reserve_core.specs.Held.{holds}
use Rattle.reserve_core.specs.Laws.{NoPositionIsHeldTwice}
use Rattle.reserve_core.specs.Legal.{Follows, IsLegal}
use Rattle.reserve_core.specs.declared.event.Entry.{Entry}
use Rattle.reserve_core.specs.declared.event.Event.{Event}
use Rattle.ed2k_node.specs.Left.{IsNeverShared}

follows-front : (aim : Aim) (past : List Event) (h k : List Entry) → Follows aim past (events (h ++ k)) → Follows aim past (events h)
follows-front aim past [] k follows = tt
follows-front aim past (entry ∷ h) k follows = (follows.0, follows-front aim (past ++ entry.event ∷ []) h k follows.1)

calls-front : (low : ℕ) (h k : List Entry) → CallsRise low (h ++ k) → CallsRise low h
calls-front low [] k rise = tt
calls-front low (entry ∷ h) k rise = (rise.0, calls-front entry.calls h k rise.1)

legal-front : (aim : Aim) (entry : Entry) (h k : List Entry) → IsLegal aim ((entry ∷ h) ++ k) → IsLegal aim (entry ∷ h)
legal-front aim entry h k legal = record {
  events = (legal.events.0, follows-front aim (entry.event ∷ []) h k legal.events.1);
  calls = calls-front 0 (entry ∷ h) k legal.calls;
}

none_held : (p x : ℕ) → IsTrue (holds [] p x) → ⊥
none_held p x held = cc

some_left : (log : List Entry) (entry : Entry) (h k : List Entry) → log ≡ (entry ∷ h) ++ k → log ≢ []
some_left log entry h k is none = let same : (entry ∷ (h ++ k)) ≡ [] = sym is ∙ none in cc

pub never_shared : NoPositionIsHeldTwice → (aim : Aim) (log : List Entry) → (log ≢ [] → IsLegal aim log) → IsNeverShared log
never_shared law aim log legal [] later p q x is one two = absurd (none_held p x one)
never_shared law aim log legal (entry ∷ h) later p q x is one two =
    let all = subst (λ (l : List Entry). IsLegal aim l) is (legal (some_left log entry h later is)) in
    law aim (entry ∷ h) p q x (legal-front aim entry h later all) one two

pub none_is_never_shared : (log : List Entry) → log ≡ [] → IsNeverShared log
none_is_never_shared log none [] later p q x is one two = absurd (none_held p x one)
none_is_never_shared log none (entry ∷ h) later p q x is one two = absurd (some_left log entry h later is none)
