-- The order of endings, and whose events a log has.
use Rattle.std.proofs.Common.{◌≡◌, ◌≢◌, ◌⊎◌, ◌∙◌, refl, sym, ap, subst, inl, inr, ℕ, ◌<◌, ◌++◌, Bool, true, false, List, [], ◌∷◌, append_assoc, Option, Some, if◌then◌else◌, arith}
use Rattle.std.specs.List.{All}
use Rattle.part_hashset.specs.declared.aim.Aim.{Aim}
use Rattle.peer_fetch.specs.Fetches.{Grows}
use Rattle.peer_fetch.specs.Serves.{nothing}
use Rattle.peer_fetch.specs.declared.peer_end.PeerEnd.{PeerEnd}
use Rattle.reserve_core.specs.Desk.{own}
use Rattle.reserve_core.specs.declared.event.Event.{Event}
use Rattle.reserve_core.specs.declared.event.Event.TheVariants.{Hashes, Opened}
use Rattle.ed2k_node.specs.Download.{Did, InTurn, OwnedBy}
use Rattle.ed2k_node.specs.Link.{keeps_parts, opened_log}
use Rattle.ed2k_node.specs.Status.{rank}
use Rattle.ed2k_node.specs.declared.status.Status.{Status}
use Rattle.ed2k_node.specs.declared.status.Status.TheVariants.{Vault, NoMemory}

pub early : {P : Type 0} (status : Status) → (status ≡ Vault) ⊎ (status ≡ NoMemory) → 1 < rank status → P
early status ended past = elim ended [
  | inl is ↦ absurd (let low = ap rank is in omega (arith, low, past))
  | inr is ↦ absurd (let low = ap rank is in omega (arith, low, past))
]

-- where the vault failed or memory was refused, nothing comes before it but a complete download
pub early_in_turn : {W : Type 0} (aim : Aim) (did : Did W) → (did.ending ≡ Vault) ⊎ (did.ending ≡ NoMemory) → InTurn aim did
early_in_turn aim did ended = record {
  unfailed = λ past. early did.ending ended past;
  supplied = λ past. early did.ending ended past;
  linked = λ past. early did.ending ended (omega (arith, past));
  set_kept = λ past. early did.ending ended (omega (arith, past));
  unworn = λ past. early did.ending ended (omega (arith, past));
}

-- the log of a peer with the number 0
pub owned_by : (met : PeerEnd) (peers : List PeerEnd) (h log : List Event) → met.number ≡ Some 0 → peers ≡ met ∷ [] → log ≡ h
    → ((p : ℕ) → (p ≡ 0 → ⊥) → own h p ≡ []) → OwnedBy peers log
owned_by met peers h log number only same owned =
    subst (OwnedBy peers) (sym same) (subst (λ (ps : List PeerEnd). OwnedBy ps h) (sym only)
    (λ p others. owned p (λ is. first-of met p others (number ∙ ap (λ (n : ℕ). some n) (sym is)))))
  where
    some : ℕ → Option ℕ
    some n = Some n

    first-of : (met : PeerEnd) (p : ℕ) → All (λ m. m.number ≢ Some p) (met ∷ []) → met.number ≡ Some p → ⊥
    first-of met p others is = others 0 met (omega arith) is

pub opened_begins : (aim : Aim) (parts : List (List ℕ)) → Grows (Opened nothing ∷ []) (opened_log aim parts)
opened_begins aim parts = by (keeps_parts aim parts)
  where
    by : (kept : Bool) → Grows (Opened nothing ∷ []) (if kept then Opened nothing ∷ Hashes parts ∷ [] else Opened nothing ∷ [])
    by true = (Hashes parts ∷ [], refl)
    by false = ([], refl)

pub grows_on : (a b c : List Event) → Grows a b → Grows b c → Grows a c
grows_on a b c one two = (one.0 ++ two.0, two.1 ∙ (ap (λ (l : List Event). l ++ two.0) one.1 ∙ append_assoc a one.0 two.0))
