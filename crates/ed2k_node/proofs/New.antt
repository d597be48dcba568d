-- A log with its first entry alone, or with a hash set behind it.
use Rattle.std.proofs.Common.{◌≡◌, ◌∙◌, refl, sym, ap, subst, inl, inr, ℕ, ◌<◌, suc, zero, nat_le, nat_lt, Bool, true, false, not, List, [], ◌∷◌, ◌++◌, Option, Some, None, IsFalse, IsTrue, if◌then◌else◌, arith}
use Rattle.std.proofs.lemmas.Bool.{both_ways}
use Rattle.std.specs.Bool.{then_some}
use Rattle.std.specs.List.{list_all, range_with_len}
use Rattle.std.specs.Option.{option_map}
use Rattle.std.proofs.lemmas.Bool.Decides.{nat_tests}
use Rattle.part_hashset.specs.HashSet.{set_fault}
use Rattle.part_hashset.specs.declared.aim.Aim.{Aim}
use Rattle.part_hashset.specs.declared.check.SetFault.{SetFault}
use Rattle.part_sizes.specs.Part.{IsSize, data_parts}
use Rattle.part_sizes.specs.declared.part.TheConstants.{PART}
use Rattle.part_sizes.proofs.Laws.{part_of_exists}
use Rattle.peer_fetch.specs.Serves.{nothing}
use Rattle.reserve_core.specs.Refusals.{first_cause, refusal}
use Rattle.reserve_core.specs.Desk.{IsRefused, is_outside}
use Rattle.reserve_core.specs.Events.{events}
use Rattle.reserve_core.specs.Seen.{added}
use Rattle.part_hashset.specs.Goals.{is_nil, passes}
use Rattle.reserve_core.specs.Verdicts.{goal, is_verified}
use Rattle.reserve_core.specs.declared.event.Entry.{Entry}
use Rattle.reserve_core.specs.declared.event.Event.{Event}
use Rattle.reserve_core.specs.declared.event.Event.TheVariants.{Opened, Hashes}
use Rattle.reserve_core.specs.declared.fault.DeskFault.{DeskFault}
use Rattle.reserve_core.specs.declared.fault.DeskFault.TheVariants.{AlreadySet, NotNeeded, Set}
use Rattle.reserve_core.proofs.Latest.{events-added}
use Rattle.ed2k_node.specs.Left.{IsComplete, IsNew}
use Rattle.ed2k_node.specs.Link.{keeps_parts, opened_log}

new-if : (parts : List (List ℕ)) (kept : Bool) → IsNew (if kept then Opened nothing ∷ Hashes parts ∷ [] else Opened nothing ∷ [])
new-if parts true = record { empty = λ n x. refl; unjudged = λ i. refl; committed = refl; unowned = λ p. refl }
new-if parts false = record { empty = λ n x. refl; unjudged = λ i. refl; committed = refl; unowned = λ p. refl }

-- a store that was just made for a link is new
pub new_opened : (aim : Aim) (parts : List (List ℕ)) → IsNew (opened_log aim parts)
new_opened aim parts = new-if parts (keeps_parts aim parts)

pub opens_with : (log : List Entry) (calls : ℕ) → log ≡ added [] calls (Opened nothing) → events log ≡ Opened nothing ∷ []
opens_with log calls is = ap events is

-- ---- the part hashes of a link, where the store is new

keeps-ok : (aim : Aim) (parts : List (List ℕ)) (below : Bool) (fault : Option SetFault) → nat_lt aim.size PART ≡ below → set_fault aim.size aim.hash parts ≡ fault
    → first_cause (then_some below NotNeeded ∷ then_some (not (is_nil [])) AlreadySet ∷ option_map Set fault ∷ []) ≡ None → keeps_parts aim parts ≡ true
keeps-ok aim parts true fault low is free = absurd (cc)
keeps-ok aim parts false (Some found) low is free = absurd (cc)
keeps-ok aim parts false None low is free =
    let high : nat_le PART aim.size ≡ true = grind (arith, nat_tests, low) in
    rw (high, is) refl

keeps-err : (aim : Aim) (parts : List (List ℕ)) (below : Bool) (fault : Option SetFault) (refused : DeskFault) → nat_lt aim.size PART ≡ below → set_fault aim.size aim.hash parts ≡ fault
    → first_cause (then_some below NotNeeded ∷ then_some (not (is_nil [])) AlreadySet ∷ option_map Set fault ∷ []) ≡ Some refused → keeps_parts aim parts ≡ false
keeps-err aim parts true fault refused low is why =
    let small : nat_le PART aim.size ≡ false = grind (arith, nat_tests, low) in
    rw small refl
keeps-err aim parts false (Some found) refused low is why =
    let high : nat_le PART aim.size ≡ true = grind (arith, nat_tests, low) in
    rw (high, is) refl
keeps-err aim parts false None refused low is why = absurd (cc)

opened-kept : (aim : Aim) (parts : List (List ℕ)) (kept : Bool) (h : List Event) → keeps_parts aim parts ≡ kept → h ≡ (if kept then Opened nothing ∷ Hashes parts ∷ [] else Opened nothing ∷ []) → h ≡ opened_log aim parts
opened-kept aim parts kept h is same = same ∙ ap (λ (b : Bool). if b then Opened nothing ∷ Hashes parts ∷ [] else Opened nothing ∷ []) (sym is)

pub opened_ok : (aim : Aim) (parts : List (List ℕ)) (old new : List Entry) (calls : ℕ) → events old ≡ Opened nothing ∷ [] → refusal aim (events old) (Hashes parts) ≡ None
    → new ≡ added old calls (Hashes parts) → events new ≡ opened_log aim parts
opened_ok aim parts old new calls first free is =
    let why = subst (λ (h : List Event). refusal aim h (Hashes parts) ≡ None) first free in
    opened-kept aim parts true (events new) (keeps-ok aim parts (nat_lt aim.size PART) (set_fault aim.size aim.hash parts) refl refl why)
    (ap events is ∙ (events-added old calls (Hashes parts) ∙ ap (λ (h : List Event). h ++ Hashes parts ∷ []) first))

pub opened_err : (aim : Aim) (parts : List (List ℕ)) (old new : List Entry) (fault : DeskFault) → events old ≡ Opened nothing ∷ [] → IsRefused (refusal aim (events old) (Hashes parts)) fault
    → IsFalse (is_outside fault) → new ≡ old → events new ≡ opened_log aim parts
opened_err aim parts old new fault first answer inside is = elim answer [
  | inl outside ↦ absurd (both_ways (is_outside fault) inside outside)
  | inr told ↦
      let why = subst (λ (h : List Event). refusal aim h (Hashes parts) ≡ Some fault) first told in
      opened-kept aim parts false (events new) (keeps-err aim parts (nat_lt aim.size PART) (set_fault aim.size aim.hash parts) fault refl refl why) (ap events is ∙ first)
]

pub new_ok : (aim : Aim) (parts : List (List ℕ)) (old new : List Entry) (calls : ℕ) → events old ≡ Opened nothing ∷ [] → refusal aim (events old) (Hashes parts) ≡ None
    → new ≡ added old calls (Hashes parts) → IsNew (events new)
new_ok aim parts old new calls first free is = subst IsNew (sym (opened_ok aim parts old new calls first free is)) (new_opened aim parts)

pub new_err : (old new : List Entry) → events old ≡ Opened nothing ∷ [] → new ≡ old → IsNew (events new)
new_err old new first is = subst IsNew (sym (ap events is ∙ first)) (new-if [] false)

first_fails : (test : ℕ → Bool) (count : ℕ) → test 0 ≡ false → 0 < count → IsTrue (list_all test (range_with_len 0 count)) → ⊥
first_fails test zero fails some all = omega (arith, some)
first_fails test (suc count) fails some all = let here = rw fails at all in cc

pub new_is_not_complete : (aim : Aim) (log : List Entry) → IsSize aim.size → IsNew (events log) → IsComplete aim (events log) → ⊥
new_is_not_complete aim log size new all =
    let exists : 0 < data_parts aim.size = omega (arith, part_of_exists aim.size 0 (omega (arith, size))) in
    first_fails (is_verified aim (events log)) (data_parts aim.size)
    (ap (λ (o : Option (List ℕ)). passes (goal aim (events log) 0) o) (new.unjudged 0)) exists all
