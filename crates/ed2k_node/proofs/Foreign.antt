-- Events that are no peer's own leave what peers hold.
use Rattle.std.proofs.Common.{◌≡◌, ◌∙◌, refl, sym, ap, ℕ, ◌++◌, ◌==◌, Bool, true, false, List, [], ◌∷◌, append_assoc, IsFalse, IsTrue, arith}
use Rattle.std.specs.List.{list_any}
use Rattle.std.proofs.lemmas.Bool.Decides.{nat_tests}
use Rattle.std.proofs.lemmas.List.{append-nil}
use Rattle.part_store.specs.Solo.{faults_of}
use Rattle.reserve_core.specs.Desk.{is_own, own}
use Rattle.reserve_core.specs.Held.{holds_of, is_holder}
use Rattle.reserve_core.specs.declared.event.Event.{Event}
use Rattle.reserve_core.specs.declared.event.Event.TheVariants.{Opened, Hashes, Offer, Reserve, Write, Release, Commit, Verdict, Recovered, Dropped}
use Rattle.reserve_core.specs.declared.hold.Hold.{Hold}
use Rattle.reserve_core.proofs.Quiet.{Holds, holds-same}
use Rattle.ed2k_node.specs.Left.{GoesOn}
use Rattle.ed2k_node.proofs.DueLog.{foreign_first}

same-number : (q : ℕ) → (q == q) ≡ false → ⊥
same-number q differs = let same : (q == q) ≡ true = grind (arith, nat_tests) in cc

-- an event that is no peer's own holds and releases nothing
foreign-holds : (e : Event) → ((p : ℕ) → is_own p e ≡ false) → Holds e
foreign-holds (Reserve q spans) none = absurd (same-number q (none q))
foreign-holds (Write q r) none = absurd (same-number q (none q))
foreign-holds (Release q) none = absurd (same-number q (none q))
foreign-holds (Opened o) none = record { kept = λ p. refl; still = λ p r. refl; none = refl }
foreign-holds (Hashes set) none = record { kept = λ p. refl; still = λ p r. refl; none = refl }
foreign-holds (Offer q bits) none = record { kept = λ p. refl; still = λ p r. refl; none = refl }
foreign-holds Commit none = record { kept = λ p. refl; still = λ p r. refl; none = refl }
foreign-holds (Verdict i d) none = record { kept = λ p. refl; still = λ p r. refl; none = refl }
foreign-holds (Recovered i bits) none = record { kept = λ p. refl; still = λ p r. refl; none = refl }
foreign-holds (Dropped i) none = record { kept = λ p. refl; still = λ p r. refl; none = refl }

all-hold : (h more : List Event) → ((p : ℕ) → own more p ≡ []) → holds_of (h ++ more) ≡ holds_of h
all-hold h [] none = ap holds_of (append-nil h)
all-hold h (e ∷ more) none =
    ap holds_of (sym (append_assoc h (e ∷ []) more))
    ∙ (all-hold (h ++ e ∷ []) more (λ p. (foreign_first p e more (none p)).1) ∙ holds-same h e (foreign-holds e (λ p. (foreign_first p e more (none p)).0)))

pub holders_stay : (old new : List Event) (p : ℕ) → GoesOn old new → is_holder new p ≡ is_holder old p
holders_stay old new p on =
    ap (λ (h : List Event). is_holder h p) on.grows ∙ ap (λ (holds : List Hold). list_any (λ hold. hold.peer == p) holds) (all-hold old on.more on.foreign)

-- ---- a store that works has counted no fault

pub no_faults : (broken : Bool) → IsFalse broken → faults_of broken ≡ 0
no_faults true works = absurd (cc)
no_faults false works = refl

-- one that works now worked before
pub worked : (before now : Bool) → (IsTrue before → IsTrue now) → IsFalse now → IsFalse before
worked true now breaks works = let broken = breaks refl in absurd (cc)
worked false now breaks works = refl
