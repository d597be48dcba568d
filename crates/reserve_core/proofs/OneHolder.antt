-- No position is held by two peers, over every legal log.
use Rattle.std.proofs.Common.{◌≡◌, ℕ, Bool, true, false, not, ◌&&◌, ◌||◌, ◌==◌, List, [], ◌∷◌, ◌++◌, map, refl, ap, sym, ◌∙◌, cond, arith}
use Rattle.std.specs.List.{list_any, filter}
use Rattle.std.proofs.lemmas.Bool.{both_ways}
use Rattle.std.proofs.lemmas.Bool.Decides.{nat_tests}
use Rattle.std.proofs.lemmas.List.Folds.{list_any-append}
use Rattle.part_hashset.specs.declared.aim.Aim.{Aim}
use Rattle.part_sizes.specs.Span.{has}
use Rattle.part_sizes.specs.declared.span.Span.{Span}
use Rattle.reserve_core.specs.Choice.{pick_of}
use Rattle.reserve_core.specs.Events.{events}
use Rattle.reserve_core.specs.Filled.{is_filled}
use Rattle.reserve_core.specs.Held.{hold_after, reserved_by, is_open, holds_of, range_of, is_held}
use Rattle.reserve_core.specs.Legal.{AreLegal}
use Rattle.reserve_core.specs.Laws.{NoPositionIsHeldTwice}
use Rattle.reserve_core.specs.declared.event.Event.{Event}
use Rattle.reserve_core.specs.declared.event.Event.TheVariants.{Reserve}
use Rattle.reserve_core.specs.declared.hold.Hold.{Hold}
use Rattle.reserve_core.specs.Steps.{advance, stays, step, stepped}
use Rattle.reserve_core.proofs.HoldsAfter.{advanced, holds-push}
use Rattle.reserve_core.proofs.LegalLogs.{over-legal, over-reserves}
use Rattle.reserve_core.proofs.Lists.{or_cases, or_right, and_left, and_right}
use Rattle.reserve_core.proofs.Runs.{pick_is_free}

-- the range is the peer's and has the position
abbrev in_hold : ℕ → ℕ → Hold → Bool
in_hold p x k = (k.peer == p) && has (range_of k) x

left-any : (p x : ℕ) (ks : List Hold) → list_any (λ r. has r x) (map range_of (filter (λ k. k.peer == p) ks)) ≡ list_any (in_hold p x) ks
left-any p x [] = refl
left-any p x (k ∷ ks) =
    elim (k.peer == p) as (λ b. list_any (λ r. has r x) (map range_of (cond b (k ∷ filter (λ k. k.peer == p) ks) (filter (λ k. k.peer == p) ks))) ≡ ((b && has (range_of k) x) || list_any (in_hold p x) ks)) [
      | true ↦ ap (λ b. has (range_of k) x || b) (left-any p x ks)
      | false ↦ left-any p x ks
    ]

-- what a peer holds is held
held-any : (p x : ℕ) (ks : List Hold) → list_any (in_hold p x) ks ≡ true → list_any (λ k. has (range_of k) x) ks ≡ true
held-any p x [] here = here
held-any p x (k ∷ ks) here =
    or_cases (in_hold p x k) (list_any (in_hold p x) ks) here
    (λ first. rw (and_right (k.peer == p) (has (range_of k) x) first) refl)
    (λ later. or_right (has (range_of k) x) (list_any (λ k. has (range_of k) x) ks) (held-any p x ks later))

-- what a range passes after an event it passed before
abbrev pub Shrinks : (Hold → Bool) → Type 0
Shrinks test = (e : Event) (k : Hold) → test (advance e k) ≡ true → test k ≡ true

-- ranges only shrink
shrinks : (p x : ℕ) → Shrinks (in_hold p x)
shrinks p x e k here = let more = advanced e k in grind (arith, nat_tests)

pub any-kept : (test keep : Hold → Bool) (ks : List Hold) → list_any test (filter keep ks) ≡ true → list_any test ks ≡ true
any-kept test keep [] here = here
any-kept test keep (k ∷ ks) here =
    elim (keep k) as (λ b. list_any test (cond b (k ∷ filter keep ks) (filter keep ks)) ≡ true → list_any test (k ∷ ks) ≡ true) [
      | true ↦ λ now. or_cases (test k) (list_any test (filter keep ks)) now (λ first. rw first refl) (λ later. or_right (test k) (list_any test ks) (any-kept test keep ks later))
      | false ↦ λ now. or_right (test k) (list_any test ks) (any-kept test keep ks now)
    ] here

any-advanced : (test : Hold → Bool) → Shrinks test → (e : Event) (ks : List Hold) → list_any test (map (advance e) ks) ≡ true → list_any test ks ≡ true
any-advanced test before e [] here = here
any-advanced test before e (k ∷ ks) here =
    or_cases (test (advance e k)) (list_any test (map (advance e) ks)) here
    (λ first. rw (before e k first) refl)
    (λ later. or_right (test k) (list_any test ks) (any-advanced test before e ks later))

pub any-stepped : (test : Hold → Bool) → Shrinks test → (e : Event) (ks : List Hold) → list_any test (stepped e ks) ≡ true → list_any test ks ≡ true
any-stepped test before e ks here =
    any-advanced test before e ks (any-kept test (stays e) (map (advance e) ks) (any-kept test is_open (step e ks) here))

-- a fresh range is its peer's, and lies in the reserved spans
fresh-peer : (p q x : ℕ) (spans : List Span) → list_any (in_hold q x) (map (hold_after p []) spans) ≡ true → p ≡ q
fresh-peer p q x [] here = cc
fresh-peer p q x (r ∷ spans) here =
    or_cases (in_hold q x (hold_after p [] r)) (list_any (in_hold q x) (map (hold_after p []) spans)) here
    (λ first. let same = and_left (p == q) (has (range_of (hold_after p [] r)) x) first in grind (arith, nat_tests))
    (fresh-peer p q x spans)

fresh-span : (p q x : ℕ) (spans : List Span) → list_any (in_hold q x) (map (hold_after p []) spans) ≡ true → list_any (λ r. has r x) spans ≡ true
fresh-span p q x [] here = here
fresh-span p q x (r ∷ spans) here =
    or_cases (in_hold q x (hold_after p [] r)) (list_any (in_hold q x) (map (hold_after p []) spans)) here
    (λ first. rw (and_right (p == q) (has r x) first) refl)
    (λ later. or_right (has r x) (list_any (λ r. has r x) spans) (fresh-span p q x spans later))

-- two peers that hold one position are one
abbrev IsSafe : List Hold → Type 0
IsSafe ks = (p q x : ℕ) → list_any (in_hold p x) ks ≡ true → list_any (in_hold q x) ks ≡ true → p ≡ q

-- what is held after an event was held before, or is in a fresh range
pub was-or-fresh : (test : Hold → Bool) → Shrinks test → (h : List Event) (e : Event) {P : Type 0} → list_any test (holds_of (h ++ e ∷ [])) ≡ true
    → (list_any test (holds_of h) ≡ true → P) → (list_any test (reserved_by e []) ≡ true → P) → P
was-or-fresh test before h e here old new =
    or_cases (list_any test (stepped e (holds_of h))) (list_any test (filter is_open (reserved_by e [])))
    (sym (list_any-append test (stepped e (holds_of h)) (filter is_open (reserved_by e []))) ∙ sym (ap (list_any test) (holds-push h e)) ∙ here)
    (λ was. old (any-stepped test before e (holds_of h) was))
    (λ now. new (any-kept test is_open (reserved_by e []) now))

safe-other : (h : List Event) (e : Event) → reserved_by e [] ≡ [] → IsSafe (holds_of h) → IsSafe (holds_of (h ++ e ∷ []))
safe-other h e none safe = λ p q x here there.
    let fresh = λ (r : ℕ) (now : list_any (in_hold r x) (reserved_by e []) ≡ true). both_ways false refl (sym (ap (list_any (in_hold r x)) none) ∙ now) in
    was-or-fresh (in_hold p x) (shrinks p x) h e here
    (λ was. was-or-fresh (in_hold q x) (shrinks q x) h e there (safe p q x was) (λ now. absurd (fresh q now)))
    (λ now. absurd (fresh p now))

pub free-unheld : (filled held : Bool) → (not filled && not held) ≡ true → held ≡ false
free-unheld filled held free = grind arith

safe-reserve : (n : ℕ) (h : List Event) (p : ℕ) (spans : List Span) → spans ≡ pick_of n h p → IsSafe (holds_of h) → IsSafe (holds_of (h ++ Reserve p spans ∷ []))
safe-reserve n h p spans chosen safe = λ q r x here there.
    let unheld = λ (fresh : list_any (λ s. has s x) spans ≡ true). free-unheld (is_filled n h x) (is_held h x) (pick_is_free n h p x (sym (ap (list_any (λ s. has s x)) chosen) ∙ fresh)) in
    was-or-fresh (in_hold q x) (shrinks q x) h (Reserve p spans) here
    (λ was. was-or-fresh (in_hold r x) (shrinks r x) h (Reserve p spans) there (safe q r x was)
    (λ now. absurd (both_ways (is_held h x) (unheld (fresh-span p r x spans now)) (held-any q x (holds_of h) was))))
    (λ now. was-or-fresh (in_hold r x) (shrinks r x) h (Reserve p spans) there
    (λ was. absurd (both_ways (is_held h x) (unheld (fresh-span p q x spans now)) (held-any r x (holds_of h) was)))
    (λ new. sym (fresh-peer p q x spans now) ∙ fresh-peer p r x spans new))

safe-legal : (aim : Aim) (h : List Event) → AreLegal aim h → IsSafe (holds_of h)
safe-legal aim h legal = over-legal aim (λ h. IsSafe (holds_of h)) (over-reserves aim (λ h. IsSafe (holds_of h)) safe-other (safe-reserve aim.size)) (λ o is p q x here there. absurd (both_ways false refl here)) h legal

pub held_once : NoPositionIsHeldTwice
held_once aim log p q x legal here there =
    safe-legal aim (events log) legal.events p q x
    (sym (left-any p x (holds_of (events log))) ∙ here)
    (sym (left-any q x (holds_of (events log))) ∙ there)
