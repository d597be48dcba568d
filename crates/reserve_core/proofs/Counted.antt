-- How often a part failed, and where the newest event that moves something stands, after one more event.
use Rattle.std.proofs.Common.{◌≡◌, ℕ, zero, suc, ◌+◌, ◌<◌, ◌≤◌, min, Bool, true, false, not, ◌&&◌, ◌||◌, ◌==◌, nat_lt, List, [], ◌∷◌, ◌++◌, length, drop, cond, Option, None, if◌then◌else◌, refl, ap, sym, ◌∙◌, arith, inl, inr, count_by}
use Rattle.std.specs.List.{list_any}
use Rattle.std.proofs.lemmas.Bool.{cases_eq, cases_lt}
use Rattle.std.proofs.lemmas.Bool.Decides.{nat_tests}
use Rattle.std.proofs.lemmas.List.Folds.{list_any-append}
use Rattle.std.proofs.lemmas.List.{drop_all}
use Rattle.std.proofs.lemmas.List.Sums.{sum_by-append, sum_by-cons}
use Rattle.part_hashset.specs.declared.aim.Aim.{Aim}
use Rattle.reserve_core.specs.Moved.{moves, moved}
use Rattle.reserve_core.specs.Tells.{IsMovedEnd, failures, is_recovered, is_verdict}
use Rattle.part_hashset.specs.Goals.{goal_in, is_wanted}
use Rattle.reserve_core.specs.Verdicts.{goal, is_failure, set_by, cheats, cheats_after, opens_own}
use Rattle.reserve_core.specs.declared.event.Event.{Event}
use Rattle.reserve_core.specs.declared.event.Event.TheVariants.{Hashes, Verdict, Recovered}
use Rattle.reserve_core.proofs.Latest.{set-same}

count-cons : (p : Event → Bool) (e : Event) (h : List Event) → count_by p (e ∷ h) ≡ (if p e then 1 else 0) + count_by p h
count-cons p e h = sum_by-cons (λ x. cond (p x) 1 0) e h

count-push : (p : Event → Bool) (h : List Event) (e : Event) → count_by p (h ++ e ∷ []) ≡ count_by p h + (if p e then 1 else 0)
count-push p h e = omega (arith, sum_by-append (λ x. cond (p x) 1 0) h (e ∷ []), count-cons p e [])

not_failure : (wanted : Option (List ℕ)) (i : ℕ) (e : Event) → is_verdict e ≡ false → is_failure wanted i e ≡ false
not_failure wanted i (Verdict j d) none = cc
not_failure wanted i _ none = refl

goal-same : (aim : Aim) (h : List Event) (e : Event) (i : ℕ) → set_by e ≡ None → goal aim (h ++ e ∷ []) i ≡ goal aim h i
goal-same aim h e i none = ap (λ q. goal_in aim q i) (set-same h e none)

pub failures-same : (aim : Aim) (h : List Event) (e : Event) (i : ℕ) → set_by e ≡ None → is_verdict e ≡ false → failures aim (h ++ e ∷ []) i ≡ failures aim h i
failures-same aim h e i none quiet =
    let pushed = count-push (is_failure (goal aim h i) i) h e in
    let same : count_by (is_failure (goal aim h i) i) (h ++ e ∷ []) ≡ count_by (is_failure (goal aim h i) i) h = pushed ∙ rw (not_failure (goal aim h i) i e quiet) (omega arith) in
    ap (λ g. min 8 (count_by (is_failure g i) (h ++ e ∷ []))) (goal-same aim h e i none) ∙ ap (min 8) same

-- a digest that is another one than is wanted counts once
pub failures-judge : (aim : Aim) (h : List Event) (i j : ℕ) (d : List ℕ) (was : ℕ) → was ≡ failures aim h j
    → (if j == i then (if not (is_wanted (goal aim h i) d) then min 8 (was + 1) else was) else was) ≡ failures aim (h ++ Verdict i d ∷ []) j
failures-judge aim h i j d was is =
    elim (cases_eq j i) [
      | inl same ↦
          let test : (j == i) ≡ true = grind (arith, nat_tests) in
          let back : (i == j) ≡ true = grind (arith, nat_tests) in
          let own : goal aim h i ≡ goal aim h j = ap (goal aim h) (sym same) in
          rw (test, own) (counted (not (is_wanted (goal aim h j) d)) ∙ sym (each true back))
      | inr other ↦
          let test : (j == i) ≡ false = grind (arith, nat_tests) in
          let back : (i == j) ≡ false = grind (arith, nat_tests) in
          rw test (is ∙ sym (each false back ∙ nothing (count_by (is_failure (goal aim h j) j) h)))
    ]
  where
    each : (b : Bool) → (i == j) ≡ b → failures aim (h ++ Verdict i d ∷ []) j ≡ min 8 (count_by (is_failure (goal aim h j) j) h + (if b && not (is_wanted (goal aim h j) d) then 1 else 0))
    each b back =
        ap (λ g. min 8 (count_by (is_failure g j) (h ++ Verdict i d ∷ []))) (goal-same aim h (Verdict i d) j refl)
        ∙ ap (min 8) (count-push (is_failure (goal aim h j) j) h (Verdict i d))
        ∙ ap (λ (b : Bool). min 8 (count_by (is_failure (goal aim h j) j) h + (if b && not (is_wanted (goal aim h j) d) then 1 else 0))) back

    nothing : (n : ℕ) → min 8 (n + 0) ≡ min 8 n
    nothing n = omega arith

    counted : (b : Bool) → (if b then min 8 (was + 1) else was) ≡ min 8 (count_by (is_failure (goal aim h j) j) h + (if b then 1 else 0))
    counted true = omega (arith, is)
    counted false = omega (arith, is)

-- where there is no Verdict, no goal matters
none-failed : (wanted : Option (List ℕ)) (i : ℕ) (h : List Event) → list_any is_verdict h ≡ false → count_by (is_failure wanted i) h ≡ 0
none-failed wanted i [] none = refl
none-failed wanted i (e ∷ h) none =
    let both = or_none (is_verdict e) (list_any is_verdict h) none in
    count-cons (is_failure wanted i) e h ∙ rw (not_failure wanted i e both.0, none-failed wanted i h both.1) refl
  where
    or_none : (a b : Bool) → (a || b) ≡ false → (a ≡ false) × (b ≡ false)
    or_none true b e = cc
    or_none false b e = (refl, e)

pub failures-hashes : (aim : Aim) (h : List Event) (q : List (List ℕ)) (i : ℕ) → list_any is_verdict h ≡ false → failures aim (h ++ Hashes q ∷ []) i ≡ failures aim h i
failures-hashes aim h q i none =
    let w = goal aim (h ++ Hashes q ∷ []) i in
    let later : count_by (is_failure w i) (h ++ Hashes q ∷ []) ≡ 0 = omega (arith, count-push (is_failure w i) h (Hashes q), none-failed w i h none) in
    ap (min 8) (later ∙ sym (none-failed (goal aim h i) i h none))

pub any-quiet : (p : Event → Bool) (h : List Event) (e : Event) → p e ≡ false → list_any p (h ++ e ∷ []) ≡ list_any p h
any-quiet p h e none = list_any-append p h (e ∷ []) ∙ ap (λ b. list_any p h || (b || false)) none ∙ or_false (list_any p h)
  where
    or_false : (b : Bool) → (b || false) ≡ b
    or_false true = refl
    or_false false = refl

-- where nothing was recovered, nobody cheated
no-own : (n : ℕ) (before : List Event) (p : ℕ) (e : Event) → is_recovered e ≡ false → opens_own n before p e ≡ false
no-own n before p (Recovered i kept) none = cc
no-own n before p _ none = refl

no-cheat : (n p : ℕ) (before h : List Event) → list_any is_recovered h ≡ false → cheats_after n p before h ≡ false
no-cheat n p before [] none = refl
no-cheat n p before (e ∷ h) none =
    let both = or_none (is_recovered e) (list_any is_recovered h) none in
    rw (no-own n before p e both.0) (no-cheat n p (before ++ e ∷ []) h both.1)
  where
    or_none : (a b : Bool) → (a || b) ≡ false → (a ≡ false) × (b ≡ false)
    or_none true b e = cc
    or_none false b e = (refl, e)

pub nobody-cheats : (n : ℕ) (h : List Event) (p : ℕ) → list_any is_recovered h ≡ false → cheats n h p ≡ false
nobody-cheats n h p none = no-cheat n p [] h none

-- Moved

or_true : (b : Bool) → (b || true) ≡ true
or_true true = refl
or_true false = refl

or_false : (b : Bool) → (b || false) ≡ b
or_false true = refl
or_false false = refl

drop-push : (from : ℕ) (h : List Event) (e : Event) → from ≤ length h → drop from (h ++ e ∷ []) ≡ drop from h ++ e ∷ []
drop-push zero h e within = refl
drop-push (suc from) [] e within = absurd (omega arith)
drop-push (suc from) (first ∷ h) e within = drop-push from h e (omega arith)

drop-past : (from : ℕ) (h : List Event) (e : Event) → length h < from → drop from (h ++ e ∷ []) ≡ []
drop-past zero h e past = absurd (omega arith)
drop-past (suc zero) [] e past = refl
drop-past (suc (suc from)) [] e past = refl
drop-past (suc from) (first ∷ h) e past = drop-past from h e (omega arith)

-- no event moves by its goal where no goal changes
moves-goal : (aim : Aim) (h g : List Event) (e : Event) → ((i : ℕ) → goal aim g i ≡ goal aim h i) → moves aim g e ≡ moves aim h e
moves-goal aim h g (Verdict i d) same = ap (λ w. not (is_wanted w d)) (same i)
moves-goal aim h g _ same = refl

any-moves : (aim : Aim) (h g : List Event) → ((i : ℕ) → goal aim g i ≡ goal aim h i) → (es : List Event) → list_any (moves aim g) es ≡ list_any (moves aim h) es
any-moves aim h g same [] = refl
any-moves aim h g same (e ∷ es) = rw (moves-goal aim h g e same, any-moves aim h g same es) refl

mark_within : (aim : Aim) (h : List Event) (moved_end : ℕ) → IsMovedEnd aim h moved_end → moved_end ≤ length h
mark_within aim h moved_end marks =
    let none : nat_lt (length h) moved_end ≡ false = sym (marks (length h)) ∙ ap (list_any (moves aim h)) (drop_all (length h) h (omega arith)) in
    grind (arith, nat_tests)

moved-push : (aim : Aim) (h : List Event) (e : Event) (from : ℕ) → set_by e ≡ None → from ≤ length h → moved aim (h ++ e ∷ []) from ≡ (moved aim h from || moves aim (h ++ e ∷ []) e)
moved-push aim h e from none within =
    ap (list_any (moves aim (h ++ e ∷ []))) (drop-push from h e within)
    ∙ list_any-append (moves aim (h ++ e ∷ [])) (drop from h) (e ∷ [])
    ∙ ap (λ b. b || (moves aim (h ++ e ∷ []) e || false)) (any-moves aim h (h ++ e ∷ []) (λ i. goal-same aim h e i none) (drop from h))
    ∙ tidy (moved aim h from) (moves aim (h ++ e ∷ []) e)
  where
    tidy : (a b : Bool) → (a || (b || false)) ≡ (a || b)
    tidy a true = refl
    tidy a false = refl

moved-past : (aim : Aim) (h : List Event) (e : Event) (from : ℕ) → length h < from → moved aim (h ++ e ∷ []) from ≡ false
moved-past aim h e from past = ap (list_any (moves aim (h ++ e ∷ []))) (drop-past from h e past)

-- the place behind the newest event that moves something
pub marks-push : (aim : Aim) (h : List Event) (e : Event) (moved_end next : ℕ) → set_by e ≡ None → next ≡ (if moves aim h e then length h + 1 else moved_end) → IsMovedEnd aim h moved_end → IsMovedEnd aim (h ++ e ∷ []) next
marks-push aim h e moved_end next none is marks = λ from.
    elim (cases_lt (length h) from) [
      | inl past ↦ moved-past aim h e from past ∙ sym (behind (moves aim h e) from past is)
      | inr within ↦
          moved-push aim h e from none within
          ∙ ap (λ b. moved aim h from || b) (moves-goal aim h (h ++ e ∷ []) e (λ i. goal-same aim h e i none))
          ∙ ap (λ b. b || moves aim h e) (marks from)
          ∙ here (moves aim h e) from within is
    ]
  where
    behind : (b : Bool) (from : ℕ) → length h < from → next ≡ (if b then length h + 1 else moved_end) → nat_lt from next ≡ false
    behind true from past is = grind (arith, nat_tests)
    behind false from past is = let low = mark_within aim h moved_end marks in grind (arith, nat_tests)

    here : (b : Bool) (from : ℕ) → from ≤ length h → next ≡ (if b then length h + 1 else moved_end) → (nat_lt from moved_end || b) ≡ nat_lt from next
    here true from within is =
        let test : nat_lt from next ≡ true = grind (arith, nat_tests) in or_true (nat_lt from moved_end) ∙ sym test
    here false from within is = or_false (nat_lt from moved_end) ∙ ap (nat_lt from) (sym is)

-- where there is no Verdict, a goal that changes moves nothing
moves-unjudged : (aim : Aim) (h g : List Event) (e : Event) → is_verdict e ≡ false → moves aim g e ≡ moves aim h e
moves-unjudged aim h g (Verdict i d) none = cc
moves-unjudged aim h g _ none = refl

any-unjudged : (aim : Aim) (h g es : List Event) → list_any is_verdict es ≡ false → list_any (moves aim g) es ≡ list_any (moves aim h) es
any-unjudged aim h g [] none = refl
any-unjudged aim h g (e ∷ es) none =
    let both = or_none (is_verdict e) (list_any is_verdict es) none in
    rw (moves-unjudged aim h g e both.0, any-unjudged aim h g es both.1) refl
  where
    or_none : (a b : Bool) → (a || b) ≡ false → (a ≡ false) × (b ≡ false)
    or_none true b e = cc
    or_none false b e = (refl, e)

any-drop : (from : ℕ) (p : Event → Bool) (es : List Event) → list_any p es ≡ false → list_any p (drop from es) ≡ false
any-drop zero p es none = none
any-drop (suc from) p [] none = refl
any-drop (suc from) p (e ∷ es) none = any-drop from p es (rest (p e) (list_any p es) none)
  where
    rest : (a b : Bool) → (a || b) ≡ false → b ≡ false
    rest true b e = cc
    rest false b e = e

pub marks-hashes : (aim : Aim) (h : List Event) (q : List (List ℕ)) (moved_end : ℕ) → list_any is_verdict h ≡ false → IsMovedEnd aim h moved_end → IsMovedEnd aim (h ++ Hashes q ∷ []) moved_end
marks-hashes aim h q moved_end none marks = λ from.
    elim (cases_lt (length h) from) [
      | inl past ↦ let low = mark_within aim h moved_end marks in moved-past aim h (Hashes q) from past ∙ sym (behind from past low)
      | inr within ↦
          ap (list_any (moves aim (h ++ Hashes q ∷ []))) (drop-push from h (Hashes q) within)
          ∙ list_any-append (moves aim (h ++ Hashes q ∷ [])) (drop from h) (Hashes q ∷ [])
          ∙ or_false (list_any (moves aim (h ++ Hashes q ∷ [])) (drop from h))
          ∙ any-unjudged aim h (h ++ Hashes q ∷ []) (drop from h) (any-drop from is_verdict h none)
          ∙ marks from
    ]
  where
    behind : (from : ℕ) → length h < from → moved_end ≤ length h → nat_lt from moved_end ≡ false
    behind from past low = grind (arith, nat_tests)
