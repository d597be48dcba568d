-- What the calls on the kept state tell of the log.
use Rattle.std.proofs.Common.{◌≡◌, ℕ, ◌<◌, ◌≤◌, Bool, true, false, not, ◌&&◌, ◌||◌, nat_le, ◌==◌, List, [], ◌∷◌, cond, refl, length, map, Option, Some, None, MatchOption, find, ap, sym, ◌∙◌, arith}
use Rattle.std.specs.FinSet.{FinSet, contains}
use Rattle.std.specs.List.{filter, list_any}
use Rattle.std.specs.Ordering.{nat_cmp}
use Rattle.std.proofs.lemmas.Bool.Decides.{nat_tests}
use Rattle.byte_ranges.specs.RangeSet.{RangeSet, Covers, IsFirstOut}
use Rattle.part_hashset.specs.declared.aim.Aim.{Aim}
use Rattle.part_sizes.specs.Span.{is_empty, positions}
use Rattle.part_sizes.specs.declared.span.Span.{Span}
use Rattle.part_sizes.proofs.Positions.{find-positions_some, find-positions_none}
use Rattle.reserve_core.specs.Held.{holds_of, is_holder, left_of, may_write, range_of}
use Rattle.reserve_core.specs.Tells.{Tells}
use Rattle.reserve_core.specs.declared.event.Event.{Event}
use Rattle.reserve_core.specs.declared.hold.Hold.{Hold}
use Rattle.reserve_core.specs.declared.part_state.PartState.{PartState}
use Rattle.reserve_core.proofs.Events.{InPart, may_write-any, piece-in-part}
use Rattle.reserve_core.proofs.Lists.{and_left, and_right}

-- the first position that the set does not have is the first that does not pass
pub is_first : (result : Option ℕ) (span : Span) (set : FinSet nat_cmp) (passes : ℕ → Bool) → ((x : ℕ) → contains set x ≡ passes x) → MatchOption result (Covers set span) (λ x. IsFirstOut set span x) → result ≡ find (λ x. not (passes x)) (positions span)
is_first None span set passes same all =
    sym (find-positions_none (λ x. not (passes x)) span (λ y here. ap not (sym (same y) ∙ all y here)))
is_first (Some x) span set passes same out =
    sym (find-positions_some (λ x. not (passes x)) span x out.here (ap not (sym (same x) ∙ out.out)) (λ y above below. ap not (sym (same y) ∙ out.before y above below)))

-- what a peer's ranges reach, and whether it has one
reach-any : (r : Span) (ks : List Hold) → list_any (λ k. (k.from == r.s) && nat_le r.e k.whole.e) ks ≡ list_any (λ q. (q.s == r.s) && nat_le r.e q.e) (map range_of ks)
reach-any r [] = refl
reach-any r (k ∷ ks) = ap (λ b. ((k.from == r.s) && nat_le r.e k.whole.e) || b) (reach-any r ks)

pub may_write-is : (h : List Event) (p : ℕ) (r : Span) (ranges : List Hold) → ranges ≡ filter (λ k. k.peer == p) (holds_of h) → is_empty r ≡ false → list_any (λ k. (k.from == r.s) && nat_le r.e k.whole.e) ranges ≡ may_write h p r
may_write-is h p r ranges is some =
    ap (list_any (λ k. (k.from == r.s) && nat_le r.e k.whole.e)) is
    ∙ reach-any r (filter (λ k. k.peer == p) (holds_of h))
    ∙ sym (ap (λ b. not b && list_any (λ q. (q.s == r.s) && nat_le r.e q.e) (left_of h p)) some)

some-any : (p : ℕ) (ks : List Hold) → not (length (filter (λ k. k.peer == p) ks) == 0) ≡ list_any (λ k. k.peer == p) ks
some-any p [] = refl
some-any p (k ∷ ks) =
    elim (k.peer == p) as (λ b. not (length (cond b (k ∷ filter (λ k. k.peer == p) ks) (filter (λ k. k.peer == p) ks)) == 0) ≡ (b || list_any (λ k. k.peer == p) ks)) [
      | true ↦ grind (arith, nat_tests)
      | false ↦ some-any p ks
    ]

pub is_holder-is : (h : List Event) (p : ℕ) (ranges : List Hold) → ranges ≡ filter (λ k. k.peer == p) (holds_of h) → not (length ranges == 0) ≡ is_holder h p
is_holder-is h p ranges is = ap (λ (ks : List Hold). not (length ks == 0)) is ∙ some-any p (holds_of h)

filled_span : (r : Span) → not (is_empty r) ≡ true → r.s < r.e
filled_span r some = grind (arith, nat_tests)

pub may-in-part : (aim : Aim) (h : List Event) (ranges fresh : RangeSet) (states : List PartState) (flag : Bool) (p : ℕ) (r : Span) → Tells aim h ranges fresh states flag → may_write h p r ≡ true → InPart aim.size r
may-in-part aim h ranges fresh states flag p r tells may =
    let some : not (is_empty r) ≡ true = and_left (not (is_empty r)) (list_any (λ q. (q.s == r.s) && nat_le r.e q.e) (left_of h p)) may in
    let here = and_right (not (is_empty r)) (list_any (λ q. (q.s == r.s) && nat_le r.e q.e) (left_of h p)) may in
    piece-in-part aim.size p r (holds_of h) (filled_span r some) tells.sits (may_write-any p r (holds_of h) ∙ here)

pub in_part-end : (n : ℕ) (r : Span) → InPart n r → r.e ≤ n
in_part-end n r inside = let b = inside.end in omega arith
