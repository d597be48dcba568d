-- What is kept after a Commit, a Release and a Write.
use Rattle.std.proofs.Common.{◌≡◌, ◌≢◌, ℕ, zero, suc, ◌+◌, ◌*◌, ◌<◌, ◌≤◌, Bool, true, false, not, ◌&&◌, ◌||◌, nat_le, nat_lt, ◌==◌, List, [], ◌∷◌, ◌++◌, length, map, slice_index_or, max, min, Option, Some, None, unwrap_or, is_none, IsSome, find, if◌then◌else◌, cond, refl, ap, sym, ◌∙◌, subst, arith, inl, inr}
use Rattle.std.specs.Bool.{then_some}
use Rattle.std.specs.FinSet.{contains, contains-empty, empty, union}
use Rattle.std.specs.List.{filter, list_any, All}
use Rattle.std.specs.Option.{is_some, option_or}
use Rattle.std.specs.Ordering.{nat_cmp}
use Rattle.std.proofs.lemmas.Bool.{cases_Bool, cases_eq, false≢true}
use Rattle.std.proofs.lemmas.Bool.Decides.{nat_tests}
use Rattle.std.proofs.lemmas.List.{append-nil, length-map}
use Rattle.std.proofs.lemmas.List.Elements.{All-filter, All-map}
use Rattle.byte_ranges.specs.RangeSet.{RangeSet, span_set}
use Rattle.byte_ranges.proofs.Members.{contains-union_span}
use Rattle.part_hashset.specs.declared.aim.Aim.{Aim}
use Rattle.part_sizes.specs.Part.{data_parts, part_range, part_of}
use Rattle.part_sizes.specs.Span.{has, is_empty, positions}
use Rattle.part_sizes.proofs.Laws.{between_has}
use Rattle.part_sizes.specs.declared.part.TheConstants.{PART}
use Rattle.part_sizes.specs.declared.span.Span.{Span}
use Rattle.reserve_core.specs.Events.{latest, raise}
use Rattle.reserve_core.specs.Free.{has_any}
use Rattle.reserve_core.specs.Filled.{filled_by, is_durable, is_filled, is_full, overlaps, open_by, open_in_by, is_part_uncommitted}
use Rattle.reserve_core.specs.Held.{reserved_holds, holds_of, is_held, is_open, left_of, lies, may_write, range_of, written_by}
use Rattle.reserve_core.specs.Steps.{advance, stays, step, stepped}
use Rattle.reserve_core.specs.Tells.{IsUncommittedAt, Sits, Tells, due, dues, sum_over, HasRoom, has_entry, has_fill, is_recovered, is_verdict}
use Rattle.part_hashset.specs.Goals.{goal_in, is_wanted, fails}
use Rattle.reserve_core.specs.Verdicts.{set_by, kept_set, goal, verdict_by, verdict_of}
use Rattle.reserve_core.specs.declared.event.Event.{Event}
use Rattle.reserve_core.specs.declared.event.Event.TheVariants.{Write, Release, Commit, Verdict}
use Rattle.reserve_core.specs.declared.hold.Hold.{Hold}
use Rattle.reserve_core.specs.declared.part_state.PartState.{PartState}
use Rattle.reserve_core.proofs.Counted.{any-quiet, failures-judge, failures-same}
use Rattle.reserve_core.proofs.Fresh.{fresh-commit, fresh-quiet, fresh-write}
use Rattle.reserve_core.proofs.HoldsAfter.{advanced, holds-push}
use Rattle.reserve_core.proofs.Latest.{latest-push, latest-still, latest-told, set-same}
use Rattle.reserve_core.proofs.Lists.{or_cases, or_right, and_right}
use Rattle.reserve_core.proofs.OneHolder.{Shrinks, any-kept, any-stepped}
use Rattle.reserve_core.proofs.OneRange.{Alike, in_range}
use Rattle.reserve_core.proofs.Quiet.{held-same, sits-same, filled-same, verdict-same, open_in-same, state-is, dues_most}

-- Commit

pub tells-commit : (aim : Aim) (h : List Event) (ranges fresh none : RangeSet) (states next : List PartState) (flag : Bool)
    → length next ≡ length states
    → ((i : ℕ) (d : PartState) → i < length states → slice_index_or next i d ≡ record { verdict = (slice_index_or states i d).verdict; uncommitted = false; failures = (slice_index_or states i d).failures })
    → none.size ≡ fresh.size → none.set ≡ empty
    → Tells aim h ranges fresh states flag → Tells aim (h ++ Commit ∷ []) ranges none next false
tells-commit aim h ranges fresh none states next flag long each sized empties tells = record {
  size = tells.size;
  filled_size = tells.filled_size;
  filled = λ x. tells.filled x ∙ sym (filled-same aim.size h Commit x refl);
  fresh_size = sized ∙ tells.fresh_size;
  fresh = λ x. fresh-commit aim.size h x (contains none.set x) (ap (λ set. contains set x) empties ∙ contains-empty nat_cmp x);
  sits = sits-same aim.size h Commit (record { kept = λ q. refl; still = λ q r. refl; none = refl }) tells.sits;
  clear = λ x here. filled-same aim.size h Commit x refl ∙ tells.clear x (sym (held-same h Commit (record { kept = λ q. refl; still = λ q r. refl; none = refl }) x) ∙ here);
  count = long ∙ tells.count;
  state = λ i d exists.
      each i d (omega (arith, exists, tells.count))
      ∙ state-is _ _ _ _ _ _ (ap (λ (s : PartState). s.verdict) (tells.state i d exists) ∙ sym (verdict-same h Commit i refl)) (sym (ap (λ o. unwrap_or o false) (latest-told (open_in_by aim.size i) h Commit false refl))) (ap (λ (s : PartState). s.failures) (tells.state i d exists) ∙ sym (failures-same aim h Commit i refl refl));
  uncommitted = sym (ap (λ o. unwrap_or o false) (latest-told open_by h Commit false refl));
  unjudged = λ large none. any-quiet is_verdict h (Commit) refl ∙ tells.unjudged large (sym (set-same h (Commit) refl) ∙ none);
  unrecovered = any-quiet is_recovered h (Commit) refl ∙ tells.unrecovered;
}

-- Release

-- what is held after an event was held before
shrinks : (x : ℕ) → Shrinks (λ k. has (range_of k) x)
shrinks x e k here = let more = advanced e k in grind (arith, nat_tests)

held-before : (e : Event) (x : ℕ) (ks : List Hold) → has_any (stepped e ks) x ≡ true → has_any ks x ≡ true
held-before e x ks here = any-stepped (λ k. has (range_of k) x) (shrinks x) e ks here

release-step : (p : ℕ) (js : List Hold) → stepped (Release p) (filter is_open js) ≡ filter (stays (Release p)) (filter is_open js)
release-step p [] = refl
release-step p (k ∷ js) =
    elim (is_open k) as (λ b. is_open k ≡ b → stepped (Release p) (cond b (k ∷ filter is_open js) (filter is_open js)) ≡ filter (stays (Release p)) (cond b (k ∷ filter is_open js) (filter is_open js))) [
      | true ↦ λ was. one (stays (Release p) k) was (release-step p js)
      | false ↦ λ was. release-step p js
    ] refl
  where
    one : (stay : Bool) → is_open k ≡ true → stepped (Release p) (filter is_open js) ≡ filter (stays (Release p)) (filter is_open js)
        → filter is_open (cond stay (k ∷ step (Release p) (filter is_open js)) (step (Release p) (filter is_open js))) ≡ cond stay (k ∷ filter (stays (Release p)) (filter is_open js)) (filter (stays (Release p)) (filter is_open js))
    one true was same = rw was (ap (λ ks. k ∷ ks) same)
    one false was same = same

pub holds-release : (h : List Event) (p : ℕ) → holds_of (h ++ Release p ∷ []) ≡ filter (stays (Release p)) (holds_of h)
holds-release h p = holds-push h (Release p) ∙ append-nil (stepped (Release p) (holds_of h)) ∙ release-step p (reserved_holds h)

pub tells-release : (aim : Aim) (h : List Event) (ranges fresh : RangeSet) (states : List PartState) (flag : Bool) (p : ℕ)
    → Tells aim h ranges fresh states flag → Tells aim (h ++ Release p ∷ []) ranges fresh states flag
tells-release aim h ranges fresh states flag p tells = record {
  size = tells.size;
  filled_size = tells.filled_size;
  filled = λ x. tells.filled x ∙ sym (filled-same aim.size h (Release p) x refl);
  fresh_size = tells.fresh_size;
  fresh = λ x. fresh-quiet aim.size h (Release p) x (contains fresh.set x) refl refl refl (tells.fresh x);
  sits = subst (λ (ks : List Hold). All (Sits aim.size) ks) (sym (holds-release h p)) (All-filter (stays (Release p)) (Sits aim.size) (holds_of h) tells.sits);
  clear = λ x here. filled-same aim.size h (Release p) x refl ∙ tells.clear x (held-before (Release p) x (holds_of h) (sym (ap (λ ks. has_any ks x) (holds-push h (Release p) ∙ append-nil (stepped (Release p) (holds_of h)))) ∙ here));
  count = tells.count;
  state = λ i d exists. tells.state i d exists ∙ sym (state-is _ _ _ _ _ _ (verdict-same h (Release p) i refl) (open_in-same aim.size h (Release p) i refl) (failures-same aim h (Release p) i refl refl));
  uncommitted = tells.uncommitted ∙ sym (ap (λ o. unwrap_or o false) (latest-still open_by h (Release p) refl));
  unjudged = λ large none. any-quiet is_verdict h (Release p) refl ∙ tells.unjudged large (sym (set-same h (Release p) refl) ∙ none);
  unrecovered = any-quiet is_recovered h (Release p) refl ∙ tells.unrecovered;
}

filter-le : (test : Hold → Bool) (ks : List Hold) → length (filter test ks) ≤ length ks
filter-le test [] = omega arith
filter-le test (k ∷ ks) =
    elim (test k) as (λ b. length (cond b (k ∷ filter test ks) (filter test ks)) ≤ length (k ∷ ks)) [
      | true ↦ omega (arith, filter-le test ks)
      | false ↦ omega (arith, filter-le test ks)
    ]

-- Write

write-step : (p : ℕ) (r : Span) (ks : List Hold) → step (Write p r) ks ≡ map (advance (Write p r)) ks
write-step p r [] = refl
write-step p r (k ∷ ks) = ap (λ js. advance (Write p r) k ∷ js) (write-step p r ks)

pub holds-write : (h : List Event) (p : ℕ) (r : Span) → holds_of (h ++ Write p r ∷ []) ≡ filter is_open (map (advance (Write p r)) (holds_of h))
holds-write h p r = holds-push h (Write p r) ∙ append-nil (stepped (Write p r) (holds_of h)) ∙ ap (filter is_open) (write-step p r (holds_of h))

-- the test of the code is that of the log
pub may_write-any : (p : ℕ) (r : Span) (ks : List Hold) → list_any (λ k. (k.peer == p) && ((k.from == r.s) && nat_le r.e k.whole.e)) ks ≡ list_any (λ q. (q.s == r.s) && nat_le r.e q.e) (map range_of (filter (λ k. k.peer == p) ks))
may_write-any p r [] = refl
may_write-any p r (k ∷ ks) =
    elim (k.peer == p) as (λ b. ((b && ((k.from == r.s) && nat_le r.e k.whole.e)) || list_any (λ k. (k.peer == p) && ((k.from == r.s) && nat_le r.e k.whole.e)) ks) ≡ list_any (λ q. (q.s == r.s) && nat_le r.e q.e) (map range_of (cond b (k ∷ filter (λ k. k.peer == p) ks) (filter (λ k. k.peer == p) ks)))) [
      | true ↦ ap (λ b. ((k.from == r.s) && nat_le r.e k.whole.e) || b) (may_write-any p r ks)
      | false ↦ may_write-any p r ks
    ]

-- a piece lies in one part
pub record InPart (n : ℕ) (r : Span) : Type 0 where
  pub some : r.s < r.e
  pub end : r.e ≤ (part_range n (part_of r.s)).e

piece-in : (n : ℕ) (r : Span) (k : Hold) → r.s < r.e → Sits n k → k.from ≡ r.s → r.e ≤ k.whole.e → r.e ≤ (part_range n (part_of r.s)).e
piece-in n r k some sits from end = let a = sits.start in let b = sits.end in omega arith

pub piece-in-part : (n p : ℕ) (r : Span) (ks : List Hold) → r.s < r.e → All (Sits n) ks → list_any (λ k. (k.peer == p) && ((k.from == r.s) && nat_le r.e k.whole.e)) ks ≡ true → InPart n r
piece-in-part n p r [] some sits here = cc
piece-in-part n p r (k ∷ ks) some sits here =
    or_cases ((k.peer == p) && ((k.from == r.s) && nat_le r.e k.whole.e)) (list_any (λ k. (k.peer == p) && ((k.from == r.s) && nat_le r.e k.whole.e)) ks) here
    (λ first. let at : (k.from ≡ r.s) × (r.e ≤ k.whole.e) = (grind (arith, nat_tests), grind (arith, nat_tests)) in
    record { some = some; end = piece-in n r k some (sits 0 k (omega arith)) at.0 at.1 })
    (λ later. piece-in-part n p r ks some (λ j d below. sits (suc j) d (omega (arith, below))) later)

overlaps-own : (n : ℕ) (r : Span) → InPart n r → overlaps r (part_range n (part_of r.s)) ≡ true
overlaps-own n r inside = let a = inside.some in let b = inside.end in grind (arith, nat_tests)

overlaps-other : (n i : ℕ) (r : Span) → InPart n r → i ≢ part_of r.s → overlaps r (part_range n i) ≡ false
overlaps-other n i r inside other =
    let a = inside.some in let b = inside.end in
    let apart : min r.e (min ((i + 1) * PART) n) ≤ max r.s (i * PART) = omega arith in
    grind (arith, nat_tests)

fill-or : (b : Bool) (o : Option Bool) (was : Bool) → was ≡ unwrap_or o false → (was || b) ≡ unwrap_or (option_or (then_some b true) o) false
fill-or true o true is = refl
fill-or true o false is = refl
fill-or false o true is = is
fill-or false o false is = is

filled-write : (n : ℕ) (h : List Event) (p x : ℕ) (r : Span) (was : Bool) → was ≡ is_filled n h x → (was || has r x) ≡ is_filled n (h ++ Write p r ∷ []) x
filled-write n h p x r was is =
    fill-or (has r x) (latest (filled_by n x) h) was is
    ∙ sym (ap (λ o. unwrap_or o false) (latest-push (filled_by n x) h (Write p r)))

open-write : (n : ℕ) (h : List Event) (p i : ℕ) (r : Span) (was : Bool) → InPart n r → was ≡ is_part_uncommitted n h i → (if i == part_of r.s then true else was) ≡ is_part_uncommitted n (h ++ Write p r ∷ []) i
open-write n h p i r was inside is =
    elim (cases_eq i (part_of r.s)) [
      | inl own ↦
          let test : (i == part_of r.s) ≡ true = grind (arith, nat_tests) in
          let over : overlaps r (part_range n i) ≡ true = ap (λ j. overlaps r (part_range n j)) own ∙ overlaps-own n r inside in
          rw test (sym (ap (λ o. unwrap_or o false) (latest-told (open_in_by n i) h (Write p r) true (ap (λ b. then_some b true) over))))
      | inr other ↦
          let test : (i == part_of r.s) ≡ false = grind (arith, nat_tests) in
          rw test (is ∙ sym (open_in-same n h (Write p r) i (ap (λ b. then_some b true) (overlaps-other n i r inside other))))
    ]

-- a piece lies in the range that it begins
piece-any : (p x : ℕ) (r : Span) (ks : List Hold) → has r x ≡ true → list_any (λ q. (q.s == r.s) && nat_le r.e q.e) (map range_of (filter (λ k. k.peer == p) ks)) ≡ true → has_any ks x ≡ true
piece-any p x r ks here may = piece-from p x r ks here (may_write-any p r ks ∙ may)
  where
    piece-from : (p x : ℕ) (r : Span) (ks : List Hold) → has r x ≡ true → list_any (λ k. (k.peer == p) && ((k.from == r.s) && nat_le r.e k.whole.e)) ks ≡ true → has_any ks x ≡ true
    piece-from p x r [] here some = cc
    piece-from p x r (k ∷ ks) here some =
        or_cases ((k.peer == p) && ((k.from == r.s) && nat_le r.e k.whole.e)) (list_any (λ k. (k.peer == p) && ((k.from == r.s) && nat_le r.e k.whole.e)) ks) some
        (λ first. let in_range : has (range_of k) x ≡ true = grind (arith, nat_tests) in rw in_range refl)
        (λ later. or_right (has (range_of k) x) (has_any ks x) (piece-from p x r ks here later))

piece-held : (h : List Event) (p x : ℕ) (r : Span) → may_write h p r ≡ true → has r x ≡ true → is_held h x ≡ true
piece-held h p x r may here = piece-any p x r (holds_of h) here (and_right (not (is_empty r)) (list_any (λ q. (q.s == r.s) && nat_le r.e q.e) (left_of h p)) may)

any-written : (p : ℕ) (r : Span) (x : ℕ) (ks : List Hold) → has_any (filter is_open (map (advance (Write p r)) ks)) x ≡ true → has_any ks x ≡ true
any-written p r x ks here = held-before (Write p r) x ks (ap (λ js. has_any (filter is_open js) x) (write-step p r ks) ∙ here)

-- the range that a piece begins
record Begins (p x : ℕ) (r : Span) (ks : List Hold) : Type 0 where
  range : Hold
  peer : range.peer ≡ p
  start : range.whole.s ≤ r.s
  end : r.e ≤ range.whole.e
  here : list_any (in_range range x) ks ≡ true

begins : (n p x : ℕ) (r : Span) (ks : List Hold) → has r x ≡ true → All (Sits n) ks → list_any (λ k. (k.peer == p) && ((k.from == r.s) && nat_le r.e k.whole.e)) ks ≡ true → Begins p x r ks
begins n p x r [] here sits some = cc
begins n p x r (k ∷ ks) here sits some =
    or_cases ((k.peer == p) && ((k.from == r.s) && nat_le r.e k.whole.e)) (list_any (λ k. (k.peer == p) && ((k.from == r.s) && nat_le r.e k.whole.e)) ks) some
    (λ first.
    let start = (sits 0 k (omega arith)).start in
    let own : in_range k x k ≡ true = grind (arith, nat_tests) in
    record {
      range = k;
      peer = grind (arith, nat_tests);
      start = grind (arith, nat_tests);
      end = grind (arith, nat_tests);
      here = rw own refl;
    })
    (λ later.
    let rest = begins n p x r ks here (λ j d below. sits (suc j) d (omega (arith, below))) later in
    record { range = rest.range; peer = rest.peer; start = rest.start; end = rest.end; here = or_right (in_range rest.range x k) (list_any (in_range rest.range x) ks) rest.here })

-- a range that has a position after a write
record Keeps_on (p x : ℕ) (r : Span) (ks : List Hold) : Type 0 where
  range : Hold
  still : has (range_of (advance (Write p r) range)) x ≡ true
  here : list_any (in_range range x) ks ≡ true

keeps_on : (p x : ℕ) (r : Span) (ks : List Hold) → has_any (filter is_open (map (advance (Write p r)) ks)) x ≡ true → Keeps_on p x r ks
keeps_on p x r ks here = among p x r ks (any-kept (λ k. has (range_of k) x) is_open (map (advance (Write p r)) ks) here)
  where
    among : (p x : ℕ) (r : Span) (ks : List Hold) → has_any (map (advance (Write p r)) ks) x ≡ true → Keeps_on p x r ks
    among p x r [] here = cc
    among p x r (k ∷ ks) here =
        or_cases (has (range_of (advance (Write p r) k)) x) (has_any (map (advance (Write p r)) ks) x) here
        (λ first.
        let was = shrinks x (Write p r) k first in
        let own : in_range k x k ≡ true = grind (arith, nat_tests) in
        record { range = k; still = first; here = rw own refl })
        (λ later.
        let rest = among p x r ks later in
        record { range = rest.range; still = rest.still; here = or_right (in_range rest.range x k) (list_any (in_range rest.range x) ks) rest.here })

past_piece : (p x : ℕ) (r : Span) (j : Hold) → j.peer ≡ p → j.whole.s ≤ r.s → r.e ≤ j.whole.e → has r x ≡ true → has (range_of (advance (Write p r) j)) x ≡ true → ⊥
past_piece p x r j own start end here still =
    let test : ((p == j.peer) && lies r j.whole) ≡ true = grind (arith, nat_tests) in
    let at : written_by j.peer j.whole (Write p r) ≡ Some r.e = ap (λ b. then_some b r.e) test in
    let moved : (advance (Write p r) j).from ≡ max r.e j.from = ap (λ o. raise o j.from) at in
    let ends = between_has r x here in
    let after = between_has (range_of (advance (Write p r) j)) x still in
    omega (arith, ends.1, after.0, moved)

-- what a piece fills is held no longer
written-unheld : (n p x : ℕ) (r : Span) (ks : List Hold) → Alike ks → All (Sits n) ks → list_any (λ k. (k.peer == p) && ((k.from == r.s) && nat_le r.e k.whole.e)) ks ≡ true
    → has_any (filter is_open (map (advance (Write p r)) ks)) x ≡ true → has r x ≡ false
written-unheld n p x r ks alike sits may after =
    elim (cases_Bool (has r x)) [
      | inr out ↦ out
      | inl here ↦
          let one = begins n p x r ks here sits may in
          let two = keeps_on p x r ks after in
          let same = alike two.range one.range x two.here one.here in
          absurd (past_piece p x r two.range (same.peer ∙ one.peer) (omega (arith, same.start, one.start)) (omega (arith, same.end, one.end)) here two.still)
    ]

sits-advance : (n p : ℕ) (r : Span) (k : Hold) → Sits n k → Sits n (advance (Write p r) k)
sits-advance n p r k sits = let more = advanced (Write p r) k in let a = sits.start in record { start = omega arith; end = sits.end }

pub tells-write : (aim : Aim) (h : List Event) (ranges more fresh newer : RangeSet) (states next : List PartState) (flag : Bool) (p : ℕ) (r : Span)
    → InPart aim.size r
    → more.size ≡ ranges.size → more.set ≡ union ranges.set (span_set r)
    → newer.size ≡ fresh.size → newer.set ≡ union fresh.set (span_set r)
    → Alike (holds_of h) → may_write h p r ≡ true
    → length next ≡ length states
    → ((i : ℕ) (d : PartState) → i < length states → slice_index_or next i d ≡ record { verdict = (slice_index_or states i d).verdict; uncommitted = if i == part_of r.s then true else (slice_index_or states i d).uncommitted; failures = (slice_index_or states i d).failures })
    → Tells aim h ranges fresh states flag → Tells aim (h ++ Write p r ∷ []) more newer next true
tells-write aim h ranges more fresh newer states next flag p r inside sized filled fresh_sized added alike may long each tells = record {
  size = tells.size;
  filled_size = sized ∙ tells.filled_size;
  filled = λ x. ap (λ set. contains set x) filled ∙ contains-union_span ranges.set r x ∙ filled-write aim.size h p x r (contains ranges.set x) (tells.filled x);
  fresh_size = fresh_sized ∙ tells.fresh_size;
  fresh = λ x. subst (λ (b : Bool). IsUncommittedAt b (is_filled aim.size (h ++ Write p r ∷ []) x) (is_durable aim.size (h ++ Write p r ∷ []) x))
      (sym (ap (λ set. contains set x) added ∙ contains-union_span fresh.set r x))
      (fresh-write aim.size h p x r (contains fresh.set x) (filled-write aim.size h p x r (is_filled aim.size h x) refl) (λ here. tells.clear x (piece-held h p x r may here)) (tells.fresh x));
  sits = subst (λ (ks : List Hold). All (Sits aim.size) ks) (sym (holds-write h p r))
      (All-filter is_open (Sits aim.size) (map (advance (Write p r)) (holds_of h)) (All-map (Sits aim.size) (advance (Write p r)) (holds_of h) (λ k d below. sits-advance aim.size p r (slice_index_or (holds_of h) k d) (tells.sits k d below))));
  clear = λ x here.
      let after : has_any (filter is_open (map (advance (Write p r)) (holds_of h))) x ≡ true = sym (ap (λ ks. has_any ks x) (holds-write h p r)) ∙ here in
      let before = tells.clear x (any-written p r x (holds_of h) after) in
      sym (filled-write aim.size h p x r (is_filled aim.size h x) refl) ∙ rw (before, written-unheld aim.size p x r (holds_of h) alike tells.sits (may_write-any p r (holds_of h) ∙ and_right (not (is_empty r)) (list_any (λ q. (q.s == r.s) && nat_le r.e q.e) (left_of h p)) may) after) refl;
  count = long ∙ tells.count;
  state = λ i d exists.
      each i d (omega (arith, exists, tells.count))
      ∙ state-is _ _ _ _ _ _
      (ap (λ (s : PartState). s.verdict) (tells.state i d exists) ∙ sym (verdict-same h (Write p r) i refl))
      (open-write aim.size h p i r (slice_index_or states i d).uncommitted inside (ap (λ (s : PartState). s.uncommitted) (tells.state i d exists)))
      (ap (λ (s : PartState). s.failures) (tells.state i d exists) ∙ sym (failures-same aim h (Write p r) i refl refl));
  uncommitted = sym (ap (λ o. unwrap_or o false) (latest-told open_by h (Write p r) true refl));
  unjudged = λ large none. any-quiet is_verdict h (Write p r) refl ∙ tells.unjudged large (sym (set-same h (Write p r) refl) ∙ none);
  unrecovered = any-quiet is_recovered h (Write p r) refl ∙ tells.unrecovered;
}

pub rest-le : (f : Hold → Hold) (ks : List Hold) → length (filter is_open (map f ks)) ≤ length ks
rest-le f ks = omega (arith, filter-le is_open (map f ks), length-map ks f)

pub room-write : (aim : Aim) (h : List Event) (len capacity spare left held rest states slots : ℕ) → states ≡ data_parts aim.size
    → has_entry len held states capacity spare slots ≡ true → has_fill states spare ≡ true → rest ≤ held → spare ≤ left + 1
    → HasRoom aim h (len + 1) capacity left rest
room-write aim h len capacity spare left held rest states slots count taken fill less used =
    let most = dues_most aim h in
    record { log = grind (arith, nat_tests); filled = grind (arith, nat_tests) }

-- What may come without memory stays where nothing is filled, opened, judged or set.

sum-same : (f g : ℕ → ℕ) → ((i : ℕ) → f i ≡ g i) → (from n : ℕ) → sum_over f from n ≡ sum_over g from n
sum-same f g same from zero = refl
sum-same f g same from (suc n) = rw (same from, sum-same f g same (from + 1) n) refl

find-same : (p q : ℕ → Bool) → ((x : ℕ) → p x ≡ q x) → (xs : List ℕ) → find p xs ≡ find q xs
find-same p q same [] = refl
find-same p q same (x ∷ xs) = rw (same x, find-same p q same xs) refl

abbrev pub due_of : Option (List ℕ) → Bool → Option (List ℕ) → ℕ
due_of v full wanted = if is_none v then (if full then 2 else 0) else (if fails wanted v then 1 else 0)

pub due-is : (v w : Option (List ℕ)) (b c : Bool) (g k : Option (List ℕ)) → v ≡ w → b ≡ c → g ≡ k → due_of v b g ≡ due_of w c k
due-is v w b c g k same alike known = rw (same, alike, known) refl

pub dues-same : (aim : Aim) (h : List Event) (e : Event) → ((x : ℕ) → filled_by aim.size x e ≡ None) → ((i : ℕ) → verdict_by i e ≡ None) → set_by e ≡ None → dues aim (h ++ e ∷ []) ≡ dues aim h
dues-same aim h e filled verdict set =
    sum-same (due aim (h ++ e ∷ [])) (due aim h)
    (λ i. due-is _ _ _ _ _ _ (verdict-same h e i (verdict i))
    (ap is_none (find-same (λ x. not (is_filled aim.size (h ++ e ∷ []) x)) (λ x. not (is_filled aim.size h x)) (λ x. ap not (filled-same aim.size h e x (filled x))) (positions (part_range aim.size i))))
    (ap (λ q. goal_in aim q i) (set-same h e set)))
    0 (data_parts aim.size)

pub room-release : (aim : Aim) (h : List Event) (p len capacity spare held rest : ℕ) → HasRoom aim h len capacity spare held → rest < held → HasRoom aim (h ++ Release p ∷ []) (len + 1) capacity spare rest
room-release aim h p len capacity spare held rest room less =
    let same = dues-same aim h (Release p) (λ x. refl) (λ i. refl) refl in
    record { log = omega (arith, same, room.log); filled = omega (arith, same, room.filled) }

-- Verdict

sum-le : (f g : ℕ → ℕ) → ((j : ℕ) → g j ≤ f j) → (from n : ℕ) → sum_over g from n ≤ sum_over f from n
sum-le f g less from zero = omega arith
sum-le f g less from (suc n) =
    let more : g from + sum_over g (from + 1) n ≤ f from + sum_over f (from + 1) n = omega (arith, less from, sum-le f g less (from + 1) n) in more

pub sum-less : (f g : ℕ → ℕ) (i : ℕ) → ((j : ℕ) → g j ≤ f j) → g i + 1 ≤ f i → (from n : ℕ) → from ≤ i → i < from + n → sum_over g from n + 1 ≤ sum_over f from n
sum-less f g i less own from zero above below = absurd (omega arith)
sum-less f g i less own from (suc n) above below =
    elim (cases_eq from i) [
      | inl here ↦
          let at : g from + 1 ≤ f from = subst (λ (k : ℕ). g k + 1 ≤ f k) (sym here) own in
          let more : g from + sum_over g (from + 1) n + 1 ≤ f from + sum_over f (from + 1) n = omega (arith, at, sum-le f g less (from + 1) n) in more
      | inr other ↦
          let more : g from + sum_over g (from + 1) n + 1 ≤ f from + sum_over f (from + 1) n = omega (arith, less from, sum-less f g i less own (from + 1) n (omega arith) (omega arith)) in more
    ]

-- where nothing is filled or opened and no set is kept, only the verdict counts
due-after : (aim : Aim) (h : List Event) (e : Event) (i : ℕ) → ((x : ℕ) → filled_by aim.size x e ≡ None) → set_by e ≡ None → due aim (h ++ e ∷ []) i ≡ due_of (verdict_of (h ++ e ∷ []) i) (is_full aim.size h i) (goal aim h i)
due-after aim h e i filled set =
    due-is _ _ _ _ _ _ refl
    (ap is_none (find-same (λ x. not (is_filled aim.size (h ++ e ∷ []) x)) (λ x. not (is_filled aim.size h x)) (λ x. ap not (filled-same aim.size h e x (filled x))) (positions (part_range aim.size i))))
    (ap (λ q. goal_in aim q i) (set-same h e set))

due_judged : (d : List ℕ) (full : Bool) (wanted : Option (List ℕ)) → due_of (Some d) full wanted ≤ 1
due_judged d full wanted =
    elim (fails wanted (Some d)) as (λ (b : Bool). (if b then 1 else 0) ≤ 1) [ true ↦ omega arith | false ↦ omega arith ]

verdict-own : (h : List Event) (i : ℕ) (d : List ℕ) → verdict_of (h ++ Verdict i d ∷ []) i ≡ Some d
verdict-own h i d =
    let test : (i == i) ≡ true = grind (arith, nat_tests) in
    ap (λ o. unwrap_or o None) (latest-told (verdict_by i) h (Verdict i d) (Some d) (ap (λ b. then_some b (Some d)) test))

verdict-other : (h : List Event) (i j : ℕ) (d : List ℕ) → j ≢ i → verdict_of (h ++ Verdict i d ∷ []) j ≡ verdict_of h j
verdict-other h i j d other =
    let test : (i == j) ≡ false = grind (arith, nat_tests) in
    verdict-same h (Verdict i d) j (ap (λ b. then_some b (Some d)) test)

pub room-judge : (aim : Aim) (h : List Event) (i : ℕ) (d : List ℕ) (len capacity spare held : ℕ) → i < data_parts aim.size → verdict_of h i ≡ None → is_full aim.size h i ≡ true
    → HasRoom aim h len capacity spare held → HasRoom aim (h ++ Verdict i d ∷ []) (len + 1) capacity spare held
room-judge aim h i d len capacity spare held exists none full room =
    let e = Verdict i d in
    let was : due aim h i ≡ 2 = due-is _ None _ true _ (goal aim h i) none full refl in
    let own : due aim (h ++ e ∷ []) i ≤ 1 = rw (due-after aim h e i (λ x. refl) refl, verdict-own h i d) (due_judged d (is_full aim.size h i) (goal aim h i)) in
    let each = λ (j : ℕ). judge-le aim h i j d was own in
    let less = sum-less (due aim h) (due aim (h ++ e ∷ [])) i each (omega (arith, was, own)) 0 (data_parts aim.size) (omega arith) (omega (arith, exists)) in
    record { log = omega (arith, less, room.log); filled = omega (arith, less, room.filled) }
  where
    judge-le : (aim : Aim) (h : List Event) (i j : ℕ) (d : List ℕ) → due aim h i ≡ 2 → due aim (h ++ Verdict i d ∷ []) i ≤ 1 → due aim (h ++ Verdict i d ∷ []) j ≤ due aim h j
    judge-le aim h i j d was own =
        elim (cases_eq j i) [
          | inl same ↦ subst (λ (k : ℕ). due aim (h ++ Verdict i d ∷ []) k ≤ due aim h k) (sym same) (omega (arith, was, own))
          | inr other ↦
              let e : due aim (h ++ Verdict i d ∷ []) j ≡ due aim h j = due-after aim h (Verdict i d) j (λ x. refl) refl ∙ due-is _ _ _ _ _ _ (verdict-other h i j d other) refl refl in
              omega (arith, e)
        ]

judge-state : (h : List Event) (i j : ℕ) (d : List ℕ) (was : Option (List ℕ)) → was ≡ verdict_of h j → (if j == i then Some d else was) ≡ verdict_of (h ++ Verdict i d ∷ []) j
judge-state h i j d was is =
    elim (cases_eq j i) [
      | inl same ↦
          let test : (j == i) ≡ true = grind (arith, nat_tests) in
          rw test (sym (subst (λ (k : ℕ). verdict_of (h ++ Verdict i d ∷ []) k ≡ Some d) (sym same) (verdict-own h i d)))
      | inr other ↦
          let test : (j == i) ≡ false = grind (arith, nat_tests) in
          rw test (is ∙ sym (verdict-other h i j d other))
    ]

no-goal : (aim : Aim) (h : List Event) (i : ℕ) → PART ≤ aim.size → kept_set h ≡ [] → IsSome (goal aim h i) → ⊥
no-goal aim h i large none known =
    let test : nat_lt aim.size PART ≡ false = grind (arith, nat_tests) in
    let is : goal aim h i ≡ None = ap (λ q. goal_in aim q i) none ∙ rw test refl in
    false≢true (sym (ap is_some is) ∙ known)

pub tells-judge : (aim : Aim) (h : List Event) (ranges fresh : RangeSet) (states next : List PartState) (flag : Bool) (i : ℕ) (d : List ℕ)
    → length next ≡ length states
    → ((j : ℕ) (s : PartState) → j < length states → slice_index_or next j s ≡ record { verdict = if j == i then Some d else (slice_index_or states j s).verdict; uncommitted = (slice_index_or states j s).uncommitted; failures = if j == i then (if not (is_wanted (goal aim h i) d) then min 8 ((slice_index_or states j s).failures + 1) else (slice_index_or states j s).failures) else (slice_index_or states j s).failures })
    → IsSome (goal aim h i)
    → Tells aim h ranges fresh states flag → Tells aim (h ++ Verdict i d ∷ []) ranges fresh next flag
tells-judge aim h ranges fresh states next flag i d long each known tells = record {
  size = tells.size;
  filled_size = tells.filled_size;
  filled = λ x. tells.filled x ∙ sym (filled-same aim.size h (Verdict i d) x refl);
  fresh_size = tells.fresh_size;
  fresh = λ x. fresh-quiet aim.size h (Verdict i d) x (contains fresh.set x) refl refl refl (tells.fresh x);
  sits = sits-same aim.size h (Verdict i d) (record { kept = λ q. refl; still = λ q r. refl; none = refl }) tells.sits;
  clear = λ x here. filled-same aim.size h (Verdict i d) x refl ∙ tells.clear x (sym (held-same h (Verdict i d) (record { kept = λ q. refl; still = λ q r. refl; none = refl }) x) ∙ here);
  count = long ∙ tells.count;
  state = λ j s exists.
      each j s (omega (arith, exists, tells.count))
      ∙ state-is _ _ _ _ _ _
      (judge-state h i j d (slice_index_or states j s).verdict (ap (λ (t : PartState). t.verdict) (tells.state j s exists)))
      (ap (λ (t : PartState). t.uncommitted) (tells.state j s exists) ∙ sym (open_in-same aim.size h (Verdict i d) j refl))
      (failures-judge aim h i j d (slice_index_or states j s).failures (ap (λ (t : PartState). t.failures) (tells.state j s exists)));
  uncommitted = tells.uncommitted ∙ sym (ap (λ o. unwrap_or o false) (latest-still open_by h (Verdict i d) refl));
  unjudged = λ large none. absurd (no-goal aim h i large (sym (set-same h (Verdict i d) refl) ∙ none) known);
  unrecovered = any-quiet is_recovered h (Verdict i d) refl ∙ tells.unrecovered;
}
