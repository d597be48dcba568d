-- What is kept after a Dropped and after a Hashes.
use Rattle.std.proofs.Common.{◌≡◌, ◌≢◌, ℕ, zero, suc, ◌+◌, ◌-◌, ◌<◌, ◌≤◌, Bool, true, false, not, ◌&&◌, ◌==◌, List, [], ◌∷◌, ◌++◌, length, slice_index_or, Option, Some, None, unwrap_or, is_none, find, if◌then◌else◌, min, refl, ap, sym, ◌∙◌, subst, arith, inl, inr, IsTrue, length-append}
use Rattle.std.specs.Bool.{then_some}
use Rattle.std.specs.FinSet.{contains, difference}
use Rattle.std.specs.List.{range_with_len}
use Rattle.std.specs.Option.{option_or}
use Rattle.std.proofs.Math.Seq.{get_or-append_seam}
use Rattle.std.proofs.lemmas.Bool.{cases_eq, cases_Bool}
use Rattle.std.proofs.lemmas.Bool.Decides.{nat_tests}
use Rattle.byte_ranges.specs.RangeSet.{RangeSet, span_set}
use Rattle.byte_ranges.proofs.Members.{contains-difference_span}
use Rattle.part_hashset.specs.declared.aim.Aim.{Aim}
use Rattle.part_sizes.specs.Part.{data_parts, part_range}
use Rattle.part_sizes.specs.Span.{has, positions}
use Rattle.part_sizes.specs.declared.span.Span.{Span}
use Rattle.part_sizes.proofs.Laws.{has_between, part_of_alone}
use Rattle.part_sizes.proofs.Positions.{find-positions_some}
use Rattle.reserve_core.specs.Events.{events, latest}
use Rattle.reserve_core.specs.Filled.{filled_by, is_durable, is_filled, is_full, open_by}
use Rattle.reserve_core.specs.Legal.{MayHash}
use Rattle.reserve_core.specs.Seen.{newest_calls, added}
use Rattle.reserve_core.specs.Tells.{IsUncommittedAt, IsMovedEnd, Tells, due, dues, HasRoom, CoreKeeps, set_in, has_entry, is_recovered, is_verdict}
use Rattle.part_hashset.specs.Goals.{is_nil, goal_in, fails}
use Rattle.reserve_core.specs.Verdicts.{set_by, kept_set, goal, verdict_by, verdict_of, is_failed}
use Rattle.reserve_core.specs.declared.event.Entry.{Entry}
use Rattle.reserve_core.specs.declared.event.Event.{Event}
use Rattle.reserve_core.specs.declared.event.Event.TheVariants.{Hashes, Dropped}
use Rattle.reserve_core.specs.Holders.{HoldersStand, holding}
use Rattle.reserve_core.specs.declared.hold.Holder.{Holder}
use Rattle.reserve_core.specs.declared.offers.Offerer.{Offerer}
use Rattle.reserve_core.specs.declared.part_state.PartState.{PartState}
use Rattle.reserve_core.proofs.Counted.{any-quiet, failures-hashes, failures-same, marks-hashes}
use Rattle.reserve_core.proofs.Events.{due_of, due-is, sum-less}
use Rattle.reserve_core.proofs.Fresh.{fresh-drop, fresh-quiet}
use Rattle.reserve_core.proofs.HolderEdits.{holding-le}
use Rattle.reserve_core.proofs.Latest.{latest-push, latest-still, latest-told, events-added, legal-added, set-same}
use Rattle.reserve_core.proofs.NewestOffers.{offers-still}
use Rattle.reserve_core.proofs.Quiet.{Holds, filled-same, held-same, holders-same, sits-same, verdict-same, open_in-same, state-is, room-taken}

take-and : (b : Bool) (o : Option Bool) (was : Bool) → was ≡ unwrap_or o false → (was && not b) ≡ unwrap_or (option_or (then_some b false) o) false
take-and true o true is = refl
take-and true o false is = refl
take-and false o true is = is
take-and false o false is = is

filled-drop : (n : ℕ) (h : List Event) (i x : ℕ) (was : Bool) → was ≡ is_filled n h x → (was && not (has (part_range n i) x)) ≡ is_filled n (h ++ Dropped i ∷ []) x
filled-drop n h i x was is =
    take-and (has (part_range n i) x) (latest (filled_by n x) h) was is
    ∙ sym (ap (λ o. unwrap_or o false) (latest-push (filled_by n x) h (Dropped i)))

opened : (n : ℕ) (h : List Event) (i x : ℕ) → has (part_range n i) x ≡ true → is_filled n (h ++ Dropped i ∷ []) x ≡ false
opened n h i x here = ap (λ o. unwrap_or o false) (latest-told (filled_by n x) h (Dropped i) false (ap (λ b. then_some b false) here))

other-part : (n i j x : ℕ) → j ≢ i → has (part_range n j) x ≡ true → has (part_range n i) x ≡ false
other-part n i j x other here =
    elim (cases_Bool (has (part_range n i) x)) [
      | inl there ↦ absurd (other (sym (part_of_alone n j x here) ∙ part_of_alone n i x there))
      | inr out ↦ out
    ]

untouched : (n : ℕ) (h : List Event) (i x : ℕ) → has (part_range n i) x ≡ false → is_filled n (h ++ Dropped i ∷ []) x ≡ is_filled n h x
untouched n h i x out = ap (λ o. unwrap_or o false) (latest-still (filled_by n x) h (Dropped i) (ap (λ b. then_some b false) out))

find-range-same : (p q : ℕ → Bool) (from n : ℕ) → ((y : ℕ) → from ≤ y → y < from + n → p y ≡ q y) → find p (range_with_len from n) ≡ find q (range_with_len from n)
find-range-same p q from zero same = refl
find-range-same p q from (suc n) same =
    rw (same from (omega arith) (omega arith), find-range-same p q (from + 1) n (λ y above below. same y (omega arith) (omega arith))) refl

find-positions-same : (p q : ℕ → Bool) (span : Span) → ((y : ℕ) → has span y ≡ true → p y ≡ q y) → find p (positions span) ≡ find q (positions span)
unfolding positions
find-positions-same p q span same =
    find-range-same p q span.s (span.e - span.s) (λ y above below. same y (has_between span y above (omega arith)))

full-other : (n : ℕ) (h : List Event) (i j : ℕ) → j ≢ i → is_full n (h ++ Dropped i ∷ []) j ≡ is_full n h j
full-other n h i j other =
    ap is_none (find-positions-same (λ x. not (is_filled n (h ++ Dropped i ∷ []) x)) (λ x. not (is_filled n h x)) (part_range n j)
    (λ x here. ap not (untouched n h i x (other-part n i j x other here))))

full-own : (n : ℕ) (h : List Event) (i : ℕ) → i < data_parts n → is_full n (h ++ Dropped i ∷ []) i ≡ false
full-own n h i exists =
    let span = part_range n i in
    let here : IsTrue (has span span.s) = has_between span span.s (omega arith) (omega (arith, exists)) in
    ap is_none (find-positions_some (λ x. not (is_filled n (h ++ Dropped i ∷ []) x)) span span.s here (ap not (opened n h i span.s here)) (λ y above below. absurd (omega arith)))

verdict-own : (h : List Event) (i : ℕ) → verdict_of (h ++ Dropped i ∷ []) i ≡ None
verdict-own h i =
    let test : (i == i) ≡ true = grind (arith, nat_tests) in
    ap (λ o. unwrap_or o None) (latest-told (verdict_by i) h (Dropped i) None (ap (λ b. then_some b None) test))

verdict-other : (h : List Event) (i j : ℕ) → j ≢ i → verdict_of (h ++ Dropped i ∷ []) j ≡ verdict_of h j
verdict-other h i j other =
    let test : (i == j) ≡ false = grind (arith, nat_tests) in
    verdict-same h (Dropped i) j (ap (λ b. then_some b None) test)

due_failed : (v : Option (List ℕ)) (full : Bool) (wanted : Option (List ℕ)) → fails wanted v ≡ true → due_of v full wanted ≡ 1
due_failed None full wanted failed = absurd (cc)
due_failed (Some d) full wanted failed = rw failed refl

pub due-failed : (aim : Aim) (h : List Event) (i : ℕ) → is_failed aim h i ≡ true → due aim h i ≡ 1
due-failed aim h i failed = due_failed (verdict_of h i) (is_full aim.size h i) (goal aim h i) failed

pub room-drop : (aim : Aim) (h : List Event) (i len capacity spare left held : ℕ) → i < data_parts aim.size → is_failed aim h i ≡ true → spare ≤ left + 1
    → HasRoom aim h len capacity spare held → HasRoom aim (h ++ Dropped i ∷ []) (len + 1) capacity left held
room-drop aim h i len capacity spare left held exists failed used room =
    let was = due-failed aim h i failed in
    let own : due aim (h ++ Dropped i ∷ []) i ≡ 0 = due-is _ None _ false _ (goal aim h i) (verdict-own h i) (full-own aim.size h i exists) (ap (λ q. goal_in aim q i) (set-same h (Dropped i) refl)) in
    let less = sum-less (due aim h) (due aim (h ++ Dropped i ∷ [])) i (λ j. drop-le aim h i j own) (omega (arith, was, own)) 0 (data_parts aim.size) (omega arith) (omega (arith, exists)) in
    record { log = omega (arith, less, room.log); filled = omega (arith, less, used, room.filled) }
  where
    drop-le : (aim : Aim) (h : List Event) (i j : ℕ) → due aim (h ++ Dropped i ∷ []) i ≡ 0 → due aim (h ++ Dropped i ∷ []) j ≤ due aim h j
    drop-le aim h i j own =
        elim (cases_eq j i) [
          | inl same ↦ subst (λ (k : ℕ). due aim (h ++ Dropped i ∷ []) k ≤ due aim h k) (sym same) (omega (arith, own))
          | inr other ↦
              let e : due aim (h ++ Dropped i ∷ []) j ≡ due aim h j = due-is _ _ _ _ _ _ (verdict-other h i j other) (full-other aim.size h i j other) (ap (λ q. goal_in aim q j) (set-same h (Dropped i) refl)) in
              omega (arith, e)
        ]

-- a failed part has its room
pub dues-some : (aim : Aim) (h : List Event) (i : ℕ) → i < data_parts aim.size → is_failed aim h i ≡ true → 1 ≤ dues aim h
dues-some aim h i exists failed =
    let was = due-failed aim h i failed in
    omega (arith, sum-less (due aim h) (λ j. 0) i (λ j. omega arith) (omega (arith, was)) 0 (data_parts aim.size) (omega arith) (omega (arith, exists)))

drop-state : (h : List Event) (i j : ℕ) (was : Option (List ℕ)) → was ≡ verdict_of h j → (if j == i then None else was) ≡ verdict_of (h ++ Dropped i ∷ []) j
drop-state h i j was is =
    elim (cases_eq j i) [
      | inl same ↦
          let test : (j == i) ≡ true = grind (arith, nat_tests) in
          rw test (sym (subst (λ (k : ℕ). verdict_of (h ++ Dropped i ∷ []) k ≡ None) (sym same) (verdict-own h i)))
      | inr other ↦
          let test : (j == i) ≡ false = grind (arith, nat_tests) in
          rw test (is ∙ sym (verdict-other h i j other))
    ]

pub tells-drop : (aim : Aim) (h : List Event) (ranges less fresh fewer : RangeSet) (states next : List PartState) (flag : Bool) (i : ℕ)
    → less.size ≡ ranges.size → less.set ≡ difference ranges.set (span_set (part_range aim.size i))
    → fewer.size ≡ fresh.size → fewer.set ≡ difference fresh.set (span_set (part_range aim.size i))
    → length next ≡ length states
    → ((j : ℕ) (s : PartState) → j < length states → slice_index_or next j s ≡ record { verdict = if j == i then None else (slice_index_or states j s).verdict; uncommitted = (slice_index_or states j s).uncommitted; failures = (slice_index_or states j s).failures })
    → Tells aim h ranges fresh states flag → Tells aim (h ++ Dropped i ∷ []) less fewer next flag
tells-drop aim h ranges less fresh fewer states next flag i sized taken fresh_sized cut long each tells = record {
  size = tells.size;
  filled_size = sized ∙ tells.filled_size;
  filled = λ x. ap (λ set. contains set x) taken ∙ contains-difference_span ranges.set (part_range aim.size i) x ∙ filled-drop aim.size h i x (contains ranges.set x) (tells.filled x);
  fresh_size = fresh_sized ∙ tells.fresh_size;
  fresh = λ x. subst (λ (b : Bool). IsUncommittedAt b (is_filled aim.size (h ++ Dropped i ∷ []) x) (is_durable aim.size (h ++ Dropped i ∷ []) x))
      (sym (ap (λ set. contains set x) cut ∙ contains-difference_span fresh.set (part_range aim.size i) x))
      (fresh-drop aim.size h i x (contains fresh.set x) (λ g. filled-drop aim.size g i x (is_filled aim.size g x) refl) (tells.fresh x));
  sits = sits-same aim.size h (Dropped i) (record { kept = λ q. refl; still = λ q r. refl; none = refl }) tells.sits;
  clear = λ x here.
      sym (filled-drop aim.size h i x (is_filled aim.size h x) refl)
      ∙ rw (tells.clear x (sym (held-same h (Dropped i) (record { kept = λ q. refl; still = λ q r. refl; none = refl }) x) ∙ here)) refl;
  count = long ∙ tells.count;
  state = λ j s exists.
      each j s (omega (arith, exists, tells.count))
      ∙ state-is _ _ _ _ _ _
      (drop-state h i j (slice_index_or states j s).verdict (ap (λ (t : PartState). t.verdict) (tells.state j s exists)))
      (ap (λ (t : PartState). t.uncommitted) (tells.state j s exists) ∙ sym (open_in-same aim.size h (Dropped i) j refl))
      (ap (λ (t : PartState). t.failures) (tells.state j s exists) ∙ sym (failures-same aim h (Dropped i) j refl refl));
  uncommitted = tells.uncommitted ∙ sym (ap (λ o. unwrap_or o false) (latest-still open_by h (Dropped i) refl));
  unjudged = λ large none. any-quiet is_verdict h (Dropped i) refl ∙ tells.unjudged large (sym (set-same h (Dropped i) refl) ∙ none);
  unrecovered = any-quiet is_recovered h (Dropped i) refl ∙ tells.unrecovered;
}

-- Hashes

abbrev quiet-holds : (q : List (List ℕ)) → Holds (Hashes q)
quiet-holds q = record { kept = λ p. refl; still = λ p r. refl; none = refl }

tells-hashes : (aim : Aim) (h : List Event) (q : List (List ℕ)) (ranges fresh : RangeSet) (states : List PartState) (flag : Bool)
    → MayHash aim h q → Tells aim h ranges fresh states flag → Tells aim (h ++ Hashes q ∷ []) ranges fresh states flag
tells-hashes aim h q ranges fresh states flag may tells =
    let none = tells.unjudged may.needed may.none in record {
      size = tells.size;
      filled_size = tells.filled_size;
      filled = λ x. tells.filled x ∙ sym (filled-same aim.size h (Hashes q) x refl);
      fresh_size = tells.fresh_size;
      fresh = λ x. fresh-quiet aim.size h (Hashes q) x (contains fresh.set x) refl refl refl (tells.fresh x);
      sits = sits-same aim.size h (Hashes q) (quiet-holds q) tells.sits;
      clear = λ x here. filled-same aim.size h (Hashes q) x refl ∙ tells.clear x (sym (held-same h (Hashes q) (quiet-holds q) x) ∙ here);
      count = tells.count;
      state = λ i d exists. tells.state i d exists ∙ sym (state-is _ _ _ _ _ _ (verdict-same h (Hashes q) i refl) (open_in-same aim.size h (Hashes q) i refl) (failures-hashes aim h q i none));
      uncommitted = tells.uncommitted ∙ sym (ap (λ o. unwrap_or o false) (latest-still open_by h (Hashes q) refl));
      unjudged = λ large kept. any-quiet is_verdict h (Hashes q) refl ∙ none;
      unrecovered = any-quiet is_recovered h (Hashes q) refl ∙ tells.unrecovered;
    }

pub keeps-hashes : (aim : Aim) (log : List Entry) (ranges fresh : RangeSet) (holders : List Holder) (states : List PartState) (offers : List Offerer) (place moved_end : ℕ) (flag : Bool) (len capacity slots calls next : ℕ) (q : List (List ℕ))
    → CoreKeeps aim log ranges fresh holders states offers place moved_end flag len capacity
    → newest_calls 0 log ≤ calls → MayHash aim (events log) q → next ≡ length log
    → has_entry len (length holders) (length states) capacity (min ranges.spare fresh.spare) slots ≡ true
    → CoreKeeps aim (added log calls (Hashes q)) ranges fresh holders states offers next moved_end flag (len + 1) capacity
keeps-hashes aim log ranges fresh holders states offers place moved_end flag len capacity slots calls next q keeps above may at taken =
    let entry : Entry = record { calls = calls; event = Hashes q } in
    let kept : kept_set (events (added log calls (Hashes q))) ≡ q = ap kept_set (events-added log calls (Hashes q)) ∙ ap (λ o. unwrap_or o []) (latest-told set_by (events log) (Hashes q) q refl) in
    record {
      legal = legal-added aim log calls (Hashes q) keeps.legal above may;
      tells = subst (λ (h : List Event). Tells aim h ranges fresh states flag) (sym (events-added log calls (Hashes q))) (tells-hashes aim (events log) q ranges fresh states flag may keeps.tells);
      held = subst (λ (h : List Event). HoldersStand h holders) (sym (events-added log calls (Hashes q))) (holders-same (events log) (Hashes q) holders (quiet-holds q) keeps.held);
      set = record {
        within = omega (arith, at, length-append log (entry ∷ []));
        is = λ d. kept ∙ sym (ap (λ (e : Entry). set_in e.event) (ap (λ (k : ℕ). slice_index_or (log ++ entry ∷ []) k d) at ∙ get_or-append_seam log entry [] d));
        whole = λ some. ap length kept ∙ (may.valid.whole may.needed).count;
      };
      offers = offers-still log calls (Hashes q) offers refl keeps.offers;
      moved_end = subst (λ (h : List Event). IsMovedEnd aim h moved_end) (sym (events-added log calls (Hashes q))) (marks-hashes aim (events log) q moved_end (keeps.tells.unjudged may.needed may.none) keeps.moved_end);
      room = room-taken aim (events (added log calls (Hashes q))) len capacity (min ranges.spare fresh.spare) (length holders) (holding holders) (length states) slots keeps.tells.count taken (holding-le holders);
    }

pub is_none_kept : (set : List (List ℕ)) → not (is_nil set) ≡ false → set ≡ []
is_none_kept [] e = refl
is_none_kept (x ∷ set) e = cc
