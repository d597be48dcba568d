-- A span that may be written lies in the file, and no part that has a verdict has a position of it.
use Rattle.std.proofs.Common.{◌≡◌, ◌⊎◌, ℕ, ◌+◌, ◌*◌, ◌<◌, ◌≤◌, Bool, true, false, not, ◌&&◌, ◌||◌, ◌==◌, nat_le, List, [], ◌∷◌, ◌++◌, map, max, Option, Some, None, unwrap_or, find, get_or, ◌-◌, is_none, refl, ap, sym, ◌∙◌, subst, cond, arith, inl, inr}
use Rattle.std.specs.Bool.{then_some}
use Rattle.std.specs.List.{list_any, filter}
use Rattle.std.specs.Option.{option_map, option_or}
use Rattle.std.proofs.lemmas.Bool.{both_ways, not-false}
use Rattle.std.proofs.lemmas.Bool.Decides.{nat_tests}
use Rattle.std.proofs.lemmas.List.{append-nil}
use Rattle.part_hashset.specs.declared.aim.Aim.{Aim}
use Rattle.part_sizes.specs.Block.{block_of}
use Rattle.part_sizes.specs.Part.{part_range}
use Rattle.part_sizes.specs.Span.{has, is_empty, positions}
use Rattle.part_sizes.specs.declared.small_lists.Pair.{Pair}
use Rattle.part_sizes.specs.declared.part.TheConstants.{PART}
use Rattle.part_sizes.specs.declared.span.Span.{Span}
use Rattle.part_sizes.proofs.Laws.{has_between, between_has, part_of_alone}
use Rattle.reserve_core.specs.Choice.{pick_of}
use Rattle.reserve_core.specs.Events.{events, latest}
use Rattle.reserve_core.specs.Filled.{filled_by, is_filled, is_full}
use Rattle.reserve_core.specs.Held.{hold_after, reserved_by, is_open, is_holder, holds_of, range_of, is_held, left_of, may_write}
use Rattle.reserve_core.specs.Legal.{AreVerdicts, Allowed, AreLegal, IsLegal, IsState}
use Rattle.reserve_core.specs.Steps.{advance, stays, step, stepped}
use Rattle.part_hashset.specs.Goals.{digest_in}
use Rattle.reserve_core.specs.Verdicts.{verdict_by, verdict_of}
use Rattle.reserve_core.specs.declared.event.Entry.{Entry}
use Rattle.reserve_core.specs.declared.event.Event.{Event}
use Rattle.reserve_core.specs.declared.event.Event.TheVariants.{Opened, Hashes, Offer, Reserve, Write, Release, Commit, Verdict, Recovered, Dropped}
use Rattle.reserve_core.specs.declared.event.Opened.{Opened as State}
use Rattle.reserve_core.specs.declared.hold.Hold.{Hold}
use Rattle.reserve_core.proofs.Counts.{bit, count, bit-some, bit-none, count-append, count-filter, count-left_out, pick_once, pick_within}
use Rattle.reserve_core.proofs.Events.{may_write-any}
use Rattle.reserve_core.proofs.HoldsAfter.{advanced, holds-push}
use Rattle.reserve_core.proofs.Latest.{latest-push}
use Rattle.reserve_core.proofs.LegalLogs.{over-legal}
use Rattle.reserve_core.proofs.Lists.{or_cases, or_left, or_right, and_left, and_right}
use Rattle.reserve_core.proofs.Quiet.{filled-same, verdict-same}
use Rattle.reserve_core.proofs.Runs.{pick_is_free, before_find_positions}

abbrev covers : ℕ → Hold → Bool
covers x k = has (range_of k) x

-- no range begins before its span
abbrev Started : List Hold → Type 0
Started [] = Unit {0}
Started (k ∷ ks) = (k.whole.s ≤ k.from) × Started ks

-- each position is in one range at most, and what is held is in the file and not filled; what is judged is
-- filled
pub record Kept (n : ℕ) (h : List Event) : Type 0 where
  pub started : Started (holds_of h)
  pub once : (x : ℕ) → count (covers x) (holds_of h) ≤ 1
  pub within : (x : ℕ) → is_held h x ≡ true → x < n
  pub unfilled : (x : ℕ) → is_held h x ≡ true → is_filled n h x ≡ false
  pub judged : (i x : ℕ) (d : List ℕ) → verdict_of h i ≡ Some d → has (part_range n i) x ≡ true → is_filled n h x ≡ true

-- what some range has is counted

counted : {X : Type 0} (test : X → Bool) (xs : List X) → list_any test xs ≡ true → 1 ≤ count test xs
counted test [] here = absurd (cc)
counted test (x ∷ xs) here =
    or_cases (test x) (list_any test xs) here
    (λ first. let one = bit-some (test x) first in omega arith)
    (λ later. let more = counted test xs later in omega arith)

uncounted : {X : Type 0} (test : X → Bool) (xs : List X) → list_any test xs ≡ false → count test xs ≡ 0
uncounted test [] none = refl
uncounted test (x ∷ xs) none =
    elim (test x) as (λ b. test x ≡ b → (b || list_any test xs) ≡ false → bit (test x) + count test xs ≡ 0) [
      | true ↦ λ is out. absurd (cc)
      | false ↦ λ is out. let zero_here = bit-none (test x) is in let rest = uncounted test xs out in omega arith
    ] refl none

-- ranges only shrink

shrinks : (e : Event) (x : ℕ) (k : Hold) → bit (covers x (advance e k)) ≤ bit (covers x k)
shrinks e x k =
    let more = advanced e k in
    elim (covers x (advance e k)) as (λ b. covers x (advance e k) ≡ b → bit b ≤ bit (covers x k)) [
      | true ↦ λ is. let here : covers x k ≡ true = grind (arith, nat_tests) in let one = bit-some (covers x k) here in omega arith
      | false ↦ λ is. omega arith
    ] refl

count-advanced : (e : Event) (x : ℕ) (ks : List Hold) → count (covers x) (map (advance e) ks) ≤ count (covers x) ks
count-advanced e x [] = omega arith
count-advanced e x (k ∷ ks) = let here = shrinks e x k in let more = count-advanced e x ks in omega arith

count-stepped : (e : Event) (x : ℕ) (ks : List Hold) → count (covers x) (stepped e ks) ≤ count (covers x) (map (advance e) ks)
count-stepped e x ks =
    let outer = count-filter (covers x) is_open (step e ks) in
    let inner = count-filter (covers x) (stays e) (map (advance e) ks) in
    omega arith

-- a span that is written leaves the range that it was in
passed_over : (p x : ℕ) (r : Span) (k : Hold) → k.whole.s ≤ k.from → r.s ≤ x → x < r.e → ((k.peer == p) && ((k.from == r.s) && nat_le r.e k.whole.e)) ≡ true → bit (covers x (advance (Write p r) k)) + 1 ≤ bit (covers x k)
passed_over p x r k started above below here =
    let test : ((p == k.peer) && (nat_le k.whole.s r.s && nat_le r.e k.whole.e)) ≡ true = grind (arith, nat_tests) in
    let moved : (advance (Write p r) k).from ≡ max r.e k.from = rw test refl in
    let gone : covers x (advance (Write p r) k) ≡ false = grind (arith, nat_tests) in
    let was : covers x k ≡ true = grind (arith, nat_tests) in
    omega (arith, bit-none (covers x (advance (Write p r) k)) gone, bit-some (covers x k) was)

count-written : (p x : ℕ) (r : Span) (ks : List Hold) → Started ks → r.s ≤ x → x < r.e → list_any (λ k. (k.peer == p) && ((k.from == r.s) && nat_le r.e k.whole.e)) ks ≡ true → count (covers x) (map (advance (Write p r)) ks) + 1 ≤ count (covers x) ks
count-written p x r [] started above below here = absurd (cc)
count-written p x r (k ∷ ks) started above below here =
    or_cases ((k.peer == p) && ((k.from == r.s) && nat_le r.e k.whole.e)) (list_any (λ k. (k.peer == p) && ((k.from == r.s) && nat_le r.e k.whole.e)) ks) here
    (λ first. let less = passed_over p x r k started.0 above below first in let rest = count-advanced (Write p r) x ks in omega arith)
    (λ later. let less = count-written p x r ks started.1 above below later in let own = shrinks (Write p r) x k in omega arith)

-- ranges begin in their spans after an event

started-filter : (keep : Hold → Bool) (ks : List Hold) → Started ks → Started (filter keep ks)
started-filter keep [] started = tt
started-filter keep (k ∷ ks) started =
    elim (keep k) as (λ b. Started (cond b (k ∷ filter keep ks) (filter keep ks))) [ true ↦ (started.0, started-filter keep ks started.1) | false ↦ started-filter keep ks started.1 ]

started-advanced : (e : Event) (ks : List Hold) → Started ks → Started (map (advance e) ks)
started-advanced e [] started = tt
started-advanced e (k ∷ ks) started = let more = advanced e k in let own = started.0 in (omega arith, started-advanced e ks started.1)

started-append : (js ks : List Hold) → Started js → Started ks → Started (js ++ ks)
started-append [] ks front back = back
started-append (j ∷ js) ks front back = (front.0, started-append js ks front.1 back)

started-fresh : (p : ℕ) (spans : List Span) → Started (map (hold_after p []) spans)
started-fresh p [] = tt
started-fresh p (r ∷ spans) = (omega arith, started-fresh p spans)

started-reserved : (e : Event) → Started (reserved_by e [])
started-reserved (Reserve p spans) = started-fresh p spans
started-reserved _ = tt

started-push : (h : List Event) (e : Event) → Started (holds_of h) → Started (holds_of (h ++ e ∷ []))
started-push h e started =
    subst (λ (ks : List Hold). Started ks) (sym (holds-push h e))
    (started-append (stepped e (holds_of h)) (filter is_open (reserved_by e []))
    (started-filter is_open (step e (holds_of h)) (started-filter (stays e) (map (advance e) (holds_of h)) (started-advanced e (holds_of h) started)))
    (started-filter is_open (reserved_by e []) (started-reserved e)))

-- what is held after an event, as a count

abbrev fresh_count : ℕ → Event → ℕ
fresh_count x e = count (covers x) (reserved_by e [])

count-push : (h : List Event) (e : Event) (x : ℕ) → count (covers x) (holds_of (h ++ e ∷ [])) ≤ count (covers x) (stepped e (holds_of h)) + fresh_count x e
count-push h e x =
    let same = ap (count (covers x)) (holds-push h e) in
    let both = count-append (covers x) (stepped e (holds_of h)) (filter is_open (reserved_by e [])) in
    let less = count-filter (covers x) is_open (reserved_by e []) in
    omega arith

fresh-counted : (p x : ℕ) (spans : List Span) → count (covers x) (map (hold_after p []) spans) ≡ count (λ s. has s x) spans
fresh-counted p x [] = refl
fresh-counted p x (r ∷ spans) = ap (λ c. bit (has r x) + c) (fresh-counted p x spans)

held-if : {X : Type 0} (test : X → Bool) (xs : List X) → 1 ≤ count test xs → list_any test xs ≡ true
held-if test xs some =
    elim (list_any test xs) as (λ b. list_any test xs ≡ b → b ≡ true) [
      | true ↦ λ is. refl
      | false ↦ λ is. let none = uncounted test xs is in absurd (omega arith)
    ] refl

-- what is held after an event was held before, or is reserved by it
held-or : (h : List Event) (e : Event) (x : ℕ) {P : Type 0} → is_held (h ++ e ∷ []) x ≡ true → (is_held h x ≡ true → P) → (1 ≤ fresh_count x e → P) → P
held-or h e x {P = P} here old new =
    elim (is_held h x) as (λ b. is_held h x ≡ b → P) [
      | true ↦ λ is. old is
      | false ↦ λ is.
          let some = counted (covers x) (holds_of (h ++ e ∷ [])) here in
          let none = uncounted (covers x) (holds_of h) is in
          let most = count-push h e x in let kept = count-stepped e x (holds_of h) in let less = count-advanced e x (holds_of h) in
          new (omega arith)
    ] refl

held-before : (h : List Event) (e : Event) (x : ℕ) → reserved_by e [] ≡ [] → is_held (h ++ e ∷ []) x ≡ true → is_held h x ≡ true
held-before h e x none here = held-or h e x here (λ was. was) (λ fresh. let no = ap (count (covers x)) none in absurd (omega arith))

-- an event that reserves nothing
kept-other : (n : ℕ) (h : List Event) (e : Event) → reserved_by e [] ≡ []
    → ((x : ℕ) → is_held (h ++ e ∷ []) x ≡ true → is_filled n h x ≡ false → is_filled n (h ++ e ∷ []) x ≡ false)
    → ((i x : ℕ) (d : List ℕ) → verdict_of (h ++ e ∷ []) i ≡ Some d → has (part_range n i) x ≡ true → is_filled n (h ++ e ∷ []) x ≡ true)
    → Kept n h → Kept n (h ++ e ∷ [])
kept-other n h e none unfilled judged kept = record {
  started = started-push h e kept.started;
  once = λ x.
      let most = count-push h e x in let rest = count-stepped e x (holds_of h) in let less = count-advanced e x (holds_of h) in
      let no = ap (count (covers x)) none in let one = kept.once x in omega arith;
  within = λ x here. kept.within x (held-before h e x none here);
  unfilled = λ x here. unfilled x here (kept.unfilled x (held-before h e x none here));
  judged = judged;
}

kept-quiet : (n : ℕ) (h : List Event) (e : Event) → reserved_by e [] ≡ [] → ((x : ℕ) → filled_by n x e ≡ None) → ((i : ℕ) → verdict_by i e ≡ None) → Kept n h → Kept n (h ++ e ∷ [])
kept-quiet n h e none filled verdict kept =
    kept-other n h e none
    (λ x here empty. filled-same n h e x (filled x) ∙ empty)
    (λ i x d is inside. filled-same n h e x (filled x) ∙ kept.judged i x d (sym (verdict-same h e i (verdict i)) ∙ is) inside)
    kept

-- a part that is full

full_at : (n : ℕ) (h : List Event) (i x : ℕ) → is_full n h i ≡ true → has (part_range n i) x ≡ true → is_filled n h x ≡ true
full_at n h i x full here =
    let ends = between_has (part_range n i) x here in
    not-false (is_filled n h x)
    (elim (find (λ y. not (is_filled n h y)) (positions (part_range n i))) as (λ o. find (λ y. not (is_filled n h y)) (positions (part_range n i)) ≡ o → is_none o ≡ true → not (is_filled n h x) ≡ false) [
      | None ↦ λ is none. before_find_positions (λ y. not (is_filled n h y)) (part_range n i) x ends.0 (subst (λ (o : Option ℕ). x < unwrap_or o (part_range n i).e) (sym is) ends.1)
      | Some y ↦ λ is none. absurd (cc)
    ] refl full)

-- a Verdict

judged-now : (n : ℕ) (h : List Event) (i x : ℕ) (d : List ℕ) → unwrap_or (latest (verdict_by i) h) None ≡ Some d → has (part_range n i) x ≡ true → Kept n h → is_filled n h x ≡ true
judged-now n h i x d is inside kept = kept.judged i x d is inside

judged-own : (n : ℕ) (h : List Event) (i j x : ℕ) (c d : List ℕ) (same : Bool) → (j == i) ≡ same → is_full n h j ≡ true → unwrap_or (option_or (then_some same (Some c)) (latest (verdict_by i) h)) None ≡ Some d → has (part_range n i) x ≡ true → Kept n h → is_filled n h x ≡ true
judged-own n h i j x c d true test full is inside kept =
    let at : j ≡ i = grind (arith, nat_tests) in
    full_at n h i x (subst (λ (k : ℕ). is_full n h k ≡ true) at full) inside
judged-own n h i j x c d false test full is inside kept = judged-now n h i x d is inside kept

told : (h : List Event) (e : Event) (i : ℕ) (d : List ℕ) (says : Option (Option (List ℕ))) → verdict_by i e ≡ says → verdict_of (h ++ e ∷ []) i ≡ Some d → unwrap_or (option_or says (latest (verdict_by i) h)) None ≡ Some d
told h e i d says by is = sym (ap (λ o. unwrap_or o None) (latest-push (verdict_by i) h e ∙ ap (λ o. option_or o (latest (verdict_by i) h)) by)) ∙ is

kept-judged : (n : ℕ) (h : List Event) (j : ℕ) (c : List ℕ) → is_full n h j ≡ true → Kept n h → Kept n (h ++ Verdict j c ∷ [])
kept-judged n h j c full kept =
    kept-other n h (Verdict j c) refl
    (λ x here empty. filled-same n h (Verdict j c) x refl ∙ empty)
    (λ i x d is inside. filled-same n h (Verdict j c) x refl ∙ judged-own n h i j x c d (j == i) refl full (told h (Verdict j c) i d (then_some (j == i) (Some c)) refl is) inside kept)
    kept

-- an event that opens positions of one part

filled-push : (n : ℕ) (h : List Event) (e : Event) (x : ℕ) → is_filled n (h ++ e ∷ []) x ≡ unwrap_or (option_or (filled_by n x e) (latest (filled_by n x) h)) false
filled-push n h e x = ap (λ o. unwrap_or o false) (latest-push (filled_by n x) h e)

opened-empty : (n : ℕ) (h : List Event) (x : ℕ) (b : Bool) → is_filled n h x ≡ false → unwrap_or (option_or (then_some b false) (latest (filled_by n x) h)) false ≡ false
opened-empty n h x true empty = refl
opened-empty n h x false empty = empty

elsewhere : (n i j x : ℕ) (more : Bool) → (j == i) ≡ false → has (part_range n i) x ≡ true → (has (part_range n j) x && more) ≡ false
elsewhere n i j x more test inside =
    elim (has (part_range n j) x) as (λ b. has (part_range n j) x ≡ b → (b && more) ≡ false) [
      | true ↦ λ there. let one = part_of_alone n i x inside in let two = part_of_alone n j x there in absurd (both_ways (j == i) test (grind (arith, nat_tests)))
      | false ↦ λ there. refl
    ] refl

opened-judged : (n : ℕ) (h : List Event) (i j x : ℕ) (d : List ℕ) (same b : Bool) → (j == i) ≡ same → ((j == i) ≡ false → b ≡ false) → unwrap_or (option_or (then_some same None) (latest (verdict_by i) h)) None ≡ Some d → has (part_range n i) x ≡ true → Kept n h
    → unwrap_or (option_or (then_some b false) (latest (filled_by n x) h)) false ≡ true
opened-judged n h i j x d true b test out is inside kept = absurd (cc)
opened-judged n h i j x d false b test out is inside kept = rw (out test) (judged-now n h i x d is inside kept)

kept-recovered : (n : ℕ) (h : List Event) (j : ℕ) (bits : List Bool) → Kept n h → Kept n (h ++ Recovered j bits ∷ [])
kept-recovered n h j bits kept =
    kept-other n h (Recovered j bits) refl
    (λ x here empty. filled-push n h (Recovered j bits) x ∙ opened-empty n h x (has (part_range n j) x && not (get_or bits (block_of x) false)) empty)
    (λ i x d is inside. filled-push n h (Recovered j bits) x ∙ opened-judged n h i j x d (j == i) (has (part_range n j) x && not (get_or bits (block_of x) false)) refl (λ out. elsewhere n i j x (not (get_or bits (block_of x) false)) out inside) (told h (Recovered j bits) i d (then_some (j == i) None) refl is) inside kept)
    kept

in_one : (n i j x : ℕ) → (j == i) ≡ false → has (part_range n i) x ≡ true → has (part_range n j) x ≡ false
in_one n i j x test inside =
    elim (has (part_range n j) x) as (λ b. (b && true) ≡ false → b ≡ false) [ true ↦ λ e. e | false ↦ λ e. refl ] (elsewhere n i j x true test inside)

kept-dropped : (n : ℕ) (h : List Event) (j : ℕ) → Kept n h → Kept n (h ++ Dropped j ∷ [])
kept-dropped n h j kept =
    kept-other n h (Dropped j) refl
    (λ x here empty. filled-push n h (Dropped j) x ∙ opened-empty n h x (has (part_range n j) x) empty)
    (λ i x d is inside. filled-push n h (Dropped j) x ∙ opened-judged n h i j x d (j == i) (has (part_range n j) x) refl (λ out. in_one n i j x out inside) (told h (Dropped j) i d (then_some (j == i) None) refl is) inside kept)
    kept

-- a Write

abbrev writes : ℕ → Span → Hold → Bool
writes p r k = (k.peer == p) && ((k.from == r.s) && nat_le r.e k.whole.e)

may-writes : (h : List Event) (p : ℕ) (r : Span) → may_write h p r ≡ true → list_any (writes p r) (holds_of h) ≡ true
may-writes h p r may = may_write-any p r (holds_of h) ∙ and_right (not (is_empty r)) (list_any (λ q. (q.s == r.s) && nat_le r.e q.e) (left_of h p)) may

unheld-written : (n : ℕ) (h : List Event) (p x : ℕ) (r : Span) → may_write h p r ≡ true → has r x ≡ true → Kept n h → is_held (h ++ Write p r ∷ []) x ≡ true → ⊥
unheld-written n h p x r may inside kept here =
    let ends = between_has r x inside in
    let some = counted (covers x) (holds_of (h ++ Write p r ∷ [])) here in
    let most = count-push h (Write p r) x in let rest = count-stepped (Write p r) x (holds_of h) in
    let less = count-written p x r (holds_of h) kept.started ends.0 ends.1 (may-writes h p r may) in
    let one = kept.once x in omega arith

written-empty : (n : ℕ) (h : List Event) (x : ℕ) (b : Bool) → (b ≡ true → ⊥) → is_filled n h x ≡ false → unwrap_or (option_or (then_some b true) (latest (filled_by n x) h)) false ≡ false
written-empty n h x true out empty = absurd (out refl)
written-empty n h x false out empty = empty

written-filled : (n : ℕ) (h : List Event) (x : ℕ) (b : Bool) → is_filled n h x ≡ true → unwrap_or (option_or (then_some b true) (latest (filled_by n x) h)) false ≡ true
written-filled n h x true was = refl
written-filled n h x false was = was

kept-written : (n : ℕ) (h : List Event) (p : ℕ) (r : Span) → may_write h p r ≡ true → Kept n h → Kept n (h ++ Write p r ∷ [])
kept-written n h p r may kept =
    kept-other n h (Write p r) refl
    (λ x here empty. filled-push n h (Write p r) x ∙ written-empty n h x (has r x) (λ inside. unheld-written n h p x r may inside kept here) empty)
    (λ i x d is inside. filled-push n h (Write p r) x ∙ written-filled n h x (has r x) (kept.judged i x d (sym (verdict-same h (Write p r) i refl) ∙ is) inside))
    kept

-- a Reserve

free_both : (filled held : Bool) → (not filled && not held) ≡ true → (filled ≡ false) × (held ≡ false)
free_both true held free = absurd (cc)
free_both false true free = absurd (cc)
free_both false false free = (refl, refl)

picked : (n : ℕ) (h : List Event) (p x : ℕ) → 1 ≤ fresh_count x (Reserve p (pick_of n h p)) → list_any (λ s. has s x) (pick_of n h p) ≡ true
picked n h p x fresh = let e = fresh-counted p x (pick_of n h p) in held-if (λ s. has s x) (pick_of n h p) (omega arith)

picked_once : (n : ℕ) (h : List Event) (p x : ℕ) → Kept n h → count (covers x) (holds_of h) + fresh_count x (Reserve p (pick_of n h p)) ≤ 1
picked_once n h p x kept =
    let e = fresh-counted p x (pick_of n h p) in
    let once = pick_once n h p x in
    let was = kept.once x in
    elim (list_any (λ s. has s x) (pick_of n h p)) as (λ b. list_any (λ s. has s x) (pick_of n h p) ≡ b → count (covers x) (holds_of h) + fresh_count x (Reserve p (pick_of n h p)) ≤ 1) [
      | true ↦ λ is. let free = free_both (is_filled n h x) (is_held h x) (pick_is_free n h p x is) in let none = uncounted (covers x) (holds_of h) free.1 in omega arith
      | false ↦ λ is. let none = uncounted (λ s. has s x) (pick_of n h p) is in omega arith
    ] refl

kept-picked : (n : ℕ) (h : List Event) (p : ℕ) → Kept n h → Kept n (h ++ Reserve p (pick_of n h p) ∷ [])
kept-picked n h p kept =
    let e = Reserve p (pick_of n h p) in
    record {
      started = started-push h e kept.started;
      once = λ x.
          let most = count-push h e x in let rest = count-stepped e x (holds_of h) in let less = count-advanced e x (holds_of h) in
          let one = picked_once n h p x kept in omega arith;
      within = λ x here. held-or h e x here (kept.within x) (λ fresh. let test = pick_within n h p x (picked n h p x fresh) in grind (arith, nat_tests));
      unfilled = λ x here. filled-same n h e x refl ∙ held-or h e x here (kept.unfilled x) (λ fresh. (free_both (is_filled n h x) (is_held h x) (pick_is_free n h p x (picked n h p x fresh))).0);
      judged = λ i x d is inside. filled-same n h e x refl ∙ kept.judged i x d (sym (verdict-same h e i refl) ∙ is) inside;
    }

-- every legal log

pub kept-allowed : (aim : Aim) (h : List Event) (e : Event) → Allowed aim h e → Kept aim.size h → Kept aim.size (h ++ e ∷ [])
kept-allowed aim h (Opened o) allowed kept = absurd allowed
kept-allowed aim h (Hashes q) allowed kept = kept-quiet aim.size h (Hashes q) refl (λ x. refl) (λ i. refl) kept
kept-allowed aim h (Offer p bits) allowed kept = kept-quiet aim.size h (Offer p bits) refl (λ x. refl) (λ i. refl) kept
kept-allowed aim h (Reserve p spans) allowed kept = subst (λ (s : List Span). Kept aim.size (h ++ Reserve p s ∷ [])) (sym allowed.chosen) (kept-picked aim.size h p kept)
kept-allowed aim h (Write p r) allowed kept = kept-written aim.size h p r allowed kept
kept-allowed aim h (Release p) allowed kept = kept-quiet aim.size h (Release p) refl (λ x. refl) (λ i. refl) kept
kept-allowed aim h Commit allowed kept = kept-quiet aim.size h Commit refl (λ x. refl) (λ i. refl) kept
kept-allowed aim h (Verdict i d) allowed kept = kept-judged aim.size h i d allowed.full kept
kept-allowed aim h (Recovered i bits) allowed kept = kept-recovered aim.size h i bits kept
kept-allowed aim h (Dropped i) allowed kept = kept-dropped aim.size h i kept

verdicts-full : (n : ℕ) (h : List Event) (low i : ℕ) (pairs : List Pair) (d : List ℕ) → AreVerdicts n h low pairs → digest_in pairs i ≡ Some d → is_full n h i ≡ true
verdicts-full n h low i [] d are is = absurd (cc)
verdicts-full n h low i (pair ∷ pairs) d are is =
    elim (pair.part == i) as (λ b. (pair.part == i) ≡ b → option_map (λ (q : Pair). q.digest) (cond b (Some pair) (find (λ (q : Pair). q.part == i) pairs)) ≡ Some d → is_full n h i ≡ true) [
      | true ↦ λ test here. let at : pair.part ≡ i = grind (arith, nat_tests) in subst (λ (k : ℕ). is_full n h k ≡ true) at are.2
      | false ↦ λ test later. verdicts-full n h (pair.part + 1) i pairs d are.3 later
    ] refl is

pub kept-opened : (aim : Aim) (o : State) → IsState aim o → Kept aim.size (Opened o ∷ [])
kept-opened aim o is = record {
  started = tt;
  once = λ x. omega arith;
  within = λ x here. absurd (both_ways false refl here);
  unfilled = λ x here. absurd (both_ways false refl here);
  judged = λ i x d found inside. full_at aim.size (Opened o ∷ []) i x (verdicts-full aim.size (Opened o ∷ []) 0 i o.verdicts d is.verdicts found) inside;
}

kept-legal : (aim : Aim) (h : List Event) → AreLegal aim h → Kept aim.size h
kept-legal aim h legal = over-legal aim (Kept aim.size) (kept-allowed aim) (kept-opened aim) h legal

-- what may be written is held

held-writes : (p x : ℕ) (r : Span) (ks : List Hold) → r.s ≤ x → x < r.e → list_any (writes p r) ks ≡ true → list_any (covers x) ks ≡ true
held-writes p x r [] above below here = here
held-writes p x r (k ∷ ks) above below here =
    or_cases (writes p r k) (list_any (writes p r) ks) here
    (λ first. let at : covers x k ≡ true = grind (arith, nat_tests) in or_left (covers x k) (list_any (covers x) ks) at)
    (λ later. or_right (covers x k) (list_any (covers x) ks) (held-writes p x r ks above below later))

some_position : (h : List Event) (p : ℕ) (r : Span) → may_write h p r ≡ true → r.s < r.e
some_position h p r may = let some = and_left (not (is_empty r)) (list_any (λ q. (q.s == r.s) && nat_le r.e q.e) (left_of h p)) may in grind (arith, nat_tests)

-- where a span that may be written begins there is a position of the file that is neither filled nor judged
pub record Begins (n : ℕ) (h : List Event) (r : Span) : Type 0 where
  pub some : r.s < r.e
  pub within : r.s < n
  pub unfilled : is_filled n h r.s ≡ false
  pub unjudged : (i : ℕ) (d : List ℕ) → verdict_of h i ≡ Some d → has (part_range n i) r.s ≡ true → ⊥

pub writable_begins : (n : ℕ) (h : List Event) (p : ℕ) (r : Span) → Kept n h → may_write h p r ≡ true → Begins n h r
writable_begins n h p r kept may =
    let some = some_position h p r may in
    let held = held-writes p r.s r (holds_of h) (omega arith) some (may-writes h p r may) in
    record {
      some = some;
      within = kept.within r.s held;
      unfilled = kept.unfilled r.s held;
      unjudged = λ i d is inside. both_ways (is_filled n h r.s) (kept.unfilled r.s held) (kept.judged i r.s d is inside);
    }

pub record Writable (n : ℕ) (r : Span) : Type 0 where
  pub some : r.s < r.e
  pub within : r.e ≤ n

-- a span that may be written is not empty and lies in the file
pub writable : (aim : Aim) (log : List Entry) (p : ℕ) (r : Span) → IsLegal aim log → may_write (events log) p r ≡ true → Writable aim.size r
writable aim log p r legal may =
    let kept = kept-legal aim (events log) legal.events in
    let some = some_position (events log) p r may in
    let last = kept.within (r.e - 1) (held-writes p (r.e - 1) r (holds_of (events log)) (omega arith) (omega arith) (may-writes (events log) p r may)) in
    record { some = some; within = omega arith }

-- no part that has a verdict has a position of it
unjudged-position : (aim : Aim) (log : List Entry) (p i y : ℕ) (r : Span) (d : List ℕ) → IsLegal aim log → may_write (events log) p r ≡ true → verdict_of (events log) i ≡ Some d → r.s ≤ y → y < r.e → has (part_range aim.size i) y ≡ true → ⊥
unjudged-position aim log p i y r d legal may judged above below inside =
    let kept = kept-legal aim (events log) legal.events in
    let held = held-writes p y r (holds_of (events log)) above below (may-writes (events log) p r may) in
    both_ways (is_filled aim.size (events log) y) (kept.unfilled y held) (kept.judged i y d judged inside)

-- no position that may be written is filled
pub writable_unfilled : (aim : Aim) (log : List Entry) (p x : ℕ) (r : Span) → IsLegal aim log → may_write (events log) p r ≡ true → r.s ≤ x → x < r.e → is_filled aim.size (events log) x ≡ false
writable_unfilled aim log p x r legal may above below =
    let kept = kept-legal aim (events log) legal.events in
    kept.unfilled x (held-writes p x r (holds_of (events log)) above below (may-writes (events log) p r may))

apart_from : (n i : ℕ) (r : Span) → r.s < r.e → r.e ≤ n → ((y : ℕ) → r.s ≤ y → y < r.e → has (part_range n i) y ≡ true → ⊥) → (r.e ≤ i * PART) ⊎ ((i + 1) * PART ≤ r.s)
apart_from n i r some within out =
    elim (nat_le r.e (i * PART)) as (λ b. nat_le r.e (i * PART) ≡ b → (r.e ≤ i * PART) ⊎ ((i + 1) * PART ≤ r.s)) [
      | true ↦ λ before. inl (grind (arith, nat_tests))
      | false ↦ λ past. elim (nat_le ((i + 1) * PART) r.s) as (λ b. nat_le ((i + 1) * PART) r.s ≡ b → (r.e ≤ i * PART) ⊎ ((i + 1) * PART ≤ r.s)) [
        | true ↦ λ behind. inr (grind (arith, nat_tests))
        | false ↦ λ not_behind.
            let low : i * PART < r.e = grind (arith, nat_tests) in
            let high : r.s < (i + 1) * PART = grind (arith, nat_tests) in
            absurd (out (max r.s (i * PART)) (omega arith) (omega arith) (has_between (part_range n i) (max r.s (i * PART)) (omega arith) (omega arith)))
      ] refl
    ] refl

pub writable_unjudged : (aim : Aim) (log : List Entry) (p i : ℕ) (r : Span) (d : List ℕ) → IsLegal aim log → may_write (events log) p r ≡ true → verdict_of (events log) i ≡ Some d → (r.e ≤ i * PART) ⊎ ((i + 1) * PART ≤ r.s)
writable_unjudged aim log p i r d legal may judged =
    let w = writable aim log p r legal may in
    apart_from aim.size i r w.some w.within (λ y above below inside. unjudged-position aim log p i y r d legal may judged above below inside)

-- a peer that releases holds nothing
released-keeps : (p : ℕ) (k : Hold) → (k.peer == p) ≡ true → stays (Release p) k ≡ false
released-keeps p k own = grind (arith, nat_tests)

pub released_none : (h : List Event) (p : ℕ) → is_holder (h ++ Release p ∷ []) p ≡ false
released_none h p =
    let own = λ (k : Hold). k.peer == p in
    let ks = map (advance (Release p)) (holds_of h) in
    let same : holds_of (h ++ Release p ∷ []) ≡ stepped (Release p) (holds_of h) = holds-push h (Release p) ∙ append-nil (stepped (Release p) (holds_of h)) in
    let outer = count-filter own is_open (filter (stays (Release p)) ks) in
    let inner = count-left_out own (stays (Release p)) (released-keeps p) ks in
    let none : count own (holds_of (h ++ Release p ∷ [])) ≡ 0 = ap (count own) same ∙ omega arith in
    elim (is_holder (h ++ Release p ∷ []) p) as (λ b. is_holder (h ++ Release p ∷ []) p ≡ b → b ≡ false) [
      | true ↦ λ is. let some = counted own (holds_of (h ++ Release p ∷ [])) is in absurd (omega arith)
      | false ↦ λ is. refl
    ] refl
