-- Two held ranges with a position in common are of one peer and of one span, over every legal log.
use Rattle.std.proofs.Common.{◌≡◌, ℕ, Bool, true, false, ◌&&◌, ◌==◌, List, [], ◌∷◌, ◌++◌, map, Some, refl, ap, sym, ◌∙◌, subst, arith}
use Rattle.std.specs.List.{list_any}
use Rattle.std.proofs.lemmas.Bool.{both_ways}
use Rattle.std.proofs.lemmas.Bool.Decides.{nat_tests}
use Rattle.byte_ranges.specs.Spans.{Each}
use Rattle.part_hashset.specs.declared.aim.Aim.{Aim}
use Rattle.part_sizes.specs.Block.{block_of, block_range}
use Rattle.part_sizes.specs.Part.{part_of}
use Rattle.part_sizes.specs.Span.{has}
use Rattle.part_sizes.specs.declared.span.Span.{Span}
use Rattle.reserve_core.specs.Choice.{first_run, is_available, pick_of}
use Rattle.reserve_core.specs.Filled.{is_filled}
use Rattle.reserve_core.specs.Free.{has_any}
use Rattle.reserve_core.specs.Held.{hold_after, reserved_by, holds_of, range_of, is_held}
use Rattle.reserve_core.specs.Legal.{AreLegal}
use Rattle.reserve_core.specs.declared.event.Event.{Event}
use Rattle.reserve_core.specs.declared.event.Event.TheVariants.{Reserve}
use Rattle.reserve_core.specs.declared.hold.Hold.{Hold}
use Rattle.reserve_core.proofs.HoldsAfter.{advanced}
use Rattle.reserve_core.proofs.LegalLogs.{over-legal, over-reserves}
use Rattle.reserve_core.proofs.Lists.{or_cases, or_right, and_left, and_right}
use Rattle.reserve_core.proofs.OneHolder.{Shrinks, free-unheld, was-or-fresh}
use Rattle.reserve_core.proofs.Runs.{IsRun, pick_is_free, pick_runs}

-- the range is of the same peer and span as the first, and has the position
abbrev pub in_range : Hold → ℕ → Hold → Bool
in_range o x k = ((k.peer == o.peer) && ((k.whole.s == o.whole.s) && (k.whole.e == o.whole.e))) && has (range_of k) x

-- the ranges are of one peer and one span
pub record AreOne (o w : Hold) : Type 0 where
  pub peer : o.peer ≡ w.peer
  pub start : o.whole.s ≡ w.whole.s
  pub end : o.whole.e ≡ w.whole.e

abbrev pub Alike : List Hold → Type 0
Alike ks = (o w : Hold) (x : ℕ) → list_any (in_range o x) ks ≡ true → list_any (in_range w x) ks ≡ true → AreOne o w

shrinks : (o : Hold) (x : ℕ) → Shrinks (in_range o x)
shrinks o x e k here = let more = advanced e k in grind (arith, nat_tests)

pub range-any : (o : Hold) (x : ℕ) (ks : List Hold) → list_any (in_range o x) ks ≡ true → has_any ks x ≡ true
range-any o x [] here = here
range-any o x (k ∷ ks) here =
    or_cases (in_range o x k) (list_any (in_range o x) ks) here
    (λ first. rw (and_right ((k.peer == o.peer) && ((k.whole.s == o.whole.s) && (k.whole.e == o.whole.e))) (has (range_of k) x) first) refl)
    (λ later. or_right (has (range_of k) x) (has_any ks x) (range-any o x ks later))

-- a fresh range is its peer's, and is the first free run of the block of each of its positions
record IsFreshRange (n : ℕ) (h : List Event) (p : ℕ) (o : Hold) (x : ℕ) : Type 0 where
  peer : p ≡ o.peer
  span : (let r : Span = record { s = o.whole.s; e = o.whole.e } in first_run (is_available n h) (block_range n (part_of x) (block_of x)) ≡ Some r)
  free : is_available n h x ≡ true

span_is : (r : Span) (s e : ℕ) → r.s ≡ s → r.e ≡ e → r ≡ record { s = s; e = e }
span_is r s e same alike = rw (sym same, sym alike) refl

fresh-range : (n : ℕ) (h : List Event) (p x : ℕ) (o : Hold) (spans : List Span) → Each (IsRun n h) spans → ((y : ℕ) → list_any (λ r. has r y) spans ≡ true → is_available n h y ≡ true)
    → list_any (in_range o x) (map (hold_after p []) spans) ≡ true → IsFreshRange n h p o x
fresh-range n h p x o [] runs free here = cc
fresh-range n h p x o (r ∷ spans) runs free here =
    or_cases (in_range o x (hold_after p [] r)) (list_any (in_range o x) (map (hold_after p []) spans)) here
    (λ first.
    let in_span = and_right ((p == o.peer) && ((r.s == o.whole.s) && (r.e == o.whole.e))) (has r x) first in
    let same = and_left ((p == o.peer) && ((r.s == o.whole.s) && (r.e == o.whole.e))) (has r x) first in
    record {
      peer = grind (arith, nat_tests);
      span = runs.0.at x in_span ∙ ap (λ (q : Span). Some q) (span_is r o.whole.s o.whole.e (grind (arith, nat_tests)) (grind (arith, nat_tests)));
      free = free x (rw in_span refl);
    })
    (λ later. fresh-range n h p x o spans runs.1 (λ y there. free y (or_right (has r y) (list_any (λ r. has r y) spans) there)) later)

both-fresh : (n : ℕ) (h : List Event) (p x : ℕ) (o w : Hold) → IsFreshRange n h p o x → IsFreshRange n h p w x → AreOne o w
both-fresh n h p x o w one two =
    let a = one.span in
    let b = two.span in
    record { peer = sym one.peer ∙ two.peer; start = cc; end = cc }

alike-other : (h : List Event) (e : Event) → reserved_by e [] ≡ [] → Alike (holds_of h) → Alike (holds_of (h ++ e ∷ []))
alike-other h e none alike = λ o w x here there.
    let fresh = λ (k : Hold) (now : list_any (in_range k x) (reserved_by e []) ≡ true). both_ways false refl (sym (ap (list_any (in_range k x)) none) ∙ now) in
    was-or-fresh (in_range o x) (shrinks o x) h e here
    (λ was. was-or-fresh (in_range w x) (shrinks w x) h e there (alike o w x was) (λ now. absurd (fresh w now)))
    (λ now. absurd (fresh o now))

alike-reserve : (n : ℕ) (h : List Event) (p : ℕ) (spans : List Span) → spans ≡ pick_of n h p → Alike (holds_of h) → Alike (holds_of (h ++ Reserve p spans ∷ []))
alike-reserve n h p spans chosen alike = λ o w x here there.
    let runs : Each (IsRun n h) spans = subst (λ (rs : List Span). Each (IsRun n h) rs) (sym chosen) (pick_runs n h p) in
    let free = λ (y : ℕ) (some : list_any (λ s. has s y) spans ≡ true). pick_is_free n h p y (sym (ap (list_any (λ s. has s y)) chosen) ∙ some) in
    let fresh = λ (k : Hold) (now : list_any (in_range k x) (map (hold_after p []) spans) ≡ true). fresh-range n h p x k spans runs free now in
    let unheld = λ (k : Hold) (now : list_any (in_range k x) (map (hold_after p []) spans) ≡ true). free-unheld (is_filled n h x) (is_held h x) (fresh k now).free in
    was-or-fresh (in_range o x) (shrinks o x) h (Reserve p spans) here
    (λ was. was-or-fresh (in_range w x) (shrinks w x) h (Reserve p spans) there (alike o w x was)
    (λ now. absurd (both_ways (is_held h x) (unheld w now) (range-any o x (holds_of h) was))))
    (λ now. was-or-fresh (in_range w x) (shrinks w x) h (Reserve p spans) there
    (λ was. absurd (both_ways (is_held h x) (unheld o now) (range-any w x (holds_of h) was)))
    (λ new. both-fresh n h p x o w (fresh o now) (fresh w new)))

pub alike-legal : (aim : Aim) (h : List Event) → AreLegal aim h → Alike (holds_of h)
alike-legal aim h legal = over-legal aim (λ h. Alike (holds_of h)) (over-reserves aim (λ h. Alike (holds_of h)) alike-other (alike-reserve aim.size)) (λ o is k w x here there. absurd (both_ways false refl here)) h legal
