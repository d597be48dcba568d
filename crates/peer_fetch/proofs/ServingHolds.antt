-- The ranges that peer 0 holds in a turn, and how the pieces of the file use them up.
use Rattle.std.proofs.Common.{◌≡◌, ℕ, ◌<◌, ◌≤◌, max, Bool, true, false, not, ◌&&◌, ◌||◌, ◌==◌, nat_le, List, [], ◌∷◌, ◌++◌, map, cond, None, Some, refl, ap, ◌∙◌, subst, arith, inl, inr}
use Rattle.std.specs.Bool.{then_some}
use Rattle.std.specs.List.{filter, list_any}
use Rattle.std.proofs.lemmas.Bool.{both_ways, cases_Bool}
use Rattle.std.proofs.lemmas.Bool.Decides.{nat_tests}
use Rattle.byte_ranges.specs.Spans.{Each}
use Rattle.part_sizes.specs.Part.{part_of, part_range}
use Rattle.part_sizes.specs.Span.{has, is_empty}
use Rattle.part_sizes.specs.declared.span.Span.{Span}
use Rattle.part_sizes.proofs.Laws.{between_has, has_between}
use Rattle.reserve_core.specs.Choice.{pick_of}
use Rattle.reserve_core.specs.Events.{raise}
use Rattle.reserve_core.specs.Filled.{filled_by, is_filled}
use Rattle.reserve_core.specs.Held.{hold_after, holds_of, is_held, is_holder, is_open, lies, may_write, written_by}
use Rattle.reserve_core.specs.Steps.{advance, stepped}
use Rattle.reserve_core.specs.declared.event.Event.{Event}
use Rattle.reserve_core.specs.declared.event.Event.TheVariants.{Reserve, Write}
use Rattle.reserve_core.specs.declared.hold.Hold.{Hold}
use Rattle.reserve_core.proofs.Counts.{bit, bit-some, bit-none, count, pick_once}
use Rattle.reserve_core.proofs.Events.{holds-write}
use Rattle.reserve_core.proofs.HoldsAfter.{holds-push}
use Rattle.reserve_core.proofs.Lists.{or_cases, or_left, or_right}
use Rattle.reserve_core.proofs.Quiet.{Holds, filled-same, holds-same}
use Rattle.reserve_core.proofs.Runs.{IsRun, pick_is_free, pick_runs}
use Rattle.peer_fetch.proofs.ServingBody.{filled_out}

abbrev pub span : ℕ → ℕ → Span
span s e = record { s = s; e = e }

-- the range of peer 0 that is left of a span
abbrev pub hold : Span → ℕ → Hold
hold r from = record { peer = 0; whole = r; from = from }

-- not empty, and in one part
abbrev pub IsPiece : ℕ → Span → Type 0
IsPiece n r = (r.s < r.e) × (r.e ≤ (part_range n (part_of r.s)).e)

-- The peer holds what is left of a span, and the spans behind it. No position of them is filled, and none is in
-- two of them.
pub record Holding (n : ℕ) (h : List Event) (r : Span) (from : ℕ) (spans : List Span) : Type 0 where
  pub holds : holds_of h ≡ hold r from ∷ map (hold_after 0 []) spans
  pub start : r.s ≤ from
  pub piece : IsPiece n (span from r.e)
  pub pieces : Each (IsPiece n) spans
  pub once : (x : ℕ) → count (λ q. has q x) (span from r.e ∷ spans) ≤ 1
  pub free : (x : ℕ) → list_any (λ q. has q x) (span from r.e ∷ spans) ≡ true → is_filled n h x ≡ false

-- a turn begins

opens : (n : ℕ) (spans : List Span) → Each (IsPiece n) spans → filter is_open (map (hold_after 0 []) spans) ≡ map (hold_after 0 []) spans
opens n [] pieces = refl
opens n (r ∷ spans) pieces =
    let some = pieces.0.0 in
    let test : is_open (hold_after 0 [] r) ≡ true = grind (arith, nat_tests) in
    rw test (ap (λ ks. hold_after 0 [] r ∷ ks) (opens n spans pieces.1))

runs_are_pieces : (n : ℕ) (h : List Event) (spans : List Span) → Each (IsRun n h) spans → Each (IsPiece n) spans
runs_are_pieces n h [] runs = tt
runs_are_pieces n h (r ∷ spans) runs = ((runs.0.some, runs.0.end), runs_are_pieces n h spans runs.1)

holds_reserved : (n : ℕ) (h : List Event) (spans : List Span) → holds_of h ≡ [] → Each (IsPiece n) spans → holds_of (h ++ Reserve 0 spans ∷ []) ≡ map (hold_after 0 []) spans
holds_reserved n h spans none pieces =
    holds-push h (Reserve 0 spans)
    ∙ ap (λ (ks : List Hold). stepped (Reserve 0 spans) ks ++ filter is_open (map (hold_after 0 []) spans)) none
    ∙ opens n spans pieces

unfilled : (filled held : Bool) → (not filled && not held) ≡ true → filled ≡ false
unfilled filled held free = grind arith

pub begins_turn : (n : ℕ) (h : List Event) (r : Span) (spans : List Span) → pick_of n h 0 ≡ r ∷ spans → holds_of h ≡ [] → Holding n (h ++ Reserve 0 (r ∷ spans) ∷ []) r r.s spans
begins_turn n h r spans chosen none =
    let pieces : Each (IsPiece n) (r ∷ spans) = runs_are_pieces n h (r ∷ spans) (subst (λ (rs : List Span). Each (IsRun n h) rs) chosen (pick_runs n h 0)) in
    record {
      holds = holds_reserved n h (r ∷ spans) none pieces;
      start = omega arith;
      piece = pieces.0;
      pieces = pieces.1;
      once = λ x. subst (λ (rs : List Span). count (λ q. has q x) rs ≤ 1) chosen (pick_once n h 0 x);
      free = λ x here.
          filled-same n h (Reserve 0 (r ∷ spans)) x refl
          ∙ unfilled (is_filled n h x) (is_held h x) (pick_is_free n h 0 x (ap (list_any (λ q. has q x)) chosen ∙ here));
    }

-- an event that neither fills nor holds changes nothing of it
pub still_holding : (n : ℕ) (h : List Event) (e : Event) (r : Span) (from : ℕ) (spans : List Span) → Holds e → ((x : ℕ) → filled_by n x e ≡ None) → Holding n h r from spans → Holding n (h ++ e ∷ []) r from spans
still_holding n h e r from spans same filled holding = record {
  holds = holds-same h e same ∙ holding.holds;
  start = holding.start;
  piece = holding.piece;
  pieces = holding.pieces;
  once = holding.once;
  free = λ x here. filled-same n h e x (filled x) ∙ holding.free x here;
}

-- a piece of the range that is left

pub may_fill : (n : ℕ) (h : List Event) (r : Span) (from end : ℕ) (spans : List Span) → Holding n h r from spans → from < end → end ≤ r.e → may_write h 0 (span from end) ≡ true
may_fill n h r from end spans holding some within =
    let filled : not (is_empty (span from end)) ≡ true = grind (arith, nat_tests) in
    let first : ((from == from) && nat_le end r.e) ≡ true = grind (arith, nat_tests) in
    rw (holding.holds, filled, first) refl

-- it lies in no other range
elsewhere : (r q : Span) (from end : ℕ) → from < end → end ≤ r.e → q.s < q.e → (has (span from r.e) from ≡ true → has q from ≡ true → ⊥) → lies (span from end) q ≡ false
elsewhere r q from end some within open_span apart =
    elim (cases_Bool (lies (span from end) q)) [
      | inl inside ↦
          let low : q.s ≤ from = grind (arith, nat_tests) in
          let high : end ≤ q.e = grind (arith, nat_tests) in
          absurd (apart (has_between (span from r.e) from (omega arith) (omega arith)) (has_between q from low (omega arith)))
      | inr out ↦ out
    ]

kept_span : (q : Span) (from end : ℕ) → lies (span from end) q ≡ false → advance (Write 0 (span from end)) (hold_after 0 [] q) ≡ hold_after 0 [] q
kept_span q from end out =
    let still : written_by 0 q (Write 0 (span from end)) ≡ None = ap (λ b. then_some b end) out in
    ap (λ o. hold q (raise o q.s)) still

kept_spans : (from end : ℕ) (spans : List Span) → Each (λ q. lies (span from end) q ≡ false) spans → map (advance (Write 0 (span from end))) (map (hold_after 0 []) spans) ≡ map (hold_after 0 []) spans
kept_spans from end [] out = refl
kept_spans from end (q ∷ spans) out =
    ap (λ k. k ∷ map (advance (Write 0 (span from end))) (map (hold_after 0 []) spans)) (kept_span q from end out.0)
    ∙ ap (λ ks. hold_after 0 [] q ∷ ks) (kept_spans from end spans out.1)

moved_on : (r : Span) (from end : ℕ) → r.s ≤ from → from < end → end ≤ r.e → advance (Write 0 (span from end)) (hold r from) ≡ hold r end
moved_on r from end start some within =
    let test : lies (span from end) r ≡ true = grind (arith, nat_tests) in
    let moved : written_by 0 r (Write 0 (span from end)) ≡ Some end = ap (λ b. then_some b end) test in
    let greatest : max end from ≡ end = omega arith in
    ap (λ o. hold r (raise o from)) moved ∙ ap (λ k. hold r k) greatest

-- no position of the range that is left is in a span behind it
apart_from : (from e : ℕ) (spans : List Span) (x : ℕ) → count (λ q. has q x) (span from e ∷ spans) ≤ 1 → has (span from e) x ≡ true → list_any (λ q. has q x) spans ≡ false
apart_from from e spans x once here =
    elim (cases_Bool (list_any (λ q. has q x) spans)) [
      | inl there ↦
          let one = bit-some (has (span from e) x) here in
          let more = counted spans there in
          absurd (omega arith)
      | inr out ↦ out
    ]
  where
    counted : (rs : List Span) → list_any (λ q. has q x) rs ≡ true → 1 ≤ count (λ q. has q x) rs
    counted [] there = absurd (cc)
    counted (q ∷ rs) there =
        or_cases (has q x) (list_any (λ q. has q x) rs) there
        (λ first. let one = bit-some (has q x) first in omega arith)
        (λ later. let more = counted rs later in omega arith)

none_lies : (n : ℕ) (r : Span) (from end : ℕ) (spans : List Span) → from < end → end ≤ r.e → list_any (λ q. has q from) spans ≡ false → Each (IsPiece n) spans → Each (λ q. lies (span from end) q ≡ false) spans
none_lies n r from end [] some within apart pieces = tt
none_lies n r from end (q ∷ spans) some within apart pieces =
    let both = or_none (has q from) (list_any (λ q. has q from) spans) apart in
    (elsewhere r q from end some within pieces.0.0 (λ here there. both_ways (has q from) both.0 there), none_lies n r from end spans some within both.1 pieces.1)
  where
    or_none : (a b : Bool) → (a || b) ≡ false → (a ≡ false) × (b ≡ false)
    or_none true b e = absurd (cc)
    or_none false b e = (refl, e)

holds_written : (n : ℕ) (h : List Event) (r : Span) (from end : ℕ) (spans : List Span) → Holding n h r from spans → from < end → end ≤ r.e
    → holds_of (h ++ Write 0 (span from end) ∷ []) ≡ filter is_open (hold r end ∷ map (hold_after 0 []) spans)
holds_written n h r from end spans holding some within =
    let open_range : from < r.e = omega arith in
    let apart = apart_from from r.e spans from (holding.once from) (has_between (span from r.e) from (omega arith) open_range) in
    holds-write h 0 (span from end)
    ∙ ap (λ (ks : List Hold). filter is_open (map (advance (Write 0 (span from end))) ks)) holding.holds
    ∙ ap (λ (k : Hold). filter is_open (k ∷ map (advance (Write 0 (span from end))) (map (hold_after 0 []) spans))) (moved_on r from end holding.start some within)
    ∙ ap (λ (ks : List Hold). filter is_open (hold r end ∷ ks)) (kept_spans from end spans (none_lies n r from end spans some within apart holding.pieces))

-- what is left of the range behind the piece
less : (from end e x : ℕ) → from ≤ end → bit (has (span end e) x) ≤ bit (has (span from e) x)
less from end e x more =
    elim (cases_Bool (has (span end e) x)) [
      | inl here ↦
          let ends = between_has (span end e) x here in
          let one = bit-some (has (span from e) x) (has_between (span from e) x (omega arith) (omega arith)) in
          let same = bit-some (has (span end e) x) here in
          omega arith
      | inr out ↦ let none = bit-none (has (span end e) x) out in omega arith
    ]

not_in : (from end x : ℕ) → (has (span from end) x ≡ true → ⊥) → has (span from end) x ≡ false
not_in from end x never = elim (cases_Bool (has (span from end) x)) [ inl here ↦ absurd (never here) | inr out ↦ out ]

-- a position of the spans behind, or of what is left, is not in the piece
out_of_piece : (n : ℕ) (h : List Event) (r : Span) (from end x : ℕ) (spans : List Span) → Holding n h r from spans → end ≤ r.e → list_any (λ q. has q x) spans ≡ true → has (span from end) x ≡ false
out_of_piece n h r from end x spans holding within there =
    not_in from end x (λ here.
    let ends = between_has (span from end) x here in
    both_ways (list_any (λ q. has q x) spans) (apart_from from r.e spans x (holding.once x) (has_between (span from r.e) x ends.0 (omega arith))) there)

still_free : (n : ℕ) (h : List Event) (r : Span) (from end x : ℕ) (spans : List Span) → Holding n h r from spans → from < end → end ≤ r.e → list_any (λ q. has q x) (span end r.e ∷ spans) ≡ true → is_filled n (h ++ Write 0 (span from end) ∷ []) x ≡ false
still_free n h r from end x spans holding some within here =
    or_cases (has (span end r.e) x) (list_any (λ q. has q x) spans) here
    (λ first.
    let ends = between_has (span end r.e) x first in
    let was : has (span from r.e) x ≡ true = has_between (span from r.e) x (omega arith) (omega arith) in
    let out : has (span from end) x ≡ false = not_in from end x (λ inside. let at = between_has (span from end) x inside in omega arith) in
    filled_out n h 0 x (span from end) out ∙ holding.free x (or_left (has (span from r.e) x) (list_any (λ q. has q x) spans) was))
    (λ later.
    filled_out n h 0 x (span from end) (out_of_piece n h r from end x spans holding within later)
    ∙ holding.free x (or_right (has (span from r.e) x) (list_any (λ q. has q x) spans) later))

part_stays : (n from end e : ℕ) → from < end → end < e → e ≤ (part_range n (part_of from)).e → e ≤ (part_range n (part_of end)).e
part_stays n from end e some more within = omega arith

pub goes_on : (n : ℕ) (h : List Event) (r : Span) (from end : ℕ) (spans : List Span) → Holding n h r from spans → from < end → end < r.e → Holding n (h ++ Write 0 (span from end) ∷ []) r end spans
goes_on n h r from end spans holding some more =
    let within : end ≤ r.e = omega arith in
    let start = holding.start in
    let test : is_open (hold r end) ≡ true = grind (arith, nat_tests) in
    record {
      holds = holds_written n h r from end spans holding some within ∙ first_open (is_open (hold r end)) test ∙ ap (λ ks. hold r end ∷ ks) (opens n spans holding.pieces);
      start = omega arith;
      piece = (more, part_stays n from end r.e some more holding.piece.1);
      pieces = holding.pieces;
      once = λ x. let was = holding.once x in let fewer = less from end r.e x (omega arith) in omega arith;
      free = λ x here. still_free n h r from end x spans holding some within here;
    }
  where
    first_open : (b : Bool) → b ≡ true → cond b (hold r end ∷ filter is_open (map (hold_after 0 []) spans)) (filter is_open (map (hold_after 0 []) spans)) ≡ hold r end ∷ filter is_open (map (hold_after 0 []) spans)
    first_open true is = refl
    first_open false is = absurd (cc)

used_up : (n : ℕ) (h : List Event) (r : Span) (from : ℕ) (spans : List Span) → Holding n h r from spans → holds_of (h ++ Write 0 (span from r.e) ∷ []) ≡ map (hold_after 0 []) spans
used_up n h r from spans holding =
    let some = holding.piece.0 in
    let test : is_open (hold r r.e) ≡ false = grind (arith, nat_tests) in
    holds_written n h r from r.e spans holding some (omega arith) ∙ first_shut (is_open (hold r r.e)) test ∙ opens n spans holding.pieces
  where
    first_shut : (b : Bool) → b ≡ false → cond b (hold r r.e ∷ filter is_open (map (hold_after 0 []) spans)) (filter is_open (map (hold_after 0 []) spans)) ≡ filter is_open (map (hold_after 0 []) spans)
    first_shut false is = refl
    first_shut true is = absurd (cc)

pub goes_next : (n : ℕ) (h : List Event) (r : Span) (from : ℕ) (q : Span) (spans : List Span) → Holding n h r from (q ∷ spans) → Holding n (h ++ Write 0 (span from r.e) ∷ []) q q.s spans
goes_next n h r from q spans holding = record {
  holds = used_up n h r from (q ∷ spans) holding;
  start = omega arith;
  piece = holding.pieces.0;
  pieces = holding.pieces.1;
  once = λ x. let was = holding.once x in omega arith;
  free = λ x here.
      filled_out n h 0 x (span from r.e) (out_of_piece n h r from r.e x (q ∷ spans) holding (omega arith) here)
      ∙ holding.free x (or_right (has (span from r.e) x) (list_any (λ q. has q x) (q ∷ spans)) here);
}

pub ends_turn : (n : ℕ) (h : List Event) (r : Span) (from : ℕ) → Holding n h r from [] → holds_of (h ++ Write 0 (span from r.e) ∷ []) ≡ []
ends_turn n h r from holding = used_up n h r from [] holding

-- a peer that holds a range is a holder
pub is_holding : (n : ℕ) (h : List Event) (r : Span) (from : ℕ) (spans : List Span) → Holding n h r from spans → is_holder h 0 ≡ true
is_holding n h r from spans holding = ap (list_any (λ (k : Hold). k.peer == 0)) holding.holds

pub holds_nothing : (h : List Event) → holds_of h ≡ [] → is_holder h 0 ≡ false
holds_nothing h none = ap (list_any (λ (k : Hold). k.peer == 0)) none
