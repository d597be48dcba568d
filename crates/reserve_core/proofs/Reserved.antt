-- What is kept after a Reserve.
use Rattle.std.proofs.Common.{◌≡◌, ℕ, zero, suc, Bool, true, false, not, ◌&&◌, List, [], ◌∷◌, ◌++◌, map, unwrap_or, refl, ap, sym, ◌∙◌, subst, arith}
use Rattle.std.specs.List.{list_any, filter, All}
use Rattle.std.proofs.lemmas.Bool.Decides.{nat_tests}
use Rattle.std.proofs.lemmas.List.Elements.{All-append}
use Rattle.std.proofs.lemmas.List.Folds.{list_any-append}
use Rattle.byte_ranges.specs.RangeSet.{RangeSet}
use Rattle.byte_ranges.specs.Spans.{Each}
use Rattle.part_hashset.specs.declared.aim.Aim.{Aim}
use Rattle.part_sizes.specs.Span.{has}
use Rattle.part_sizes.specs.declared.span.Span.{Span}
use Rattle.reserve_core.specs.Choice.{pick_of}
use Rattle.reserve_core.specs.Filled.{is_filled, open_by}
use Rattle.reserve_core.specs.Free.{has_any}
use Rattle.reserve_core.specs.Held.{hold_after, holds_of, is_held, is_open, range_of, reserved_holds}
use Rattle.reserve_core.specs.Tells.{Sits, Tells, is_recovered, is_verdict}
use Rattle.reserve_core.specs.declared.event.Event.{Event}
use Rattle.reserve_core.specs.declared.event.Event.TheVariants.{Reserve}
use Rattle.reserve_core.specs.declared.hold.Hold.{Hold}
use Rattle.reserve_core.specs.declared.part_state.PartState.{PartState}
use Rattle.reserve_core.proofs.Counted.{any-quiet, failures-same}
use Rattle.reserve_core.proofs.Fresh.{fresh-quiet}
use Rattle.reserve_core.proofs.HoldsAfter.{holds-push, stepped_same}
use Rattle.reserve_core.proofs.Latest.{latest-still, set-same}
use Rattle.reserve_core.proofs.Lists.{or_cases, or_right}
use Rattle.reserve_core.proofs.Quiet.{filled-same, open_in-same, state-is, verdict-same}
use Rattle.reserve_core.proofs.Runs.{IsRun, pick_is_free, pick_runs}
use Rattle.std.specs.FinSet.{contains}

all-open : (n : ℕ) (h : List Event) (p : ℕ) (spans : List Span) → Each (IsRun n h) spans → filter is_open (map (hold_after p []) spans) ≡ map (hold_after p []) spans
all-open n h p [] runs = refl
all-open n h p (r ∷ spans) runs =
    let some = runs.0.some in
    let test : is_open (hold_after p [] r) ≡ true = grind (arith, nat_tests) in
    rw test (ap (λ ks. hold_after p [] r ∷ ks) (all-open n h p spans runs.1))

sits-more : (n : ℕ) (h : List Event) (p : ℕ) (spans : List Span) → Each (IsRun n h) spans → All (Sits n) (map (hold_after p []) spans)
sits-more n h p [] runs k d below = absurd (omega arith)
sits-more n h p (r ∷ spans) runs zero d below = record { start = omega arith; end = runs.0.end }
sits-more n h p (r ∷ spans) runs (suc k) d below = sits-more n h p spans runs.1 k d (omega arith)

fresh-any : (p x : ℕ) (spans : List Span) → has_any (map (hold_after p []) spans) x ≡ true → list_any (λ r. has r x) spans ≡ true
fresh-any p x [] here = here
fresh-any p x (r ∷ spans) here =
    or_cases (has r x) (has_any (map (hold_after p []) spans) x) here
    (λ first. rw first refl)
    (λ later. or_right (has r x) (list_any (λ r. has r x) spans) (fresh-any p x spans later))

unfilled : (filled held : Bool) → (not filled && not held) ≡ true → filled ≡ false
unfilled filled held free = grind arith

pub holds-reserve : (n : ℕ) (h : List Event) (p : ℕ) (spans : List Span) → Each (IsRun n h) spans → holds_of (h ++ Reserve p spans ∷ []) ≡ holds_of h ++ map (hold_after p []) spans
holds-reserve n h p spans runs =
    holds-push h (Reserve p spans)
    ∙ ap (λ ks. ks ++ filter is_open (map (hold_after p []) spans)) (stepped_same (Reserve p spans) (λ q. refl) (λ q r. refl) (reserved_holds h))
    ∙ ap (λ ks. holds_of h ++ ks) (all-open n h p spans runs)

pub tells-reserve : (aim : Aim) (h : List Event) (ranges fresh : RangeSet) (states : List PartState) (flag : Bool) (p : ℕ) (spans : List Span)
    → spans ≡ pick_of aim.size h p
    → Tells aim h ranges fresh states flag → Tells aim (h ++ Reserve p spans ∷ []) ranges fresh states flag
tells-reserve aim h ranges fresh states flag p spans chosen tells =
    let runs : Each (IsRun aim.size h) spans = subst (λ (rs : List Span). Each (IsRun aim.size h) rs) (sym chosen) (pick_runs aim.size h p) in
    record {
      size = tells.size;
      filled_size = tells.filled_size;
      filled = λ x. tells.filled x ∙ sym (filled-same aim.size h (Reserve p spans) x refl);
      fresh_size = tells.fresh_size;
      fresh = λ x. fresh-quiet aim.size h (Reserve p spans) x (contains fresh.set x) refl refl refl (tells.fresh x);
      sits = subst (λ (ks : List Hold). All (Sits aim.size) ks) (sym (holds-reserve aim.size h p spans runs)) (All-append (Sits aim.size) (holds_of h) (map (hold_after p []) spans) tells.sits (sits-more aim.size h p spans runs));
      clear = λ x here.
          filled-same aim.size h (Reserve p spans) x refl
          ∙ or_cases (has_any (holds_of h) x) (has_any (map (hold_after p []) spans) x)
          (sym (list_any-append (λ k. has (range_of k) x) (holds_of h) (map (hold_after p []) spans)) ∙ sym (ap (λ ks. has_any ks x) (holds-reserve aim.size h p spans runs)) ∙ here)
          (tells.clear x)
          (λ now. unfilled (is_filled aim.size h x) (is_held h x) (pick_is_free aim.size h p x (sym (ap (list_any (λ s. has s x)) chosen) ∙ fresh-any p x spans now)));
      count = tells.count;
      state = λ i d exists. tells.state i d exists ∙ sym (state-is _ _ _ _ _ _ (verdict-same h (Reserve p spans) i refl) (open_in-same aim.size h (Reserve p spans) i refl) (failures-same aim h (Reserve p spans) i refl refl));
      uncommitted = tells.uncommitted ∙ sym (ap (λ o. unwrap_or o false) (latest-still open_by h (Reserve p spans) refl));
      unjudged = λ large none. any-quiet is_verdict h (Reserve p spans) refl ∙ tells.unjudged large (sym (set-same h (Reserve p spans) refl) ∙ none);
      unrecovered = any-quiet is_recovered h (Reserve p spans) refl ∙ tells.unrecovered;
    }
