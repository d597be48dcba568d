-- The positions that the choice takes are free.
use Rattle.std.proofs.Common.{◌≡◌, ℕ, ◌-◌, ◌<◌, ◌≤◌, Bool, true, false, not, List, Option, Some, None, unwrap_or, find, refl, sym, subst, arith, inl, inr}
use Rattle.std.specs.List.{range_with_len, flat_map}
use Rattle.std.specs.Option.{option_map}
use Rattle.std.proofs.lemmas.Bool.{both_ways, cases_eq, not-false}
use Rattle.byte_ranges.specs.Spans.{Each}
use Rattle.part_sizes.specs.Block.{block_count, block_of, block_range}
use Rattle.part_sizes.specs.Part.{part_of, part_range}
use Rattle.part_sizes.specs.Span.{has, positions}
use Rattle.part_sizes.specs.declared.span.Span.{Span}
use Rattle.part_sizes.proofs.Laws.{between_has, has_between, block_of_alone, block_within, part_of_alone}
use Rattle.reserve_core.specs.Choice.{run_from, first_run, is_available, runs_of, offered_parts, pick_of}
use Rattle.reserve_core.specs.declared.event.Event.{Event}
use Rattle.reserve_core.proofs.Lists.{AllPass, EachPasses, AllPass-take, AllPass-flat_map, AllPass-filter_map, before_find, find_within, Each-filter_map, Each-flat_map, Each-take}

pub before_find_positions : (p : ℕ → Bool) (r : Span) (y : ℕ) → r.s ≤ y → y < unwrap_or (find p (positions r)) r.e → p y ≡ false
unfolding positions
before_find_positions p r y above below = before_find p r.s (r.e - r.s) r.e y (omega arith) above below

run_passes : (passes : ℕ → Bool) (r : Span) (start x : ℕ) → has (run_from passes r start) x ≡ true → passes x ≡ true
run_passes passes r start x here =
    let ends = between_has (run_from passes r start) x here in
    not-false (passes x) (before_find_positions (λ y. not (passes y)) (record { s = start; e = r.e }) x ends.0 ends.1)

first_run_passes : (passes : ℕ → Bool) (r : Span) → EachPasses passes (first_run passes r)
first_run_passes passes r =
    elim (find passes (positions r)) as (λ o. EachPasses passes (option_map (run_from passes r) o)) [
      | None ↦ tt
      | Some start ↦ λ x here. run_passes passes r start x here
    ]

pub pick_is_free : (n : ℕ) (h : List Event) (p : ℕ) → AllPass (is_available n h) (pick_of n h p)
pick_is_free n h p =
    AllPass-take (is_available n h) 3 (flat_map (runs_of n h) (offered_parts n h p))
    (AllPass-flat_map (is_available n h) (runs_of n h)
    (λ i. AllPass-filter_map (is_available n h) (λ k. first_run (is_available n h) (block_range n i k)) (λ k. first_run_passes (is_available n h) (block_range n i k)) (range_with_len 0 (block_count n i)))
    (offered_parts n h p))

pub find_positions : (p : ℕ → Bool) (r : Span) (x : ℕ) → find p (positions r) ≡ Some x → (r.s ≤ x) × (x < r.e) × (p x ≡ true)
unfolding positions
find_positions p r x found = let at = find_within p r.s (r.e - r.s) x found in (at.0, omega (arith, at.1), at.2)

-- A run of the choice is not empty, lies in one block, and is the first free run of that block.
pub record IsRun (n : ℕ) (h : List Event) (r : Span) : Type 0 where
  pub some : r.s < r.e
  pub end : r.e ≤ (part_range n (part_of r.s)).e
  pub at : (x : ℕ) → has r x ≡ true → first_run (is_available n h) (block_range n (part_of x) (block_of x)) ≡ Some r

-- a run lies in its span, from a place that passes
record Lies (passes : ℕ → Bool) (span r : Span) : Type 0 where
  start : span.s ≤ r.s
  some : r.s < r.e
  end : r.e ≤ span.e

run_end : (passes : ℕ → Bool) (span : Span) (start : ℕ) (stop : Option ℕ) → start < span.e → passes start ≡ true → find (λ x. not (passes x)) (positions (record { s = start; e = span.e })) ≡ stop
    → (start < unwrap_or stop span.e) × (unwrap_or stop span.e ≤ span.e)
run_end passes span start None inside free found = (inside, omega arith)
run_end passes span start (Some x) inside free found =
    let at = find_positions (λ y. not (passes y)) (record { s = start; e = span.e }) x found in
    elim (cases_eq start x) [
      | inl same ↦ absurd (both_ways (passes start) (stays_out (passes start) (subst (λ k. not (passes k) ≡ true) (sym same) at.2)) free)
      | inr other ↦ (omega (arith, at.0), omega (arith, at.1))
    ]
  where
    stays_out : (b : Bool) → not b ≡ true → b ≡ false
    stays_out b out = grind arith

run_lies : (passes : ℕ → Bool) (span r : Span) (first : Option ℕ) → find passes (positions span) ≡ first → option_map (run_from passes span) first ≡ Some r → Lies passes span r
run_lies passes span r None found is = cc
run_lies passes span r (Some start) found is =
    let at = find_positions passes span start found in
    let ends = run_end passes span start (find (λ x. not (passes x)) (positions (record { s = start; e = span.e }))) at.1 at.2 refl in
    let same : run_from passes span start ≡ r = cc in
    subst (λ (q : Span). Lies passes span q) same (record { start = at.0; some = ends.0; end = ends.1 })

first_run_is : (n : ℕ) (h : List Event) (i k : ℕ) (r : Span) → first_run (is_available n h) (block_range n i k) ≡ Some r → IsRun n h r
first_run_is n h i k r is =
    let block = block_range n i k in
    let lies = run_lies (is_available n h) block r (find (is_available n h) (positions block)) refl is in
    let inside = λ (x : ℕ) (low : r.s ≤ x) (high : x < r.e). has_between block x (omega (arith, lies.start)) (omega (arith, lies.end)) in
    let part = λ (x : ℕ) (low : r.s ≤ x) (high : x < r.e). part_of_alone n i x (block_within n i k x (inside x low high)) in
    record {
      some = lies.some;
      end = subst (λ (j : ℕ). r.e ≤ (part_range n j).e) (sym (part r.s (omega arith) lies.some)) (omega (arith, lies.end));
      at = λ x here.
          let ends = between_has r x here in
          let number : part_of x ≡ i = part x ends.0 ends.1 in
          let block_number : block_of x ≡ k = block_of_alone n i k x (inside x ends.0 ends.1) in
          rw (number, block_number) is;
    }

pub pick_runs : (n : ℕ) (h : List Event) (p : ℕ) → Each (IsRun n h) (pick_of n h p)
pick_runs n h p =
    Each-take (IsRun n h) 3 (flat_map (runs_of n h) (offered_parts n h p))
    (Each-flat_map (IsRun n h) (runs_of n h)
    (λ i. Each-filter_map (IsRun n h) (λ k. first_run (is_available n h) (block_range n i k)) (λ k r is. first_run_is n h i k r is) (range_with_len 0 (block_count n i)))
    (offered_parts n h p))
