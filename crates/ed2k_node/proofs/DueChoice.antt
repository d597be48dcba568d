-- Where nothing is left to reserve, nothing that the peer offered is open.
use Rattle.std.proofs.Common.{◌≡◌, ◌⊎◌, ◌∙◌, refl, sym, ap, subst, inl, inr, ℕ, zero, suc, ◌+◌, ◌-◌, ◌<◌, ◌≤◌, Bool, true, false, not, ◌&&◌, ◌==◌, List, [], ◌∷◌, ◌++◌, length, map, take, Option, Some, None, find, IsFalse, cond, if◌then◌else◌, arith}
use Rattle.std.specs.Bool.{then_some}
use Rattle.std.specs.List.{cons_option, filter, filter_map, flat_map, list_any, range_with_len}
use Rattle.std.specs.Option.{option_map}
use Rattle.std.proofs.lemmas.Bool.{both_ways, cases_Bool, cases_eq}
use Rattle.std.proofs.lemmas.Bool.Decides.{nat_tests}
use Rattle.std.proofs.lemmas.List.Sums.{count_by-le-length}
use Rattle.part_hashset.specs.declared.aim.Aim.{Aim}
use Rattle.part_sizes.specs.Block.{block_count, block_of, block_range}
use Rattle.part_sizes.specs.Part.{data_parts, part_range}
use Rattle.part_sizes.specs.Span.{has, positions}
use Rattle.part_sizes.specs.declared.span.Span.{Span}
use Rattle.part_sizes.proofs.Laws.{between_has, block_of_exists, has-block_of, part_of_alone, part_within}
use Rattle.peer_fetch.proofs.Pauses.{IsOwnLog}
use Rattle.reserve_core.specs.Refusals.{first_cause, no_spans, refusal}
use Rattle.reserve_core.specs.Choice.{first_run, is_available, offer_count, offered_parts, offerers, offers_part, pick_of, run_from, runs_of}
use Rattle.reserve_core.specs.Filled.{is_filled}
use Rattle.reserve_core.specs.Held.{hold_after, holds_of, is_held, is_holder, is_open, is_release, range_of, reserved_holds, reserved_by}
use Rattle.reserve_core.specs.Verdicts.{cheats, is_worn, lacks_set, parts}
use Rattle.reserve_core.specs.declared.event.Event.{Event}
use Rattle.reserve_core.specs.declared.event.Event.TheVariants.{Reserve}
use Rattle.reserve_core.specs.declared.fault.DeskFault.TheVariants as faults
use Rattle.reserve_core.specs.declared.hold.Hold.{Hold}
use Rattle.ed2k_node.proofs.DueLog.{foreign_first}

-- ---- why the reserve was refused

why : (cheating : Bool) (worn : Option ℕ) (lacking empty : Bool)
    → first_cause (then_some cheating faults.Cheat ∷ option_map faults.Worn worn ∷ then_some lacking faults.NoSet ∷ then_some empty faults.NoBlock ∷ []) ≡ Some faults.NoBlock
    → (lacking ≡ false) × (empty ≡ true)
why true worn lacking empty is = absurd (cc)
why false (Some part) lacking empty is = absurd (cc)
why false None true empty is = absurd (cc)
why false None false true is = (refl, refl)
why false None false false is = absurd (cc)

none_spans : (spans : List Span) → no_spans spans ≡ true → spans ≡ []
none_spans [] is = refl
none_spans (r ∷ spans) is = absurd (cc)

-- no set is lacking, and nothing is chosen
pub nothing_chosen : (aim : Aim) (h : List Event) (p : ℕ) → refusal aim h (Reserve p (pick_of aim.size h p)) ≡ Some faults.NoBlock → IsFalse (lacks_set aim.size h) × (pick_of aim.size h p ≡ [])
nothing_chosen aim h p refused =
    let found = why (cheats aim.size h p) (find (is_worn aim h) (parts aim.size)) (lacks_set aim.size h) (no_spans (pick_of aim.size h p)) refused in
    (found.0, none_spans (pick_of aim.size h p) found.1)

-- ---- members of lists

abbrev In : ℕ → List ℕ → Type 0
In x [] = ⊥
In x (y ∷ ys) = (y ≡ x) ⊎ In x ys

in_range : (x from n : ℕ) → from ≤ x → x < from + n → In x (range_with_len from n)
in_range x from zero low high = absurd (omega arith)
in_range x from (suc n) low high = elim (cases_eq from x) [ inl same ↦ inl same | inr other ↦ inr (in_range x (from + 1) n (omega arith) (omega arith)) ]

in_first : (x : ℕ) (ys zs : List ℕ) → In x ys → In x (ys ++ zs)
in_first x [] zs here = absurd here
in_first x (y ∷ ys) zs here = elim here [ inl same ↦ inl same | inr later ↦ inr (in_first x ys zs later) ]

in_later : (x : ℕ) (ys zs : List ℕ) → In x zs → In x (ys ++ zs)
in_later x [] zs here = here
in_later x (y ∷ ys) zs here = inr (in_later x ys zs here)

in_filter : (test : ℕ → Bool) (x : ℕ) (ys : List ℕ) → test x ≡ true → In x ys → In x (filter test ys)
in_filter test x [] passes here = here
in_filter test x (y ∷ ys) passes here = elim here [
  | inl same ↦ let first : test y ≡ true = ap test same ∙ passes in rw first (inl same)
  | inr later ↦ step (test y) (in_filter test x ys passes later)
]
  where
    step : (b : Bool) → In x (filter test ys) → In x (cond b (y ∷ filter test ys) (filter test ys))
    step true there = inr there
    step false there = there

in_flat_map : (f : ℕ → List ℕ) (x y : ℕ) (ys : List ℕ) → In y ys → In x (f y) → In x (flat_map f ys)
in_flat_map f x y [] here there = absurd here
in_flat_map f x y (z ∷ ys) here there = elim here [
  | inl same ↦ in_first x (f z) (flat_map f ys) (subst (λ k. In x (f k)) (sym same) there)
  | inr later ↦ in_later x (f z) (flat_map f ys) (in_flat_map f x y ys later there)
]

none_first : (rs qs : List Span) → rs ++ qs ≡ [] → (rs ≡ []) × (qs ≡ [])
none_first [] qs none = (refl, none)
none_first (r ∷ rs) qs none = absurd (cc)

none_at : (f : ℕ → List Span) (x : ℕ) (ys : List ℕ) → flat_map f ys ≡ [] → In x ys → f x ≡ []
none_at f x [] none here = absurd here
none_at f x (y ∷ ys) none here =
    let both = none_first (f y) (flat_map f ys) none in
    elim here [ inl same ↦ subst (λ k. f k ≡ []) same both.0 | inr later ↦ none_at f x ys both.1 later ]

none_option : (first : Option Span) (rs : List Span) → cons_option first rs ≡ [] → (first ≡ None) × (rs ≡ [])
none_option None rs none = (refl, none)
none_option (Some r) rs none = absurd (cc)

none_mapped : (f : ℕ → Option Span) (x : ℕ) (ys : List ℕ) → filter_map f ys ≡ [] → In x ys → f x ≡ None
none_mapped f x [] none here = absurd here
none_mapped f x (y ∷ ys) none here =
    let both = none_option (f y) (filter_map f ys) none in
    elim here [ inl same ↦ subst (λ k. f k ≡ None) same both.0 | inr later ↦ none_mapped f x ys both.1 later ]

none_taken : (n : ℕ) (rs : List Span) → take (suc n) rs ≡ [] → rs ≡ []
none_taken n [] none = refl
none_taken n (r ∷ rs) none = absurd (cc)

-- ---- no free position is in what the peer offered

is_offered : (n : ℕ) (h : List Event) (p part : ℕ) → part < data_parts n → offers_part h p part ≡ true → In part (offered_parts n h p)
is_offered n h p part exists offers =
    let count = offer_count h part in
    let most : count ≤ length (offerers h) = count_by-le-length (λ q. offers_part h q part) (offerers h) in
    let same : (count == count) ≡ true = grind (arith, nat_tests) in
    in_flat_map (λ k. filter (λ i. offers_part h p i && (offer_count h i == k)) (parts n)) part count (range_with_len 0 (length (offerers h) + 1))
    (in_range count 0 (length (offerers h) + 1) (omega arith) (omega (arith, most)))
    (in_filter (λ i. offers_part h p i && (offer_count h i == count)) part (parts n) (rw (offers, same) refl) (in_range part 0 (data_parts n) (omega arith) (omega (arith, exists))))

none_found : (passes : ℕ → Bool) (from n : ℕ) → find passes (range_with_len from n) ≡ None → (x : ℕ) → from ≤ x → x < from + n → passes x ≡ false
none_found passes from zero none x above below = absurd (omega arith)
none_found passes from (suc n) none x above below = elim (cases_Bool (passes from)) [
  | inl here ↦ let some : Some from ≡ None = rw here at none in absurd (cc)
  | inr fails ↦ elim (cases_eq from x) [
    | inl same ↦ subst (λ (k : ℕ). passes k ≡ false) same fails
    | inr other ↦ none_found passes (from + 1) n (rw fails at none) x (omega arith) (omega arith)
  ]
]

none_in : (passes : ℕ → Bool) (span : Span) → find passes (positions span) ≡ None → (x : ℕ) → has span x ≡ true → passes x ≡ false
unfolding positions
none_in passes span none x here =
    let ends = between_has span x here in
    none_found passes span.s (span.e - span.s) none x ends.0 (omega (arith, ends.1))

no_run : (passes : ℕ → Bool) (span : Span) (start : Option ℕ) → option_map (run_from passes span) start ≡ None → start ≡ None
no_run passes span None none = refl
no_run passes span (Some x) none = absurd (cc)

-- each position of a part is in one of its blocks
in_block : (n part x : ℕ) → has (part_range n part) x ≡ true → (block_of x < block_count n part) × (has (block_range n part (block_of x)) x ≡ true)
in_block n part x here =
    let within = part_within n part x here in
    let alone = part_of_alone n part x here in
    (subst (λ i. block_of x < block_count n i) alone (block_of_exists n x within), subst (λ i. has (block_range n i (block_of x)) x ≡ true) alone (has-block_of n x within))

none_free : (n : ℕ) (h : List Event) (p part x : ℕ) → pick_of n h p ≡ [] → part < data_parts n → offers_part h p part ≡ true → has (part_range n part) x ≡ true → is_available n h x ≡ false
none_free n h p part x empty exists offers here =
    let block = in_block n part x here in
    let runs : runs_of n h part ≡ [] = none_at (runs_of n h) part (offered_parts n h p) (none_taken 2 (flat_map (runs_of n h) (offered_parts n h p)) empty) (is_offered n h p part exists offers) in
    let run = none_mapped (λ k. first_run (is_available n h) (block_range n part k)) (block_of x) (range_with_len 0 (block_count n part)) runs (in_range (block_of x) 0 (block_count n part) (omega arith) (omega (arith, block.0))) in
    let span = block_range n part (block_of x) in
    none_in (is_available n h) span (no_run (is_available n h) span (find (is_available n h) (positions span)) run) x block.1

-- ---- nobody holds anything

abbrev AreOf : ℕ → List Hold → Type 0
AreOf p [] = Unit {0}
AreOf p (k ∷ ks) = (k.peer ≡ p) × AreOf p ks

of_append : (p : ℕ) (js ks : List Hold) → AreOf p js → AreOf p ks → AreOf p (js ++ ks)
of_append p [] ks first later = later
of_append p (j ∷ js) ks first later = (first.0, of_append p js ks first.1 later)

of_spans : (p q : ℕ) (h : List Event) (spans : List Span) → q ≡ p → AreOf p (map (hold_after q h) spans)
of_spans p q h [] same = tt
of_spans p q h (r ∷ spans) same = (same, of_spans p q h spans same)

of_reserve : (p q : ℕ) (h : List Event) (spans : List Span) (gone : Bool) → q ≡ p → AreOf p (if gone then [] else map (hold_after q h) spans)
of_reserve p q h spans true same = tt
of_reserve p q h spans false same = of_spans p q h spans same

rest_owned : (p : ℕ) (e : Event) (h : List Event) → IsOwnLog p (e ∷ h) → IsOwnLog p h
rest_owned p e h owned = λ q other. (foreign_first q e h (owned q other)).1

first_owned : (p q : ℕ) (spans : List Span) (h : List Event) → IsOwnLog p (Reserve q spans ∷ h) → q ≡ p
first_owned p q spans h owned = elim (cases_eq q p) [
  | inl same ↦ same
  | inr other ↦
      let test : (q == q) ≡ true = grind (arith, nat_tests) in
      absurd (both_ways (q == q) (foreign_first q (Reserve q spans) h (owned q other)).0 test)
]

of_event : (p : ℕ) (e : Event) (h : List Event) → IsOwnLog p (e ∷ h) → AreOf p (reserved_by e h)
of_event p (Reserve q spans) h owned = of_reserve p q h spans (list_any (is_release q) h) (first_owned p q spans h owned)
of_event p _ h owned = tt

of_log : (p : ℕ) (h : List Event) → IsOwnLog p h → AreOf p (reserved_holds h)
of_log p [] owned = tt
of_log p (e ∷ h) owned = of_append p (reserved_by e h) (reserved_holds h) (of_event p e h owned) (of_log p h (rest_owned p e h owned))

of_open : (p : ℕ) (ks : List Hold) → AreOf p ks → AreOf p (filter is_open ks)
of_open p [] all = tt
of_open p (k ∷ ks) all = step (is_open k) (of_open p ks all.1)
  where
    step : (b : Bool) → AreOf p (filter is_open ks) → AreOf p (cond b (k ∷ filter is_open ks) (filter is_open ks))
    step true rest = (all.0, rest)
    step false rest = rest

of_none : (p : ℕ) (ks : List Hold) → AreOf p ks → list_any (λ (k : Hold). k.peer == p) ks ≡ false → ks ≡ []
of_none p [] all none = refl
of_none p (k ∷ ks) all none =
    let test : (k.peer == p) ≡ true = grind (arith, nat_tests, all.0) in
    let some : true ≡ false = rw test at none in
    absurd (cc)

none_held : (p : ℕ) (h : List Event) (x : ℕ) → IsOwnLog p h → is_holder h p ≡ false → is_held h x ≡ false
none_held p h x owned free =
    ap (λ (ks : List Hold). list_any (λ hold. has (range_of hold) x) ks) (of_none p (holds_of h) (of_open p (reserved_holds h) (of_log p h owned)) free)

free_or_filled : (filled held : Bool) → (not filled && not held) ≡ false → held ≡ false → filled ≡ true
free_or_filled true held free unheld = refl
free_or_filled false true free unheld = absurd (cc)
free_or_filled false false free unheld = absurd (cc)

-- where nothing is chosen for the only peer, which holds nothing, all that it offered is filled
pub filled_where_empty : (n : ℕ) (h : List Event) (p part x : ℕ) → IsOwnLog p h → IsFalse (is_holder h p) → pick_of n h p ≡ [] → part < data_parts n → offers_part h p part ≡ true → has (part_range n part) x ≡ true → is_filled n h x ≡ true
filled_where_empty n h p part x owned free empty exists offers here =
    free_or_filled (is_filled n h x) (is_held h x) (none_free n h p part x empty exists offers here) (none_held p h x owned free)
