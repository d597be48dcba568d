-- What the choice sees of a log, and that nothing is left to choose only where every position is filled.
use Rattle.std.proofs.Common.{◌≡◌, ℕ, zero, suc, ◌+◌, ◌<◌, ◌≤◌, Bool, true, false, not, ◌&&◌, ◌==◌, List, [], ◌∷◌, ◌++◌, length, take, get_or, Option, None, Some, unwrap_or, find, count_by, cond, refl, ap, sym, ◌∙◌, subst, arith, inl, inr}
use Rattle.std.specs.List.{list_any, filter, filter_map, flat_map, range_with_len, cons_option}
use Rattle.std.specs.Option.{option_map, option_or}
use Rattle.std.proofs.lemmas.Bool.{cases_eq}
use Rattle.std.proofs.lemmas.Bool.Decides.{nat_tests}
use Rattle.std.proofs.lemmas.List.Folds.{list_any-append}
use Rattle.std.proofs.lemmas.List.Sums.{count_by-le-length}
use Rattle.part_sizes.specs.Block.{block_count, block_of, block_range}
use Rattle.part_sizes.specs.Part.{data_parts, part_of}
use Rattle.part_sizes.specs.Span.{has, positions}
use Rattle.part_sizes.specs.declared.span.Span.{Span}
use Rattle.part_sizes.proofs.Laws.{between_has, block_of_exists, has-block_of, part_of_exists}
use Rattle.reserve_core.specs.Choice.{add_offerer, first_run, is_available, offer_by, offer_count, offered_parts, offerers, offers_part, pick_of, run_from, runs_of}
use Rattle.reserve_core.specs.Events.{latest}
use Rattle.reserve_core.specs.Filled.{filled_by, is_filled}
use Rattle.reserve_core.specs.Held.{holds_of, is_held, is_open, range_of, reserved_by}
use Rattle.reserve_core.specs.Steps.{stepped}
use Rattle.reserve_core.specs.Verdicts.{parts}
use Rattle.reserve_core.specs.declared.event.Event.{Event}
use Rattle.reserve_core.specs.declared.hold.Hold.{Hold}
use Rattle.reserve_core.proofs.HoldsAfter.{holds-push}
use Rattle.reserve_core.proofs.Latest.{latest-push, latest-still}
use Rattle.reserve_core.proofs.Lists.{both, or_cases, or_left, or_right}
use Rattle.reserve_core.proofs.Quiet.{Holds, holds-same}
use Rattle.reserve_core.proofs.Runs.{before_find_positions}

-- the choice sees the same of two logs
pub record Same (n : ℕ) (h g : List Event) : Type 0 where
  pub filled : (x : ℕ) → latest (filled_by n x) h ≡ latest (filled_by n x) g
  pub held : holds_of h ≡ holds_of g
  pub offers : (p : ℕ) → latest (offer_by p) h ≡ latest (offer_by p) g
  pub offerers : offerers h ≡ offerers g

abbrev picked : ℕ → (ℕ → Bool) → (ℕ → ℕ → Bool) → List ℕ → ℕ → List Span
picked n free offers peers p = take 3 (flat_map (λ i. filter_map (λ k. first_run free (block_range n i k)) (range_with_len 0 (block_count n i)))
    (flat_map (λ count. filter (λ i. offers p i && (count_by (λ q. offers q i) peers == count)) (parts n)) (range_with_len 0 (length peers + 1))))

pub pick_same : (n : ℕ) (h g : List Event) (p : ℕ) → Same n h g → pick_of n h p ≡ pick_of n g p
pick_same n h g p same =
    let free : is_available n h ≡ is_available n g = λ t x. not (unwrap_or (same.filled x t) false) && not (list_any (λ hold. has (range_of hold) x) (same.held t)) in
    let offers : offers_part h ≡ offers_part g = λ t q i. get_or (unwrap_or (same.offers q t) []) i false in
    λ t. picked n (free t) (offers t) (same.offerers t) p

-- an event that is no offer leaves the offerers as they are
abbrev pub IsNoOffer : Event → Type 0
IsNoOffer e = ((peers : List ℕ) → add_offerer e peers ≡ peers) × ((p : ℕ) → offer_by p e ≡ None)

offerers-push : (h : List Event) (e : Event) → ((peers : List ℕ) → add_offerer e peers ≡ peers) → offerers (h ++ e ∷ []) ≡ offerers h
offerers-push [] e none = none []
offerers-push (first ∷ h) e none = ap (add_offerer first) (offerers-push h e none)

-- one more event of both logs
pub same_both : (n : ℕ) (h g : List Event) (e : Event) → IsNoOffer e → Same n h g → Same n (h ++ e ∷ []) (g ++ e ∷ [])
same_both n h g e none same = record {
  filled = λ x. latest-push (filled_by n x) h e ∙ ap (λ o. option_or (filled_by n x e) o) (same.filled x) ∙ sym (latest-push (filled_by n x) g e);
  held = holds-push h e ∙ ap (λ (ks : List Hold). stepped e ks ++ filter is_open (reserved_by e [])) same.held ∙ sym (holds-push g e);
  offers = λ p. latest-still (offer_by p) h e (none.1 p) ∙ same.offers p ∙ sym (latest-still (offer_by p) g e (none.1 p));
  offerers = offerers-push h e none.0 ∙ same.offerers ∙ sym (offerers-push g e none.0);
}

-- an event of one of them that the choice doesn't see
pub same_one : (n : ℕ) (h g : List Event) (e : Event) → IsNoOffer e → ((x : ℕ) → filled_by n x e ≡ None) → Holds e → Same n h g → Same n (h ++ e ∷ []) g
same_one n h g e none filled holds same = record {
  filled = λ x. latest-still (filled_by n x) h e (filled x) ∙ same.filled x;
  held = holds-same h e holds ∙ same.held;
  offers = λ p. latest-still (offer_by p) h e (none.1 p) ∙ same.offers p;
  offerers = offerers-push h e none.0 ∙ same.offerers;
}

-- members of lists of numbers

abbrev among : List ℕ → ℕ → Bool
among xs i = list_any (λ j. j == i) xs

in_range : (from n x : ℕ) → from ≤ x → x < from + n → among (range_with_len from n) x ≡ true
in_range from zero x low high = absurd (omega arith)
in_range from (suc n) x low high =
    elim (cases_eq from x) [
      | inl same ↦ let test : (from == x) ≡ true = grind (arith, nat_tests) in or_left (from == x) (among (range_with_len (from + 1) n) x) test
      | inr other ↦ or_right (from == x) (among (range_with_len (from + 1) n) x) (in_range (from + 1) n x (omega arith) (omega arith))
    ]

in_filter : (test : ℕ → Bool) (xs : List ℕ) (i : ℕ) → test i ≡ true → among xs i ≡ true → among (filter test xs) i ≡ true
in_filter test [] i passes here = here
in_filter test (x ∷ xs) i passes here =
    or_cases (x == i) (among xs i) here
    (λ first.
    let same : x ≡ i = grind (arith, nat_tests) in
    let is : test x ≡ true = subst (λ (k : ℕ). test k ≡ true) (sym same) passes in
    rw is (or_left (x == i) (among (filter test xs) i) first))
    (λ later. kept (test x) (in_filter test xs i passes later))
  where
    kept : (b : Bool) → among (filter test xs) i ≡ true → among (cond b (x ∷ filter test xs) (filter test xs)) i ≡ true
    kept true now = or_right (x == i) (among (filter test xs) i) now
    kept false now = now

in_flat : (f : ℕ → List ℕ) (xs : List ℕ) (c i : ℕ) → among xs c ≡ true → among (f c) i ≡ true → among (flat_map f xs) i ≡ true
in_flat f [] c i here inner = absurd (cc)
in_flat f (x ∷ xs) c i here inner =
    list_any-append (λ j. j == i) (f x) (flat_map f xs)
    ∙ or_cases (x == c) (among xs c) here
    (λ first. let same : x ≡ c = grind (arith, nat_tests) in or_left (among (f x) i) (among (flat_map f xs) i) (subst (λ (k : ℕ). among (f k) i ≡ true) (sym same) inner))
    (λ later. or_right (among (f x) i) (among (flat_map f xs) i) (in_flat f xs c i later inner))

front_none : (xs ys : List Span) → xs ++ ys ≡ [] → xs ≡ []
front_none [] ys none = refl
front_none (x ∷ xs) ys none = absurd (cc)

back_none : (xs ys : List Span) → xs ++ ys ≡ [] → ys ≡ []
back_none [] ys none = none
back_none (x ∷ xs) ys none = absurd (cc)

none_flat : (f : ℕ → List Span) (xs : List ℕ) (i : ℕ) → among xs i ≡ true → flat_map f xs ≡ [] → f i ≡ []
none_flat f [] i here none = absurd (cc)
none_flat f (x ∷ xs) i here none =
    or_cases (x == i) (among xs i) here
    (λ first. let same : x ≡ i = grind (arith, nat_tests) in subst (λ (k : ℕ). f k ≡ []) same (front_none (f x) (flat_map f xs) none))
    (λ later. none_flat f xs i later (back_none (f x) (flat_map f xs) none))

option_none : (o : Option Span) (rest : List Span) → cons_option o rest ≡ [] → (o ≡ None) × (rest ≡ [])
option_none None rest none = (refl, none)
option_none (Some r) rest none = absurd (cc)

none_filter_map : (f : ℕ → Option Span) (xs : List ℕ) (i : ℕ) → among xs i ≡ true → filter_map f xs ≡ [] → f i ≡ None
none_filter_map f [] i here none = absurd (cc)
none_filter_map f (x ∷ xs) i here none =
    let out = option_none (f x) (filter_map f xs) none in
    or_cases (x == i) (among xs i) here
    (λ first. let same : x ≡ i = grind (arith, nat_tests) in subst (λ (k : ℕ). f k ≡ None) same out.0)
    (λ later. none_filter_map f xs i later out.1)

take_none : (xs : List Span) → take 3 xs ≡ [] → xs ≡ []
take_none [] none = refl
take_none (x ∷ xs) none = absurd (cc)

no_run : (passes : ℕ → Bool) (r : Span) (x : ℕ) → has r x ≡ true → first_run passes r ≡ None → passes x ≡ false
no_run passes r x here none = none_found (find passes (positions r)) refl none
  where
    none_found : (o : Option ℕ) → find passes (positions r) ≡ o → option_map (run_from passes r) o ≡ None → passes x ≡ false
    none_found None is out =
        let ends = between_has r x here in
        before_find_positions passes r x ends.0 (subst (λ (o : Option ℕ). x < unwrap_or o r.e) (sym is) ends.1)
    none_found (Some y) is out = absurd (cc)

-- what is neither free nor held is filled
filled_else : (filled held : Bool) → (not filled && not held) ≡ false → held ≡ false → filled ≡ true
filled_else true held taken free = refl
filled_else false true taken free = absurd (cc)
filled_else false false taken free = absurd (cc)

pub all_filled : (n : ℕ) (h : List Event) (p x : ℕ) → pick_of n h p ≡ [] → holds_of h ≡ [] → ((i : ℕ) → i < data_parts n → offers_part h p i ≡ true) → x < n → is_filled n h x ≡ true
all_filled n h p x none unheld offers within =
    let i = part_of x in
    let exists : i < data_parts n = part_of_exists n x within in
    let few : offer_count h i ≤ length (offerers h) = count_by-le-length (λ q. offers_part h q i) (offerers h) in
    let counted : (offer_count h i == offer_count h i) ≡ true = grind (arith, nat_tests) in
    let of_part : among (filter (λ j. offers_part h p j && (offer_count h j == offer_count h i)) (parts n)) i ≡ true =
    in_filter (λ j. offers_part h p j && (offer_count h j == offer_count h i)) (parts n) i (both (offers_part h p i) (offer_count h i == offer_count h i) (offers i exists) counted) (in_range 0 (data_parts n) i (omega arith) (omega arith)) in
    let here : among (offered_parts n h p) i ≡ true =
    in_flat (λ count. filter (λ j. offers_part h p j && (offer_count h j == count)) (parts n)) (range_with_len 0 (length (offerers h) + 1)) (offer_count h i) i (in_range 0 (length (offerers h) + 1) (offer_count h i) (omega arith) (omega arith)) of_part in
    let no_runs : runs_of n h i ≡ [] = none_flat (runs_of n h) (offered_parts n h p) i here (take_none (flat_map (runs_of n h) (offered_parts n h p)) none) in
    let block = block_of_exists n x within in
    let no_first : first_run (is_available n h) (block_range n i (block_of x)) ≡ None =
    none_filter_map (λ k. first_run (is_available n h) (block_range n i k)) (range_with_len 0 (block_count n i)) (block_of x) (in_range 0 (block_count n i) (block_of x) (omega arith) (omega arith)) no_runs in
    let taken : is_available n h x ≡ false = no_run (is_available n h) (block_range n i (block_of x)) x (has-block_of n x within) no_first in
    filled_else (is_filled n h x) (is_held h x) taken (ap (list_any (λ (k : Hold). has (range_of k) x)) unheld)
