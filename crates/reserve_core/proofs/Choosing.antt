-- The code's search for free runs finds those of the choice.
use Rattle.std.proofs.Common.{◌≡◌, ℕ, zero, suc, ◌+◌, ◌-◌, ◌<◌, ◌≤◌, Bool, true, false, not, ◌&&◌, ◌==◌, nat_le, List, [], ◌∷◌, ◌++◌, length, map, take, drop, is_none, get_or, slice_index, slice_index_or, cond, Option, Some, None, MatchOption, IsTrue, unwrap_or, find, count_by, refl, ap, sym, ◌∙◌, subst, arith, inl, inr, append_assoc, length-append}
use Rattle.std.specs.FinSet.{FinSet, contains}
use Rattle.std.specs.List.{list_any, filter, filter_map, flat_map, range_with_len, cons_option, All}
use Rattle.std.specs.Option.{option_map}
use Rattle.std.specs.Ordering.{nat_cmp}
use Rattle.std.proofs.lemmas.Bool.{cases_lt, false≢true}
use Rattle.std.proofs.lemmas.Bool.Decides.{nat_tests}
use Rattle.std.proofs.lemmas.List.{append-nil, take_all, take-append-drop, take-append-le}
use Rattle.std.proofs.lemmas.List.Elements.{filter-append}
use Rattle.std.proofs.lemmas.List.Sorted.{list_any-IsPermutation}
use Rattle.std.proofs.lemmas.List.Sums.{count_by-le-length, sum_by-cons}
use Rattle.std.specs.Prelude.{IsPermutation, Result, Ok, Err, IfOk}
use Rattle.byte_ranges.specs.RangeSet.{Covers, IsFirstIn, IsFirstOut, Misses}
use Rattle.part_sizes.specs.Block.{block_count, block_range}
use Rattle.part_sizes.specs.Part.{data_parts, part_range}
use Rattle.part_sizes.specs.Span.{has, positions}
use Rattle.part_sizes.specs.declared.span.Span.{Span}
use Rattle.part_sizes.proofs.Laws.{between_has, has_between, block_within}
use Rattle.part_sizes.proofs.Positions.{find-positions_some, find-positions_none}
use Rattle.part_picker.specs.Order.{by_count}
use Rattle.part_picker.specs.OrderLaws.{filter-by_count}
use Rattle.reserve_core.specs.Events.{events, latest}
use Rattle.reserve_core.specs.Tells.{OffersStand}
use Rattle.reserve_core.specs.declared.event.Entry.{Entry}
use Rattle.reserve_core.specs.declared.offers.Offerer.{Offerer}
use Rattle.reserve_core.proofs.Runs.{find_positions}
use Rattle.reserve_core.specs.Choice.{offer_by, first_run, run_from, is_available, offer_count, offerers, offers_part, pick_of, runs_of}
use Rattle.reserve_core.specs.Filled.{is_filled}
use Rattle.reserve_core.specs.Free.{HoldsTo, IsUnheld, is_clear, is_kept, pick_by, runs_in}
use Rattle.reserve_core.specs.Held.{is_held}
use Rattle.reserve_core.specs.declared.event.Event.{Event}
use Rattle.reserve_core.specs.declared.hold.Holder.{Holder}
use Rattle.reserve_core.proofs.Lists.{before_find}

clear_is : (a b : Bool) → a ≡ false → b ≡ false → (not a && not b) ≡ true
clear_is a b e f = rw (e, f) refl

blocked_set : (a b : Bool) → a ≡ true → (not a && not b) ≡ false
blocked_set a b e = rw e refl

blocked_held : (a b : Bool) → b ≡ true → (not a && not b) ≡ false
blocked_held true b e = refl
blocked_held false b e = rw e refl

-- no position from the first to before the second is clear
pub record Passed (set : FinSet nat_cmp) (holders : List Holder) (start at : ℕ) : Type 0 where
  pub low : start ≤ at
  pub none : (y : ℕ) → start ≤ y → y < at → is_clear set holders y ≡ false

pub passed-none : (set : FinSet nat_cmp) (holders : List Holder) (start : ℕ) → Passed set holders start start
passed-none set holders start = record { low = omega arith; none = λ y low high. absurd (omega arith) }

passed-filled : (set : FinSet nat_cmp) (holders : List Holder) (start at x : ℕ) → Passed set holders start at → at ≤ x → ((y : ℕ) → at ≤ y → y < x → IsTrue (contains set y)) → Passed set holders start x
passed-filled set holders start at x passed above filled = record {
  low = omega (arith, passed.low);
  none = λ y low high. elim (cases_lt y at) [
    | inl before ↦ passed.none y low before
    | inr later ↦ blocked_set (contains set y) (is_kept holders y) (filled y later high)
  ];
}

pub passed-held : (set : FinSet nat_cmp) (holders : List Holder) (span : Span) (at x end : ℕ) → Passed set holders span.s at → IsFirstOut set (record { s = at; e = span.e }) x → HoldsTo (is_kept holders) x end → Passed set holders span.s end
passed-held set holders span at x end passed out holds =
    let inside = between_has (record { s = at; e = span.e }) x out.here in
    let there = passed-filled set holders span.s at x passed inside.0 out.before in
    record {
      low = omega (arith, there.low, holds.0);
      none = λ y low high. elim (cases_lt y x) [
        | inl before ↦ there.none y low before
        | inr later ↦ blocked_held (contains set y) (is_kept holders y) (holds.1 y later high)
      ];
    }

pub free-none : (set : FinSet nat_cmp) (holders : List Holder) (span : Span) (at : ℕ) → Passed set holders span.s at → span.e ≤ at → None ≡ find (is_clear set holders) (positions span)
free-none set holders span at passed past =
    sym (find-positions_none (is_clear set holders) span (λ y here. let ends = between_has span y here in passed.none y ends.0 (omega (arith, ends.1))))

pub free-covered : (set : FinSet nat_cmp) (holders : List Holder) (span : Span) (at : ℕ) → Passed set holders span.s at → Covers set (record { s = at; e = span.e }) → None ≡ find (is_clear set holders) (positions span)
free-covered set holders span at passed covers =
    sym (find-positions_none (is_clear set holders) span (λ y here.
    let ends = between_has span y here in
    elim (cases_lt y at) [
      | inl before ↦ passed.none y ends.0 before
      | inr later ↦ blocked_set (contains set y) (is_kept holders y) (covers y (has_between (record { s = at; e = span.e }) y later ends.1))
    ]))

pub free-some : (set : FinSet nat_cmp) (holders : List Holder) (span : Span) (at x : ℕ) → Passed set holders span.s at → IsFirstOut set (record { s = at; e = span.e }) x → is_kept holders x ≡ false → Some x ≡ find (is_clear set holders) (positions span)
free-some set holders span at x passed out unheld =
    let inside = between_has (record { s = at; e = span.e }) x out.here in
    let there = passed-filled set holders span.s at x passed inside.0 out.before in
    sym (find-positions_some (is_clear set holders) span x (has_between span x there.low inside.1) (clear_is (contains set x) (is_kept holders x) out.out unheld) there.none)

not_clear : (b : Bool) → b ≡ false → not b ≡ true
not_clear b e = rw e refl

clear_not : (b : Bool) → b ≡ true → not b ≡ false
clear_not b e = rw e refl

-- where a free run ends
pub stop-is : (set : FinSet nat_cmp) (holders : List Holder) (span : Span) (end : ℕ) (first : Option ℕ) → IsUnheld (is_kept holders) span end
    → MatchOption first (Misses set (record { s = span.s; e = end })) (λ x. IsFirstIn set (record { s = span.s; e = end }) x)
    → unwrap_or first end ≡ unwrap_or (find (λ x. not (is_clear set holders x)) (positions span)) span.e
stop-is set holders span end (Some x) unheld first =
    let inside = between_has (record { s = span.s; e = end }) x first.here in
    ap (λ o. unwrap_or o span.e) (sym (find-positions_some (λ y. not (is_clear set holders y)) span x (has_between span x inside.0 (omega (arith, inside.1, unheld.below)))
    (not_clear (is_clear set holders x) (blocked_set (contains set x) (is_kept holders x) first.had))
    (λ y low high. clear_not (is_clear set holders y) (clear_is (contains set y) (is_kept holders y) (first.before y low high) (unheld.before y low (omega (arith, inside.1)))))))
stop-is set holders span end None unheld misses =
    let clear = λ (y : ℕ) (low : span.s ≤ y) (high : y < end). clear_not (is_clear set holders y) (clear_is (contains set y) (is_kept holders y) (misses y (has_between (record { s = span.s; e = end }) y low high)) (unheld.before y low high)) in
    elim (cases_lt end span.e) [
      | inl inside ↦ ap (λ o. unwrap_or o span.e) (sym (find-positions_some (λ y. not (is_clear set holders y)) span end (has_between span end unheld.start inside) (not_clear (is_clear set holders end) (blocked_held (contains set end) (is_kept holders end) (unheld.at inside))) clear))
      | inr whole ↦
          let same : end ≡ span.e = omega (arith, unheld.below) in
          same ∙ ap (λ o. unwrap_or o span.e) (sym (find-positions_none (λ y. not (is_clear set holders y)) span (λ y here. let ends = between_has span y here in clear y ends.0 (omega (arith, ends.1)))))
    ]

-- at most three

pub take-again : (n : ℕ) (ys zs : List Span) → take n (take n ys ++ zs) ≡ take n (ys ++ zs)
take-again zero ys zs = refl
take-again (suc n) [] zs = refl
take-again (suc n) (y ∷ ys) zs = ap (λ ks. y ∷ ks) (take-again n ys zs)

long-take : (n : ℕ) (ys : List Span) → length (take n ys) ≡ n → n ≤ length ys
long-take zero ys is = omega arith
long-take (suc n) [] is = absurd (omega arith)
long-take (suc n) (y ∷ ys) is = omega (arith, long-take n ys (omega arith))

pub full-stays : (n : ℕ) (xs ys zs : List Span) → xs ≡ take n ys → length xs ≡ n → xs ≡ take n (ys ++ zs)
full-stays n xs ys zs is full = is ∙ sym (take-append-le n ys zs (long-take n ys (sym (ap length is) ∙ full)))

short-take : (n : ℕ) (ys : List Span) → length (take n ys) < n → take n ys ≡ ys
short-take zero ys less = absurd (omega arith)
short-take (suc n) [] less = refl
short-take (suc n) (y ∷ ys) less = ap (λ ks. y ∷ ks) (short-take n ys (omega arith))

few-option : (run : Option Span) → length (cons_option run []) ≤ 1
few-option None = omega arith
few-option (Some r) = omega arith

pub pushed-stays : (n : ℕ) (xs ys : List Span) (run : Option Span) → xs ≡ take n ys → length xs < n → xs ++ cons_option run [] ≡ take n (ys ++ cons_option run [])
pushed-stays n xs ys run is less =
    let whole : xs ≡ ys = is ∙ short-take n ys (omega (arith, ap length is)) in
    ap (λ ks. ks ++ cons_option run []) whole
    ∙ sym (take_all n (ys ++ cons_option run []) (omega (arith, length-append ys (cons_option run []), few-option run, ap length whole)))

length-take-le : (n : ℕ) (ys : List Span) → length (take n ys) ≤ n
length-take-le zero ys = omega arith
length-take-le (suc n) [] = omega arith
length-take-le (suc n) (y ∷ ys) = omega (arith, length-take-le n ys)

pub few-is : (n : ℕ) (xs ys : List Span) → xs ≡ take n ys → length xs ≤ n
few-is n xs ys is = omega (arith, ap length is, length-take-le n ys)

-- the blocks of a part, one by one

range-split : (from k m n at : ℕ) → n ≡ k + m → at ≡ from + k → range_with_len from n ≡ range_with_len from k ++ range_with_len at m
range-split from zero m n at is there = let a : n ≡ m = omega arith in let b : at ≡ from = omega arith in rw (a, b) refl
range-split from (suc k) m zero at is there = absurd (omega arith)
range-split from (suc k) m (suc n) at is there = ap (λ ks. from ∷ ks) (range-split (from + 1) k m n at (omega arith) (omega arith))

filter_map-append-own : (f : ℕ → Option Span) (xs ys : List ℕ) → filter_map f (xs ++ ys) ≡ filter_map f xs ++ filter_map f ys
filter_map-append-own f [] ys = refl
filter_map-append-own f (x ∷ xs) ys = ap (cons_option (f x)) (filter_map-append-own f xs ys) ∙ joined (f x) (filter_map f xs) (filter_map f ys)
  where
    joined : (o : Option Span) (rs qs : List Span) → cons_option o (rs ++ qs) ≡ cons_option o rs ++ qs
    joined None rs qs = refl
    joined (Some r) rs qs = refl

range-last : (k : ℕ) → range_with_len 0 (k + 1) ≡ range_with_len 0 k ++ k ∷ []
range-last k = range-split 0 k 1 (k + 1) k (omega arith) (omega arith)

pub block-more : (f : ℕ → Option Span) (old xs : List Span) (k : ℕ) → xs ≡ take 3 (old ++ filter_map f (range_with_len 0 k)) → length xs < 3
    → xs ++ cons_option (f k) [] ≡ take 3 (old ++ filter_map f (range_with_len 0 (k + 1)))
block-more f old xs k is less =
    pushed-stays 3 xs (old ++ filter_map f (range_with_len 0 k)) (f k) is less
    ∙ ap (take 3) (append_assoc old (filter_map f (range_with_len 0 k)) (cons_option (f k) [])
    ∙ ap (λ ks. old ++ ks) (sym (ap (filter_map f) (range-last k) ∙ filter_map-append-own f (range_with_len 0 k) (k ∷ []))))

pub block-full : (f : ℕ → Option Span) (old xs : List Span) (k n : ℕ) → k ≤ n → xs ≡ take 3 (old ++ filter_map f (range_with_len 0 k)) → length xs ≡ 3
    → xs ≡ take 3 (old ++ filter_map f (range_with_len 0 n))
block-full f old xs k n within is full =
    full-stays 3 xs (old ++ filter_map f (range_with_len 0 k)) (filter_map f (range_with_len k (n - k))) is full
    ∙ ap (take 3) (append_assoc old (filter_map f (range_with_len 0 k)) (filter_map f (range_with_len k (n - k)))
    ∙ ap (λ ks. old ++ ks) (sym (ap (filter_map f) (range-split 0 k (n - k) n k (omega arith) (omega arith)) ∙ filter_map-append-own f (range_with_len 0 k) (range_with_len k (n - k)))))

none-at : (passes : ℕ → Bool) (span : Span) (y : ℕ) → find passes (positions span) ≡ None → has span y ≡ true → passes y ≡ false
unfolding positions
none-at passes span y none here =
    let ends = between_has span y here in
    before_find passes span.s (span.e - span.s) span.e y (omega (arith, ends.0, ends.1)) ends.0 (subst (λ (o : Option ℕ). y < unwrap_or o span.e) (sym none) ends.1)

-- a part without a free position has no run
pub none-runs : (n : ℕ) (passes : ℕ → Bool) (i : ℕ) → find passes (positions (part_range n i)) ≡ None → runs_in n passes i ≡ []
none-runs n passes i none = each (range_with_len 0 (block_count n i))
  where
    no-run : (k : ℕ) → first_run passes (block_range n i k) ≡ None
    no-run k = ap (option_map (run_from passes (block_range n i k))) (find-positions_none passes (block_range n i k) (λ y here. none-at passes (part_range n i) y none (block_within n i k y here)))

    each : (ks : List ℕ) → filter_map (λ k. first_run passes (block_range n i k)) ks ≡ []
    each [] = refl
    each (k ∷ ks) = ap (λ o. cons_option o (filter_map (λ j. first_run passes (block_range n i j)) ks)) (no-run k) ∙ each ks

-- the parts, one by one

pub part-more : (f : ℕ → List Span) (xs : List Span) (before : List ℕ) (i : ℕ) (b : Bool) → xs ≡ take 3 (flat_map f before) → take 3 (xs ++ cond b (f i) []) ≡ take 3 (flat_map f (before ++ cond b (i ∷ []) []))
part-more f xs before i b is =
    ap (λ ks. take 3 (ks ++ cond b (f i) [])) is
    ∙ take-again 3 (flat_map f before) (cond b (f i) [])
    ∙ ap (take 3) (sym (flat-append before (cond b (i ∷ []) []) ∙ ap (λ ks. flat_map f before ++ ks) (one b)))
  where
    flat-append : (is js : List ℕ) → flat_map f (is ++ js) ≡ flat_map f is ++ flat_map f js
    flat-append [] js = refl
    flat-append (j ∷ is) js = ap (λ ks. f j ++ ks) (flat-append is js) ∙ sym (append_assoc (f j) (flat_map f is) (flat_map f js))

    one : (b : Bool) → flat_map f (cond b (i ∷ []) []) ≡ cond b (f i) []
    one true = append-nil (f i)
    one false = refl

flat-append : (f : ℕ → List Span) (is js : List ℕ) → flat_map f (is ++ js) ≡ flat_map f is ++ flat_map f js
flat-append f [] js = refl
flat-append f (j ∷ is) js = ap (λ ks. f j ++ ks) (flat-append f is js) ∙ sym (append_assoc (f j) (flat_map f is) (flat_map f js))

pub part-full : (f : ℕ → List Span) (p : ℕ → Bool) (xs : List Span) (parts : List ℕ) (k : ℕ) → xs ≡ take 3 (flat_map f (filter p (take k parts))) → length xs ≡ 3 → xs ≡ take 3 (flat_map f (filter p parts))
part-full f p xs parts k is full =
    full-stays 3 xs (flat_map f (filter p (take k parts))) (flat_map f (filter p (drop k parts))) is full
    ∙ ap (take 3) (sym (flat-append f (filter p (take k parts)) (filter p (drop k parts))) ∙ ap (flat_map f) (sym (filter-append p (take k parts) (drop k parts)) ∙ ap (filter p) (take-append-drop k parts)))

-- the parts of the order exist
range-below : (from n top : ℕ) → top ≡ from + n → list_any (λ i. nat_le top i) (range_with_len from n) ≡ false
range-below from zero top is = refl
range-below from (suc n) top is =
    let test : nat_le top from ≡ false = grind (arith, nat_tests) in
    rw test (range-below (from + 1) n top (omega arith))

pub parts-exist : (n m : ℕ) (parts : List ℕ) → m ≡ n → IsPermutation (range_with_len 0 m) parts → list_any (λ i. nat_le n i) parts ≡ false
parts-exist n m parts is permutation = sym (list_any-IsPermutation (λ i. nat_le n i) (range_with_len 0 m) parts permutation) ∙ range-below 0 m n (omega arith)

pub none-is : (o : Option ℕ) → is_none o ≡ true → o ≡ None
none-is None e = refl
none-is (Some x) e = absurd (false≢true e)

pub stays-none : (n : ℕ) (passes : ℕ → Bool) (i : ℕ) (xs : List Span) → find passes (positions (part_range n i)) ≡ None → length xs ≤ 3 → xs ≡ take 3 (xs ++ runs_in n passes i)
stays-none n passes i xs none few =
    sym (ap (λ ks. take 3 (xs ++ ks)) (none-runs n passes i none) ∙ ap (take 3) (append-nil xs) ∙ take_all 3 xs few)

pub first-within : (passes : ℕ → Bool) (span : Span) (x : ℕ) → Some x ≡ find passes (positions span) → x ≤ span.e
first-within passes span x found = let at = find_positions passes span x (sym found) in omega (arith, at.1)

-- what is kept as filled and held is what the log says
find-same : (p q : ℕ → Bool) → ((x : ℕ) → p x ≡ q x) → (xs : List ℕ) → find p xs ≡ find q xs
find-same p q same [] = refl
find-same p q same (x ∷ xs) = rw (same x, find-same p q same xs) refl

run-same : (p q : ℕ → Bool) → ((x : ℕ) → p x ≡ q x) → (r : Span) → first_run p r ≡ first_run q r
run-same p q same r =
    ap (option_map (run_from p r)) (find-same p q same (positions r)) ∙ ends (find q (positions r))
  where
    ends : (o : Option ℕ) → option_map (run_from p r) o ≡ option_map (run_from q r) o
    ends None = refl
    ends (Some start) =
        ap (λ (stop : Option ℕ). let run : Span = record { s = start; e = unwrap_or stop r.e } in Some run) (find-same (λ x. not (p x)) (λ x. not (q x)) (λ x. ap not (same x)) (positions (record { s = start; e = r.e })))

runs-same : (n : ℕ) (p q : ℕ → Bool) → ((x : ℕ) → p x ≡ q x) → (i : ℕ) → runs_in n p i ≡ runs_in n q i
runs-same n p q same i = each (range_with_len 0 (block_count n i))
  where
    each : (ks : List ℕ) → filter_map (λ k. first_run p (block_range n i k)) ks ≡ filter_map (λ k. first_run q (block_range n i k)) ks
    each [] = refl
    each (k ∷ ks) = ap (λ o. cons_option o (filter_map (λ j. first_run p (block_range n i j)) ks)) (run-same p q same (block_range n i k)) ∙ ap (cons_option (first_run q (block_range n i k))) (each ks)

clear-is : (n : ℕ) (h : List Event) (set : FinSet nat_cmp) (holders : List Holder) → ((x : ℕ) → contains set x ≡ is_filled n h x) → ((x : ℕ) → is_kept holders x ≡ is_held h x) → (x : ℕ) → is_clear set holders x ≡ is_available n h x
clear-is n h set holders filled is x = rw (filled x, is x) refl

spans-agree : (f g : ℕ → List Span) → ((i : ℕ) → f i ≡ g i) → (is : List ℕ) → flat_map f is ≡ flat_map g is
spans-agree f g same [] = refl
spans-agree f g same (i ∷ is) = ap (λ ks. ks ++ flat_map f is) (same i) ∙ ap (λ ks. g i ++ ks) (spans-agree f g same is)

pub picked-is : (n : ℕ) (h : List Event) (p : ℕ) (set : FinSet nat_cmp) (holders : List Holder) (counts parts : List ℕ)
    → ((x : ℕ) → contains set x ≡ is_filled n h x) → ((x : ℕ) → is_kept holders x ≡ is_held h x)
    → length counts ≡ data_parts n → ((i : ℕ) → i < data_parts n → slice_index counts i ≡ offer_count h i)
    → parts ≡ by_count counts (length (offerers h) + 1)
    → (bits : List Bool) → ((i : ℕ) → get_or bits i false ≡ offers_part h p i)
    → pick_by n (is_clear set holders) bits parts ≡ pick_of n h p
picked-is n h p set holders counts parts filled is long counted order bits offered_bits =
    let same = clear-is n h set holders filled is in
    ap (take 3)
    (spans-agree (runs_in n (is_clear set holders)) (runs_of n h) (runs-same n (is_clear set holders) (is_available n h) same) (filter (λ i. get_or bits i false) parts)
    ∙ ap (flat_map (runs_of n h))
    (filter-agree (λ i. get_or bits i false) (offers_part h p) offered_bits parts
    ∙ ap (filter (offers_part h p)) order
    ∙ filter-by_count (offers_part h p) (offer_count h) counts (length (offerers h) + 1) (λ i below. counted i (omega (arith, long)))
    ∙ ap (λ (m : ℕ). flat_map (λ count. filter (λ i. offers_part h p i && (offer_count h i == count)) (range_with_len 0 m)) (range_with_len 0 (length (offerers h) + 1))) long))
  where
    filter-agree : (p q : ℕ → Bool) → ((x : ℕ) → p x ≡ q x) → (xs : List ℕ) → filter p xs ≡ filter q xs
    filter-agree p q same [] = refl
    filter-agree p q same (x ∷ xs) = rw (same x, filter-agree p q same xs) refl

-- how many peers have a part, over the peers that are kept
count-map : (test : ℕ → Bool) (offers : List Offerer) → count_by (λ (offer : Offerer). test offer.peer) offers ≡ count_by test (map (λ (offer : Offerer). offer.peer) offers)
count-map test [] = refl
count-map test (offer ∷ offers) =
    sum_by-cons (λ (o : Offerer). cond (test o.peer) 1 0) offer offers
    ∙ ap (λ (k : ℕ). cond (test offer.peer) 1 0 + k) (count-map test offers)
    ∙ sym (sum_by-cons (λ (q : ℕ). cond (test q) 1 0) offer.peer (map (λ (offer : Offerer). offer.peer) offers))

pub core-picked : (n : ℕ) (log : List Entry) (offers : List Offerer) (p : ℕ) (set : FinSet nat_cmp) (holders : List Holder) (counts parts : List ℕ) (bits : List Bool)
    → ((x : ℕ) → contains set x ≡ is_filled n (events log) x) → ((x : ℕ) → is_kept holders x ≡ is_held (events log) x) → OffersStand log offers
    → length counts ≡ data_parts n
    → ((i : ℕ) (d : ℕ) → i < data_parts n → slice_index_or counts i d ≡ count_by (λ (offer : Offerer). offers_part (events log) offer.peer i) offers)
    → ((bound : ℕ) → All (λ count. count < bound) counts → parts ≡ by_count counts bound)
    → bits ≡ unwrap_or (latest (offer_by p) (events log)) []
    → pick_by n (is_clear set holders) bits parts ≡ pick_of n (events log) p
core-picked n log offers p set holders counts parts bits filled is stands long each order offered_bits =
    let h = events log in
    let counted = λ (i : ℕ) (d : ℕ) (below : i < data_parts n). each i d below ∙ count-map (λ q. offers_part h q i) offers ∙ ap (count_by (λ q. offers_part h q i)) stands.peers in
    picked-is n h p set holders counts parts filled is long (λ i below. counted i 0 below)
    (order (length (offerers h) + 1) (λ k d below. let most = count_by-le-length (λ q. offers_part h q k) (offerers h) in omega (arith, counted k d (omega (arith, below, long)), most)))
    bits (λ i. ap (λ bs. get_or bs i false) offered_bits)

-- a fact of what an Ok gives
pub ok-more : {T E : Type 0} (P Q : T → Type 0) (r : Result T E) → ((t : T) → P t → Q t) → IfOk r P → IfOk r Q
ok-more P Q (Ok t) more fact = more t fact
ok-more P Q (Err e) more fact = tt

pub same-counts : (n : ℕ) (log seen : List Entry) (offers kept : List Offerer) (counts : List ℕ) → seen ≡ log → kept ≡ offers
    → ((i : ℕ) (d : ℕ) → i < n → slice_index_or counts i d ≡ count_by (λ (offer : Offerer). offers_part (events seen) offer.peer i) kept)
    → (i : ℕ) (d : ℕ) → i < n → slice_index_or counts i d ≡ count_by (λ (offer : Offerer). offers_part (events log) offer.peer i) offers
same-counts n log seen offers kept counts is same each i d below =
    each i d below ∙ ap (λ (l : List Entry). count_by (λ (offer : Offerer). offers_part (events l) offer.peer i) kept) is ∙ ap (count_by (λ (offer : Offerer). offers_part (events log) offer.peer i)) same

-- what is not found in a range passes nowhere in it
pub none-passes : (p : ℕ → Bool) (n : ℕ) → find p (range_with_len 0 n) ≡ None → (i : ℕ) → i < n → p i ≡ false
none-passes p n none i below = before_find p 0 n n i (omega arith) (omega arith) (subst (λ (o : Option ℕ). i < unwrap_or o n) (sym none) below)
