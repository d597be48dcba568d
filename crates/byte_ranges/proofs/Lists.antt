-- Lists of spans cut at places, as the code cuts them.
use Rattle.std.proofs.Common.{◌≡◌, ℕ, ◌+◌, ◌-◌, ◌<◌, ◌≤◌, true, false, not, ◌&&◌, ◌||◌, List, [], ◌∷◌, ◌++◌, length, take, drop, take-append-drop, length-drop, refl, ap, sym, subst, ◌∙◌, arith}
use Rattle.std.proofs.lemmas.Bool.Decides.{nat_tests}
use Rattle.std.proofs.Math.Seq.{take-length}
use Rattle.std.proofs.lemmas.List.{drop-drop, drop_at, length-take-le, take_at}
use Rattle.std.proofs.lemmas.List.Edits.{split_between}
use Rattle.std.specs.FinSet.{union, difference}
use Rattle.std.specs.List.{slice_range}
use Rattle.part_sizes.specs.declared.span.Span.{Span}
use Rattle.part_sizes.specs.Span.{has, is_empty}
use Rattle.byte_ranges.specs.RangeSet.{span_set}
use Rattle.byte_ranges.specs.Spans.{AreApart, Each, IsApart, IsNear, hull, set_of, unless_empty}
use Rattle.byte_ranges.proofs.Apart.{AreApart-drop, apart_wider}
use Rattle.byte_ranges.proofs.Each.{each_left}
use Rattle.byte_ranges.proofs.Edits.{added_any, added_apart, left_of, right_of, taken_any, taken_apart}
use Rattle.byte_ranges.proofs.Hull.{hull_grows}
use Rattle.byte_ranges.proofs.Members.{any_has, set_of_added, set_of_taken}

-- `&xs[i..]`
pub rest_of : (i : ℕ) (xs : List Span) → take (length xs - i) (drop i xs) ≡ drop i xs
rest_of i xs =
    subst (λ n. take n (drop i xs) ≡ drop i xs) (length-drop i xs) (take-length (drop i xs))

pub AreApart-rest : (i : ℕ) (xs : List Span) → AreApart xs → AreApart (take (length xs - i) (drop i xs))
AreApart-rest i xs h = subst AreApart (sym (rest_of i xs)) (AreApart-drop i xs h)

pub near_of : (span : Span) (xs : List Span) (i n : ℕ) → Each (λ q. q.e < span.s) (take i xs) → Each (λ q. span.s ≤ q.e) (drop i xs) → Each (λ q. q.s ≤ span.e) (take n (take (length xs - i) (drop i xs))) → Each (λ q. span.e < q.s) (drop n (take (length xs - i) (drop i xs))) → IsNear span (take i xs) (slice_range xs i (i + n)) (drop (i + n) xs)
near_of span xs i n ended reaching begun ahead =
    let count : i + n - i ≡ n = omega arith in
    record {
      ended = ended;
      reaching = rw count (each_left (λ q. span.s ≤ q.e) (take n (drop i xs)) (drop n (drop i xs)) (subst (λ ys. Each (λ q. span.s ≤ q.e) ys) (sym (take-append-drop n (drop i xs))) reaching));
      begun = rw count (subst (λ ys. Each (λ q. q.s ≤ span.e) (take n ys)) (rest_of i xs) begun);
      ahead = subst (λ ys. Each (λ q. span.e < q.s) ys) (drop-drop n i xs) (subst (λ ys. Each (λ q. span.e < q.s) (drop n ys)) (rest_of i xs) ahead);
    }

-- a piece put between the front of a list and others
placed : (i : ℕ) (xs piece rest : List Span) → i ≤ length xs → take i (take i xs ++ rest) ++ (piece ++ drop i (take i xs ++ rest)) ≡ take i xs ++ (piece ++ rest)
placed i xs piece rest within =
    let count = length-take-le i xs within in
    let front : take i (take i xs ++ rest) ≡ take i xs = take_at (take i xs) rest i count in
    let back : drop i (take i xs ++ rest) ≡ rest = drop_at (take i xs) rest i count in
    rw front (rw back refl)

whole_kept : (span : Span) → span.s < span.e → unless_empty span ≡ span ∷ []
whole_kept span filled =
    let some : is_empty span ≡ false = grind (arith, nat_tests) in rw some refl

none_kept : (span : Span) → span.e ≤ span.s → unless_empty span ≡ []
none_kept span none =
    let empty : is_empty span ≡ true = grind (arith, nat_tests) in rw empty refl

-- what is found near a span in a list, read through a reference to it
pub record IsFound (span whole : Span) (i j : ℕ) (seen old : List Span) : Type 0 where
  pub same : seen ≡ old
  pub order : i ≤ j
  pub within : j ≤ length seen
  pub near : IsNear span (take i seen) (slice_range seen i j) (drop j seen)
  pub whole_is : whole ≡ hull span (slice_range seen i j)

-- the same of the list itself
record IsFoundIn (span whole : Span) (i j : ℕ) (old : List Span) : Type 0 where
  order : i ≤ j
  within : j ≤ length old
  near : IsNear span (take i old) (slice_range old i j) (drop j old)
  whole_is : whole ≡ hull span (slice_range old i j)

found_in : (span whole : Span) (i j : ℕ) (seen old : List Span) → IsFound span whole i j seen old → IsFoundIn span whole i j old
found_in span whole i j seen old f =
    subst (λ xs. IsFoundIn span whole i j xs) f.same (record { order = f.order; within = f.within; near = f.near; whole_is = f.whole_is })

-- the list in three parts, apart as a whole
in_parts : (i j high : ℕ) (old : List Span) → i ≤ j → IsApart 0 high old → IsApart 0 high (take i old ++ (slice_range old i j ++ drop j old))
in_parts i j high old order h = subst (λ xs. IsApart 0 high xs) (split_between old i j order) h

put_is : (span whole : Span) (i j : ℕ) (old gone new : List Span) → span.s < span.e → IsFoundIn span whole i j old → gone ≡ take i old ++ drop j old → new ≡ take i gone ++ (unless_empty whole ++ drop i gone) → new ≡ take i old ++ (hull span (slice_range old i j) ∷ drop j old)
put_is span whole i j old gone new filled f gone_is new_is =
    let grows = hull_grows span (slice_range old i j) in
    let some : unless_empty whole ≡ hull span (slice_range old i j) ∷ [] = rw f.whole_is (whole_kept (hull span (slice_range old i j)) (omega (arith, grows.0, grows.1))) in
    let at = placed i old (unless_empty whole) (drop j old) (omega (arith, f.order, f.within)) in
    new_is ∙ rw gone_is (at ∙ rw some refl)

pub put_set : (span whole : Span) (i j : ℕ) (seen old gone new : List Span) → span.s < span.e → AreApart old → IsFound span whole i j seen old → gone ≡ take i old ++ drop j old → new ≡ take i gone ++ (unless_empty whole ++ drop i gone) → set_of new ≡ union (set_of old) (span_set span)
put_set span whole i j seen old gone new filled apart found gone_is new_is =
    let f = found_in span whole i j seen old found in
    let high = apart.0 + (span.e + 1) in
    let wide = apart_wider 0 0 apart.0 high old (omega arith) (omega arith) apart.1 in
    let parts = split_between old i j f.order in
    set_of_added old new span (λ x.
    ap (λ xs. any_has xs x) (put_is span whole i j old gone new filled f gone_is new_is)
    ∙ added_any span high (take i old) (slice_range old i j) (drop j old) filled (omega arith) f.near (in_parts i j high old f.order wide) x
    ∙ ap (λ xs. any_has xs x || has span x) (sym parts))

pub put_apart : (span whole : Span) (i j : ℕ) (seen old gone new : List Span) → span.s < span.e → IsFound span whole i j seen old → gone ≡ take i old ++ drop j old → new ≡ take i gone ++ (unless_empty whole ++ drop i gone) → (high : ℕ) → span.e < high → IsApart 0 high old → IsApart 0 high new
put_apart span whole i j seen old gone new filled found gone_is new_is high below apart =
    let f = found_in span whole i j seen old found in
    subst (λ xs. IsApart 0 high xs) (sym (put_is span whole i j old gone new filled f gone_is new_is))
    (added_apart span high (take i old) (slice_range old i j) (drop j old) filled below f.near (in_parts i j high old f.order apart))

-- the two edits that leave what is on both sides of a span
pub record IsCut (span whole : Span) (i j : ℕ) (old gone some new : List Span) : Type 0 where
  pub gone_is : gone ≡ take i old ++ drop j old
  pub some_is : some ≡ take i gone ++ (unless_empty (record { s = span.e; e = whole.e }) ++ drop i gone)
  pub new_is : new ≡ take i some ++ (unless_empty (record { s = whole.s; e = span.s }) ++ drop i some)

cut_is : (span whole : Span) (i j : ℕ) (old gone some new : List Span) → IsFoundIn span whole i j old → IsCut span whole i j old gone some new → new ≡ take i old ++ (unless_empty (left_of span (slice_range old i j)) ++ (unless_empty (right_of span (slice_range old i j)) ++ drop j old))
cut_is span whole i j old gone some new f cut =
    let right = unless_empty (record { s = span.e; e = whole.e }) in
    let left = unless_empty (record { s = whole.s; e = span.s }) in
    let one = placed i old right (drop j old) (omega (arith, f.order, f.within)) in
    let two = placed i old left (right ++ drop j old) (omega (arith, f.order, f.within)) in
    let some_at : some ≡ take i old ++ (right ++ drop j old) = cut.some_is ∙ rw cut.gone_is one in
    let new_at : new ≡ take i old ++ (left ++ (right ++ drop j old)) = cut.new_is ∙ rw some_at two in
    new_at ∙ ap (λ (w : Span). take i old ++ (unless_empty (record { s = w.s; e = span.s }) ++ (unless_empty (record { s = span.e; e = w.e }) ++ drop j old))) f.whole_is

pub cut_set : (span whole : Span) (i j : ℕ) (seen old gone some new : List Span) → span.s < span.e → AreApart old → IsFound span whole i j seen old → IsCut span whole i j old gone some new → set_of new ≡ difference (set_of old) (span_set span)
cut_set span whole i j seen old gone some new filled apart found cut =
    let f = found_in span whole i j seen old found in
    let high = apart.0 + (span.e + 1) in
    let wide = apart_wider 0 0 apart.0 high old (omega arith) (omega arith) apart.1 in
    let parts = split_between old i j f.order in
    set_of_taken old new span (λ x.
    ap (λ xs. any_has xs x) (cut_is span whole i j old gone some new f cut)
    ∙ taken_any span high (take i old) (slice_range old i j) (drop j old) filled (omega arith) f.near (in_parts i j high old f.order wide) x
    ∙ ap (λ xs. any_has xs x && not (has span x)) (sym parts))

pub cut_apart : (span whole : Span) (i j : ℕ) (seen old gone some new : List Span) → span.s < span.e → IsFound span whole i j seen old → IsCut span whole i j old gone some new → (high : ℕ) → span.e < high → IsApart 0 high old → IsApart 0 high new
cut_apart span whole i j seen old gone some new filled found cut high below apart =
    let f = found_in span whole i j seen old found in
    subst (λ xs. IsApart 0 high xs) (sym (cut_is span whole i j old gone some new f cut))
    (taken_apart span high (take i old) (slice_range old i j) (drop j old) filled below f.near (in_parts i j high old f.order apart))

untouched_list : (span : Span) (near front behind : List Span) → near ≡ [] → front ++ (unless_empty (left_of span near) ++ (unless_empty (right_of span near) ++ behind)) ≡ front ++ behind
untouched_list span near front behind none =
    let left : unless_empty (left_of span []) ≡ [] = none_kept (left_of span []) (omega arith) in
    let right : unless_empty (right_of span []) ≡ [] = none_kept (right_of span []) (omega arith) in
    rw none (rw left (rw right refl))

-- where no span is near, nothing is taken
pub untouched_set : (span whole : Span) (i j : ℕ) (seen old : List Span) → span.s < span.e → AreApart old → IsFound span whole i j seen old → i ≡ j → set_of old ≡ difference (set_of old) (span_set span)
untouched_set span whole i j seen old filled apart found equal =
    let f = found_in span whole i j seen old found in
    let high = apart.0 + (span.e + 1) in
    let wide = apart_wider 0 0 apart.0 high old (omega arith) (omega arith) apart.1 in
    let parts = split_between old i j f.order in
    let count : j - i ≡ 0 = omega arith in
    let none : slice_range old i j ≡ [] = rw count refl in
    let same : take i old ++ (unless_empty (left_of span (slice_range old i j)) ++ (unless_empty (right_of span (slice_range old i j)) ++ drop j old)) ≡ old =
    untouched_list span (slice_range old i j) (take i old) (drop j old) none
    ∙ ap (λ xs. take i old ++ (xs ++ drop j old)) (sym none)
    ∙ sym parts in
    set_of_taken old old span (λ x.
    ap (λ xs. any_has xs x) (sym same)
    ∙ taken_any span high (take i old) (slice_range old i j) (drop j old) filled (omega arith) f.near (in_parts i j high old f.order wide) x
    ∙ ap (λ xs. any_has xs x && not (has span x)) (sym parts))
