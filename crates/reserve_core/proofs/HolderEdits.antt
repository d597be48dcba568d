-- What a search finds among the holders, and what an edit at that place leaves.
use Rattle.std.proofs.Common.{◌≡◌, ◌≢◌, ℕ, zero, suc, ◌+◌, ◌<◌, ◌≤◌, true, false, ◌==◌, min, List, [], ◌∷◌, length, slice_index_or, slice_set, cond, Result, Ok, Err, IfOk, IfErr, OnOk, OnErr, is_err, is_ok, if◌then◌else◌, refl, ap, sym, ◌∙◌, subst, arith}
use Rattle.std.specs.List.{insert}
use Rattle.std.specs.List.Sorted.{IsSearchInRange, IsBinarySearchResult, IsNonDecreasingBy}
use Rattle.std.specs.Ordering.{nat_cmp, ordering_index}
use Rattle.std.proofs.lemmas.Bool.Decides.{nat_tests}
use Rattle.std.proofs.lemmas.Cmp.{ranked}
use Rattle.std.proofs.lemmas.List.Sums.{sum_by-cons}
use Rattle.reserve_core.specs.Holders.{Ascends, IsAt, IsGap, Replaces, holding, kept_for}
use Rattle.reserve_core.specs.declared.hold.Hold.{Hold}
use Rattle.reserve_core.specs.declared.hold.Holder.{Holder}

low-at : (low : ℕ) (xs : List Holder) (k : ℕ) (d : Holder) → Ascends low xs → k < length xs → low ≤ (slice_index_or xs k d).peer
low-at low [] k d up below = absurd (omega arith)
low-at low (x ∷ xs) zero d up below = up.0
low-at low (x ∷ xs) (suc k) d up below = omega (arith, low-at (x.peer + 1) xs k d up.1 (omega arith), up.0)

peers-rise : (low : ℕ) (xs : List Holder) → Ascends low xs → (i j : ℕ) (d : Holder) → i ≤ j → j < length xs → (slice_index_or xs i d).peer ≤ (slice_index_or xs j d).peer
peers-rise low [] up i j d order below = absurd (omega arith)
peers-rise low (x ∷ xs) up zero zero d order below = omega arith
peers-rise low (x ∷ xs) up zero (suc j) d order below = omega (arith, low-at (x.peer + 1) xs j d up.1 (omega arith))
peers-rise low (x ∷ xs) up (suc i) zero d order below = absurd (omega arith)
peers-rise low (x ∷ xs) up (suc i) (suc j) d order below = peers-rise (x.peer + 1) xs up.1 i j d (omega arith) (omega arith)

-- the comparisons with a peer rise along the holders, as a binary search asks
comparisons-rise : (xs : List Holder) (p : ℕ) → Ascends 0 xs → IsNonDecreasingBy (λ holder. ordering_index (nat_cmp holder.peer p)) xs
comparisons-rise xs p up i j d order below = let rise = peers-rise 0 xs up i j d order below in grind (arith, nat_tests)

-- a binary search ends at the peer's holder, or where it would go
pub searched : (xs : List Holder) (p : ℕ) → Ascends 0 xs → (r : Result ℕ ℕ) → IsSearchInRange r (length xs) → IsBinarySearchResult (λ holder. nat_cmp holder.peer p) xs r → IfOk r (IsAt xs p) × IfErr r (IsGap xs p)
searched xs p up (Ok at) within equal = (record { within = within; own = λ d. ranked _ p _ (sym (equal d)) }, tt)
searched xs p up (Err at) within parted = (
  tt,
  record {
    within = within;
    before = λ k d low. ranked _ p _ (sym ((parted (comparisons-rise xs p up)).0 k d (omega arith) low));
    behind = λ k d low high. ranked _ p _ (sym ((parted (comparisons-rise xs p up)).1 k d low high));
  },
)

-- what is kept for a peer

kept-own : (x : Holder) (xs : List Holder) (p : ℕ) → x.peer ≡ p → kept_for (x ∷ xs) p ≡ x.ranges.items
kept-own x xs p same = let test : (x.peer == p) ≡ true = grind (arith, nat_tests) in rw test refl

kept-other : (x : Holder) (xs : List Holder) (p : ℕ) → x.peer ≢ p → kept_for (x ∷ xs) p ≡ kept_for xs p
kept-other x xs p other = let test : (x.peer == p) ≡ false = grind (arith, nat_tests) in rw test refl

kept-none : (xs : List Holder) (p : ℕ) → ((k : ℕ) (d : Holder) → k < length xs → (slice_index_or xs k d).peer ≢ p) → kept_for xs p ≡ []
kept-none [] p none = refl
kept-none (x ∷ xs) p none = kept-other x xs p (none 0 x (omega arith)) ∙ kept-none xs p (λ k d below. none (suc k) d (omega arith))

pub kept-below : (low p : ℕ) (xs : List Holder) → Ascends low xs → p < low → kept_for xs p ≡ []
kept-below low p xs up below = kept-none xs p (λ k d high same. omega (arith, low-at low xs k d up high, below))

pub kept-gap : (xs : List Holder) (p place : ℕ) → IsGap xs p place → kept_for xs p ≡ []
kept-gap xs p place gap = kept-none xs p (λ k d below same. grind (arith, gap.before k d, gap.behind k d))

-- no holder before the one at a place has its peer
earlier : (low : ℕ) (x : Holder) (xs : List Holder) (k p : ℕ) (d : Holder) → Ascends low (x ∷ xs) → k < length xs → (slice_index_or xs k d).peer ≡ p → x.peer ≢ p
earlier low x xs k p d up below own same = omega (arith, low-at (x.peer + 1) xs k d up.1 below, own)

kept-from : (low p : ℕ) (xs : List Holder) (k : ℕ) (d : Holder) → Ascends low xs → k < length xs → (slice_index_or xs k d).peer ≡ p → kept_for xs p ≡ (slice_index_or xs k d).ranges.items
kept-from low p [] k d up below own = absurd (omega arith)
kept-from low p (x ∷ xs) zero d up below own = kept-own x xs p own
kept-from low p (x ∷ xs) (suc k) d up below own =
    kept-other x xs p (earlier low x xs k p d up (omega arith) own) ∙ kept-from (x.peer + 1) p xs k d up.1 (omega arith) own

pub kept-at : (xs : List Holder) (p place : ℕ) (d : Holder) → Ascends 0 xs → IsAt xs p place → kept_for xs p ≡ (slice_index_or xs place d).ranges.items
kept-at xs p place d up at = kept-from 0 p xs place d up at.within (at.own d)

-- another holder of the same peer in the place of one

set-ascends : (low p : ℕ) (xs : List Holder) (k : ℕ) (d x : Holder) → Ascends low xs → k < length xs → (slice_index_or xs k d).peer ≡ p → x.peer ≡ p → Ascends low (slice_set xs k x)
set-ascends low p [] k d x up below own same = absurd (omega arith)
set-ascends low p (y ∷ ys) zero d x up below own same = (omega (arith, up.0), subst (λ (q : ℕ). Ascends (q + 1) ys) (own ∙ sym same) up.1)
set-ascends low p (y ∷ ys) (suc k) d x up below own same = (up.0, set-ascends (y.peer + 1) p ys k d x up.1 (omega arith) own same)

set-own : (low p : ℕ) (xs : List Holder) (k : ℕ) (d x : Holder) → Ascends low xs → k < length xs → (slice_index_or xs k d).peer ≡ p → x.peer ≡ p → kept_for (slice_set xs k x) p ≡ x.ranges.items
set-own low p [] k d x up below own same = absurd (omega arith)
set-own low p (y ∷ ys) zero d x up below own same = kept-own x ys p same
set-own low p (y ∷ ys) (suc k) d x up below own same =
    kept-other y (slice_set ys k x) p (earlier low y ys k p d up (omega arith) own) ∙ set-own (y.peer + 1) p ys k d x up.1 (omega arith) own same

kept-tails : (y : Holder) (xs ys : List Holder) (q : ℕ) → kept_for xs q ≡ kept_for ys q → kept_for (y ∷ xs) q ≡ kept_for (y ∷ ys) q
kept-tails y xs ys q same = ap (λ ks. cond (y.peer == q) y.ranges.items ks) same

set-others : (p : ℕ) (xs : List Holder) (k : ℕ) (d x : Holder) → k < length xs → (slice_index_or xs k d).peer ≡ p → x.peer ≡ p → (q : ℕ) → q ≢ p → kept_for (slice_set xs k x) q ≡ kept_for xs q
set-others p [] k d x below own same q other = absurd (omega arith)
set-others p (y ∷ ys) zero d x below own same q other =
    kept-other x ys q (λ e. other (sym e ∙ same)) ∙ sym (kept-other y ys q (λ e. other (sym e ∙ own)))
set-others p (y ∷ ys) (suc k) d x below own same q other =
    kept-tails y (slice_set ys k x) ys q (set-others p ys k d x (omega arith) own same q other)

abbrev one : Holder → ℕ
one x = min 1 (length x.ranges.items)

holding-cons : (x : Holder) (xs : List Holder) → holding (x ∷ xs) ≡ one x + holding xs
holding-cons x xs = sum_by-cons one x xs

set-holding : (xs : List Holder) (k : ℕ) (d x : Holder) → k < length xs → holding (slice_set xs k x) + one (slice_index_or xs k d) ≡ holding xs + one x
set-holding [] k d x below = absurd (omega arith)
set-holding (y ∷ ys) zero d x below = omega (arith, holding-cons x ys, holding-cons y ys)
set-holding (y ∷ ys) (suc k) d x below = omega (arith, holding-cons y (slice_set ys k x), holding-cons y ys, set-holding ys k d x (omega arith))

pub replaces-set : (xs : List Holder) (p place : ℕ) (d x : Holder) (ranges : List Hold) → Ascends 0 xs → IsAt xs p place → x.peer ≡ p → x.ranges.items ≡ ranges → Replaces xs (slice_set xs place x) p ranges
replaces-set xs p place d x ranges up at same is = record {
  ascend = set-ascends 0 p xs place d x up at.within (at.own d) same;
  own = set-own 0 p xs place d x up at.within (at.own d) same ∙ is;
  others = set-others p xs place d x at.within (at.own d) same;
  holding = rw (kept-at xs p place d up at, sym is) (set-holding xs place d x at.within);
}

pub replaces-same : (xs : List Holder) (p : ℕ) → Ascends 0 xs → Replaces xs xs p (kept_for xs p)
replaces-same xs p up = record { ascend = up; own = refl; others = λ q other. refl; holding = refl }

-- where no holder is found, nothing is kept, and nothing is changed
pub replaces-unfound : (xs : List Holder) (p : ℕ) (found : Result ℕ ℕ) (f : List Hold → List Hold) → Ascends 0 xs → IfErr found (IsGap xs p) → ((place : ℕ) → found ≡ Ok place → ⊥) → f [] ≡ [] → Replaces xs xs p (f (kept_for xs p))
replaces-unfound xs p (Ok place) f up gap none empty = absurd (none place refl)
replaces-unfound xs p (Err place) f up gap none empty =
    let is = kept-gap xs p place gap in
    subst (λ (ks : List Hold). Replaces xs xs p ks) (is ∙ sym (ap f is ∙ empty)) (replaces-same xs p up)

-- one edit of a peer's ranges after another
pub replaces-again : (xs ys zs : List Holder) (p : ℕ) (first second : List Hold) → Replaces xs ys p first → Replaces ys zs p second → Replaces xs zs p second
replaces-again xs ys zs p first second one two = record {
  ascend = two.ascend;
  own = two.own;
  others = λ q other. two.others q other ∙ one.others q other;
  holding = omega (arith, one.holding, two.holding, ap (λ (ks : List Hold). min 1 (length ks)) one.own);
}

-- what is added where memory is had, and what stays where it is refused
pub on-ok : {T E : Type 0} (r : Result T E) (P : List Hold → Type 0) (items more was : List Hold) → items ≡ (if is_ok r then more else was) → P items → OnOk r (P more)
on-ok (Ok t) P items more was is fact = subst P is fact
on-ok (Err e) P items more was is fact = tt

pub on-err : {T E : Type 0} (r : Result T E) (P : List Hold → Type 0) (items more was : List Hold) → items ≡ (if is_ok r then more else was) → P items → OnErr r (P was)
on-err (Ok t) P items more was is fact = tt
on-err (Err e) P items more was is fact = subst P is fact

pub ok-fact : {T E : Type 0} (r : Result T E) (P : Type 0) → OnOk r P → is_err r ≡ false → P
ok-fact (Ok t) P fact is = fact
ok-fact (Err e) P fact is = cc

pub err-fact : {T E : Type 0} (r : Result T E) (P : Type 0) → OnErr r P → is_err r ≡ true → P
err-fact (Ok t) P fact is = cc
err-fact (Err e) P fact is = fact

-- a new holder where there is none

insert-ascends : (low p : ℕ) (xs : List Holder) (k : ℕ) (x : Holder) → Ascends low xs → low ≤ p → k ≤ length xs → ((j : ℕ) (d : Holder) → j < k → (slice_index_or xs j d).peer < p) → ((j : ℕ) (d : Holder) → k ≤ j → j < length xs → p < (slice_index_or xs j d).peer) → x.peer ≡ p → Ascends low (insert xs k x)
insert-ascends low p [] zero x up above within before behind same = (omega arith, tt)
insert-ascends low p (y ∷ ys) zero x up above within before behind same = (omega arith, (omega (arith, behind 0 y (omega arith) (omega arith)), up.1))
insert-ascends low p [] (suc k) x up above within before behind same = absurd (omega arith)
insert-ascends low p (y ∷ ys) (suc k) x up above within before behind same = (
  up.0,
  insert-ascends (y.peer + 1) p ys k x up.1 (omega (arith, before 0 y (omega arith))) (omega arith)
      (λ j d low. before (suc j) d (omega arith))
      (λ j d low high. behind (suc j) d (omega arith) (omega arith)) same,
)

insert-own : (p : ℕ) (xs : List Holder) (k : ℕ) (x : Holder) → k ≤ length xs → ((j : ℕ) (d : Holder) → j < k → (slice_index_or xs j d).peer < p) → x.peer ≡ p → kept_for (insert xs k x) p ≡ x.ranges.items
insert-own p xs zero x within before same = kept-own x xs p same
insert-own p [] (suc k) x within before same = absurd (omega arith)
insert-own p (y ∷ ys) (suc k) x within before same =
    kept-other y (insert ys k x) p (λ e. omega (arith, before 0 y (omega arith)))
    ∙ insert-own p ys k x (omega arith) (λ j d low. before (suc j) d (omega arith)) same

insert-others : (p : ℕ) (xs : List Holder) (k : ℕ) (x : Holder) → k ≤ length xs → x.peer ≡ p → (q : ℕ) → q ≢ p → kept_for (insert xs k x) q ≡ kept_for xs q
insert-others p xs zero x within same q other = kept-other x xs q (λ e. other (sym e ∙ same))
insert-others p [] (suc k) x within same q other = absurd (omega arith)
insert-others p (y ∷ ys) (suc k) x within same q other = kept-tails y (insert ys k x) ys q (insert-others p ys k x (omega arith) same q other)

insert-holding : (xs : List Holder) (k : ℕ) (x : Holder) → k ≤ length xs → holding (insert xs k x) ≡ holding xs + one x
insert-holding xs zero x within = omega (arith, holding-cons x xs)
insert-holding [] (suc k) x within = absurd (omega arith)
insert-holding (y ∷ ys) (suc k) x within = omega (arith, holding-cons y (insert ys k x), holding-cons y ys, insert-holding ys k x (omega arith))

pub replaces-insert : (xs : List Holder) (p place : ℕ) (x : Holder) → Ascends 0 xs → IsGap xs p place → x.peer ≡ p → x.ranges.items ≡ [] → Replaces xs (insert xs place x) p (kept_for xs p)
replaces-insert xs p place x up gap same none =
    let was = kept-gap xs p place gap in
    record {
      ascend = insert-ascends 0 p xs place x up (omega arith) gap.within gap.before gap.behind same;
      own = insert-own p xs place x gap.within gap.before same ∙ none ∙ sym was;
      others = insert-others p xs place x gap.within same;
      holding = rw was (omega (arith, insert-holding xs place x gap.within, ap (λ (ks : List Hold). length ks) none));
    }

-- no more peers hold a range than there are holders
pub holding-le : (xs : List Holder) → holding xs ≤ length xs
holding-le [] = omega arith
holding-le (x ∷ xs) = omega (arith, holding-cons x xs, holding-le xs)

-- where something is kept for a peer, one peer holds a range
pub holding-some : (xs : List Holder) (p : ℕ) → 1 ≤ length (kept_for xs p) → 1 ≤ holding xs
holding-some [] p some = absurd (omega arith)
holding-some (x ∷ xs) p some =
    elim (x.peer == p) as (λ b. 1 ≤ length (cond b x.ranges.items (kept_for xs p)) → 1 ≤ holding (x ∷ xs)) [
      | true ↦ λ now. omega (arith, holding-cons x xs, now)
      | false ↦ λ now. omega (arith, holding-cons x xs, holding-some xs p now)
    ] some
