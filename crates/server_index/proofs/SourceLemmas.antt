-- The files of one hash stand together.
use Rattle.std.proofs.Common.{◌≡◌, ℕ, zero, suc, ◌-◌, ◌<◌, Bool, true, false, List, [], ◌∷◌, ◌++◌, length, take, refl, sym, ap, ◌∙◌, cond, ⊎_elim, arith, nat_eq, length-append, append_assoc, subst}
use Rattle.std.specs.Prelude.{filter, map}
use Rattle.std.specs.List.{AllByRecursion}
use Rattle.std.specs.List.Sorted.{IsStrictlySortedBy}
use Rattle.std.specs.Map.{keys_of}
use Rattle.std.specs.declared.cmp.Ordering.{Ordering}
use Rattle.std.specs.declared.cmp.Ordering.TheVariants.{Less, Equal, Greater}
use Rattle.std.specs.Ordering.{is_eq, is_gt, is_le, nat_cmp, ordering_then}
use Rattle.std.specs.Cmp.{nat_cmp_is}
use Rattle.std.specs.declared.ops.Bound.TheVariants.{Included, Unbounded}
use Rattle.std.proofs.lemmas.Map.Keys.{sorted_tail}
use Rattle.std.specs.Cmp.Lexicographic.{pointwise}
use Rattle.std.specs.BTreeMap.Range.{IsLeBy, range_contains}
use Rattle.std.proofs.lemmas.Bool.{cases_Bool, cond-true, cond-false, and_from, and_parts, both_ways, false_from_ne_true}
use Rattle.std.proofs.lemmas.Cmp.{nat_list_cmp_total, eq_by_cmp_equiv, lists_equiv, nat_eq_equiv}
use Rattle.std.proofs.lemmas.List.{append-nil}
use Rattle.std.proofs.lemmas.Map.Lookups.{exact_bytes}
use Rattle.server_index.specs.Live.{File}
use Rattle.server_index.specs.Order.{hash_cmp, spot_cmp}
use Rattle.server_index.specs.Found.{has_hash, place_of}
use Rattle.server_index.proofs.ClearLemmas.{same_hash}

-- a spot from hash on with another hash is past all spots of the hash
past : (hash : List ℕ) (p : List ℕ × ℕ) → IsLeBy spot_cmp (hash, 0) p → pointwise nat_eq p.0 hash ≡ false → (o : Ordering) → hash_cmp hash p.0 ≡ o → hash_cmp hash p.0 ≡ Less
past hash p from other Less e = e
past hash p from other Equal e =
    absurd (both_ways (pointwise nat_eq p.0 hash) other (ap (λ (h : List ℕ). pointwise nat_eq h hash) (sym (exact_bytes hash p.0 e)) ∙ (lists_equiv nat_eq_equiv).refl hash))
past hash p from other Greater e =
    absurd (both_ways (is_gt (spot_cmp (hash, 0) p)) from (ap (λ (o : Ordering). is_gt (ordering_then o (nat_cmp 0 p.1))) e))

first_part : (a b : Ordering) → ordering_then a b ≡ Less → (a ≡ Less → ⊥) → a ≡ Equal
first_part Less b e never = absurd (never refl)
first_part Equal b e never = refl
first_part Greater b e never = let wrong : Greater ≡ Less = e in cc

further : (hash : List ℕ) (p q : List ℕ × ℕ) → hash_cmp hash p.0 ≡ Less → spot_cmp p q ≡ Less → (o : Ordering) → hash_cmp p.0 q.0 ≡ o → hash_cmp hash q.0 ≡ Less
further hash p q lt pq Less e = nat_list_cmp_total.trans hash p.0 q.0 lt e
further hash p q lt pq Equal e = ap (hash_cmp hash) (sym (exact_bytes p.0 q.0 e)) ∙ lt
further hash p q lt pq Greater e = let wrong : Greater ≡ Less = ap (λ (o : Ordering). ordering_then o (nat_cmp p.1 q.1)) (sym e) ∙ pq in cc

less_other : (hash h : List ℕ) → hash_cmp hash h ≡ Less → pointwise nat_eq h hash ≡ false
less_other hash h lt = false_from_ne_true (pointwise nat_eq h hash) (λ e.
    let same : h ≡ hash = same_hash h hash e in
    let equal : hash_cmp hash hash ≡ Less = ap (hash_cmp hash) (sym same) ∙ lt in
    both_ways (is_eq (hash_cmp hash hash)) (ap is_eq equal) ((eq_by_cmp_equiv nat_list_cmp_total).refl hash))

none_past : (hash : List ℕ) (p : List ℕ × ℕ) (es : List ((List ℕ × ℕ) × File)) → hash_cmp hash p.0 ≡ Less → AllByRecursion (λ q. spot_cmp p q ≡ Less) (keys_of es) → filter (has_hash hash) es ≡ []
none_past hash p [] lt all = refl
none_past hash p (e ∷ es) lt all =
    cond-false (has_hash hash e) (e ∷ filter (has_hash hash) es) (filter (has_hash hash) es) (less_other hash e.0.0 (further hash p e.0 lt all.0 (hash_cmp p.0 e.0.0) refl)) ∙ none_past hash p es lt all.1

pub none_left : (hash : List ℕ) (x : (List ℕ × ℕ) × File) (es : List ((List ℕ × ℕ) × File)) → IsStrictlySortedBy spot_cmp (keys_of (x ∷ es)) → IsLeBy spot_cmp (hash, 0) x.0 → has_hash hash x ≡ false → filter (has_hash hash) (x ∷ es) ≡ []
unfolding IsStrictlySortedBy
none_left hash x es s from other =
    cond-false (has_hash hash x) (x ∷ filter (has_hash hash) es) (filter (has_hash hash) es) other ∙ none_past hash x.0 es (past hash x.0 from other (hash_cmp hash x.0.0) refl) s.0

take_nil : {A : Type 0} → (n : ℕ) → take {A = A} n [] ≡ []
take_nil zero = refl
take_nil (suc n) = refl

-- one source more
pub source_more : (hash : List ℕ) (out : List (ℕ × ℕ)) (x : (List ℕ × ℕ) × File) (t rest : List ((List ℕ × ℕ) × File)) (total : List (ℕ × ℕ)) → length out < 255 → has_hash hash x ≡ true → t ≡ x ∷ rest
    → out ++ map place_of (take (255 - length out) (filter (has_hash hash) t)) ≡ total
    → (out ++ place_of x ∷ []) ++ map place_of (take (255 - length (out ++ place_of x ∷ [])) (filter (has_hash hash) rest)) ≡ total
source_more hash out x t rest total lt has is so_far =
    let cut : filter (has_hash hash) t ≡ x ∷ filter (has_hash hash) rest = ap (filter (has_hash hash)) is ∙ cond-true (has_hash hash x) (x ∷ filter (has_hash hash) rest) (filter (has_hash hash) rest) has in
    let left : 255 - length out ≡ suc (255 - length (out ++ place_of x ∷ [])) = omega (arith, length-append out (place_of x ∷ [])) in
    let told : map place_of (take (255 - length out) (filter (has_hash hash) t)) ≡ place_of x ∷ map place_of (take (255 - length (out ++ place_of x ∷ [])) (filter (has_hash hash) rest)) = rw (cut, left) refl in
    append_assoc out (place_of x ∷ []) (map place_of (take (255 - length (out ++ place_of x ∷ [])) (filter (has_hash hash) rest))) ∙ ap (λ (f : List (ℕ × ℕ)). out ++ f) (sym told) ∙ so_far

pub sources_end : (hash : List ℕ) (out total : List (ℕ × ℕ)) (t : List ((List ℕ × ℕ) × File)) → filter (has_hash hash) t ≡ [] → out ++ map place_of (take (255 - length out) (filter (has_hash hash) t)) ≡ total → out ≡ total
sources_end hash out total t none so_far =
    let e : map place_of (take (255 - length out) (filter (has_hash hash) t)) ≡ [] = ap (λ (l : List ((List ℕ × ℕ) × File)). map place_of (take (255 - length out) l)) none ∙ ap (map place_of) (take_nil (255 - length out)) in
    sym (append-nil out) ∙ ap (λ (l : List (ℕ × ℕ)). out ++ l) (sym e) ∙ so_far

-- the files from the hash on have all of the hash
pub hash_inside : (hash : List ℕ) (inside : (List ℕ × ℕ) × File → Bool) → ((x : (List ℕ × ℕ) × File) → has_hash hash x ≡ true → inside x ≡ true) → (es : List ((List ℕ × ℕ) × File)) → filter (has_hash hash) (filter inside es) ≡ filter (has_hash hash) es
hash_inside hash inside all [] = refl
hash_inside hash inside all (e ∷ es) = ⊎_elim
    (λ t. let at : filter inside (e ∷ es) ≡ e ∷ filter inside es = cond-true (inside e) (e ∷ filter inside es) (filter inside es) t in
    ap (filter (has_hash hash)) at ∙ ap (λ (l : List ((List ℕ × ℕ) × File)). cond (has_hash hash e) (e ∷ l) l) (hash_inside hash inside all es))
    (λ t. let at : filter inside (e ∷ es) ≡ filter inside es = cond-false (inside e) (e ∷ filter inside es) (filter inside es) t in
    let other : has_hash hash e ≡ false = false_from_ne_true _ (λ h. both_ways (inside e) t (all e h)) in
    ap (filter (has_hash hash)) at ∙ hash_inside hash inside all es ∙ sym (cond-false (has_hash hash e) (e ∷ filter (has_hash hash) es) (filter (has_hash hash) es) other))
    (cases_Bool (inside e))

tied : (o : Ordering) → is_eq o ≡ true → o ≡ Equal
tied Less e = absurd (both_ways false refl e)
tied Equal e = refl
tied Greater e = absurd (both_ways false refl e)

least : (n : ℕ) → is_le (nat_cmp 0 n) ≡ true
least zero = refl
least (suc n) = let lt : 0 < suc n = omega arith in ap is_le (sym (nat_cmp_is 0 (suc n) Less lt))

not_gt : (o : Ordering) → is_le o ≡ true → is_gt o ≡ false
not_gt Less e = refl
not_gt Equal e = refl
not_gt Greater e = absurd (both_ways false refl e)

abbrev pub from_hash : List ℕ → (List ℕ × ℕ) × File → Bool
from_hash hash x = range_contains spot_cmp (Included (hash, 0)) Unbounded x.0

pub hash_from : (hash : List ℕ) (x : (List ℕ × ℕ) × File) → has_hash hash x ≡ true → from_hash hash x ≡ true
hash_from hash x has =
    let same : x.0.0 ≡ hash = same_hash x.0.0 hash has in
    let equal : hash_cmp hash x.0.0 ≡ Equal = ap (hash_cmp hash) same ∙ tied (hash_cmp hash hash) ((eq_by_cmp_equiv nat_list_cmp_total).refl hash) in
    let le : is_le (spot_cmp (hash, 0) x.0) ≡ true = ap (λ (o : Ordering). is_le (ordering_then o (nat_cmp 0 x.0.1))) equal ∙ least x.0.1 in
    and_from _ _ le refl

pub all_from : (hash : List ℕ) (es : List ((List ℕ × ℕ) × File)) → AllByRecursion (IsLeBy spot_cmp (hash, 0)) (keys_of (filter (from_hash hash) es))
all_from hash [] = tt
all_from hash (e ∷ es) = ⊎_elim
    (λ t. let at : filter (from_hash hash) (e ∷ es) ≡ e ∷ filter (from_hash hash) es = cond-true (from_hash hash e) (e ∷ filter (from_hash hash) es) (filter (from_hash hash) es) t in
    let parts : (is_le (spot_cmp (hash, 0) e.0) ≡ true) × (true ≡ true) = and_parts (is_le (spot_cmp (hash, 0) e.0)) true t in
    rw at (not_gt (spot_cmp (hash, 0) e.0) parts.0, all_from hash es))
    (λ t. let at : filter (from_hash hash) (e ∷ es) ≡ filter (from_hash hash) es = cond-false (from_hash hash e) (e ∷ filter (from_hash hash) es) (filter (from_hash hash) es) t in rw at (all_from hash es))
    (cases_Bool (from_hash hash e))

-- what a loop keeps of the files that are left
pub rest_sorted : (x : (List ℕ × ℕ) × File) (t rest : List ((List ℕ × ℕ) × File)) → t ≡ x ∷ rest → IsStrictlySortedBy spot_cmp (keys_of t) → IsStrictlySortedBy spot_cmp (keys_of rest)
rest_sorted x t rest is s = sorted_tail spot_cmp x.0 (keys_of rest) (subst (λ (l : List ((List ℕ × ℕ) × File)). IsStrictlySortedBy spot_cmp (keys_of l)) is s)

pub rest_from : (hash : List ℕ) (x : (List ℕ × ℕ) × File) (t rest : List ((List ℕ × ℕ) × File)) → t ≡ x ∷ rest → AllByRecursion (IsLeBy spot_cmp (hash, 0)) (keys_of t) → AllByRecursion (IsLeBy spot_cmp (hash, 0)) (keys_of rest)
rest_from hash x t rest is all = (subst (λ (l : List ((List ℕ × ℕ) × File)). AllByRecursion (IsLeBy spot_cmp (hash, 0)) (keys_of l)) is all).1

pub none_at : (hash : List ℕ) (x : (List ℕ × ℕ) × File) (t rest : List ((List ℕ × ℕ) × File)) → t ≡ x ∷ rest → IsStrictlySortedBy spot_cmp (keys_of t) → AllByRecursion (IsLeBy spot_cmp (hash, 0)) (keys_of t) → has_hash hash x ≡ false → filter (has_hash hash) t ≡ []
none_at hash x t rest is s all other = ap (filter (has_hash hash)) is ∙ none_left hash x rest (subst (λ (l : List ((List ℕ × ℕ) × File)). IsStrictlySortedBy spot_cmp (keys_of l)) is s) ((subst (λ (l : List ((List ℕ × ℕ) × File)). AllByRecursion (IsLeBy spot_cmp (hash, 0)) (keys_of l)) is all).0) other

pub sources_full : (hash : List ℕ) (out total : List (ℕ × ℕ)) (t : List ((List ℕ × ℕ) × File)) → length out ≡ 255 → out ++ map place_of (take (255 - length out) (filter (has_hash hash) t)) ≡ total → out ≡ total
sources_full hash out total t full so_far =
    let left : 255 - length out ≡ 0 = omega arith in
    let e : map place_of (take (255 - length out) (filter (has_hash hash) t)) ≡ [] = rw left refl in
    sym (append-nil out) ∙ ap (λ (l : List (ℕ × ℕ)). out ++ l) (sym e) ∙ so_far
