-- How many hashes the live files have, through one file more and one fewer.
use Rattle.std.proofs.Common.{◌≡◌, ℕ, suc, ◌+◌, ◌≤◌, Bool, true, false, List, [], ◌∷◌, refl, sym, ap, ◌∙◌, cond, ⊎_elim, length, arith, nat_eq}
use Rattle.std.specs.Prelude.{Some, None, filter, ◌||◌}
use Rattle.std.specs.List.{list_any}
use Rattle.std.specs.Map.{remove_entry}
use Rattle.std.specs.Cmp.Lexicographic.{pointwise}
use Rattle.std.specs.declared.cmp.Ordering.{Ordering}
use Rattle.std.specs.declared.cmp.Ordering.TheVariants.{Less, Equal, Greater}
use Rattle.std.specs.Ordering.{match_ordering}
use Rattle.std.specs.BTreeMap.{is_at, insert_entry}
use Rattle.std.proofs.lemmas.Bool.{cases_Bool, cond-true, cond-false, both_ways, false_from_ne_true, or_left}
use Rattle.std.proofs.lemmas.Cmp.{lists_equiv, nat_eq_equiv}
use Rattle.std.proofs.lemmas.Map.Entries.{lookup_tail}
use Rattle.server_index.specs.Live.{File}
use Rattle.server_index.specs.Order.{spot_cmp}
use Rattle.server_index.specs.Files.{file_at}
use Rattle.server_index.specs.Found.{absent, has_hash, hashes}
use Rattle.server_index.proofs.FileLemmas.{spot_exact, spot_same}
use Rattle.server_index.proofs.ClearLemmas.{same_hash}

-- whether one of the files has a hash
abbrev pub any_has : List ℕ → List ((List ℕ × ℕ) × File) → Bool
any_has hash es = list_any (has_hash hash) es

hashes-cons : (x : (List ℕ × ℕ) × File) (xs : List ((List ℕ × ℕ) × File)) → length (hashes (x ∷ xs)) ≡ absent x.0.0 xs + length (hashes xs)
hashes-cons x xs = ⊎_elim
    (λ e. let at : length (hashes (x ∷ xs)) ≡ length (hashes xs) = ap (length {A = List ℕ}) (cond-true _ (hashes xs) (x.0.0 ∷ hashes xs) e) in
    let zero : absent x.0.0 xs ≡ 0 = cond-true _ 0 1 e in omega (arith, at, zero))
    (λ e. let at : length (hashes (x ∷ xs)) ≡ suc (length (hashes xs)) = ap (length {A = List ℕ}) (cond-false _ (hashes xs) (x.0.0 ∷ hashes xs) e) in
    let one : absent x.0.0 xs ≡ 1 = cond-false _ 0 1 e in omega (arith, at, one))
    (cases_Bool (any_has x.0.0 xs))

at_most_one : (hash : List ℕ) (es : List ((List ℕ × ℕ) × File)) → absent hash es ≤ 1
at_most_one hash es = ⊎_elim
    (λ e. let zero : absent hash es ≡ 0 = cond-true _ 0 1 e in omega (arith, zero))
    (λ e. let one : absent hash es ≡ 1 = cond-false _ 0 1 e in omega (arith, one))
    (cases_Bool (any_has hash es))

pub hashes_short : (es : List ((List ℕ × ℕ) × File)) → length (hashes es) ≤ length es
hashes_short [] = omega arith
hashes_short (x ∷ xs) = omega (arith, hashes-cons x xs, at_most_one x.0.0 xs, hashes_short xs)

twice : (b c : Bool) → (b || c) ≡ (b || (b || c))
twice true c = refl
twice false c = refl

swapped : (a b c : Bool) → (a || (b || c)) ≡ (b || (a || c))
swapped true true c = refl
swapped true false c = refl
swapped false true c = refl
swapped false false c = refl

same_both : (a b : List ℕ) → pointwise nat_eq a b ≡ false → pointwise nat_eq b a ≡ false
same_both a b e = false_from_ne_true _ (λ t. both_ways (pointwise nat_eq a b) e (ap (λ (h : List ℕ). pointwise nat_eq a h) (same_hash b a t) ∙ (lists_equiv nat_eq_equiv).refl a))

-- one file beside another: which of the two is told first makes no difference
swap_counts : (a b : List ℕ) (es : List ((List ℕ × ℕ) × File)) (n : ℕ) → cond (pointwise nat_eq b a || any_has a es) 0 1 + (absent b es + n) ≡ cond (pointwise nat_eq a b || any_has b es) 0 1 + (absent a es + n)
swap_counts a b es n = ⊎_elim
    (λ e. let same : b ≡ a = same_hash b a e in ap (λ (h : List ℕ). cond (pointwise nat_eq h a || any_has a es) 0 1 + (absent h es + n)) same ∙ ap (λ (h : List ℕ). cond (pointwise nat_eq a h || any_has h es) 0 1 + (absent a es + n)) (sym same))
    (λ e. let first : cond (pointwise nat_eq b a || any_has a es) 0 1 ≡ absent a es = ap (λ (t : Bool). cond (t || any_has a es) 0 1) e in
    let second : cond (pointwise nat_eq a b || any_has b es) 0 1 ≡ absent b es = ap (λ (t : Bool). cond (t || any_has b es) 0 1) (same_both b a e) in
    omega (arith, first, second))
    (cases_Bool (pointwise nat_eq b a))

-- ---- one file more
any_by_order : (hash : List ℕ) (p : List ℕ × ℕ) (v : File) (e : (List ℕ × ℕ) × File) (es : List ((List ℕ × ℕ) × File)) → any_has hash (insert_entry spot_cmp es p v) ≡ (pointwise nat_eq p.0 hash || any_has hash es)
    → (o : Ordering) → spot_cmp p e.0 ≡ o → any_has hash (match_ordering o ((p, v) ∷ e ∷ es) ((e.0, v) ∷ es) (e ∷ insert_entry spot_cmp es p v)) ≡ (pointwise nat_eq p.0 hash || any_has hash (e ∷ es))
any_by_order hash p v e es rest Less is = refl
any_by_order hash p v e es rest Equal is =
    let same : p ≡ e.0 = spot_exact p e.0 is in
    twice (pointwise nat_eq e.0.0 hash) (any_has hash es) ∙ ap (λ (q : List ℕ × ℕ). pointwise nat_eq q.0 hash || any_has hash (e ∷ es)) (sym same)
any_by_order hash p v e es rest Greater is = ap (λ (b : Bool). pointwise nat_eq e.0.0 hash || b) rest ∙ swapped (pointwise nat_eq e.0.0 hash) (pointwise nat_eq p.0 hash) (any_has hash es)

any_insert : (hash : List ℕ) (p : List ℕ × ℕ) (v : File) (es : List ((List ℕ × ℕ) × File)) → any_has hash (insert_entry spot_cmp es p v) ≡ (pointwise nat_eq p.0 hash || any_has hash es)
any_insert hash p v [] = refl
any_insert hash p v (e ∷ es) = any_by_order hash p v e es (any_insert hash p v es) (spot_cmp p e.0) refl

count_by_order : (p : List ℕ × ℕ) (v : File) (e : (List ℕ × ℕ) × File) (es : List ((List ℕ × ℕ) × File)) → length (hashes (insert_entry spot_cmp es p v)) ≡ absent p.0 es + length (hashes es)
    → (o : Ordering) → spot_cmp p e.0 ≡ o → length (hashes (match_ordering o ((p, v) ∷ e ∷ es) ((e.0, v) ∷ es) (e ∷ insert_entry spot_cmp es p v))) ≡ absent p.0 (e ∷ es) + length (hashes (e ∷ es))
count_by_order p v e es rest Less is = hashes-cons (p, v) (e ∷ es)
count_by_order p v e es rest Equal is =
    let same : p ≡ e.0 = spot_exact p e.0 is in
    let known : any_has p.0 (e ∷ es) ≡ true = or_left _ _ (ap (λ (q : List ℕ × ℕ). pointwise nat_eq e.0.0 q.0) same ∙ (lists_equiv nat_eq_equiv).refl e.0.0) in
    let alike : length (hashes ((e.0, v) ∷ es)) ≡ length (hashes (e ∷ es)) = hashes-cons (e.0, v) es ∙ sym (hashes-cons e es) in
    let zero : absent p.0 (e ∷ es) ≡ 0 = cond-true _ 0 1 known in
    omega (arith, alike, zero)
count_by_order p v e es rest Greater is =
    hashes-cons e (insert_entry spot_cmp es p v)
    ∙ ap (λ (b : Bool). cond b 0 1 + length (hashes (insert_entry spot_cmp es p v))) (any_insert e.0.0 p v es)
    ∙ ap (λ (k : ℕ). cond (pointwise nat_eq p.0 e.0.0 || any_has e.0.0 es) 0 1 + k) rest
    ∙ swap_counts e.0.0 p.0 es (length (hashes es))
    ∙ ap (λ (k : ℕ). cond (any_has p.0 (e ∷ es)) 0 1 + k) (sym (hashes-cons e es))

pub count_insert : (p : List ℕ × ℕ) (v : File) (es : List ((List ℕ × ℕ) × File)) → length (hashes (insert_entry spot_cmp es p v)) ≡ absent p.0 es + length (hashes es)
count_insert p v [] = refl
count_insert p v (e ∷ es) = count_by_order p v e es (count_insert p v es) (spot_cmp p e.0) refl

-- ---- one file fewer
any_remove : (hash : List ℕ) (p : List ℕ × ℕ) (f : File) (es : List ((List ℕ × ℕ) × File)) → file_at es p ≡ Some f → any_has hash es ≡ (pointwise nat_eq p.0 hash || any_has hash (remove_entry (is_at (spot_cmp p)) es))
any_remove hash p f [] at = let none : None ≡ Some f = at in cc
any_remove hash p f (e ∷ es) at = ⊎_elim
    (λ t. let same : p ≡ e.0 = spot_same p e.0 t in
    let gone : remove_entry (is_at (spot_cmp p)) (e ∷ es) ≡ es = cond-true _ es (e ∷ remove_entry (is_at (spot_cmp p)) es) t in
    ap (λ (q : List ℕ × ℕ). pointwise nat_eq q.0 hash || any_has hash es) (sym same) ∙ ap (λ (l : List ((List ℕ × ℕ) × File)). pointwise nat_eq p.0 hash || any_has hash l) (sym gone))
    (λ t. let gone : remove_entry (is_at (spot_cmp p)) (e ∷ es) ≡ e ∷ remove_entry (is_at (spot_cmp p)) es = cond-false _ es (e ∷ remove_entry (is_at (spot_cmp p)) es) t in
    ap (λ (b : Bool). pointwise nat_eq e.0.0 hash || b) (any_remove hash p f es (sym (lookup_tail (is_at (spot_cmp p)) e es t) ∙ at))
    ∙ swapped (pointwise nat_eq e.0.0 hash) (pointwise nat_eq p.0 hash) (any_has hash (remove_entry (is_at (spot_cmp p)) es))
    ∙ ap (λ (l : List ((List ℕ × ℕ) × File)). pointwise nat_eq p.0 hash || any_has hash l) (sym gone))
    (cases_Bool (is_at (spot_cmp p) e.0))

pub count_remove : (p : List ℕ × ℕ) (f : File) (es : List ((List ℕ × ℕ) × File)) → file_at es p ≡ Some f
    → length (hashes es) ≡ absent p.0 (remove_entry (is_at (spot_cmp p)) es) + length (hashes (remove_entry (is_at (spot_cmp p)) es))
count_remove p f [] at = let none : None ≡ Some f = at in cc
count_remove p f (e ∷ es) at = ⊎_elim
    (λ t. let same : p ≡ e.0 = spot_same p e.0 t in
    let gone : remove_entry (is_at (spot_cmp p)) (e ∷ es) ≡ es = cond-true _ es (e ∷ remove_entry (is_at (spot_cmp p)) es) t in
    hashes-cons e es ∙ ap (λ (q : List ℕ × ℕ). absent q.0 es + length (hashes es)) (sym same) ∙ ap (λ (l : List ((List ℕ × ℕ) × File)). absent p.0 l + length (hashes l)) (sym gone))
    (λ t. let gone : remove_entry (is_at (spot_cmp p)) (e ∷ es) ≡ e ∷ remove_entry (is_at (spot_cmp p)) es = cond-false _ es (e ∷ remove_entry (is_at (spot_cmp p)) es) t in
    let there : file_at es p ≡ Some f = sym (lookup_tail (is_at (spot_cmp p)) e es t) ∙ at in
    hashes-cons e es
    ∙ ap (λ (b : Bool). cond b 0 1 + length (hashes es)) (any_remove e.0.0 p f es there)
    ∙ ap (λ (k : ℕ). cond (pointwise nat_eq p.0 e.0.0 || any_has e.0.0 (remove_entry (is_at (spot_cmp p)) es)) 0 1 + k) (count_remove p f es there)
    ∙ swap_counts e.0.0 p.0 (remove_entry (is_at (spot_cmp p)) es) (length (hashes (remove_entry (is_at (spot_cmp p)) es)))
    ∙ ap (λ (k : ℕ). cond (any_has p.0 (e ∷ remove_entry (is_at (spot_cmp p)) es)) 0 1 + k) (sym (hashes-cons e (remove_entry (is_at (spot_cmp p)) es)))
    ∙ ap (λ (l : List ((List ℕ × ℕ) × File)). absent p.0 l + length (hashes l)) (sym gone))
    (cases_Bool (is_at (spot_cmp p) e.0))

-- ---- the first file from a hash on
pub any_kept : (p : (List ℕ × ℕ) × File → Bool) (es : List ((List ℕ × ℕ) × File)) → list_any p (filter p es) ≡ list_any p es
any_kept p [] = refl
any_kept p (e ∷ es) = ⊎_elim
    (λ t. ap (list_any p) (cond-true (p e) (e ∷ filter p es) (filter p es) t) ∙ or_left _ _ t ∙ sym (or_left _ _ t))
    (λ t. ap (list_any p) (cond-false (p e) (e ∷ filter p es) (filter p es) t) ∙ any_kept p es ∙ ap (λ (b : Bool). b || list_any p es) (sym t))
    (cases_Bool (p e))

pub absent_at : (hash : List ℕ) (x : (List ℕ × ℕ) × File) (part rest es : List ((List ℕ × ℕ) × File)) → part ≡ x ∷ rest → filter (has_hash hash) part ≡ filter (has_hash hash) es → has_hash hash x ≡ true → absent hash es ≡ 0
absent_at hash x part rest es is same has =
    let there : any_has hash es ≡ true = sym (any_kept (has_hash hash) es) ∙ ap (list_any (has_hash hash)) (sym same) ∙ any_kept (has_hash hash) part ∙ ap (list_any (has_hash hash)) is ∙ or_left _ _ has in
    cond-true _ 0 1 there

pub absent_none : (hash : List ℕ) (part es : List ((List ℕ × ℕ) × File)) → filter (has_hash hash) part ≡ [] → filter (has_hash hash) part ≡ filter (has_hash hash) es → absent hash es ≡ 1
absent_none hash part es none same =
    let gone : any_has hash es ≡ false = sym (any_kept (has_hash hash) es) ∙ ap (list_any (has_hash hash)) (sym same ∙ none) in
    cond-false _ 0 1 gone
