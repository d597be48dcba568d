-- Entries in the order of their spots.
use Rattle.std.proofs.Common.{◌≡◌, ℕ, Bool, true, false, List, [], ◌∷◌, refl, sym, ap, ◌∙◌, cond, ⊎_elim}
use Rattle.std.specs.Prelude.{Option, Some, None, filter}
use Rattle.std.specs.List.{AllByRecursion}
use Rattle.std.specs.List.Sorted.{IsStrictlySortedBy}
use Rattle.std.specs.Map.{keys_of}
use Rattle.std.specs.declared.cmp.Ordering.{Ordering}
use Rattle.std.specs.declared.cmp.Ordering.TheVariants.{Less, Equal, Greater}
use Rattle.std.specs.Ordering.{is_eq, ordering_reverse}
use Rattle.std.specs.Cmp.{IsTotalOrder}
use Rattle.std.specs.BTreeMap.{is_at}
use Rattle.std.proofs.lemmas.Cmp.{nat_cmp_total, nat_list_cmp_total, then_total, on_total, eq_by_cmp_equiv}
use Rattle.std.proofs.lemmas.Bool.{cases_Bool, cond-true, cond-false}
use Rattle.std.proofs.lemmas.Map.{lookup-none}
use Rattle.std.proofs.lemmas.Map.Entries.{none_past_head, none_below_head, lookup_head, lookup_tail}
use Rattle.std.proofs.lemmas.Map.Keys.{sorted_tail, IsDistinct-from_sorted}
use Rattle.server_index.specs.Live.{File}
use Rattle.server_index.specs.Order.{spot_cmp}
use Rattle.server_index.specs.Files.{file_at}
use Rattle.server_index.proofs.FileLemmas.{spot_exact, spot_same}

pub spot_total : IsTotalOrder spot_cmp
spot_total = then_total (on_total (λ (t : List ℕ × ℕ). t.0) nat_list_cmp_total) (on_total (λ (t : List ℕ × ℕ). t.1) nat_cmp_total)

-- what a look-up keeps through a filter
abbrev pub keep : ((List ℕ × ℕ) × File → Bool) → List ℕ × ℕ → Option File → Option File
keep p q None = None
keep p q (Some f) = cond (p (q, f)) (Some f) None

-- ---- a filter of entries in order
all_filter : (p : (List ℕ × ℕ) × File → Bool) (P : List ℕ × ℕ → Type 0) (es : List ((List ℕ × ℕ) × File)) → AllByRecursion P (keys_of es) → AllByRecursion P (keys_of (filter p es))
all_filter p P [] h = tt
all_filter p P (e ∷ es) h = ⊎_elim
    (λ t. let at : filter p (e ∷ es) ≡ e ∷ filter p es = cond-true (p e) (e ∷ filter p es) (filter p es) t in rw at (h.0, all_filter p P es h.1))
    (λ t. let at : filter p (e ∷ es) ≡ filter p es = cond-false (p e) (e ∷ filter p es) (filter p es) t in rw at (all_filter p P es h.1))
    (cases_Bool (p e))

pub sorted_filter : (p : (List ℕ × ℕ) × File → Bool) (es : List ((List ℕ × ℕ) × File)) → IsStrictlySortedBy spot_cmp (keys_of es) → IsStrictlySortedBy spot_cmp (keys_of (filter p es))
unfolding IsStrictlySortedBy
sorted_filter p [] s = s
sorted_filter p (e ∷ es) s = ⊎_elim
    (λ t. let at : filter p (e ∷ es) ≡ e ∷ filter p es = cond-true (p e) (e ∷ filter p es) (filter p es) t in rw at (all_filter p (λ y. spot_cmp e.0 y ≡ Less) es s.0, sorted_filter p es s.1))
    (λ t. let at : filter p (e ∷ es) ≡ filter p es = cond-false (p e) (e ∷ filter p es) (filter p es) t in rw at (sorted_filter p es s.1))
    (cases_Bool (p e))

past_head : (q : List ℕ × ℕ) (e : (List ℕ × ℕ) × File) (es : List ((List ℕ × ℕ) × File)) → IsStrictlySortedBy spot_cmp (keys_of (e ∷ es)) → is_eq (spot_cmp q e.0) ≡ true → file_at es q ≡ None
past_head q e es s t = lookup-none (is_at (spot_cmp q)) es (none_past_head (eq_by_cmp_equiv spot_total) q e es (IsDistinct-from_sorted spot_cmp (keys_of (e ∷ es)) s) t)

pub lookup_filter : (p : (List ℕ × ℕ) × File → Bool) (q : List ℕ × ℕ) (es : List ((List ℕ × ℕ) × File)) → IsStrictlySortedBy spot_cmp (keys_of es) → file_at (filter p es) q ≡ keep p q (file_at es q)
lookup_filter p q [] s = refl
lookup_filter p q (e ∷ es) s =
    let rest : file_at (filter p es) q ≡ keep p q (file_at es q) = lookup_filter p q es (sorted_tail spot_cmp e.0 (keys_of es) s) in
    ⊎_elim
    (λ h. let here : file_at (e ∷ es) q ≡ Some e.1 = lookup_head (is_at (spot_cmp q)) e es h in
    let none : file_at es q ≡ None = past_head q e es s h in
    let same : q ≡ e.0 = spot_same q e.0 h in
    ⊎_elim
    (λ t. let at : filter p (e ∷ es) ≡ e ∷ filter p es = cond-true (p e) (e ∷ filter p es) (filter p es) t in
    let kept : p (q, e.1) ≡ true = ap (λ (k : List ℕ × ℕ). p (k, e.1)) same ∙ t in
    ap (λ (l : List ((List ℕ × ℕ) × File)). file_at l q) at ∙ lookup_head (is_at (spot_cmp q)) e (filter p es) h ∙ sym (cond-true (p (q, e.1)) (Some e.1) None kept) ∙ ap (keep p q) (sym here))
    (λ t. let at : filter p (e ∷ es) ≡ filter p es = cond-false (p e) (e ∷ filter p es) (filter p es) t in
    let lost : p (q, e.1) ≡ false = ap (λ (k : List ℕ × ℕ). p (k, e.1)) same ∙ t in
    ap (λ (l : List ((List ℕ × ℕ) × File)). file_at l q) at ∙ rest ∙ ap (keep p q) none ∙ sym (cond-false (p (q, e.1)) (Some e.1) None lost) ∙ ap (keep p q) (sym here))
    (cases_Bool (p e)))
    (λ h. let there : file_at (e ∷ es) q ≡ file_at es q = lookup_tail (is_at (spot_cmp q)) e es h in
    ⊎_elim
    (λ t. let at : filter p (e ∷ es) ≡ e ∷ filter p es = cond-true (p e) (e ∷ filter p es) (filter p es) t in
    ap (λ (l : List ((List ℕ × ℕ) × File)). file_at l q) at ∙ lookup_tail (is_at (spot_cmp q)) e (filter p es) h ∙ rest ∙ ap (keep p q) (sym there))
    (λ t. let at : filter p (e ∷ es) ≡ filter p es = cond-false (p e) (e ∷ filter p es) (filter p es) t in
    ap (λ (l : List ((List ℕ × ℕ) × File)). file_at l q) at ∙ rest ∙ ap (keep p q) (sym there))
    (cases_Bool (p e)))
    (cases_Bool (is_eq (spot_cmp q e.0)))

-- ---- entries in order are told by their look-ups
some_not_none : {A : Type 0} (x : A) (o : Option A) → o ≡ Some x → o ≡ None → ⊥
some_not_none x o e n = let no : Some x ≡ None = sym e ∙ n in cc

some_same : {A : Type 0} (x y : A) → Some x ≡ Some y → x ≡ y
some_same x y e = cc

at_head : (x : (List ℕ × ℕ) × File) (xs : List ((List ℕ × ℕ) × File)) → file_at (x ∷ xs) x.0 ≡ Some x.1
at_head x xs = lookup_head (is_at (spot_cmp x.0)) x xs ((eq_by_cmp_equiv spot_total).refl x.0)

pub below : (q : List ℕ × ℕ) (x : (List ℕ × ℕ) × File) (xs : List ((List ℕ × ℕ) × File)) → IsStrictlySortedBy spot_cmp (keys_of (x ∷ xs)) → spot_cmp q x.0 ≡ Less → file_at (x ∷ xs) q ≡ None
below q x xs s e = lookup-none (is_at (spot_cmp q)) (x ∷ xs) (none_below_head spot_total q x xs s e)

heads : (x y : (List ℕ × ℕ) × File) (xs ys : List ((List ℕ × ℕ) × File)) → IsStrictlySortedBy spot_cmp (keys_of (x ∷ xs)) → IsStrictlySortedBy spot_cmp (keys_of (y ∷ ys))
    → ((q : List ℕ × ℕ) → file_at (x ∷ xs) q ≡ file_at (y ∷ ys) q) → (o : Ordering) → spot_cmp x.0 y.0 ≡ o → x.0 ≡ y.0
heads x y xs ys s t h Equal e = spot_exact x.0 y.0 e
heads x y xs ys s t h Less e = absurd (some_not_none x.1 (file_at (y ∷ ys) x.0) (sym (h x.0) ∙ at_head x xs) (below x.0 y ys t e))
heads x y xs ys s t h Greater e = absurd (some_not_none y.1 (file_at (x ∷ xs) y.0) (h y.0 ∙ at_head y ys) (below y.0 x xs s (spot_total.antisymm y.0 x.0 ∙ ap ordering_reverse e)))

pub same_entries : (es fs : List ((List ℕ × ℕ) × File)) → IsStrictlySortedBy spot_cmp (keys_of es) → IsStrictlySortedBy spot_cmp (keys_of fs) → ((q : List ℕ × ℕ) → file_at es q ≡ file_at fs q) → es ≡ fs
same_entries [] [] s t h = refl
same_entries [] (y ∷ ys) s t h = absurd (some_not_none y.1 (file_at [] y.0) (h y.0 ∙ at_head y ys) refl)
same_entries (x ∷ xs) [] s t h = absurd (some_not_none x.1 (file_at [] x.0) (sym (h x.0) ∙ at_head x xs) refl)
same_entries (x ∷ xs) (y ∷ ys) s t h =
    let key : x.0 ≡ y.0 = heads x y xs ys s t h (spot_cmp x.0 y.0) refl in
    let value : x.1 ≡ y.1 = some_same x.1 y.1 (sym (at_head x xs) ∙ h x.0 ∙ ap (file_at (y ∷ ys)) key ∙ at_head y ys) in
    let rest : xs ≡ ys = same_entries xs ys (sorted_tail spot_cmp x.0 (keys_of xs) s) (sorted_tail spot_cmp y.0 (keys_of ys) t)
    (λ q. ⊎_elim
    (λ b. past_head q x xs s b ∙ sym (past_head q y ys t (ap (λ (k : List ℕ × ℕ). is_eq (spot_cmp q k)) (sym key) ∙ b)))
    (λ b. sym (lookup_tail (is_at (spot_cmp q)) x xs b) ∙ h q ∙ lookup_tail (is_at (spot_cmp q)) y ys (ap (λ (k : List ℕ × ℕ). is_eq (spot_cmp q k)) (sym key) ∙ b))
    (cases_Bool (is_eq (spot_cmp q x.0)))) in
    λ i. (key i, value i) ∷ rest i
