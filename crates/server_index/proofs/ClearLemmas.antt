-- A session's files are gone.
use Rattle.std.proofs.Common.{◌≡◌, ℕ, Bool, true, false, List, [], ◌∷◌, refl, sym, ap, ◌∙◌, ⊎_elim, nat_eq, eq-eqb}
use Rattle.std.specs.Prelude.{Option, Some, None, IsSome, filter, not, ◌||◌}
use Rattle.std.specs.List.{list_any}
use Rattle.std.specs.List.Sorted.{IsStrictlySortedBy}
use Rattle.std.specs.Map.{keys_of}
use Rattle.std.specs.Cmp.Lexicographic.{pointwise}
use Rattle.std.specs.BTreeMap.{is_at}
use Rattle.std.proofs.lemmas.Bool.{cases_Bool, cond-true, cond-false, both_ways, and_parts, eqb-true}
use Rattle.std.proofs.lemmas.Cmp.{eq_by_cmp_equiv}
use Rattle.server_index.specs.Live.{File}
use Rattle.server_index.specs.Order.{spot_cmp}
use Rattle.server_index.specs.Files.{file_at}
use Rattle.server_index.specs.Offers.{replaced, cleared, IsOwned}
use Rattle.server_index.proofs.FileLemmas.{spot_same}
use Rattle.server_index.proofs.EntryLemmas.{keep, sorted_filter, lookup_filter, same_entries, spot_total}

pub same_hash : (a b : List ℕ) → pointwise nat_eq a b ≡ true → a ≡ b
same_hash [] [] e = refl
same_hash [] (y ∷ ys) e = absurd (both_ways false refl e)
same_hash (x ∷ xs) [] e = absurd (both_ways false refl e)
same_hash (x ∷ xs) (y ∷ ys) e =
    let parts : (nat_eq x y ≡ true) × (pointwise nat_eq xs ys ≡ true) = and_parts _ _ e in
    let one : x ≡ y = eqb-true x y parts.0 in
    let more : xs ≡ ys = same_hash xs ys parts.1 in
    λ i. one i ∷ more i

pub clear_step : (number : ℕ) (hash : List ℕ) (rest here : List (List ℕ)) (f g : List ℕ × ℕ → Option File) (q : List ℕ × ℕ) → here ≡ hash ∷ rest → ((p : List ℕ × ℕ) → g p ≡ replaced f (hash, number) None p)
    → cleared number rest g q ≡ cleared number here f q
clear_step number hash rest here f g q is gone =
    let same : g ≡ replaced f (hash, number) None = λ i p. gone p i in
    ap (λ (h : List ℕ × ℕ → Option File). cleared number rest h q) same ∙ ap (λ (l : List (List ℕ)). cleared number l f q) (sym is)

-- what is nowhere stays nowhere
cleared_none : (number : ℕ) (hashes : List (List ℕ)) (f : List ℕ × ℕ → Option File) (q : List ℕ × ℕ) → f q ≡ None → cleared number hashes f q ≡ None
cleared_none number [] f q e = e
cleared_none number (h ∷ hs) f q e = cleared_none number hs (replaced f (h, number) None) q (⊎_elim (λ t. cond-true _ None (f q) t) (λ t. cond-false _ None (f q) t ∙ e) (cases_Bool (is_at (spot_cmp (h, number)) q)))

-- another session's files stay
pub cleared_other : (number : ℕ) (hashes : List (List ℕ)) (f : List ℕ × ℕ → Option File) (q : List ℕ × ℕ) → nat_eq q.1 number ≡ false → cleared number hashes f q ≡ f q
cleared_other number [] f q e = refl
cleared_other number (h ∷ hs) f q e =
    cleared_other number hs (replaced f (h, number) None) q e ∙ ⊎_elim
    (λ t. absurd (both_ways (nat_eq q.1 number) e (eq-eqb q.1 number (sym (ap (λ (p : List ℕ × ℕ). p.1) (spot_same (h, number) q t))))))
    (λ t. cond-false _ None (f q) t)
    (cases_Bool (is_at (spot_cmp (h, number)) q))

-- a file at a hash of the list is gone
cleared_own : (number : ℕ) (hashes : List (List ℕ)) (f : List ℕ × ℕ → Option File) (hash : List ℕ) → list_any (pointwise nat_eq hash) hashes ≡ true → cleared number hashes f (hash, number) ≡ None
cleared_own number [] f hash e = absurd (both_ways false refl e)
cleared_own number (h ∷ hs) f hash e = ⊎_elim
    (λ t. let same : hash ≡ h = same_hash hash h t in
    cleared_none number hs (replaced f (h, number) None) (hash, number) (cond-true _ None (f (hash, number)) (ap (λ (k : List ℕ). is_at (spot_cmp (h, number)) (k, number)) same ∙ (eq_by_cmp_equiv spot_total).refl (h, number))))
    (λ t. cleared_own number hs (replaced f (h, number) None) hash (ap (λ (b : Bool). b || list_any (pointwise nat_eq hash) hs) (sym t) ∙ e))
    (cases_Bool (pointwise nat_eq hash h))

keep_others : (number : ℕ) (q : List ℕ × ℕ) (o : Option File) → nat_eq q.1 number ≡ false → keep (λ x. not (nat_eq x.0.1 number)) q o ≡ o
keep_others number q None e = refl
keep_others number q (Some f) e = cond-true _ (Some f) None (ap not e)

keep_none : (number : ℕ) (q : List ℕ × ℕ) (o : Option File) → nat_eq q.1 number ≡ true → keep (λ x. not (nat_eq x.0.1 number)) q o ≡ None
keep_none number q None e = refl
keep_none number q (Some f) e = cond-false _ (Some f) None (ap not e)

pub cleared_all : (number : ℕ) (hashes : List (List ℕ)) (files : List ((List ℕ × ℕ) × File)) → IsOwned number hashes files → (q : List ℕ × ℕ) → nat_eq q.1 number ≡ true → (o : Option File) → file_at files q ≡ o → cleared number hashes (file_at files) q ≡ None
cleared_all number hashes files owned q e None at = cleared_none number hashes (file_at files) q at
cleared_all number hashes files owned q e (Some f) at =
    let same : q ≡ (q.0, number) = ap (λ (n : ℕ). (q.0, n)) (eqb-true q.1 number e) in
    let there : IsSome (file_at files (q.0, number)) = rw (ap (file_at files) (sym same) ∙ at) refl in
    ap (cleared number hashes (file_at files)) same ∙ cleared_own number hashes (file_at files) q.0 (owned q.0 there)

pub cleared_files : (number : ℕ) (hashes : List (List ℕ)) (old new : List ((List ℕ × ℕ) × File)) → IsOwned number hashes old → IsStrictlySortedBy spot_cmp (keys_of old) → IsStrictlySortedBy spot_cmp (keys_of new)
    → ((q : List ℕ × ℕ) → file_at new q ≡ cleared number hashes (file_at old) q) → new ≡ filter (λ x. not (nat_eq x.0.1 number)) old
cleared_files number hashes old new owned so sn is = same_entries new (filter (λ x. not (nat_eq x.0.1 number)) old) sn (sorted_filter (λ x. not (nat_eq x.0.1 number)) old so)
    (λ q. is q ∙ ⊎_elim
    (λ e. cleared_all number hashes old owned q e (file_at old q) refl ∙ sym (keep_none number q (file_at old q) e))
    (λ e. cleared_other number hashes (file_at old) q e ∙ sym (keep_others number q (file_at old q) e))
    (cases_Bool (nat_eq q.1 number)) ∙ sym (lookup_filter (λ x. not (nat_eq x.0.1 number)) q old so))
