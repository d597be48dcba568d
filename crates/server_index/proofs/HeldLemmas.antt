-- How many files a session has, through the changes of the files.
use Rattle.std.proofs.Common.{◌≡◌, ℕ, suc, ◌+◌, true, false, List, [], ◌∷◌, refl, sym, ap, ◌∙◌, cond, ⊎_elim, length, arith, nat_eq, eq-eqb}
use Rattle.std.specs.Prelude.{Option, Some, None, filter, is_some}
use Rattle.std.specs.List.Sorted.{IsStrictlySortedBy}
use Rattle.std.specs.Map.{keys_of}
use Rattle.std.specs.declared.cmp.Ordering.{Ordering}
use Rattle.std.specs.declared.cmp.Ordering.TheVariants.{Less, Equal, Greater}
use Rattle.std.specs.Ordering.{is_eq, match_ordering}
use Rattle.std.specs.BTreeMap.{is_at, insert_entry}
use Rattle.std.proofs.lemmas.Bool.{cases_Bool, cond-true, cond-false, both_ways}
use Rattle.std.proofs.lemmas.Map.Entries.{lookup_head, lookup_tail}
use Rattle.std.proofs.lemmas.Map.Keys.{sorted_tail}
use Rattle.server_index.specs.Live.{File}
use Rattle.server_index.specs.Order.{spot_cmp}
use Rattle.server_index.specs.Files.{file_at}
use Rattle.server_index.specs.Offers.{held}
use Rattle.server_index.proofs.EntryLemmas.{below}

one : ℕ → (List ℕ × ℕ) → ℕ
one n p = cond (nat_eq p.1 n) 1 0

held-cons : (n : ℕ) (x : (List ℕ × ℕ) × File) (xs : List ((List ℕ × ℕ) × File)) → held n (x ∷ xs) ≡ one n x.0 + held n xs
unfolding one
held-cons n x xs = ⊎_elim
    (λ e. let at : filter (λ y. nat_eq y.0.1 n) (x ∷ xs) ≡ x ∷ filter (λ y. nat_eq y.0.1 n) xs = cond-true (nat_eq x.0.1 n) (x ∷ filter (λ y. nat_eq y.0.1 n) xs) (filter (λ y. nat_eq y.0.1 n) xs) e in
    let b : cond (nat_eq x.0.1 n) 1 0 ≡ 1 = cond-true (nat_eq x.0.1 n) 1 0 e in
    ap (length {A = (List ℕ × ℕ) × File}) at ∙ (let c : suc (held n xs) ≡ 1 + held n xs = omega arith in c) ∙ ap (λ (k : ℕ). k + held n xs) (sym b))
    (λ e. let at : filter (λ y. nat_eq y.0.1 n) (x ∷ xs) ≡ filter (λ y. nat_eq y.0.1 n) xs = cond-false (nat_eq x.0.1 n) (x ∷ filter (λ y. nat_eq y.0.1 n) xs) (filter (λ y. nat_eq y.0.1 n) xs) e in
    let b : cond (nat_eq x.0.1 n) 1 0 ≡ 0 = cond-false (nat_eq x.0.1 n) 1 0 e in
    ap (length {A = (List ℕ × ℕ) × File}) at ∙ (let c : held n xs ≡ 0 + held n xs = omega arith in c) ∙ ap (λ (k : ℕ). k + held n xs) (sym b))
    (cases_Bool (nat_eq x.0.1 n))

added : ℕ → (List ℕ × ℕ) → Option File → ℕ
added n p None = one n p
added n p (Some f) = 0

by_order : (n : ℕ) (p : List ℕ × ℕ) (v : File) (e : (List ℕ × ℕ) × File) (es : List ((List ℕ × ℕ) × File)) → IsStrictlySortedBy spot_cmp (keys_of (e ∷ es)) → held n (insert_entry spot_cmp es p v) ≡ added n p (file_at es p) + held n es
    → (o : Ordering) → spot_cmp p e.0 ≡ o → held n (match_ordering o ((p, v) ∷ e ∷ es) ((e.0, v) ∷ es) (e ∷ insert_entry spot_cmp es p v)) ≡ added n p (file_at (e ∷ es) p) + held n (e ∷ es)
unfolding added
by_order n p v e es s rest Less lt =
    let none : file_at (e ∷ es) p ≡ None = below p e es s lt in
    held-cons n (p, v) (e ∷ es) ∙ ap (λ (o : Option File). added n p o + held n (e ∷ es)) (sym none)
by_order n p v e es s rest Equal eq =
    let some : file_at (e ∷ es) p ≡ Some e.1 = lookup_head (is_at (spot_cmp p)) e es (ap is_eq eq) in
    held-cons n (e.0, v) es ∙ sym (held-cons n e es) ∙ (let c : held n (e ∷ es) ≡ 0 + held n (e ∷ es) = omega arith in c) ∙ ap (λ (o : Option File). added n p o + held n (e ∷ es)) (sym some)
by_order n p v e es s rest Greater gt =
    let same : file_at (e ∷ es) p ≡ file_at es p = lookup_tail (is_at (spot_cmp p)) e es (ap is_eq gt) in
    let sum : one n e.0 + (added n p (file_at es p) + held n es) ≡ added n p (file_at es p) + (one n e.0 + held n es) = omega arith in
    held-cons n e (insert_entry spot_cmp es p v) ∙ ap (λ (k : ℕ). one n e.0 + k) rest ∙ sum ∙ ap (λ (k : ℕ). added n p (file_at es p) + k) (sym (held-cons n e es)) ∙ ap (λ (o : Option File). added n p o + held n (e ∷ es)) (sym same)

held-insert : (n : ℕ) (p : List ℕ × ℕ) (v : File) (es : List ((List ℕ × ℕ) × File)) → IsStrictlySortedBy spot_cmp (keys_of es) → held n (insert_entry spot_cmp es p v) ≡ added n p (file_at es p) + held n es
unfolding added
held-insert n p v [] s = held-cons n (p, v) []
held-insert n p v (e ∷ es) s = by_order n p v e es s (held-insert n p v es (sorted_tail spot_cmp e.0 (keys_of es) s)) (spot_cmp p e.0) refl

-- a file that replaces another
pub held-again : (n : ℕ) (p : List ℕ × ℕ) (v : File) (es : List ((List ℕ × ℕ) × File)) → IsStrictlySortedBy spot_cmp (keys_of es) → (o : Option File) → file_at es p ≡ o → is_some o ≡ true → held n (insert_entry spot_cmp es p v) ≡ held n es
unfolding added
held-again n p v es s None at some = absurd (both_ways false refl some)
held-again n p v es s (Some f) at some = held-insert n p v es s ∙ ap (λ (o : Option File). added n p o + held n es) at ∙ (let c : 0 + held n es ≡ held n es = omega arith in c)

-- a new file of the session
pub held-new : (hash : List ℕ) (n : ℕ) (v : File) (es : List ((List ℕ × ℕ) × File)) → IsStrictlySortedBy spot_cmp (keys_of es) → (o : Option File) → file_at es (hash, n) ≡ o → is_some o ≡ false → held n (insert_entry spot_cmp es (hash, n) v) ≡ held n es + 1
unfolding added one
held-new hash n v es s None at none = held-insert n (hash, n) v es s ∙ ap (λ (o : Option File). added n (hash, n) o + held n es) at ∙ ap (λ (k : ℕ). k + held n es) (cond-true (nat_eq n n) 1 0 (eq-eqb n n refl)) ∙ (let c : 1 + held n es ≡ held n es + 1 = omega arith in c)
held-new hash n v es s (Some f) at none = absurd (both_ways true none refl)
