-- That each file is listed, through the changes of the files and of the postings.
use Rattle.std.proofs.Common.{◌≡◌, ℕ, Bool, true, false, List, [], ◌∷◌, refl, sym, ap, ◌∙◌, nat_eq, ⊎_elim, subst, cond, eq-eqb}
use Rattle.std.specs.Prelude.{Option, Some, None, Result, Ok, Err, OnOk, is_err}
use Rattle.std.specs.Option.{IfSome}
use Rattle.std.specs.List.{list_all, list_any}
use Rattle.std.specs.Ordering.{is_eq, nat_cmp}
use Rattle.std.specs.BTreeMap.{is_at}
use Rattle.std.specs.BTreeSet.{BTreeSet, contains, IsSubset}
use Rattle.std.proofs.lemmas.Bool.{cases_Bool, or_left, or_right, cond-true, cond-false, both_ways}
use Rattle.std.proofs.lemmas.Map.Lookups.{exact_unsigned, exact_bytes, exact_pairs, CmpEqualImpliesEq}
use Rattle.std.proofs.lemmas.Map.Views.{tells_apart}
use Rattle.server_index.specs.Live.{File}
use Rattle.server_index.specs.Order.{hash_cmp, spot_cmp, posting_cmp}
use Rattle.server_index.specs.Postings.{lists}
use Rattle.server_index.specs.Files.{file_at, IsListed}
use Rattle.server_index.specs.Words.{keys}
use Rattle.server_index.proofs.PostingLemmas.{lists_more}

pub spot_exact : CmpEqualImpliesEq spot_cmp
spot_exact = exact_pairs hash_cmp nat_cmp exact_bytes exact_unsigned

pub spot_same : (p q : List ℕ × ℕ) → is_eq (spot_cmp p q) ≡ true → p ≡ q
spot_same p q e = tells_apart spot_exact p q e

pub if_some_map : {A : Type 0} (P Q : A → Type 0) (o : Option A) → ((x : A) → P x → Q x) → IfSome o P → IfSome o Q
if_some_map P Q None f h = tt
if_some_map P Q (Some x) f h = f x h

list_all_same : (c d : ℕ → Bool) (ks : List ℕ) → ((key : ℕ) → list_any (nat_eq key) ks ≡ true → d key ≡ c key) → list_all d ks ≡ list_all c ks
list_all_same c d [] same = refl
list_all_same c d (k ∷ ks) same =
    let one : d k ≡ c k = same k (or_left _ _ (eq-eqb k k refl)) in
    let more : list_all d ks ≡ list_all c ks = list_all_same c d ks (λ key h. same key (or_right _ _ h)) in
    rw (one, more)

pub listed_more : (files : List ((List ℕ × ℕ) × File)) (old new : BTreeSet (ℕ × (List ℕ × ℕ))) → IsListed files old → IsSubset posting_cmp old new → IsListed files new
listed_more files old new l sub q = if_some_map _ _ (file_at files q) (λ f h. lists_more old new q sub (keys f.name) h) (l q)

pub listed_same : (old new : List ((List ℕ × ℕ) × File)) (postings : BTreeSet (ℕ × (List ℕ × ℕ))) → new ≡ old → IsListed old postings → IsListed new postings
listed_same old new postings e l q = rw e (l q)

module _ (files : List ((List ℕ × ℕ) × File)) (old new : BTreeSet (ℕ × (List ℕ × ℕ))) (spot : List ℕ × ℕ)
    (others : (q : ℕ × (List ℕ × ℕ)) → is_eq (spot_cmp spot q.1) ≡ false → contains posting_cmp new q ≡ contains posting_cmp old q) where
  apart : (q : List ℕ × ℕ) → is_eq (spot_cmp spot q) ≡ false → (f : File) → lists new f.name q ≡ lists old f.name q
  apart q ne f = list_all_same (λ key. contains posting_cmp old (key, q)) (λ key. contains posting_cmp new (key, q)) (keys f.name) (λ key _. others (key, q) ne)

  pub listed_beside_none : file_at files spot ≡ None → IsListed files old → IsListed files new
  listed_beside_none none l q = ⊎_elim
      (λ e. let at : file_at files q ≡ None = ap (file_at files) (sym (spot_same spot q e)) ∙ none in rw at tt)
      (λ ne. if_some_map _ _ (file_at files q) (λ f h. apart q ne f ∙ h) (l q))
      (cases_Bool (is_eq (spot_cmp spot q)))

  pub listed_beside : (f : File) → file_at files spot ≡ Some f
      → ((key : ℕ) → list_any (nat_eq key) (keys f.name) ≡ true → contains posting_cmp new (key, spot) ≡ contains posting_cmp old (key, spot))
      → IsListed files old → IsListed files new
  listed_beside f found kept l q = ⊎_elim
      (λ e. subst (λ (p : List ℕ × ℕ). IfSome (file_at files p) (λ g. lists new g.name p ≡ true)) (spot_same spot q e)
      (let before : lists old f.name spot ≡ true = rw found at (l spot) in
      rw found (list_all_same (λ key. contains posting_cmp old (key, spot)) (λ key. contains posting_cmp new (key, spot)) (keys f.name) kept ∙ before)))
      (λ ne. if_some_map _ _ (file_at files q) (λ g h. apart q ne g ∙ h) (l q))
      (cases_Bool (is_eq (spot_cmp spot q)))

pub listed_put : (old new : List ((List ℕ × ℕ) × File)) (postings : BTreeSet (ℕ × (List ℕ × ℕ))) (spot : List ℕ × ℕ) (f : File)
    → ((q : List ℕ × ℕ) → file_at new q ≡ cond (is_at (spot_cmp spot) q) (Some f) (file_at old q)) → lists postings f.name spot ≡ true → IsListed old postings → IsListed new postings
listed_put old new postings spot f u here l q = ⊎_elim
    (λ e. let at : file_at new q ≡ Some f = u q ∙ cond-true _ _ _ e in rw at (subst (λ (p : List ℕ × ℕ). lists postings f.name p ≡ true) (spot_same spot q e) here))
    (λ ne. let at : file_at new q ≡ file_at old q = u q ∙ cond-false _ _ _ ne in rw at (l q))
    (cases_Bool (is_eq (spot_cmp spot q)))

pub listed_removed : (old new : List ((List ℕ × ℕ) × File)) (postings : BTreeSet (ℕ × (List ℕ × ℕ))) (spot : List ℕ × ℕ)
    → ((q : List ℕ × ℕ) → file_at new q ≡ cond (is_at (spot_cmp spot) q) None (file_at old q)) → IsListed old postings → IsListed new postings
listed_removed old new postings spot u l q = ⊎_elim
    (λ e. let at : file_at new q ≡ None = u q ∙ cond-true _ _ _ e in rw at tt)
    (λ ne. let at : file_at new q ≡ file_at old q = u q ∙ cond-false _ _ _ ne in rw at (l q))
    (cases_Bool (is_eq (spot_cmp spot q)))

pub ok_since : {A E : Type 0} (r : Result A E) (P : Type 0) → OnOk r P → is_err r ≡ false → P
ok_since (Ok x) P h e = h
ok_since (Err x) P h e = absurd (both_ways true e refl)
