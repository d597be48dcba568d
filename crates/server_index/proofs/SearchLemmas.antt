-- The hits among the spots of one key are all hits.
use Rattle.std.proofs.Common.{◌≡◌, ℕ, Bool, true, false, List, [], ◌∷◌, refl, sym, ap, ◌∙◌, nat_eq, cond, ⊎_elim, inl, inr, ◌⊎◌}
use Rattle.std.specs.Prelude.{Option, Some, None, filter, ◌&&◌, ◌||◌}
use Rattle.std.specs.List.{list_any, list_all, AllByRecursion}
use Rattle.std.specs.BTreeSet.{BTreeSet, contains, IsSubset, Updates}
use Rattle.server_index.specs.Found.{is_above, is_hit}
use Rattle.server_index.specs.Postings.{lists}
use Rattle.server_index.specs.Words.{keys}
use Rattle.std.specs.List.Sorted.{IsStrictlySortedBy}
use Rattle.std.specs.Map.{keys_of}
use Rattle.std.specs.declared.cmp.Ordering.TheVariants.{Less, Equal}
use Rattle.std.specs.Ordering.{is_eq, nat_cmp, ordering_then}
use Rattle.std.specs.Cmp.{tied_then, nat_cmp_is}
use Rattle.std.specs.BTreeMap.{is_at}
use Rattle.std.proofs.lemmas.Bool.{and_from, cases_Bool, cond-true, cond-false, and_parts, and_left, or_left, or_right, eqb-true, eq-eqb, both_ways, false_from_ne_true}
use Rattle.std.proofs.lemmas.Map.Entries.{lookup_head, lookup_tail}
use Rattle.std.proofs.lemmas.Map.Lookups.{exact_unsigned, exact_pairs}
use Rattle.std.proofs.lemmas.Map.Views.{tells_apart, any-filter_same}
use Rattle.std.specs.declared.cmp.Ordering.{Ordering}
use Rattle.server_index.specs.Live.{File}
use Rattle.server_index.specs.Order.{spot_cmp, posting_cmp}
use Rattle.server_index.specs.Files.{file_at, IsListed}
use Rattle.server_index.proofs.PostingLemmas.{grows}
use Rattle.server_index.proofs.FileLemmas.{spot_exact, spot_same}
use Rattle.server_index.proofs.EntryLemmas.{keep, sorted_filter, lookup_filter, same_entries}
use Rattle.server_index.proofs.Joined.{joined, joined-other, joined-file, with_file}

nat_cmp-same : (a b : ℕ) → nat_eq a b ≡ true → nat_cmp a b ≡ Equal
nat_cmp-same a b e = sym (nat_cmp_is a b Equal (eqb-true a b e))

nat_cmp-other : (a b : ℕ) → nat_eq a b ≡ false → is_eq (nat_cmp b a) ≡ false
nat_cmp-other a b e = ⊎_elim
    (λ t. let same : b ≡ a = tells_apart exact_unsigned b a t in absurd (both_ways (nat_eq a b) e (eq-eqb a b (sym same))))
    (λ t. t)
    (cases_Bool (is_eq (nat_cmp b a)))

nat_eq-sym : (a b : ℕ) → nat_eq a b ≡ true → nat_eq b a ≡ true
nat_eq-sym a b e = eq-eqb b a (sym (eqb-true a b e))

both_none : {A : Type 0} (b : Bool) (o : Option A) → o ≡ None → cond b o None ≡ None
both_none true o e = e
both_none false o e = refl

-- ---- the files at the spots of a key
module _ (key : ℕ) (files : List ((List ℕ × ℕ) × File)) where
  -- one spot more
  with_file-lookup : (p : List ℕ × ℕ) (o : Option File) (es : List ((List ℕ × ℕ) × File)) (q : List ℕ × ℕ) (b : Bool) → o ≡ file_at files p → file_at es q ≡ cond b (file_at files q) None
      → file_at (with_file p o es) q ≡ cond (is_eq (spot_cmp q p) || b) (file_at files q) None
  with_file-lookup p None es q b is so = ⊎_elim
      (λ e. let none : file_at files q ≡ None = ap (file_at files) (spot_same q p e) ∙ sym is in
      so ∙ both_none b (file_at files q) none ∙ sym (both_none (is_eq (spot_cmp q p) || b) (file_at files q) none))
      (λ e. so ∙ ap (λ (t : Bool). cond (t || b) (file_at files q) None) (sym e))
      (cases_Bool (is_eq (spot_cmp q p)))
  with_file-lookup p (Some f) es q b is so = ⊎_elim
      (λ e. lookup_head (is_at (spot_cmp q)) (p, f) es e ∙ is ∙ ap (file_at files) (sym (spot_same q p e)) ∙ sym (cond-true _ (file_at files q) None (or_left _ b e)))
      (λ e. lookup_tail (is_at (spot_cmp q)) (p, f) es e ∙ so ∙ ap (λ (t : Bool). cond (t || b) (file_at files q) None) (sym e))
      (cases_Bool (is_eq (spot_cmp q p)))

  pub joined-lookup : (ks : List (ℕ × (List ℕ × ℕ))) (q : List ℕ × ℕ) → file_at (joined key files ks) q ≡ cond (list_any (is_at (posting_cmp (key, q))) ks) (file_at files q) None
  joined-lookup [] q = refl
  joined-lookup (k ∷ ks) q = ⊎_elim
      (λ e. let is : is_at (posting_cmp (key, q)) k ≡ is_eq (spot_cmp q k.1) = sym (tied_then (nat_cmp key k.0) (spot_cmp q k.1)) ∙ ap (λ (t : Bool). t && is_eq (spot_cmp q k.1)) (ap is_eq (nat_cmp-same key k.0 (nat_eq-sym k.0 key e))) in
      ap (λ (l : List ((List ℕ × ℕ) × File)). file_at l q) (joined-file key files k ks (file_at files k.1) e refl)
      ∙ with_file-lookup k.1 (file_at files k.1) (joined key files ks) q (list_any (is_at (posting_cmp (key, q))) ks) refl (joined-lookup ks q)
      ∙ ap (λ (t : Bool). cond (t || list_any (is_at (posting_cmp (key, q))) ks) (file_at files q) None) (sym is))
      (λ e. let is : is_at (posting_cmp (key, q)) k ≡ false = sym (tied_then (nat_cmp key k.0) (spot_cmp q k.1)) ∙ and_left _ _ (nat_cmp-other k.0 key e) in
      ap (λ (l : List ((List ℕ × ℕ) × File)). file_at l q) (joined-other key files k ks e) ∙ joined-lookup ks q ∙ ap (λ (t : Bool). cond (t || list_any (is_at (posting_cmp (key, q))) ks) (file_at files q) None) (sym is))
      (cases_Bool (nat_eq k.0 key))

  all_with_file : (P : List ℕ × ℕ → Type 0) (p : List ℕ × ℕ) (o : Option File) (es : List ((List ℕ × ℕ) × File)) → P p → AllByRecursion P (keys_of es) → AllByRecursion P (keys_of (with_file p o es))
  all_with_file P p None es h r = r
  all_with_file P p (Some f) es h r = (h, r)

  all_joined : (k : ℕ × (List ℕ × ℕ)) → nat_eq k.0 key ≡ true → (ks : List (ℕ × (List ℕ × ℕ))) → AllByRecursion (λ y. posting_cmp k y ≡ Less) ks → AllByRecursion (λ y. spot_cmp k.1 y ≡ Less) (keys_of (joined key files ks))
  all_joined k e [] h = tt
  all_joined k e (y ∷ ys) h = ⊎_elim
      (λ t. let same : nat_cmp k.0 y.0 ≡ Equal = nat_cmp-same k.0 y.0 (ap (λ (n : ℕ). nat_eq k.0 n) (eqb-true y.0 key t) ∙ e) in
      let less : spot_cmp k.1 y.1 ≡ Less = ap (λ (o : Ordering). ordering_then o (spot_cmp k.1 y.1)) (sym same) ∙ h.0 in
      let at : joined key files (y ∷ ys) ≡ with_file y.1 (file_at files y.1) (joined key files ys) = joined-file key files y ys (file_at files y.1) t refl in
      rw at (all_with_file (λ z. spot_cmp k.1 z ≡ Less) y.1 (file_at files y.1) (joined key files ys) less (all_joined k e ys h.1)))
      (λ t. let at : joined key files (y ∷ ys) ≡ joined key files ys = joined-other key files y ys t in rw at (all_joined k e ys h.1))
      (cases_Bool (nat_eq y.0 key))

  sorted_with_file : (p : List ℕ × ℕ) (o : Option File) (es : List ((List ℕ × ℕ) × File)) → AllByRecursion (λ y. spot_cmp p y ≡ Less) (keys_of es) → IsStrictlySortedBy spot_cmp (keys_of es) → IsStrictlySortedBy spot_cmp (keys_of (with_file p o es))
  unfolding IsStrictlySortedBy
  sorted_with_file p None es h r = r
  sorted_with_file p (Some f) es h r = (h, r)

  pub joined-sorted : (ks : List (ℕ × (List ℕ × ℕ))) → IsStrictlySortedBy posting_cmp ks → IsStrictlySortedBy spot_cmp (keys_of (joined key files ks))
  unfolding IsStrictlySortedBy
  joined-sorted [] s = tt
  joined-sorted (k ∷ ks) s = ⊎_elim
      (λ t. let at : joined key files (k ∷ ks) ≡ with_file k.1 (file_at files k.1) (joined key files ks) = joined-file key files k ks (file_at files k.1) t refl in
      rw at (sorted_with_file k.1 (file_at files k.1) (joined key files ks) (all_joined k t ks s.0) (joined-sorted ks s.1)))
      (λ t. let at : joined key files (k ∷ ks) ≡ joined key files ks = joined-other key files k ks t in rw at (joined-sorted ks s.1))
      (cases_Bool (nat_eq k.0 key))

  -- the hits at the spots of the key are all hits
  keep_joined : (p : (List ℕ × ℕ) × File → Bool) (q : List ℕ × ℕ) (b : Bool) (o : Option File) → ((f : File) → o ≡ Some f → p (q, f) ≡ true → b ≡ true) → keep p q (cond b o None) ≡ keep p q o
  keep_joined p q true o reach = refl
  keep_joined p q false None reach = refl
  keep_joined p q false (Some f) reach = ⊎_elim
      (λ t. absurd (both_ways false refl (reach f refl t)))
      (λ t. sym (cond-false (p (q, f)) (Some f) None t))
      (cases_Bool (p (q, f)))

  pub joined_all : (p : (List ℕ × ℕ) × File → Bool) (ks : List (ℕ × (List ℕ × ℕ))) → IsStrictlySortedBy spot_cmp (keys_of files) → IsStrictlySortedBy posting_cmp ks
      → ((q : List ℕ × ℕ) (f : File) → file_at files q ≡ Some f → p (q, f) ≡ true → list_any (is_at (posting_cmp (key, q))) ks ≡ true)
      → filter p (joined key files ks) ≡ filter p files
  joined_all p ks sf sk reach = same_entries (filter p (joined key files ks)) (filter p files) (sorted_filter p (joined key files ks) (joined-sorted ks sk)) (sorted_filter p files sf)
      (λ q. lookup_filter p q (joined key files ks) (joined-sorted ks sk) ∙ ap (keep p q) (joined-lookup ks q)
      ∙ keep_joined p q (list_any (is_at (posting_cmp (key, q))) ks) (file_at files q) (reach q) ∙ sym (lookup_filter p q files sf))

list_all_at : (p : ℕ → Bool) (key : ℕ) (ks : List ℕ) → list_all p ks ≡ true → list_any (nat_eq key) ks ≡ true → p key ≡ true
list_all_at p key [] all any = absurd (both_ways false refl any)
list_all_at p key (k ∷ ks) all any =
    let parts : (p k ≡ true) × (list_all p ks ≡ true) = and_parts _ _ all in
    ⊎_elim
    (λ e. ap p (eqb-true key k e) ∙ parts.0)
    (λ e. list_all_at p key ks parts.1 (ap (λ (t : Bool). t || list_any (nat_eq key) ks) (sym e) ∙ any))
    (cases_Bool (nat_eq key k))

posting_same : (k l : ℕ × (List ℕ × ℕ)) → is_eq (posting_cmp k l) ≡ true → k ≡ l
posting_same k l e = tells_apart (exact_pairs nat_cmp spot_cmp exact_unsigned spot_exact) k l e

-- each hit has a posting in the part of the postings that is gone through
pub reached : (files : List ((List ℕ × ℕ) × File)) (postings : BTreeSet (ℕ × (List ℕ × ℕ))) (meets : File → Bool) (after : Option (List ℕ)) (key : ℕ) (inside : ℕ × (List ℕ × ℕ) → Bool)
    → IsListed files postings → ((f : File) → meets f ≡ true → list_any (nat_eq key) (keys f.name) ≡ true) → ((q : List ℕ × ℕ) → is_above after q.0 ≡ true → inside (key, q) ≡ true)
    → (q : List ℕ × ℕ) (f : File) → file_at files q ≡ Some f → is_hit meets after (q, f) ≡ true → list_any (is_at (posting_cmp (key, q))) (filter inside postings.keys) ≡ true
reached files postings meets after key inside listed driven reaches q f at hit =
    let parts : (is_above after q.0 ≡ true) × (meets f ≡ true) = and_parts _ _ hit in
    let all : lists postings f.name q ≡ true = rw at at (listed q) in
    let there : contains posting_cmp postings (key, q) ≡ true = list_all_at (λ k. contains posting_cmp postings (k, q)) key (keys f.name) all (driven f parts.1) in
    any-filter_same (is_at (posting_cmp (key, q))) inside true (λ k e. ap inside (sym (posting_same (key, q) k e)) ∙ reaches q parts.0) postings.keys ∙ there

-- what each file that is asked for has, each hit's spot has
all_listed : (postings : BTreeSet (ℕ × (List ℕ × ℕ))) (key : ℕ) (q : List ℕ × ℕ) (ks others : List ℕ) → list_all (λ key. contains posting_cmp postings (key, q)) ks ≡ true → list_all (λ other. list_any (nat_eq other) ks) others ≡ true
    → list_all (λ other. nat_eq other key || contains posting_cmp postings (other, q)) others ≡ true
all_listed postings key q ks [] all has = refl
all_listed postings key q ks (o ∷ os) all has =
    let parts : (list_any (nat_eq o) ks ≡ true) × (list_all (λ other. list_any (nat_eq other) ks) os ≡ true) = and_parts _ _ has in
    and_from _ _ (or_right _ _ (list_all_at (λ k. contains posting_cmp postings (k, q)) o ks all parts.0)) (all_listed postings key q ks os all parts.1)

-- a spot that a list doesn't have is no hit
pub passed_over : (files : List ((List ℕ × ℕ) × File)) (postings : BTreeSet (ℕ × (List ℕ × ℕ))) (meets : File → Bool) (after : Option (List ℕ)) (key : ℕ) (others : List ℕ) (k : ℕ × (List ℕ × ℕ)) (ks : List (ℕ × (List ℕ × ℕ)))
    → IsListed files postings → ((f : File) → meets f ≡ true → list_all (λ other. list_any (nat_eq other) (keys f.name)) others ≡ true)
    → list_all (λ other. nat_eq other key || contains posting_cmp postings (other, k.1)) others ≡ false → (o : Option File) → file_at files k.1 ≡ o
    → filter (is_hit meets after) (joined key files (k ∷ ks)) ≡ filter (is_hit meets after) (joined key files ks)
passed_over files postings meets after key others k ks listed driven missing o at = ⊎_elim
    (λ e. ap (filter (is_hit meets after)) (joined-file key files k ks o e at) ∙ over o at)
    (λ e. ap (filter (is_hit meets after)) (joined-other key files k ks e))
    (cases_Bool (nat_eq k.0 key))
  where
    over : (p : Option File) → file_at files k.1 ≡ p → filter (is_hit meets after) (with_file k.1 p (joined key files ks)) ≡ filter (is_hit meets after) (joined key files ks)
    over None is = refl
    over (Some f) is = cond-false (is_hit meets after (k.1, f)) ((k.1, f) ∷ filter (is_hit meets after) (joined key files ks)) (filter (is_hit meets after) (joined key files ks))
        (false_from_ne_true _ (λ hit. both_ways (list_all (λ other. nat_eq other key || contains posting_cmp postings (other, k.1)) others) missing
        (all_listed postings key k.1 (keys f.name) others (rw is at (listed k.1)) (driven f (and_parts _ _ hit).1))))

-- one key alone
pub or_false : (b : Bool) → (b || false) ≡ true → b ≡ true
or_false true e = refl
or_false false e = e

-- ---- several lists as one
either : (a b : Bool) → (a || b) ≡ true → (a ≡ true) ⊎ (b ≡ true)
either true b e = inl refl
either false b e = inr e

-- what a posting has, a part of the postings has that it reaches
pub in_part : (postings : BTreeSet (ℕ × (List ℕ × ℕ))) (inside : ℕ × (List ℕ × ℕ) → Bool) (k : ℕ × (List ℕ × ℕ)) → inside k ≡ true → contains posting_cmp postings k ≡ true → list_any (is_at (posting_cmp k)) (filter inside postings.keys) ≡ true
in_part postings inside k reaches there = any-filter_same (is_at (posting_cmp k)) inside true (λ l e. ap inside (sym (posting_same k l e)) ∙ reaches) postings.keys ∙ there

-- one posting of a list more in the merged list
pub collect_step : (old new : BTreeSet (ℕ × (List ℕ × ℕ))) (x : ℕ × (List ℕ × ℕ)) (here rest : List (ℕ × (List ℕ × ℕ))) (key : ℕ) (q : List ℕ × ℕ) → Updates posting_cmp old new (1, x.1) true → here ≡ x ∷ rest
    → (list_any (is_at (posting_cmp (key, q))) here || contains posting_cmp old (1, q)) ≡ true → (list_any (is_at (posting_cmp (key, q))) rest || contains posting_cmp new (1, q)) ≡ true
collect_step old new x here rest key q put is before = ⊎_elim
    (λ t. let same : q ≡ x.1 = ap (λ (k : ℕ × (List ℕ × ℕ)). k.1) (posting_same (key, q) x t) in
    or_right _ _ (ap (λ (p : List ℕ × ℕ). contains posting_cmp new (1, p)) same ∙ put.1))
    (λ t. let cut : list_any (is_at (posting_cmp (key, q))) here ≡ list_any (is_at (posting_cmp (key, q))) rest = ap (list_any (is_at (posting_cmp (key, q)))) is ∙ ap (λ (b : Bool). b || list_any (is_at (posting_cmp (key, q))) rest) t in
    ⊎_elim
    (λ e. or_left _ _ (sym cut ∙ e))
    (λ e. or_right _ _ (grows old new (1, x.1) put (1, q) e))
    (either (list_any (is_at (posting_cmp (key, q))) here) (contains posting_cmp old (1, q)) before))
    (cases_Bool (is_at (posting_cmp (key, q)) x))

-- one list more in the merged list
pub merge_step : (postings old new : BTreeSet (ℕ × (List ℕ × ℕ))) (key : ℕ) (here rest : List ℕ) (q : List ℕ × ℕ) → here ≡ key ∷ rest → IsSubset posting_cmp old new
    → (contains posting_cmp postings (key, q) ≡ true → contains posting_cmp new (1, q) ≡ true)
    → (list_any (λ k. contains posting_cmp postings (k, q)) here || contains posting_cmp old (1, q)) ≡ true → (list_any (λ k. contains posting_cmp postings (k, q)) rest || contains posting_cmp new (1, q)) ≡ true
merge_step postings old new key here rest q is sub all before = ⊎_elim
    (λ e. ⊎_elim
    (λ t. or_right _ _ (all t))
    (λ t. or_left _ _ t)
    (either (contains posting_cmp postings (key, q)) (list_any (λ k. contains posting_cmp postings (k, q)) rest) (ap (list_any (λ k. contains posting_cmp postings (k, q))) (sym is) ∙ e)))
    (λ e. or_right _ _ (sub (1, q) e))
    (either (list_any (λ k. contains posting_cmp postings (k, q)) here) (contains posting_cmp old (1, q)) before)

-- a file that has one of the keys has its spot in one of their lists
any_listed : (postings : BTreeSet (ℕ × (List ℕ × ℕ))) (q : List ℕ × ℕ) (words some : List ℕ) → list_all (λ k. contains posting_cmp postings (k, q)) words ≡ true → list_any (λ k. list_any (nat_eq k) words) some ≡ true
    → list_any (λ k. contains posting_cmp postings (k, q)) some ≡ true
any_listed postings q words [] all has = has
any_listed postings q words (k ∷ ks) all has = ⊎_elim
    (λ e. or_left _ _ (list_all_at (λ l. contains posting_cmp postings (l, q)) k words all e))
    (λ e. or_right _ _ (any_listed postings q words ks all e))
    (either (list_any (nat_eq k) words) (list_any (λ l. list_any (nat_eq l) words) ks) has)

pub one_listed : (files : List ((List ℕ × ℕ) × File)) (postings : BTreeSet (ℕ × (List ℕ × ℕ))) (meets : File → Bool) (after : Option (List ℕ)) (some : List ℕ) → IsListed files postings
    → ((f : File) → meets f ≡ true → list_any (λ k. list_any (nat_eq k) (keys f.name)) some ≡ true)
    → (q : List ℕ × ℕ) (f : File) → file_at files q ≡ Some f → is_hit meets after (q, f) ≡ true → (is_above after q.0 ≡ true) × (list_any (λ k. contains posting_cmp postings (k, q)) some ≡ true)
one_listed files postings meets after some listed driven q f at hit =
    let parts : (is_above after q.0 ≡ true) × (meets f ≡ true) = and_parts _ _ hit in
    (parts.0, any_listed postings q (keys f.name) some (rw at at (listed q)) (driven f parts.1))
