-- Postings that no file has any more, through the changes of the files and of the postings.
use Rattle.std.proofs.Common.{◌≡◌, ℕ, true, false, List, [], ◌∷◌, ◌++◌, ◌⊎◌, refl, sym, ap, ◌∙◌, subst, ⊎_elim, nat_eq, eq-eqb}
use Rattle.std.specs.Prelude.{Option, Some, None, ◌||◌}
use Rattle.std.specs.List.{list_any}
use Rattle.std.specs.Ordering.{is_eq, nat_cmp}
use Rattle.std.specs.BTreeMap.{is_at}
use Rattle.std.specs.BTreeSet.{BTreeSet, contains, IsSubset, Updates}
use Rattle.std.proofs.lemmas.Bool.{cases_Bool, or_cases, or_left, or_right, and_parts, and_from, and_left, cond-true, cond-false, both_ways, eqb-true}
use Rattle.std.proofs.lemmas.Cmp.{eq_by_cmp_equiv}
use Rattle.std.proofs.lemmas.List.Folds.{list_any-append}
use Rattle.std.proofs.lemmas.Map.Lookups.{exact_unsigned, exact_pairs}
use Rattle.std.proofs.lemmas.Map.Views.{tells_apart}
use Rattle.server_index.specs.Live.{File}
use Rattle.server_index.specs.Order.{spot_cmp, posting_cmp}
use Rattle.server_index.specs.Offers.{replaced}
use Rattle.server_index.specs.Postings.{has_word, is_left_by, is_of, leaves, names}
use Rattle.server_index.proofs.EntryLemmas.{spot_total}
use Rattle.server_index.proofs.FileLemmas.{spot_exact, spot_same}

posting_same : (p q : ℕ × (List ℕ × ℕ)) → is_eq (posting_cmp p q) ≡ true → p ≡ q
posting_same p q e = tells_apart (exact_pairs nat_cmp spot_cmp exact_unsigned spot_exact) p q e

-- each posting is of a file that f tells, or of one of those that are gone
abbrev pub Swept : (List ℕ × ℕ → Option File) → BTreeSet (ℕ × (List ℕ × ℕ)) → List ((List ℕ × ℕ) × Option File) → Type 0
Swept f postings gone = (q : ℕ × (List ℕ × ℕ)) → contains posting_cmp postings q ≡ true → (names (f q.1) q.0 || leaves gone q) ≡ true

-- the postings of a name were added
abbrev pub Added : BTreeSet (ℕ × (List ℕ × ℕ)) → BTreeSet (ℕ × (List ℕ × ℕ)) → List ℕ × ℕ → List ℕ → Type 0
Added old new spot name = (q : ℕ × (List ℕ × ℕ)) → contains posting_cmp new q ≡ true → (contains posting_cmp old q || is_of spot name q) ≡ true

pub leaves_left : (a b : List ((List ℕ × ℕ) × Option File)) (q : ℕ × (List ℕ × ℕ)) → leaves a q ≡ true → leaves (a ++ b) q ≡ true
leaves_left a b q e = list_any-append (λ x. is_left_by x q) a b ∙ or_left _ _ e

pub leaves_right : (a b : List ((List ℕ × ℕ) × Option File)) (q : ℕ × (List ℕ × ℕ)) → leaves b q ≡ true → leaves (a ++ b) q ≡ true
leaves_right a b q e = list_any-append (λ x. is_left_by x q) a b ∙ or_right _ _ e

pub leaves_cases : (a b : List ((List ℕ × ℕ) × Option File)) (q : ℕ × (List ℕ × ℕ)) → leaves (a ++ b) q ≡ true → (leaves a q ≡ true) ⊎ (leaves b q ≡ true)
leaves_cases a b q e = or_cases _ _ (sym (list_any-append (λ x. is_left_by x q) a b) ∙ e)

pub leaves_one : (x : (List ℕ × ℕ) × Option File) (q : ℕ × (List ℕ × ℕ)) → leaves (x ∷ []) q ≡ true → is_left_by x q ≡ true
leaves_one x q e = ⊎_elim (λ h. h) (λ h. absurd (both_ways false refl h)) (or_cases (is_left_by x q) false e)

-- the list of what is gone, read another way
pub swept_alike : (f g : List ℕ × ℕ → Option File) (postings : BTreeSet (ℕ × (List ℕ × ℕ))) (gone left : List ((List ℕ × ℕ) × Option File)) → ((q : List ℕ × ℕ) → g q ≡ f q)
    → ((q : ℕ × (List ℕ × ℕ)) → leaves gone q ≡ true → leaves left q ≡ true) → Swept f postings gone → Swept g postings left
swept_alike f g postings gone left same more s q h = ⊎_elim
    (λ n. or_left _ _ (ap (λ (o : Option File). names o q.0) (same q.1) ∙ n))
    (λ l. or_right _ _ (more q l))
    (or_cases _ _ (s q h))

-- a file was put at a spot, and the one that stood there is gone
module _ (f g : List ℕ × ℕ → Option File) (old new : BTreeSet (ℕ × (List ℕ × ℕ))) (changes after displaced : List ((List ℕ × ℕ) × Option File)) (spot : List ℕ × ℕ) (was : Option File) (file : File)
    (put : (q : List ℕ × ℕ) → g q ≡ replaced f spot (Some file) q) (is : was ≡ f spot) (noted : after ≡ changes ++ (spot, was) ∷ []) (added : Added old new spot file.name) (swept : Swept f old (changes ++ displaced)) where
  keeps : (q : ℕ × (List ℕ × ℕ)) → leaves (changes ++ displaced) q ≡ true → leaves (after ++ displaced) q ≡ true
  keeps q e = ⊎_elim
      (λ l. leaves_left after displaced q (ap (λ (x : List ((List ℕ × ℕ) × Option File)). leaves x q) noted ∙ leaves_left changes ((spot, was) ∷ []) q l))
      (λ l. leaves_right after displaced q l)
      (leaves_cases changes displaced q e)

  here : (q : ℕ × (List ℕ × ℕ)) → is_at (spot_cmp spot) q.1 ≡ true → names (f q.1) q.0 ≡ true → leaves (after ++ displaced) q ≡ true
  here q e n = leaves_left after displaced q (ap (λ (x : List ((List ℕ × ℕ) × Option File)). leaves x q) noted
      ∙ leaves_right changes ((spot, was) ∷ []) q (or_left _ _ (and_from _ _ e (ap (λ (o : Option File). names o q.0) (is ∙ ap f (spot_same spot q.1 e)) ∙ n))))

  pub swept_put : Swept g new (after ++ displaced)
  swept_put q h = ⊎_elim
      (λ e. let at : g q.1 ≡ Some file = put q.1 ∙ cond-true _ (Some file) (f q.1) e in ⊎_elim
      (λ o. or_right _ _ (⊎_elim (λ n. here q e n) (λ l. keeps q l) (or_cases _ _ (swept q o))))
      (λ o. or_left _ _ (ap (λ (x : Option File). names x q.0) at ∙ (and_parts _ _ o).1))
      (or_cases _ _ (added q h)))
      (λ e. let at : g q.1 ≡ f q.1 = put q.1 ∙ cond-false _ (Some file) (f q.1) e in ⊎_elim
      (λ o. ⊎_elim (λ n. or_left _ _ (ap (λ (x : Option File). names x q.0) at ∙ n)) (λ l. or_right _ _ (keeps q l)) (or_cases _ _ (swept q o)))
      (λ o. absurd (both_ways (is_of spot file.name q) (and_left _ _ e) o))
      (or_cases _ _ (added q h)))
      (cases_Bool (is_at (spot_cmp spot) q.1))

-- some words of a file that was refused have its spot
pub swept_refused : (f g : List ℕ × ℕ → Option File) (old new : BTreeSet (ℕ × (List ℕ × ℕ))) (changes displaced after : List ((List ℕ × ℕ) × Option File)) (spot : List ℕ × ℕ) (file : File)
    → ((q : List ℕ × ℕ) → g q ≡ f q) → after ≡ displaced ++ (spot, Some file) ∷ [] → Added old new spot file.name → Swept f old (changes ++ displaced) → Swept g new (changes ++ after)
swept_refused f g old new changes displaced after spot file same noted added swept q h = ⊎_elim
    (λ o. swept_alike f g old (changes ++ displaced) (changes ++ after) same (λ p e. ⊎_elim
    (λ l. leaves_left changes after p l)
    (λ l. leaves_right changes after p (ap (λ (x : List ((List ℕ × ℕ) × Option File)). leaves x p) noted ∙ leaves_left displaced ((spot, Some file) ∷ []) p l))
    (leaves_cases changes displaced p e)) swept q o)
    (λ o. or_right _ _ (leaves_right changes after q (ap (λ (x : List ((List ℕ × ℕ) × Option File)). leaves x q) noted ∙ leaves_right displaced ((spot, Some file) ∷ []) q (or_left _ _ o))))
    (or_cases _ _ (added q h))

-- a change was taken back
module _ (f g : List ℕ × ℕ → Option File) (postings : BTreeSet (ℕ × (List ℕ × ℕ))) (before changes displaced after : List ((List ℕ × ℕ) × Option File)) (spot : List ℕ × ℕ) (old current : Option File)
    (is : before ≡ changes ++ (spot, old) ∷ []) (back : (q : List ℕ × ℕ) → g q ≡ replaced f spot old q) (was : current ≡ f spot) (noted : after ≡ displaced ++ (spot, current) ∷ []) where
  gone_here : (q : ℕ × (List ℕ × ℕ)) → is_at (spot_cmp spot) q.1 ≡ true → names (f q.1) q.0 ≡ true → leaves (changes ++ after) q ≡ true
  gone_here q e n = leaves_right changes after q (ap (λ (x : List ((List ℕ × ℕ) × Option File)). leaves x q) noted
      ∙ leaves_right displaced ((spot, current) ∷ []) q (or_left _ _ (and_from _ _ e (ap (λ (o : Option File). names o q.0) (was ∙ ap f (spot_same spot q.1 e)) ∙ n))))

  back_here : (q : ℕ × (List ℕ × ℕ)) → is_left_by (spot, old) q ≡ true → names (g q.1) q.0 ≡ true
  back_here q e =
      let parts : (is_at (spot_cmp spot) q.1 ≡ true) × (names old q.0 ≡ true) = and_parts _ _ e in
      ap (λ (o : Option File). names o q.0) (back q.1 ∙ cond-true _ old (f q.1) parts.0) ∙ parts.1

  left_over : (q : ℕ × (List ℕ × ℕ)) → leaves (before ++ displaced) q ≡ true → (names (g q.1) q.0 || leaves (changes ++ after) q) ≡ true
  left_over q e = ⊎_elim
      (λ l. ⊎_elim
      (λ c. or_right _ _ (leaves_left changes after q c))
      (λ c. or_left _ _ (back_here q (leaves_one (spot, old) q c)))
      (leaves_cases changes ((spot, old) ∷ []) q (ap (λ (x : List ((List ℕ × ℕ) × Option File)). leaves x q) (sym is) ∙ l)))
      (λ l. or_right _ _ (leaves_right changes after q (ap (λ (x : List ((List ℕ × ℕ) × Option File)). leaves x q) noted ∙ leaves_left displaced ((spot, current) ∷ []) q l)))
      (leaves_cases before displaced q e)

  pub swept_back : Swept f postings (before ++ displaced) → Swept g postings (changes ++ after)
  swept_back swept q h = ⊎_elim
      (λ n. ⊎_elim
      (λ e. or_right _ _ (gone_here q e n))
      (λ e. or_left _ _ (ap (λ (o : Option File). names o q.0) (back q.1 ∙ cond-false _ old (f q.1) e) ∙ n))
      (cases_Bool (is_at (spot_cmp spot) q.1)))
      (λ l. left_over q l)
      (or_cases _ _ (swept q h))

-- a file that is gone was swept away
pub swept_away : (f : List ℕ × ℕ → Option File) (old new : BTreeSet (ℕ × (List ℕ × ℕ))) (before gone : List ((List ℕ × ℕ) × Option File)) (spot : List ℕ × ℕ) (file : File)
    → before ≡ gone ++ (spot, Some file) ∷ [] → IsSubset posting_cmp new old
    → ((key : ℕ) → has_word file.name key ≡ true → contains posting_cmp new (key, spot) ≡ true → names (f spot) key ≡ true) → Swept f old before → Swept f new gone
swept_away f old new before gone spot file is fewer clean swept q h = ⊎_elim
    (λ n. or_left _ _ n)
    (λ l. ⊎_elim
    (λ c. or_right _ _ c)
    (λ c. let parts : (is_at (spot_cmp spot) q.1 ≡ true) × (has_word file.name q.0 ≡ true) = and_parts _ _ (leaves_one (spot, Some file) q c) in
    let same : spot ≡ q.1 = spot_same spot q.1 parts.0 in
    let still : contains posting_cmp new (q.0, spot) ≡ true = ap (λ (p : List ℕ × ℕ). contains posting_cmp new (q.0, p)) same ∙ h in
    or_left _ _ (ap (λ (p : List ℕ × ℕ). names (f p) q.0) (sym same) ∙ clean q.0 parts.1 still))
    (leaves_cases gone ((spot, Some file) ∷ []) q (ap (λ (x : List ((List ℕ × ℕ) × Option File)). leaves x q) (sym is) ∙ l)))
    (or_cases _ _ (swept q (fewer q h)))

-- no file was there
pub swept_none : (f : List ℕ × ℕ → Option File) (postings : BTreeSet (ℕ × (List ℕ × ℕ))) (before gone : List ((List ℕ × ℕ) × Option File)) (spot : List ℕ × ℕ)
    → before ≡ gone ++ (spot, None) ∷ [] → Swept f postings before → Swept f postings gone
swept_none f postings before gone spot is swept q h = ⊎_elim
    (λ n. or_left _ _ n)
    (λ l. ⊎_elim
    (λ c. or_right _ _ c)
    (λ c. absurd (both_ways false refl (and_parts _ _ (leaves_one (spot, None) q c)).1))
    (leaves_cases gone ((spot, None) ∷ []) q (ap (λ (x : List ((List ℕ × ℕ) × Option File)). leaves x q) (sym is) ∙ l)))
    (or_cases _ _ (swept q h))

names_now : (f : List ℕ × ℕ → Option File) (q : ℕ × (List ℕ × ℕ)) → (names (f q.1) q.0 || leaves [] q) ≡ true → names (f q.1) q.0 ≡ true
names_now f q e = ⊎_elim (λ n. n) (λ l. absurd (both_ways false refl l)) (or_cases _ _ e)

-- a file was taken away
pub swept_removed : (f g : List ℕ × ℕ → Option File) (old new : BTreeSet (ℕ × (List ℕ × ℕ))) (spot : List ℕ × ℕ) (file : File)
    → ((q : List ℕ × ℕ) → g q ≡ replaced f spot None q) → f spot ≡ Some file → IsSubset posting_cmp new old
    → ((key : ℕ) → has_word file.name key ≡ true → contains posting_cmp new (key, spot) ≡ true → names (g spot) key ≡ true) → Swept f old [] → Swept g new []
swept_removed f g old new spot file gone was fewer clean swept q h =
    let had : names (f q.1) q.0 ≡ true = names_now f q (swept q (fewer q h)) in
    or_left _ _ (⊎_elim
    (λ e. let same : spot ≡ q.1 = spot_same spot q.1 e in
    let word : has_word file.name q.0 ≡ true = ap (λ (o : Option File). names o q.0) (sym (ap f (sym same) ∙ was)) ∙ had in
    let still : contains posting_cmp new (q.0, spot) ≡ true = ap (λ (p : List ℕ × ℕ). contains posting_cmp new (q.0, p)) same ∙ h in
    ap (λ (p : List ℕ × ℕ). names (g p) q.0) (sym same) ∙ clean q.0 word still)
    (λ e. ap (λ (o : Option File). names o q.0) (gone q.1 ∙ cond-false _ None (f q.1) e) ∙ had)
    (cases_Bool (is_at (spot_cmp spot) q.1)))

-- no file was there to be taken away
pub swept_absent : (f g : List ℕ × ℕ → Option File) (postings : BTreeSet (ℕ × (List ℕ × ℕ))) (spot : List ℕ × ℕ)
    → ((q : List ℕ × ℕ) → g q ≡ replaced f spot None q) → f spot ≡ None → Swept f postings [] → Swept g postings []
swept_absent f g postings spot gone was swept q h =
    let had : names (f q.1) q.0 ≡ true = names_now f q (swept q h) in
    or_left _ _ (⊎_elim
    (λ e. let at : f q.1 ≡ None = ap f (sym (spot_same spot q.1 e)) ∙ was in absurd (both_ways false refl (ap (λ (o : Option File). names o q.0) (sym at) ∙ had)))
    (λ e. ap (λ (o : Option File). names o q.0) (gone q.1 ∙ cond-false _ None (f q.1) e) ∙ had)
    (cases_Bool (is_at (spot_cmp spot) q.1)))

-- ---- one key more, or one fewer
pub add_one : (first old new : BTreeSet (ℕ × (List ℕ × ℕ))) (key : ℕ) (spot : List ℕ × ℕ) (name : List ℕ) → Updates posting_cmp old new (key, spot) true → has_word name key ≡ true → Added first old spot name → Added first new spot name
add_one first old new key spot name u word before q h = ⊎_elim
    (λ e. let same : (key, spot) ≡ q = posting_same (key, spot) q e in
    or_right _ _ (subst (λ (p : ℕ × (List ℕ × ℕ)). is_of spot name p ≡ true) same (and_from _ _ ((eq_by_cmp_equiv spot_total).refl spot) word)))
    (λ e. before q (sym (u.2 q e) ∙ h))
    (cases_Bool (is_at (posting_cmp (key, spot)) q))

pub rest_of_words : (name here rest : List ℕ) (key : ℕ) → here ≡ key ∷ rest → ((k : ℕ) → list_any (nat_eq k) here ≡ true → has_word name k ≡ true) → (k : ℕ) → list_any (nat_eq k) rest ≡ true → has_word name k ≡ true
rest_of_words name here rest key is all k e = all k (ap (list_any (nat_eq k)) is ∙ or_right _ _ e)

pub this_word : (name here rest : List ℕ) (key : ℕ) → here ≡ key ∷ rest → ((k : ℕ) → list_any (nat_eq k) here ≡ true → has_word name k ≡ true) → has_word name key ≡ true
this_word name here rest key is all = all key (ap (list_any (nat_eq key)) is ∙ or_left _ _ (eq-eqb key key refl))

-- what is left of the words of a name that are to go
abbrev pub Left : BTreeSet (ℕ × (List ℕ × ℕ)) → List ℕ × ℕ → List ℕ → List ℕ → List ℕ → Type 0
Left postings spot name kept here = (k : ℕ) → has_word name k ≡ true → has_word kept k ≡ false → contains posting_cmp postings (k, spot) ≡ true → list_any (nat_eq k) here ≡ true

shrinks_at : (old new : BTreeSet (ℕ × (List ℕ × ℕ))) (key q : ℕ × (List ℕ × ℕ)) → Updates posting_cmp old new key false → contains posting_cmp new q ≡ true → (is_at (posting_cmp key) q ≡ false) × (contains posting_cmp old q ≡ true)
shrinks_at old new key q u h = ⊎_elim
    (λ e. absurd (both_ways (contains posting_cmp new q) (u.0 q ∙ cond-true _ false (contains posting_cmp old q) e) h))
    (λ e. (e, sym (u.2 q e) ∙ h))
    (cases_Bool (is_at (posting_cmp key) q))

pub shrinks : (first old new : BTreeSet (ℕ × (List ℕ × ℕ))) (key : ℕ × (List ℕ × ℕ)) → Updates posting_cmp old new key false → IsSubset posting_cmp old first → IsSubset posting_cmp new first
shrinks first old new key u sub q h = sub q ((shrinks_at old new key q u h).1)

others_left : (here rest : List ℕ) (key k : ℕ) → here ≡ key ∷ rest → nat_eq k key ≡ false → list_any (nat_eq k) here ≡ true → list_any (nat_eq k) rest ≡ true
others_left here rest key k is apart e = ⊎_elim
    (λ h. absurd (both_ways (nat_eq k key) apart h))
    (λ h. h)
    (or_cases (nat_eq k key) (list_any (nat_eq k) rest) (sym (ap (list_any (nat_eq k)) is) ∙ e))

pub drop_one : (old new : BTreeSet (ℕ × (List ℕ × ℕ))) (spot : List ℕ × ℕ) (name kept here rest : List ℕ) (key : ℕ) → here ≡ key ∷ rest → Updates posting_cmp old new (key, spot) false → Left old spot name kept here → Left new spot name kept rest
drop_one old new spot name kept here rest key is u left k n w h = ⊎_elim
    (λ e. let at : contains posting_cmp new (k, spot) ≡ false = ap (λ (j : ℕ). contains posting_cmp new (j, spot)) (eqb-true k key e) ∙ u.1 in absurd (both_ways (contains posting_cmp new (k, spot)) at h))
    (λ e. others_left here rest key k is e (left k n w ((shrinks_at old new (key, spot) (k, spot) u h).1)))
    (cases_Bool (nat_eq k key))

pub keep_one : (postings : BTreeSet (ℕ × (List ℕ × ℕ))) (spot : List ℕ × ℕ) (name kept here rest : List ℕ) (key : ℕ) → here ≡ key ∷ rest → has_word kept key ≡ true → Left postings spot name kept here → Left postings spot name kept rest
keep_one postings spot name kept here rest key is stays left k n w h = ⊎_elim
    (λ e. absurd (both_ways (has_word kept k) w (ap (has_word kept) (eqb-true k key e) ∙ stays)))
    (λ e. others_left here rest key k is e (left k n w h))
    (cases_Bool (nat_eq k key))

pub none_left : (postings : BTreeSet (ℕ × (List ℕ × ℕ))) (spot : List ℕ × ℕ) (name kept here : List ℕ) → here ≡ [] → Left postings spot name kept here
    → (k : ℕ) → has_word name k ≡ true → has_word kept k ≡ false → contains posting_cmp postings (k, spot) ≡ false
none_left postings spot name kept here is left k n w = ⊎_elim
    (λ h. absurd (both_ways false refl (sym (ap (list_any (nat_eq k)) is) ∙ left k n w h)))
    (λ h. h)
    (cases_Bool (contains posting_cmp postings (k, spot)))

-- what is left of a name at a spot, where another file stands or none
pub clean_some : (new : BTreeSet (ℕ × (List ℕ × ℕ))) (spot : List ℕ × ℕ) (name : List ℕ) (o : Option File) (file : File) → o ≡ Some file
    → ((key : ℕ) → has_word name key ≡ true → has_word file.name key ≡ false → contains posting_cmp new (key, spot) ≡ false)
    → (key : ℕ) → has_word name key ≡ true → contains posting_cmp new (key, spot) ≡ true → names o key ≡ true
clean_some new spot name o file is gone key w h = ⊎_elim
    (λ e. ap (λ (x : Option File). names x key) is ∙ e)
    (λ e. absurd (both_ways (contains posting_cmp new (key, spot)) (gone key w e) h))
    (cases_Bool (has_word file.name key))

pub clean_none : (new : BTreeSet (ℕ × (List ℕ × ℕ))) (spot : List ℕ × ℕ) (name : List ℕ) (o : Option File)
    → ((key : ℕ) → has_word name key ≡ true → has_word [] key ≡ false → contains posting_cmp new (key, spot) ≡ false)
    → (key : ℕ) → has_word name key ≡ true → contains posting_cmp new (key, spot) ≡ true → names o key ≡ true
clean_none new spot name o gone key w h = absurd (both_ways (contains posting_cmp new (key, spot)) (gone key w refl) h)

-- nothing is left to be swept but the changes
pub swept_changes : (f : List ℕ × ℕ → Option File) (postings : BTreeSet (ℕ × (List ℕ × ℕ))) (changes displaced : List ((List ℕ × ℕ) × Option File)) → displaced ≡ [] → Swept f postings (changes ++ displaced) → Swept f postings changes
swept_changes f postings changes displaced none = swept_alike f f postings (changes ++ displaced) changes (λ q. refl) (λ q e. ⊎_elim
    (λ l. l)
    (λ l. absurd (both_ways false refl (sym (ap (λ (x : List ((List ℕ × ℕ) × Option File)). leaves x q) none) ∙ l)))
    (leaves_cases changes displaced q e))
