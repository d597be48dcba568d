-- Changes, one more and one fewer.
use Rattle.std.proofs.Common.{◌≡◌, ℕ, ◌+◌, Bool, true, false, List, [], ◌∷◌, ◌++◌, refl, sym, ap, ◌∙◌, subst, ⊎_elim, length, arith, nat_eq, zero, suc, ◌≤◌, take}
use Rattle.std.specs.List.{list_any}
use Rattle.std.specs.Cmp.Lexicographic.{pointwise}
use Rattle.std.proofs.lemmas.Cmp.{eq_by_cmp_equiv, lists_equiv, nat_eq_equiv}
use Rattle.std.proofs.lemmas.List.Folds.{list_any-append}
use Rattle.server_index.proofs.EntryLemmas.{spot_total}
use Rattle.std.specs.Prelude.{Option, Some, reverse, IsSome, is_some, nat_lt, ◌||◌}
use Rattle.std.specs.BTreeMap.{is_at, insert_entry}
use Rattle.std.proofs.lemmas.List.{reverse-append}
use Rattle.std.proofs.lemmas.Bool.{cases_Bool, cond-true, cond-false, or_left, or_right}
use Rattle.server_index.specs.Live.{File}
use Rattle.search_expr.specs.declared.expr.FileRow.{FileRow}
use Rattle.server_index.specs.declared.offers.Owner.{Owner}
use Rattle.server_index.specs.Order.{spot_cmp}
use Rattle.server_index.specs.Files.{file_at, IsListed}
use Rattle.std.specs.BTreeSet.{BTreeSet}
use Rattle.server_index.specs.Offers.{replaced, undone, IsUndoable, offered, live, held, is_taken}
use Rattle.server_index.proofs.FileLemmas.{spot_same}

reverse-push : (es : List ((List ℕ × ℕ) × Option File)) (e : (List ℕ × ℕ) × Option File) → reverse (es ++ e ∷ []) ≡ e ∷ reverse es
reverse-push es e = reverse-append es (e ∷ [])

module _ (old new : List ((List ℕ × ℕ) × Option File)) (e : (List ℕ × ℕ) × Option File) (f g : List ℕ × ℕ → Option File) (is : old ≡ new ++ e ∷ []) (back : (q : List ℕ × ℕ) → g q ≡ replaced f e.0 e.1 q) where
  first : reverse old ≡ e ∷ reverse new
  first = ap reverse is ∙ reverse-push new e

  same : g ≡ replaced f e.0 e.1
  same = λ i q. back q i

  pub back-there : IsUndoable (reverse old) f → IsSome (f e.0)
  back-there u = (subst (λ (l : List ((List ℕ × ℕ) × Option File)). IsUndoable l f) first u).0

  pub back-undoable : IsUndoable (reverse old) f → IsUndoable (reverse new) g
  back-undoable u = subst (IsUndoable (reverse new)) (sym same) ((subst (λ (l : List ((List ℕ × ℕ) × Option File)). IsUndoable l f) first u).1)

  pub back-undone : (q : List ℕ × ℕ) → undone (reverse new) g q ≡ undone (reverse old) f q
  back-undone q = ap (λ (h : List ℕ × ℕ → Option File). undone (reverse new) h q) same ∙ ap (λ (l : List ((List ℕ × ℕ) × Option File)). undone l f q) (sym first)

-- a file was put at a spot
module _ (changes : List ((List ℕ × ℕ) × Option File)) (spot : List ℕ × ℕ) (old : Option File) (file : File) (f g : List ℕ × ℕ → Option File)
    (was : old ≡ f spot) (put : (q : List ℕ × ℕ) → g q ≡ replaced f spot (Some file) q) where
  again : (q : List ℕ × ℕ) → replaced g spot old q ≡ f q
  again q = ⊎_elim
      (λ e. cond-true _ old (g q) e ∙ was ∙ ap f (spot_same spot q e))
      (λ e. cond-false _ old (g q) e ∙ put q ∙ cond-false _ (Some file) (f q) e)
      (cases_Bool (is_at (spot_cmp spot) q))

  whole : replaced g spot old ≡ f
  whole = λ i q. again q i

  pub push-undoable : IsSome (g spot) → IsUndoable (reverse changes) f → IsUndoable (reverse (changes ++ (spot, old) ∷ [])) g
  push-undoable here u = subst (λ (l : List ((List ℕ × ℕ) × Option File)). IsUndoable l g) (sym (reverse-push changes (spot, old))) (here, subst (IsUndoable (reverse changes)) (sym whole) u)

  pub push-undone : (q : List ℕ × ℕ) → undone (reverse (changes ++ (spot, old) ∷ [])) g q ≡ undone (reverse changes) f q
  push-undone q = ap (λ (l : List ((List ℕ × ℕ) × Option File)). undone l g q) (reverse-push changes (spot, old)) ∙ ap (λ (h : List ℕ × ℕ → Option File). undone (reverse changes) h q) whole

pub nil_from_length : {A : Type 0} (xs : List A) → length xs ≡ 0 → xs ≡ []
nil_from_length [] e = refl
nil_from_length (x ∷ xs) e = absurd (omega arith)

put_here : (spot : List ℕ × ℕ) (file : File) (f g : List ℕ × ℕ → Option File) → ((q : List ℕ × ℕ) → g q ≡ replaced f spot (Some file) q) → IsSome (g spot)
put_here spot file f g put = let at : g spot ≡ Some file = put spot ∙ cond-true _ (Some file) (f spot) ((eq_by_cmp_equiv spot_total).refl spot) in rw at refl

-- the list of changes after a put, and what it comes to
module _ (before after : List ((List ℕ × ℕ) × Option File)) (spot : List ℕ × ℕ) (old : Option File) (file : File) (f g : List ℕ × ℕ → Option File)
    (is : after ≡ before ++ (spot, old) ∷ []) (was : old ≡ f spot) (put : (q : List ℕ × ℕ) → g q ≡ replaced f spot (Some file) q) where
  pub put-undoable : IsUndoable (reverse before) f → IsUndoable (reverse after) g
  put-undoable u = subst (λ (l : List ((List ℕ × ℕ) × Option File)). IsUndoable (reverse l) g) (sym is) (push-undoable before spot old file f g was put (put_here spot file f g put) u)

  pub put-undone : (q : List ℕ × ℕ) → undone (reverse after) g q ≡ undone (reverse before) f q
  put-undone q = ap (λ (l : List ((List ℕ × ℕ) × Option File)). undone (reverse l) g q) is ∙ push-undone before spot old file f g was put q

pub owned_put : (number : ℕ) (hashes hashes' : List (List ℕ)) (f g : List ℕ × ℕ → Option File) (spot : List ℕ × ℕ) (file : File) → ((q : List ℕ × ℕ) → g q ≡ replaced f spot (Some file) q)
    → ((h : List ℕ) → IsSome (f (h, number)) → list_any (pointwise nat_eq h) hashes ≡ true) → ((h : List ℕ) → list_any (pointwise nat_eq h) hashes ≡ true → list_any (pointwise nat_eq h) hashes' ≡ true)
    → list_any (pointwise nat_eq spot.0) hashes' ≡ true → (h : List ℕ) → IsSome (g (h, number)) → list_any (pointwise nat_eq h) hashes' ≡ true
owned_put number hashes hashes' f g spot file put owned more new h there = ⊎_elim
    (λ e. ap (λ (p : List ℕ × ℕ). list_any (pointwise nat_eq p.0) hashes') (sym (spot_same spot (h, number) e)) ∙ new)
    (λ e. let at : g (h, number) ≡ f (h, number) = put (h, number) ∙ cond-false _ (Some file) (f (h, number)) e in more h (owned h (rw at at there)))
    (cases_Bool (is_at (spot_cmp spot) (h, number)))

-- one hash more
pub more_hashes : (hashes : List (List ℕ)) (new h : List ℕ) → list_any (pointwise nat_eq h) hashes ≡ true → list_any (pointwise nat_eq h) (hashes ++ new ∷ []) ≡ true
more_hashes hashes new h e = list_any-append (pointwise nat_eq h) hashes (new ∷ []) ∙ or_left _ _ e

pub new_hash : (hashes : List (List ℕ)) (new : List ℕ) → list_any (pointwise nat_eq new) (hashes ++ new ∷ []) ≡ true
new_hash hashes new = list_any-append (pointwise nat_eq new) hashes (new ∷ []) ∙ or_right _ _ (or_left _ _ ((lists_equiv nat_eq_equiv).refl new))

pub take_again : {A : Type 0} (k n : ℕ) (xs : List A) → k ≤ n → take k (take n xs) ≡ take k xs
take_again {A = A} zero n xs le = refl
take_again {A = A} (suc k) zero xs le = absurd (omega arith)
take_again {A = A} (suc k) (suc n) [] le = refl
take_again {A = A} (suc k) (suc n) (x ∷ xs) le = ap (λ (ys : List A). x ∷ ys) (take_again k n xs (omega arith))

pub begins_more : {A : Type 0} (k : ℕ) (front middle last : List A) → take (length middle) last ≡ middle → take k middle ≡ front → k ≤ length middle → take k last ≡ front
begins_more k front middle last e d le = sym (take_again k (length middle) last le) ∙ ap (take k) e ∙ d

-- listed by the look-ups alone
pub listed_alike : (old new : List ((List ℕ × ℕ) × File)) (postings : BTreeSet (ℕ × (List ℕ × ℕ))) → ((q : List ℕ × ℕ) → file_at new q ≡ file_at old q) → IsListed old postings → IsListed new postings
listed_alike old new postings same l q = rw (same q) (l q)

-- a file that is taken, and one that is passed over
pub offer_taken : (owner : Owner) (row : FileRow) (taken : ℕ) (old new : List ((List ℕ × ℕ) × File)) (rest : List FileRow) → is_taken owner.number old row ≡ true
    → new ≡ insert_entry spot_cmp old (row.hash, owner.number) (live owner row) → offered owner (taken + 1) new rest ≡ offered owner taken old (row ∷ rest)
offer_taken owner row taken old new rest is put =
    ap (λ (l : List ((List ℕ × ℕ) × File)). offered owner (taken + 1) l rest) put
    ∙ sym (cond-true (is_taken owner.number old row) (offered owner (taken + 1) (insert_entry spot_cmp old (row.hash, owner.number) (live owner row)) rest) (offered owner taken old rest) is)

pub offer_passed : (owner : Owner) (row : FileRow) (taken : ℕ) (old : List ((List ℕ × ℕ) × File)) (rest : List FileRow) → is_taken owner.number old row ≡ false → offered owner taken old rest ≡ offered owner taken old (row ∷ rest)
offer_passed owner row taken old rest is =
    sym (cond-false (is_taken owner.number old row) (offered owner (taken + 1) (insert_entry spot_cmp old (row.hash, owner.number) (live owner row)) rest) (offered owner taken old rest) is)

-- which of the two
pub taken_is : (number : ℕ) (files : List ((List ℕ × ℕ) × File)) (row : FileRow) (present : Bool) (count : ℕ) (taken : Bool) → taken ≡ (present || nat_lt count 10000)
    → present ≡ is_some (file_at files (row.hash, number)) → count ≡ held number files → is_taken number files row ≡ taken
taken_is number files row present count taken is there counts =
    sym (is ∙ ap (λ (b : Bool). b || nat_lt count 10000) there ∙ ap (λ (n : ℕ). is_some (file_at files (row.hash, number)) || nat_lt n 10000) counts)
