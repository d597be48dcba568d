-- One key more, or one fewer, among the postings.
use Rattle.std.proofs.Common.{◌≡◌, ℕ, true, false, List, [], ◌∷◌, refl, sym, ap, ◌∙◌, nat_eq, ⊎_elim}
use Rattle.std.specs.List.{list_all, list_any}
use Rattle.std.specs.Ordering.{is_eq, nat_cmp}
use Rattle.std.specs.Cmp.{tied_then}
use Rattle.std.specs.BTreeMap.{is_at}
use Rattle.std.specs.BTreeSet.{BTreeSet, contains, IsSubset, Updates}
use Rattle.std.proofs.lemmas.Bool.{cases_Bool, and_parts, cond_both, and_from, and_left, and_right, both_ways}
use Rattle.std.proofs.lemmas.Map.Lookups.{exact_unsigned}
use Rattle.std.proofs.lemmas.Map.Views.{tells_apart}
use Rattle.server_index.specs.Order.{spot_cmp, posting_cmp}
use Rattle.server_index.specs.Postings.{lists}

pub grows : (old new : BTreeSet (ℕ × (List ℕ × ℕ))) (key : ℕ × (List ℕ × ℕ)) → Updates posting_cmp old new key true → IsSubset posting_cmp old new
grows old new key u q h = rw (u.0 q) (cond_both (is_at (posting_cmp key) q) true (contains posting_cmp old q) (λ b. b ≡ true) (λ _. refl) (λ _. h))

-- what is listed stays listed in more postings
pub lists_more : (old new : BTreeSet (ℕ × (List ℕ × ℕ))) (spot : List ℕ × ℕ) → IsSubset posting_cmp old new → (ks : List ℕ)
    → list_all (λ key. contains posting_cmp old (key, spot)) ks ≡ true → list_all (λ key. contains posting_cmp new (key, spot)) ks ≡ true
lists_more old new spot sub [] h = refl
lists_more old new spot sub (k ∷ ks) h =
    let parts : (contains posting_cmp old (k, spot) ≡ true) × (list_all (λ key. contains posting_cmp old (key, spot)) ks ≡ true) = and_parts _ _ h in
    and_from _ _ (sub (k, spot) parts.0) (lists_more old new spot sub ks parts.1)

pub add_step : (new : BTreeSet (ℕ × (List ℕ × ℕ))) (old : BTreeSet (ℕ × (List ℕ × ℕ))) (key : ℕ) (spot : List ℕ × ℕ) (name here rest : List ℕ) → Updates posting_cmp old new (key, spot) true → here ≡ key ∷ rest
    → ((s : BTreeSet (ℕ × (List ℕ × ℕ))) → IsSubset posting_cmp old s → list_all (λ k. contains posting_cmp s (k, spot)) here ≡ true → lists s name spot ≡ true)
    → (s : BTreeSet (ℕ × (List ℕ × ℕ))) → IsSubset posting_cmp new s → list_all (λ k. contains posting_cmp s (k, spot)) rest ≡ true → lists s name spot ≡ true
add_step new old key spot name here rest u is before s sub h =
    before s (λ q t. sub q (grows old new (key, spot) u q t)) (rw is (and_from _ _ (sub (key, spot) u.1) h))

keys_differ : (key other : ℕ) (ks : List ℕ) → list_any (nat_eq key) ks ≡ false → list_any (nat_eq other) ks ≡ true → is_eq (nat_cmp key other) ≡ false
keys_differ key other ks absent there = ⊎_elim
    (λ e. let same : key ≡ other = tells_apart exact_unsigned key other e in absurd (both_ways (list_any (nat_eq other) ks) (ap (λ (k : ℕ). list_any (nat_eq k) ks) (sym same) ∙ absent) there))
    (λ e. e)
    (cases_Bool (is_eq (nat_cmp key other)))

pub drop_others : (old new : BTreeSet (ℕ × (List ℕ × ℕ))) (key : ℕ) (spot : List ℕ × ℕ) → Updates posting_cmp old new (key, spot) false
    → (q : ℕ × (List ℕ × ℕ)) → is_eq (spot_cmp spot q.1) ≡ false → contains posting_cmp new q ≡ contains posting_cmp old q
drop_others old new key spot u q apart =
    u.2 q (sym (tied_then (nat_cmp key q.0) (spot_cmp spot q.1)) ∙ and_right _ _ apart)

pub drop_kept : (old new : BTreeSet (ℕ × (List ℕ × ℕ))) (key : ℕ) (spot : List ℕ × ℕ) (ks : List ℕ) → Updates posting_cmp old new (key, spot) false → list_any (nat_eq key) ks ≡ false
    → (other : ℕ) → list_any (nat_eq other) ks ≡ true → contains posting_cmp new (other, spot) ≡ contains posting_cmp old (other, spot)
drop_kept old new key spot ks u absent other there =
    u.2 (other, spot) (sym (tied_then (nat_cmp key other) (spot_cmp spot spot)) ∙ and_left _ _ (keys_differ key other ks absent there))
