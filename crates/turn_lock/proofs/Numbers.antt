-- Each step keeps what the rule says of numbers and rows.
use Rattle.std.proofs.Common.{◌≡◌, ◌≢◌, ℕ, zero, suc, ◌+◌, ◌<◌, ◌≤◌, Some, List, [], ◌∷◌, ◌++◌, length, set, sym, refl, ap, ◌∙◌, subst, ⊎_elim, arith}
use mathlib.Core.Option.{some, some-injective}
use mathlib.Core.Logic.{dite}
use native.Mathlib.Decide.{ℕ_discrete}
use lib.ListN.{get_elem?}
use Rattle.atomic_table.proofs.Lists.{at_set, at_snoc}
use Rattle.turn_lock.specs.declared.known.Known.{Known}
use Rattle.turn_lock.specs.Views.{first_number, first_from}
use Rattle.turn_lock.specs.Rule.{Numbered}
use Rattle.turn_lock.proofs.Lists.{some_same, none_some, no_place, only_place, at_append, each_set}

-- the place (i, k) of the joined views is the place (i0, k0) of the earlier ones: a pass, id, has the entries of another behind its own, which are `many`
record IsPlaceOf (id other many i k i0 k0 : ℕ) : Type 0 where
  elsewhere : i0 ≢ id → i0 ≢ other → (i ≡ i0) × (k ≡ k0)
  own : i0 ≡ id → (i ≡ id) × (k ≡ k0)
  taken : i0 ≡ other → (i ≡ id) × (k ≡ many + k0)

same_place : (id other many i k j l i0 k0 j0 l0 : ℕ) → other ≢ id → IsPlaceOf id other many i k i0 k0 → IsPlaceOf id other many j l j0 l0 → i0 ≡ j0 → k0 ≡ l0 → (i ≡ j) × (k ≡ l)
same_place id other many i k j l i0 k0 j0 l0 apart p q a b = dite (ℕ_discrete i0 id)
    (λ e. let x = p.own e in let y = q.own (sym a ∙ e) in (x.0 ∙ sym y.0, x.1 ∙ (b ∙ sym y.1)))
    (λ n. dite (ℕ_discrete i0 other)
    (λ e. let x = p.taken e in let y = q.taken (sym a ∙ e) in (x.0 ∙ sym y.0, x.1 ∙ (ap (λ z. many + z) b ∙ sym y.1)))
    (λ m. let x = p.elsewhere n m in let y = q.elsewhere (λ e. n (a ∙ e)) (λ e. m (a ∙ e)) in (x.0 ∙ (a ∙ sym y.0), x.1 ∙ (b ∙ sym y.1))))

module _ {I : Type 0} where
  number_there : (owned : List (ℕ × List I)) (n : ℕ) → first_number owned ≡ Some n → (e : ℕ × List I) × (get_elem? owned 0 ≡ some e) × (e.0 ≡ n)
  number_there [] n first = none_some n first
  number_there (e ∷ es) n first = (e, refl, some_same e.0 n first)

module _ {T E I : Type 0} where
  -- where an entry of a view came from: the same place of an earlier view, with the same number
  pub record Came (now : ℕ → List I) (views : List (Known T E I)) (i k : ℕ) (e : ℕ × List I) : Type 0 where
    pub view : Known T E I
    pub entry : ℕ × List I
    pub there : get_elem? views i ≡ some view
    pub at : get_elem? view.owned k ≡ some entry
    pub number : e.0 ≡ entry.0
    pub row : e.1 ≡ now e.0

  pub renumbered : (start now now' : ℕ → List I) (count : ℕ) (views views' : List (Known T E I)) → Numbered start now count views
      → ((i : ℕ) (v : Known T E I) → get_elem? views' i ≡ some v → (k : ℕ) (e : ℕ × List I) → get_elem? v.owned k ≡ some e → Came now' views i k e)
      → ((n : ℕ) → count ≤ n → now' n ≡ now n) → Numbered start now' count views'
  renumbered start now now' count views views' r came still = record {
    right = λ i v at k e there. let c = came i v at k e there in let below : c.entry.0 < count = (r.right i c.view c.there k c.entry c.at).0 in
        (subst (λ (n : ℕ). n < count) (sym c.number) below, c.row);
    once = λ i j v w at_i at_j k l d e at_k at_l same. let c = came i v at_i k d at_k in let b = came j w at_j l e at_l in
        r.once i j c.view b.view c.there b.there k l c.entry b.entry c.at b.at (sym c.number ∙ (same ∙ b.number));
    unused = λ n le. still n le ∙ r.unused n le;
  }

  -- a view changes, and its numbers don't
  pub same_numbers : (start now : ℕ → List I) (count : ℕ) (views : List (Known T E I)) (id : ℕ) (v w : Known T E I) → get_elem? views id ≡ some v → w.owned ≡ v.owned
      → Numbered start now count views → Numbered start now count (set views id w)
  same_numbers start now count views id v w at same r = renumbered start now now count views (set views id w) r
      (each_set (λ i u. (k : ℕ) (e : ℕ × List I) → get_elem? u.owned k ≡ some e → Came now views i k e) views id w
      (λ k e there. let there' : get_elem? v.owned k ≡ some e = subst (λ (l : List (ℕ × List I)). get_elem? l k ≡ some e) same there in
      record { view = v; entry = e; there = at; at = there'; number = refl; row = (r.right id v at k e there').1 })
      (λ j u _ at_j k e there. record { view = u; entry = e; there = at_j; at = there; number = refl; row = (r.right j u at_j k e there).1 }))
      (λ n le. refl)

  -- the rows change to those of a value laid back: only the row of the pass's own number may
  raised_entry : (start now now' : ℕ → List I) (count : ℕ) (views : List (Known T E I)) (id n : ℕ) (v : Known T E I) → get_elem? views id ≡ some v → first_number v.owned ≡ Some n
      → Numbered start now count views → ((m : ℕ) → m ≢ n → now' m ≡ now m) → (owned : List (ℕ × List I)) → v.owned ≡ owned
      → (k : ℕ) (e : ℕ × List I) → get_elem? (first_from now' owned) k ≡ some e → Came now' views id k e
  raised_entry start now now' count views id n v at first r others [] is k e there = no_place k e there
  raised_entry start now now' count views id n v at first r others (d ∷ ds) is zero e there = let same = some-injective (d.0, now' d.0) e there in record {
    view = v;
    entry = d;
    there = at;
    at = ap (λ (l : List (ℕ × List I)). get_elem? l 0) is;
    number = sym (ap (λ (x : ℕ × List I). x.0) same);
    row = subst (λ (x : ℕ × List I). x.1 ≡ now' x.0) same refl;
  }
  raised_entry start now now' count views id n v at first r others (d ∷ ds) is (suc k) e there =
      let at_k : get_elem? v.owned (suc k) ≡ some e = ap (λ (l : List (ℕ × List I)). get_elem? l (suc k)) is ∙ there in
      let own : d.0 ≡ n = some_same d.0 n (subst (λ (l : List (ℕ × List I)). first_number l ≡ Some n) is first) in
      let apart : e.0 ≢ n = (λ same. let two : suc k ≡ 0 = (r.once id id v v at at (suc k) 0 e d at_k (ap (λ (l : List (ℕ × List I)). get_elem? l 0) is) (same ∙ sym own)).1 in absurd (omega arith)) in record {
        view = v;
        entry = e;
        there = at;
        at = at_k;
        number = refl;
        row = (r.right id v at (suc k) e at_k).1 ∙ sym (others e.0 apart);
      }

  pub raised_numbers : (start now now' : ℕ → List I) (count : ℕ) (views : List (Known T E I)) (id n : ℕ) (v w : Known T E I) → get_elem? views id ≡ some v → first_number v.owned ≡ Some n
      → w.owned ≡ first_from now' v.owned → ((m : ℕ) → m ≢ n → now' m ≡ now m) → Numbered start now count views → Numbered start now' count (set views id w)
  raised_numbers start now now' count views id n v w at first same others r = let own = number_there v.owned n first in
      let below : n < count = subst (λ (m : ℕ). m < count) own.2 (r.right id v at 0 own.0 own.1).0 in
      renumbered start now now' count views (set views id w) r
      (each_set (λ i u. (k : ℕ) (e : ℕ × List I) → get_elem? u.owned k ≡ some e → Came now' views i k e) views id w
      (λ k e there. raised_entry start now now' count views id n v at first r others v.owned refl k e (subst (λ (l : List (ℕ × List I)). get_elem? l k ≡ some e) same there))
      (λ j u apart at_j k e there. record {
        view = u;
        entry = e;
        there = at_j;
        at = there;
        number = refl;
        row = (r.right j u at_j k e there).1 ∙ sym (others e.0 (λ is. apart (r.once j id u v at_j at k 0 e own.0 there own.1 (is ∙ sym own.2)).0));
      }))
      (λ m le. others m (λ is. absurd (omega arith)))

  -- a pass with no number draws the next one, with the row that it has at the start
  pub drawn_number : (start now : ℕ → List I) (count : ℕ) (views : List (Known T E I)) (id : ℕ) (v w : Known T E I) → get_elem? views id ≡ some v → w.owned ≡ (count, start count) ∷ []
      → Numbered start now count views → Numbered start now (count + 1) (set views id w)
  drawn_number start now count views id v w at same r =
      let mine : (k : ℕ) (e : ℕ × List I) → get_elem? w.owned k ≡ some e → (k ≡ 0) × ((count, start count) ≡ e) = (λ k e there. only_place (count, start count) k e (subst (λ (l : List (ℕ × List I)). get_elem? l k ≡ some e) same there)) in record {
        right = each_set (λ i u. (k : ℕ) (e : ℕ × List I) → get_elem? u.owned k ≡ some e → (e.0 < count + 1) × (e.1 ≡ now e.0)) views id w
            (λ k e there. subst (λ (x : ℕ × List I). (x.0 < count + 1) × (x.1 ≡ now x.0)) (mine k e there).1 (omega arith, sym (r.unused count (omega arith))))
            (λ j u _ at_j k e there. let old = r.right j u at_j k e there in let below : e.0 < count = old.0 in (omega arith, old.1));
        once = λ i j u u' at_i at_j k l d e at_k at_l is. ⊎_elim
            (λ (p : (i ≡ id) × (w ≡ u)). let first = mine k d (subst (λ (x : Known T E I). get_elem? x.owned k ≡ some d) (sym p.1) at_k) in ⊎_elim
            (λ (q : (j ≡ id) × (w ≡ u')). let second = mine l e (subst (λ (x : Known T E I). get_elem? x.owned l ≡ some e) (sym q.1) at_l) in (p.0 ∙ sym q.0, first.0 ∙ sym second.0))
            (λ (q : (j ≢ id) × (get_elem? views j ≡ some u')). let below : e.0 < count = (r.right j u' q.1 l e at_l).0 in let number : count ≡ d.0 = ap (λ (x : ℕ × List I). x.0) first.1 in absurd (omega arith))
            (at_set views id j w u' at_j))
            (λ (p : (i ≢ id) × (get_elem? views i ≡ some u)). let below : d.0 < count = (r.right i u p.1 k d at_k).0 in ⊎_elim
            (λ (q : (j ≡ id) × (w ≡ u')). let second = mine l e (subst (λ (x : Known T E I). get_elem? x.owned l ≡ some e) (sym q.1) at_l) in let number : count ≡ e.0 = ap (λ (x : ℕ × List I). x.0) second.1 in absurd (omega arith))
            (λ (q : (j ≢ id) × (get_elem? views j ≡ some u')). r.once i j u u' p.1 q.1 k l d e at_k at_l is)
            (at_set views id j w u' at_j))
            (at_set views id i w u at_i);
        unused = λ n le. r.unused n (omega arith);
      }

  -- a new view with no number
  pub split_numbers : (start now : ℕ → List I) (count : ℕ) (views : List (Known T E I)) (w : Known T E I) → w.owned ≡ [] → Numbered start now count views → Numbered start now count (views ++ w ∷ [])
  split_numbers start now count views w none r = renumbered start now now count views (views ++ w ∷ []) r
      (λ i u at k e there. ⊎_elim
      (λ (old : get_elem? views i ≡ some u). record { view = u; entry = e; there = old; at = there; number = refl; row = (r.right i u old k e there).1 })
      (λ (new : w ≡ u). no_place k e (subst (λ (l : List (ℕ × List I)). get_elem? l k ≡ some e) (sym (ap (λ (x : Known T E I). x.owned) new) ∙ none) there))
      (at_snoc views w u i at))
      (λ n le. refl)

  -- where an entry of the joined views came from
  record Origin (id other many : ℕ) (views : List (Known T E I)) (i k : ℕ) (e : ℕ × List I) : Type 0 where
    i0 : ℕ
    k0 : ℕ
    view : Known T E I
    there : get_elem? views i0 ≡ some view
    at : get_elem? view.owned k0 ≡ some e
    place : IsPlaceOf id other many i k i0 k0

  -- a pass takes in the numbers of another, which has none left
  pub joined_numbers : (start now : ℕ → List I) (count : ℕ) (views : List (Known T E I)) (id other : ℕ) (v u w none : Known T E I) → get_elem? views id ≡ some v → other ≢ id → get_elem? views other ≡ some u
      → w.owned ≡ v.owned ++ u.owned → none.owned ≡ [] → Numbered start now count views → Numbered start now count (set (set views id w) other none)
  joined_numbers start now count views id other v u w none at apart at_other all empty r = let many : ℕ = length v.owned in
      let P : ℕ → Known T E I → Type 0 = (λ i x. (k : ℕ) (e : ℕ × List I) → get_elem? x.owned k ≡ some e → Origin id other many views i k e) in
      let came : (i : ℕ) (x : Known T E I) → get_elem? (set (set views id w) other none) i ≡ some x → P i x = each_set P (set views id w) other none
      (λ k e there. no_place k e (subst (λ (l : List (ℕ × List I)). get_elem? l k ≡ some e) empty there))
      (λ j x not at_j. each_set (λ i y. i ≢ other → P i y) views id w
      (λ _ k e there. ⊎_elim
      (λ (t : (k < many) × (get_elem? v.owned k ≡ some e)). record { i0 = id; k0 = k; view = v; there = at; at = t.1; place = record { elsewhere = λ n _. absurd (n refl); own = λ _. (refl, refl); taken = λ is. absurd (apart (sym is)) } })
      (λ (t : (l : ℕ) × (k ≡ many + l) × (get_elem? u.owned l ≡ some e)). record { i0 = other; k0 = t.0; view = u; there = at_other; at = t.2; place = record { elsewhere = λ _ n. absurd (n refl); own = λ is. absurd (apart is); taken = λ _. (refl, t.1) } })
      (at_append v.owned u.owned k e (subst (λ (l : List (ℕ × List I)). get_elem? l k ≡ some e) all there)))
      (λ i y far at_i not' k e there. record { i0 = i; k0 = k; view = y; there = at_i; at = there; place = record { elsewhere = λ _ _. (refl, refl); own = λ is. absurd (far is); taken = λ is. absurd (not' is) } })
      j x at_j not) in record {
        right = λ i x at_i k e there. let o = came i x at_i k e there in r.right o.i0 o.view o.there o.k0 e o.at;
        once = λ i j x y at_i at_j k l d e at_k at_l is. let o = came i x at_i k d at_k in let q = came j y at_j l e at_l in let same = r.once o.i0 q.i0 o.view q.view o.there q.there o.k0 q.k0 d e o.at q.at is in
            same_place id other many i k j l o.i0 o.k0 q.i0 q.k0 apart o.place q.place same.0 same.1;
        unused = r.unused;
      }
