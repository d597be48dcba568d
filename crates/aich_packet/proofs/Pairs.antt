-- Pairs one after the other.
use Rattle.std.proofs.Common.{arith, ◌≡◌, ℕ, suc, ◌+◌, ◌-◌, ◌<◌, ◌≤◌, true, false, ◌==◌, ◌||◌, List, [], ◌∷◌, ◌++◌, length, get_or, take, drop, Some, None, refl, sym, ap, ◌∙◌, append_assoc, append-nil, drop-cons, inl, inr}
use Rattle.std.specs.List.{list_any}
use Rattle.std.proofs.lemmas.Bool.{cases_Bool}
use Rattle.std.proofs.lemmas.List.{take_more, map-append}
use Rattle.aich_packet.specs.declared.layout.Pair.{Pair}
use Rattle.aich_packet.specs.Judging.{is_among, first_twice}
use Rattle.aich_packet.specs.Layout.{count_of, is_cut, pair_count, pair_at, pairs_from}
use Rattle.aich_packet.specs.Packet.{idents_of}

-- ---- reading them

pub counted : (bytes : List ℕ) (count : ℕ) → pair_count bytes ≡ Some count → count ≡ count_of bytes
counted bytes count is =
    elim (cases_Bool (is_cut bytes)) [
      | inl cut ↦ let bad : None ≡ Some count = rw cut at is in absurd cc
      | inr whole ↦ let same : Some (count_of bytes) ≡ Some count = rw whole at is in cc
    ]

pub not-cut : (bytes : List ℕ) (count : ℕ) → pair_count bytes ≡ Some count → is_cut bytes ≡ false
not-cut bytes count is =
    elim (cases_Bool (is_cut bytes)) [
      | inl cut ↦ let bad : None ≡ Some count = rw cut at is in absurd cc
      | inr whole ↦ whole
    ]

pub pairs_from-next : (front : List Pair) (count k : ℕ) (bytes : List ℕ) (total : List Pair) → k < count
    → front ++ pairs_from (count - k) bytes ≡ total → (front ++ pair_at bytes ∷ []) ++ pairs_from (count - (k + 1)) (drop 22 bytes) ≡ total
unfolding pairs_from
pairs_from-next front count k bytes total below so_far =
    let more : count - k ≡ suc (count - (k + 1)) = omega arith in
    append_assoc front (pair_at bytes ∷ []) (pairs_from (count - (k + 1)) (drop 22 bytes))
    ∙ sym (ap (λ (n : ℕ). front ++ pairs_from n bytes) more)
    ∙ so_far

pub pairs_from-done : (front : List Pair) (count k : ℕ) (bytes : List ℕ) (total : List Pair) → count ≤ k
    → front ++ pairs_from (count - k) bytes ≡ total → front ≡ total
unfolding pairs_from
pairs_from-done front count k bytes total behind so_far =
    let none : count - k ≡ 0 = omega arith in
    sym (append-nil front) ∙ sym (ap (λ (n : ℕ). front ++ pairs_from n bytes) none) ∙ so_far

-- ---- their identifiers

pub among-idents : (pairs : List Pair) (ident : ℕ) → list_any (λ pair. pair.ident == ident) pairs ≡ is_among (idents_of pairs) ident
among-idents [] ident = refl
among-idents (pair ∷ pairs) ident = ap (λ b. (pair.ident == ident) || b) (among-idents pairs ident)

pub twice-here : (pairs : List Pair) (k : ℕ) (d : Pair) → k < length pairs
    → list_any (λ pair. pair.ident == (get_or pairs k d).ident) (take k pairs) ≡ true
    → first_twice (idents_of (take k pairs)) (idents_of (drop k pairs)) ≡ Some (get_or pairs k d).ident
twice-here pairs k d below here =
    let among : is_among (idents_of (take k pairs)) (get_or pairs k d).ident ≡ true = sym (among-idents (take k pairs) (get_or pairs k d).ident) ∙ here in
    ap (λ (rest : List Pair). first_twice (idents_of (take k pairs)) (idents_of rest)) (drop-cons pairs k d below)
    ∙ rw among refl

pub twice-next : (pairs : List Pair) (k : ℕ) (d : Pair) → k < length pairs
    → list_any (λ pair. pair.ident == (get_or pairs k d).ident) (take k pairs) ≡ false
    → first_twice (idents_of (take k pairs)) (idents_of (drop k pairs)) ≡ first_twice (idents_of (take (k + 1) pairs)) (idents_of (drop (k + 1) pairs))
twice-next pairs k d below new =
    let among : is_among (idents_of (take k pairs)) (get_or pairs k d).ident ≡ false = sym (among-idents (take k pairs) (get_or pairs k d).ident) ∙ new in
    let longer : idents_of (take (k + 1) pairs) ≡ idents_of (take k pairs) ++ (get_or pairs k d).ident ∷ [] =
    ap idents_of (take_more pairs k d below) ∙ map-append (λ (pair : Pair). pair.ident) (take k pairs) (get_or pairs k d ∷ []) in
    let next : suc k ≡ k + 1 = omega arith in
    ap (λ (rest : List Pair). first_twice (idents_of (take k pairs)) (idents_of rest)) (drop-cons pairs k d below)
    ∙ rw among refl
    ∙ ap (λ (n : ℕ). first_twice (idents_of (take k pairs) ++ (get_or pairs k d).ident ∷ []) (idents_of (drop n pairs))) next
    ∙ ap (λ (before : List ℕ). first_twice before (idents_of (drop (k + 1) pairs))) (sym longer)
