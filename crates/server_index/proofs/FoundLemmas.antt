-- One file more in a search.
use Rattle.std.proofs.Common.{◌≡◌, ℕ, zero, suc, ◌-◌, ◌<◌, Bool, true, false, List, [], ◌∷◌, ◌++◌, length, take, refl, sym, ap, ◌∙◌, append_assoc, arith, length-append}
use Rattle.std.specs.Prelude.{Option, Some, map, filter}
use Rattle.std.proofs.lemmas.Bool.{cond-true, cond-false}
use Rattle.std.proofs.lemmas.List.{append-nil}
use Rattle.std.proofs.lemmas.List.Elements.{filter-append}
use Rattle.server_index.specs.Live.{File}
use Rattle.server_index.specs.declared.file.Found.{Found}
use Rattle.server_index.specs.Found.{is_hash, is_hit, firsts, found_of, goes_on}

pub firsts-new : (last : Option (List ℕ)) (x : (List ℕ × ℕ) × File) (xs : List ((List ℕ × ℕ) × File)) → is_hash last x.0.0 ≡ false → firsts last (x ∷ xs) ≡ x ∷ firsts (Some x.0.0) xs
firsts-new last x xs e = cond-false (is_hash last x.0.0) (firsts last xs) (x ∷ firsts (Some x.0.0) xs) e

pub found_more : (meets : File → Bool) (after last : Option (List ℕ)) (out : List Found) (x : (List ℕ × ℕ) × File) (hits : List ((List ℕ × ℕ) × File)) → length out < 200
    → is_hit meets after x ≡ true → is_hash last x.0.0 ≡ false
    → goes_on (out ++ found_of x ∷ []) (Some x.0.0) hits ≡ goes_on out last (filter (is_hit meets after) (x ∷ []) ++ hits)
found_more meets after last out x hits lt hit new =
    let one : filter (is_hit meets after) (x ∷ []) ≡ x ∷ [] = cond-true (is_hit meets after x) (x ∷ []) [] hit in
    let behind : firsts last (filter (is_hit meets after) (x ∷ []) ++ hits) ≡ x ∷ firsts (Some x.0.0) hits = ap (λ (f : List ((List ℕ × ℕ) × File)). firsts last (f ++ hits)) one ∙ firsts-new last x hits new in
    let left : 200 - length out ≡ suc (200 - length (out ++ found_of x ∷ [])) = omega (arith, length-append out (found_of x ∷ [])) in
    let told : map found_of (take (200 - length out) (firsts last (filter (is_hit meets after) (x ∷ []) ++ hits))) ≡ found_of x ∷ map found_of (take (200 - length (out ++ found_of x ∷ [])) (firsts (Some x.0.0) hits)) = rw (behind, left) refl in
    append_assoc out (found_of x ∷ []) (map found_of (take (200 - length (out ++ found_of x ∷ [])) (firsts (Some x.0.0) hits))) ∙ sym (ap (λ (f : List Found). out ++ f) told)

take_nil : {A : Type 0} → (n : ℕ) → take {A = A} n [] ≡ []
take_nil zero = refl
take_nil (suc n) = refl

pub found_end : (out : List Found) (last : Option (List ℕ)) → goes_on out last [] ≡ out
found_end out last = let e : take (200 - length out) (firsts last []) ≡ [] = take_nil (200 - length out) in rw (e, append-nil) refl

pub found_full : (out : List Found) (last : Option (List ℕ)) (hits : List ((List ℕ × ℕ) × File)) → length out ≡ 200 → goes_on out last hits ≡ out
found_full out last hits full = let e : 200 - length out ≡ 0 = omega arith in rw (e, append-nil) refl

-- one turn of a loop: the file x was considered, and rest is left
pub found_turn : (meets : File → Bool) (after last last' : Option (List ℕ)) (out out' total : List Found) (x : (List ℕ × ℕ) × File) (t rest : List ((List ℕ × ℕ) × File)) → t ≡ x ∷ rest
    → ((hits : List ((List ℕ × ℕ) × File)) → goes_on out' last' hits ≡ goes_on out last (filter (is_hit meets after) (x ∷ []) ++ hits))
    → goes_on out last (filter (is_hit meets after) t) ≡ total → goes_on out' last' (filter (is_hit meets after) rest) ≡ total
found_turn meets after last last' out out' total x t rest is step so_far =
    let cut : filter (is_hit meets after) t ≡ filter (is_hit meets after) (x ∷ []) ++ filter (is_hit meets after) rest = ap (filter (is_hit meets after)) is ∙ filter-append (is_hit meets after) (x ∷ []) rest in
    step (filter (is_hit meets after) rest) ∙ ap (goes_on out last) (sym cut) ∙ so_far
