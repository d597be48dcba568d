-- The origin of a part file can be read off its list of numbers.
use Rattle.std.proofs.Common.{◌≡◌, ℕ, Bool, true, false, List, [], ◌++◌, length, take, drop, Option, Some, None, refl, sym, ap, ◌∙◌}
use Rattle.std.proofs.lemmas.List.{drop_at, take_at}
use Rattle.part_store.specs.Origin.{Origin, behind, origin_code, code_of, coded, front, is_one, origin_in}

front_coded : (bytes : Option (List ℕ)) (more : List ℕ) → front (coded bytes more) ≡ bytes
front_coded None more = refl
front_coded (Some bytes) more = ap Some (take_at bytes more (length bytes) refl)

behind_coded : (bytes : Option (List ℕ)) (more : List ℕ) → behind (coded bytes more) ≡ more
behind_coded None more = refl
behind_coded (Some bytes) more = drop_at bytes more (length bytes) refl

is_coded : (honest : Bool) → is_one (code_of honest) ≡ honest
is_coded true = refl
is_coded false = refl

pub told_back : (o : Origin) → origin_in (origin_code o) ≡ o
told_back o =
    let fourth = coded o.log_file [] in
    let third = coded o.place fourth in
    let second = coded o.body third in
    let parts = coded o.aim.root second in
    let hash : take (length o.aim.hash) (o.aim.hash ++ parts) ≡ o.aim.hash = take_at o.aim.hash parts (length o.aim.hash) refl in
    let rest : drop (length o.aim.hash) (o.aim.hash ++ parts) ≡ parts = drop_at o.aim.hash parts (length o.aim.hash) refl in
    let root : front (drop (length o.aim.hash) (o.aim.hash ++ parts)) ≡ o.aim.root = ap front rest ∙ front_coded o.aim.root second in
    let one : behind (drop (length o.aim.hash) (o.aim.hash ++ parts)) ≡ second = ap behind rest ∙ behind_coded o.aim.root second in
    let two : behind (behind (drop (length o.aim.hash) (o.aim.hash ++ parts))) ≡ third = ap behind one ∙ behind_coded o.body third in
    let three : behind (behind (behind (drop (length o.aim.hash) (o.aim.hash ++ parts)))) ≡ fourth = ap behind two ∙ behind_coded o.place fourth in
    let body : front (behind (drop (length o.aim.hash) (o.aim.hash ++ parts))) ≡ o.body = ap front one ∙ front_coded o.body third in
    let place : front (behind (behind (drop (length o.aim.hash) (o.aim.hash ++ parts)))) ≡ o.place = ap front two ∙ front_coded o.place fourth in
    let log_file : front (behind (behind (behind (drop (length o.aim.hash) (o.aim.hash ++ parts))))) ≡ o.log_file = ap front three ∙ front_coded o.log_file [] in
    let honest : is_one (code_of o.honest) ≡ o.honest = is_coded o.honest in
    λ i. record {
      faults = o.faults;
      honest = honest i;
      aim = record { size = o.aim.size; hash = hash i; root = root i };
      body = body i;
      place = place i;
      log_file = log_file i;
    }

-- equal lists of numbers tell one origin
pub same_origin : (o q : Origin) → origin_code o ≡ origin_code q → o ≡ q
same_origin o q same = sym (told_back o) ∙ ap origin_in same ∙ told_back q
