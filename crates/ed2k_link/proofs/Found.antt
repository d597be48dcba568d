-- What is found with one value more.
use Rattle.std.proofs.Common.{◌≡◌, refl, ap, subst, ℕ, List, [], ◌∷◌, ◌++◌, Option, Some}
use Rattle.std.specs.Borrow.{Bor}
use Rattle.std.specs.Option.{option_map, option_to_list}
use Rattle.ed2k_link.specs.Fields.{IsFound}
use Rattle.ed2k_link.specs.declared.fields.Found.{Found}
use Rattle.ed2k_link.specs.declared.fields.Found.TheVariants.{Once, Again}

abbrev pub shown : Option (Bor (List ℕ)) → List (List ℕ)
shown value = option_to_list (option_map (λ (text : Bor (List ℕ)). text.now) value)

pub again_once : (before : List (List ℕ)) (found : Found) (a : Bor (List ℕ)) (value : Option (Bor (List ℕ))) (t : Bor (List ℕ))
    → found ≡ Once a → value ≡ Some t → IsFound before found → IsFound (before ++ shown value) Again
again_once before found a value t e v h =
    let here : before ≡ a.now ∷ [] = subst (IsFound before) e h in
    rw (v, here) (a.now, t.now, [], refl)

pub again_again : (before : List (List ℕ)) (found : Found) (value : Option (Bor (List ℕ)))
    → found ≡ Again → IsFound before found → IsFound (before ++ shown value) Again
again_again before found value e h =
    let here : IsFound before Again = subst (IsFound before) e h in
    (here.0, here.1, here.2 ++ shown value, ap (λ vs. vs ++ shown value) here.3)
