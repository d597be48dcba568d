-- Reading tags one after the other, as a loop does.
use Rattle.std.proofs.Common.{◌≡◌, ◌≢◌, ℕ, suc, ◌-◌, ◌+◌, ◌≤◌, ◌<◌, List, [], ◌∷◌, ◌++◌, length, Result, Ok, Err, refl, sym, ap, ◌∙◌, append_assoc, arith}
use Rattle.std.proofs.lemmas.List.{append-nil}
use Rattle.ed2k_tags.specs.declared.fault.Stop.{Stop}
use Rattle.ed2k_tags.specs.declared.fault.Stop.TheVariants as stops
use Rattle.ed2k_tags.specs.declared.fault.TagFault.{TagFault}
use Rattle.ed2k_tags.specs.declared.fault.TagFault.TheVariants.{NoMemory}
use Rattle.ed2k_tags.specs.declared.tag.Tag.{Tag}
use Rattle.ed2k_tags.specs.Reading.{◌>>=◌, placed, tag_at, tags_from}

-- what was read before, and what is still read
abbrev pub with_front : List Tag → Result (List Tag × List ℕ) TagFault → Result (List Tag × List ℕ) TagFault
with_front front read = read >>= λ x. Ok (front ++ x.0, x.1)

regroup : (front : List Tag) (tag : Tag) (read : Result (List Tag × List ℕ) TagFault) → with_front front (read >>= λ x. Ok (tag ∷ x.0, x.1)) ≡ with_front (front ++ tag ∷ []) read
regroup front tag (Ok x) = ap (λ (tags : List Tag). Ok (tags, x.1)) (simp append_assoc)
regroup front tag (Err f) = refl

pub goes_on : (front : List Tag) (end count i : ℕ) (bytes : List ℕ) (tag : Tag) (after : List ℕ) (total : Result (List Tag × List ℕ) TagFault) → i < count → tag_at bytes ≡ Ok (tag, after)
    → with_front front (tags_from end (count - i) bytes) ≡ total → with_front (front ++ tag ∷ []) (tags_from end (count - (i + 1)) after) ≡ total
unfolding tags_from
goes_on front end count i bytes tag after total lt h so_far =
    let k : count - i ≡ suc (count - (i + 1)) = omega arith in
    let one : with_front front (tags_from end (count - i) bytes) ≡ with_front (front ++ tag ∷ []) (tags_from end (count - (i + 1)) after) = rw (k, h) (regroup front tag (tags_from end (count - (i + 1)) after)) in
    sym one ∙ so_far

-- memory apart, the loop stops as the reading does
pub ends : (stop : Stop) (front : List Tag) (end count i : ℕ) (bytes : List ℕ) (total : Result (List Tag × List ℕ) TagFault) → i < count → (stop ≢ stops.NoMemory → tag_at bytes ≡ Err stop)
    → with_front front (tags_from end (count - i) bytes) ≡ total → placed (end - length bytes) stop ≢ NoMemory → total ≡ Err (placed (end - length bytes) stop)
unfolding tags_from
ends stop front end count i bytes total lt h so_far other =
    let k : count - i ≡ suc (count - (i + 1)) = omega arith in
    let e : tag_at bytes ≡ Err stop = h (λ memory. other (ap (placed (end - length bytes)) memory)) in
    let one : with_front front (tags_from end (count - i) bytes) ≡ Err (placed (end - length bytes) stop) = rw (k, e) refl in
    sym so_far ∙ one

pub is_done : (front : List Tag) (end count i : ℕ) (bytes : List ℕ) (total : Result (List Tag × List ℕ) TagFault) → count ≤ i → with_front front (tags_from end (count - i) bytes) ≡ total → total ≡ Ok (front, bytes)
unfolding tags_from
is_done front end count i bytes total le so_far =
    let k : count - i ≡ 0 = omega arith in
    let one : with_front front (tags_from end (count - i) bytes) ≡ Ok (front, bytes) = rw k (ap (λ (tags : List Tag). Ok (tags, bytes)) (append-nil front)) in
    sym so_far ∙ one

pub stops_at : (stop : Stop) (fault : TagFault) (place : ℕ) (front : List Tag) (end count i : ℕ) (bytes : List ℕ) (total : Result (List Tag × List ℕ) TagFault) → i < count → (stop ≢ stops.NoMemory → tag_at bytes ≡ Err stop)
    → with_front front (tags_from end (count - i) bytes) ≡ total → place ≡ end - length bytes → fault ≡ placed place stop → fault ≢ NoMemory → total ≡ Err fault
stops_at stop fault place front end count i bytes total lt h so_far at is other =
    let e : fault ≡ placed (end - length bytes) stop = is ∙ ap (λ (k : ℕ). placed k stop) at in
    ends stop front end count i bytes total lt h so_far (λ memory. other (e ∙ memory)) ∙ ap (λ (f : TagFault). Err f) (sym e)
