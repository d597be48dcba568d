-- Reading items one after the other, as a loop does.
use Rattle.std.proofs.Common.{◌≡◌, ◌≢◌, ℕ, suc, ◌-◌, ◌+◌, ◌≤◌, ◌<◌, List, [], ◌∷◌, ◌++◌, Result, Ok, Err, refl, sym, ap, ◌∙◌, append_assoc, arith}
use Rattle.std.proofs.lemmas.List.{append-nil}
use Rattle.ed2k_tags.specs.Reading.{◌>>=◌}
use Rattle.server_msgs.specs.declared.fault.MsgFault.{MsgFault}
use Rattle.server_msgs.specs.declared.fault.MsgFault.TheVariants.{NoMemory}
use Rattle.server_msgs.specs.Lists.{each_from}

-- what was read before, and what is still read
abbrev pub with_front : {A : Type 0} → List A → Result (List A × List ℕ) MsgFault → Result (List A × List ℕ) MsgFault
with_front front read = read >>= λ x. Ok (front ++ x.0, x.1)

regroup : {A : Type 0} (front : List A) (x : A) (read : Result (List A × List ℕ) MsgFault) → with_front front (read >>= λ y. Ok (x ∷ y.0, y.1)) ≡ with_front (front ++ x ∷ []) read
regroup {A} front x (Ok y) = ap (λ (items : List A). Ok (items, y.1)) (simp append_assoc)
regroup front x (Err f) = refl

pub goes_on : {A : Type 0} (item : List ℕ → Result (A × List ℕ) MsgFault) (front : List A) (count i : ℕ) (bytes : List ℕ) (x : A) (after : List ℕ) (total : Result (List A × List ℕ) MsgFault) → i < count → item bytes ≡ Ok (x, after)
    → with_front front (each_from item (count - i) bytes) ≡ total → with_front (front ++ x ∷ []) (each_from item (count - (i + 1)) after) ≡ total
unfolding each_from
goes_on item front count i bytes x after total lt h so_far =
    let k : count - i ≡ suc (count - (i + 1)) = omega arith in
    let one : with_front front (each_from item (count - i) bytes) ≡ with_front (front ++ x ∷ []) (each_from item (count - (i + 1)) after) = rw (k, h) (regroup front x (each_from item (count - (i + 1)) after)) in
    sym one ∙ so_far

-- memory apart, the loop stops as the reading does
pub stops : {A : Type 0} (item : List ℕ → Result (A × List ℕ) MsgFault) (fault : MsgFault) (front : List A) (count i : ℕ) (bytes : List ℕ) (total : Result (List A × List ℕ) MsgFault) → i < count → (fault ≢ NoMemory → item bytes ≡ Err fault)
    → with_front front (each_from item (count - i) bytes) ≡ total → fault ≢ NoMemory → total ≡ Err fault
unfolding each_from
stops item fault front count i bytes total lt h so_far other =
    let k : count - i ≡ suc (count - (i + 1)) = omega arith in
    let one : with_front front (each_from item (count - i) bytes) ≡ Err fault = rw (k, h other) refl in
    sym so_far ∙ one

pub is_done : {A : Type 0} (item : List ℕ → Result (A × List ℕ) MsgFault) (front : List A) (count i : ℕ) (bytes : List ℕ) (total : Result (List A × List ℕ) MsgFault) → count ≤ i → with_front front (each_from item (count - i) bytes) ≡ total → total ≡ Ok (front, bytes)
unfolding each_from
is_done {A} item front count i bytes total le so_far =
    let k : count - i ≡ 0 = omega arith in
    let one : with_front front (each_from item (count - i) bytes) ≡ Ok (front, bytes) = rw k (ap (λ (items : List A). Ok (items, bytes)) (append-nil front)) in
    sym so_far ∙ one
