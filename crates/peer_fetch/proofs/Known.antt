-- Bytes that a wire tells, or doesn't.
use Rattle.std.proofs.Common.{◌≡◌, ℕ, ◌-◌, ◌≤◌, List, [], ◌++◌, length, take, drop, Option, Some, None, Result, Ok, IfOk, subst, refl, ap, sym, ◌∙◌, append_assoc, arith}
use Rattle.std.specs.Io.KnownBytes.{prepend_known, append_known}
use Rattle.std.proofs.lemmas.Grind.{common_steps}

pub append_twice : (known : Option (List ℕ)) (a b : List ℕ) → append_known (append_known known a) b ≡ append_known known (a ++ b)
append_twice None a b = refl
append_twice (Some bytes) a b = ap Some (append_assoc bytes a b)

pub prepend_twice : (a b : List ℕ) (known : Option (List ℕ)) → prepend_known a (prepend_known b known) ≡ prepend_known (a ++ b) known
prepend_twice a b None = refl
prepend_twice a b (Some bytes) = ap Some (sym (append_assoc a b bytes))

pub append_nothing : (known : Option (List ℕ)) → append_known known [] ≡ known
append_nothing None = refl
append_nothing (Some bytes) = ap Some (grind (arith, common_steps))

split_more : (part rest : List ℕ) (n : ℕ) → n ≤ length rest → part ++ rest ≡ (part ++ take n rest) ++ take (length rest - n) (drop n rest)
split_more part rest n fits = grind (arith, common_steps)

pub sends_more : (bytes rest : List ℕ) (n : ℕ) (old mid new : Option (List ℕ)) → n ≤ length rest → ((part : List ℕ) × (bytes ≡ part ++ rest) × (mid ≡ append_known old part)) → new ≡ append_known mid (take n rest) → (part : List ℕ) × (bytes ≡ part ++ take (length rest - n) (drop n rest)) × (new ≡ append_known old part)
sends_more bytes rest n old mid new fits (part, split, sent) more =
    (part ++ take n rest, split ∙ split_more part rest n fits, more ∙ ap (λ known. append_known known (take n rest)) sent ∙ append_twice old part (take n rest))

pub if_ok : {T E : Type 0} (P : T → Type 0) (result : Result T E) (value : T) → result ≡ Ok value → IfOk result P → P value
if_ok P result value is holds = subst (λ found. IfOk found P) is holds
