-- Bytes that are sent a piece at a time.
use Rattle.std.proofs.Common.{◌≡◌, ℕ, ◌-◌, ◌≤◌, List, ◌++◌, length, take, drop, Option, Some, None, refl, ap, ◌∙◌, append_assoc, arith}
use Rattle.std.specs.Io.KnownBytes.{append_known}
use Rattle.std.proofs.lemmas.Grind.{common_steps}

append_twice : (known : Option (List ℕ)) (a b : List ℕ) → append_known (append_known known a) b ≡ append_known known (a ++ b)
append_twice None a b = refl
append_twice (Some bytes) a b = ap Some (append_assoc bytes a b)

split_more : (part rest : List ℕ) (n : ℕ) → n ≤ length rest → part ++ rest ≡ (part ++ take n rest) ++ take (length rest - n) (drop n rest)
split_more part rest n fits = grind (arith, common_steps)

pub sends_more : (bytes rest : List ℕ) (n : ℕ) (old mid new : Option (List ℕ)) → n ≤ length rest → ((part : List ℕ) × (bytes ≡ part ++ rest) × (mid ≡ append_known old part)) → new ≡ append_known mid (take n rest) → (part : List ℕ) × (bytes ≡ part ++ take (length rest - n) (drop n rest)) × (new ≡ append_known old part)
sends_more bytes rest n old mid new fits (part, split, sent) more =
    (part ++ take n rest, split ∙ split_more part rest n fits, more ∙ ap (λ known. append_known known (take n rest)) sent ∙ append_twice old part (take n rest))
