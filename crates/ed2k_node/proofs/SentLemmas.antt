-- Bytes that are sent piece by piece.
use Rattle.std.proofs.Common.{◌≡◌, ◌∙◌, refl, sym, ap, List, ℕ, [], ◌∷◌, ◌++◌, length, take, Option, Result, Ok, Err}
use Rattle.std.specs.Io.KnownBytes.{append_known}
use Rattle.framed_wire.specs.Sending.{SendsFront}
use Rattle.ed2k_node.specs.Sent.{HasSent}

take_front : (part rest : List ℕ) → take (length part) (part ++ rest) ≡ part
take_front [] rest = refl
take_front (byte ∷ part) rest = ap (λ (xs : List ℕ). byte ∷ xs) (take_front part rest)

-- a front of the bytes is so many of them
pub has_sent : {T E : Type 0} (result : Result T E) (bytes : List ℕ) (old new : Option (List ℕ)) → SendsFront result bytes old new → HasSent result old new bytes
has_sent (Ok done) bytes old new sent = sent
has_sent (Err failed) bytes old new (part, (rest, is), sent) =
    (length part, sent ∙ ap (append_known old) (sym (ap (take (length part)) is ∙ take_front part rest)))
