use Rattle.std.proofs.Common.{◌≡◌, ◌∙◌, refl, sym, ℕ, List, Bool, true, false, Result, Ok, Err, MatchResult, is_ok}
use Rattle.std.proofs.lemmas.Str.{is_utf8-from_IsUtf8, IsUtf8-from_is_utf8}
use Rattle.std.specs.Str.{IsUtf8, is_utf8}
use Rattle.ed2k_link.proofs.name.is_text.Goals as goal

false_from : (b : Bool) → (b ≡ true → ⊥) → false ≡ b
false_from true h = absurd (h refl)
false_from false h = refl

is_ok_is : {T E : Type 0} (r : Result T E) (bytes : List ℕ) (P : T → Type 0) (Q : E → Type 0)
    → MatchResult r (λ s. P s × IsUtf8 bytes) (λ e. ¬ (IsUtf8 bytes) × Q e) → is_ok r ≡ is_utf8 bytes
is_ok_is (Ok s) bytes P Q h = sym (is_utf8-from_IsUtf8 bytes h.1)
is_ok_is (Err e) bytes P Q h = false_from (is_utf8 bytes) (λ yes. h.0 (IsUtf8-from_is_utf8 bytes yes))

pub returns : goal.returns
returns c = c.is_ok.ensures.value ∙ is_ok_is _ c.args.bytes.now _ _ c.from_utf8.ensures.cases
