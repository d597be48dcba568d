-- From the items of a link to its text.
use Rattle.std.proofs.Common.{◌≡◌, ◌∙◌, refl, sym, ap, ℕ, Bool, true, false, cond, List, drop, length, Some, None, Result, Ok, Err, MatchResult, ◌⊎◌, inl, inr, ⊎_elim}
use Rattle.ed2k_link.specs.Grammar.{Link, Write, head, is_file, items_of, fault_of, item_fault}
use Rattle.ed2k_link.specs.Items.{split_at_bars}
use Rattle.ed2k_link.specs.Prefix.{after_prefix}
use Rattle.ed2k_link.specs.declared.fault.LinkFault.{LinkFault}
use Rattle.ed2k_link.specs.declared.fault.LinkFault.TheVariants.{NoMemory}
use Rattle.ed2k_link.specs.declared.link.FileLink.{FileLink}

stripped : (b : Bool) (rest body : List ℕ) → cond b (Some rest) None ≡ Some body → (b ≡ true) × (rest ≡ body)
stripped true rest body h = (refl, cc)
stripped false rest body h = absurd (cc)

pub link_from_items : (text body : List ℕ) (items : List (List ℕ)) (r : Result FileLink LinkFault)
    → after_prefix head text ≡ Some body → items ≡ split_at_bars body
    → MatchResult r (λ link. Write items link) (λ fault. (fault ≡ NoMemory) ⊎ (item_fault items ≡ Some fault))
    → MatchResult r (Link text) (λ fault. (fault ≡ NoMemory) ⊎ (fault_of text ≡ Some fault))
link_from_items text body items (Ok link) begun split h =
    let parts = stripped (is_file text) (drop (length head) text) body begun in
    let same : items_of text ≡ items = ap split_at_bars parts.1 ∙ sym split in
    record { begun = parts.0; items = rw same h }
link_from_items text body items (Err fault) begun split h =
    let parts = stripped (is_file text) (drop (length head) text) body begun in
    let same : items_of text ≡ items = ap split_at_bars parts.1 ∙ sym split in
    ⊎_elim (λ e. inl e) (λ e. inr (rw (parts.0, same) e)) h
