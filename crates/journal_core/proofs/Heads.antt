-- The header's bytes are read.
use Rattle.std.proofs.Common.{◌≡◌, ℕ, ◌-◌, ◌≤◌, List, ◌∷◌, ◌++◌, length, get_or, take, drop, None, sym, ap, ◌∙◌, subst, arith, append_assoc, length-drop, length-take-le}
use Rattle.std.proofs.Math.Seq.{take-add}
use Rattle.std.proofs.lemmas.List.{drop-drop, drop_more, take_at}
use Rattle.byteorder.specs.Endian.{little_bytes}
use Rattle.byteorder.specs.Numbers.{length-bytes_low_first}
use Rattle.journal_core.specs.Faults.{IsKept}
use Rattle.journal_core.specs.Headers.{IsHead, IsKeptSize, IsRoot}
use Rattle.journal_core.specs.declared.header.Header.{Header}
use Rattle.journal_core.proofs.Steps.{rest-whole}

-- a number of eight bytes at the header's size
pub size-is : (log : List ℕ) (size : ℕ) → take (length log - 9) (drop 9 log) ≡ little_bytes 8 size ++ drop 8 (take (length log - 9) (drop 9 log)) → drop 9 log ≡ little_bytes 8 size ++ drop 8 (drop 9 log)
size-is log size read = subst (λ (l : List ℕ). l ≡ little_bytes 8 size ++ drop 8 l) (rest-whole log 9) read

-- a whole header
pub root-none : (bytes : List ℕ) → 21 ≤ length bytes → get_or bytes 0 0 ≡ 0 → IsRoot None (take 21 bytes)
root-none bytes long flag = (
  take 20 (drop 1 bytes),
  length-take-le 20 (drop 1 bytes) (omega (arith, length-drop 1 bytes, long)),
  ap (take 21) (drop_more bytes 0 0 (omega (arith, long))) ∙ ap (λ (k : ℕ). k ∷ take 20 (drop 1 bytes)) flag,
)

fields-split : (rest a : List ℕ) → length a ≡ 8 → rest ≡ a ++ drop 8 rest → take 45 rest ≡ a ++ take 16 (drop 8 rest) ++ take 21 (drop 24 rest)
fields-split rest a eight is =
    take-add 8 37 rest
    ∙ ap (λ (l : List ℕ). l ++ take 37 (drop 8 rest)) (ap (take 8) is ∙ take_at a (drop 8 rest) 8 eight)
    ∙ ap (λ (l : List ℕ). a ++ l) (take-add 16 21 (drop 8 rest) ∙ ap (λ (l : List ℕ). take 16 (drop 8 rest) ++ take 21 l) (drop-drop 16 8 rest))
    ∙ sym (append_assoc a (take 16 (drop 8 rest)) (take 21 (drop 24 rest)))

pub is-head : (log : List ℕ) (h : Header) → IsKept log → 55 ≤ length log → IsKeptSize h.size → drop 9 log ≡ little_bytes 8 h.size ++ drop 8 (drop 9 log)
    → h.hash ≡ take 16 (drop 17 log) → IsRoot h.root (take 21 (drop 33 log)) → IsHead h (take 54 log)
is-head log h kept long sized read hashed rooted =
    let rest = kept.rest in
    let nine : drop 9 log ≡ rest = ap (drop 9) kept.whole in
    let number : rest ≡ little_bytes 8 h.size ++ drop 8 rest = subst (λ (l : List ℕ). l ≡ little_bytes 8 h.size ++ drop 8 l) nine read in
    let hash : h.hash ≡ take 16 (drop 8 rest) = hashed ∙ ap (λ (l : List ℕ). take 16 (drop 17 l)) kept.whole in
    let root : IsRoot h.root (take 21 (drop 24 rest)) = subst (λ (l : List ℕ). IsRoot h.root (take 21 (drop 33 l))) kept.whole rooted in
    let sixteen : length h.hash ≡ 16 = ap length hash ∙ length-take-le 16 (drop 8 rest) (omega (arith, length-drop 8 rest, ap length kept.whole, long)) in (
      take 45 rest,
      record {
        root = take 21 (drop 24 rest);
        rooted = root;
        sized = sized;
        hashed = sixteen;
        whole = fields-split rest (little_bytes 8 h.size) (length-bytes_low_first 0 8 h.size) number ∙ ap (λ (l : List ℕ). little_bytes 8 h.size ++ l ++ take 21 (drop 24 rest)) (sym hash);
      },
      ap (take 54) kept.whole,
    )
