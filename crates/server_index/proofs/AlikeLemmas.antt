-- Files whose fields are alike are the same: each fact on a length has one proof.
use Rattle.std.proofs.Common.{◌≡◌, ℕ, ◌≤◌, List, length, subst}
use Rattle.std.proofs.Math.Bridge.{le_prop}
use Rattle.search_expr.specs.declared.expr.FileRow.{FileRow}
use Rattle.server_index.specs.Live.{File}

abbrev pub file_with : (name : List ℕ) → ℕ → (kind : List ℕ) → ℕ → ℕ → length name ≤ 65535 → length kind ≤ 65535 → File
file_with name size kind id port p q = record { name = name; size = size; kind = kind; id = id; port = port; short_name = p; short_kind = q }

pub file_alike : (size id port : ℕ) (name name' kind kind' : List ℕ) → name ≡ name' → kind ≡ kind' → (p : length name ≤ 65535) (p' : length name' ≤ 65535) (q : length kind ≤ 65535) (q' : length kind' ≤ 65535)
    → file_with name size kind id port p q ≡ file_with name' size kind' id port p' q'
file_alike size id port name name' kind kind' same same' p p' q q' =
    subst (λ (n : List ℕ). (r : length n ≤ 65535) → file_with name size kind id port p q ≡ file_with n size kind' id port r q') same
    (λ r. subst (λ (k : List ℕ). (s : length k ≤ 65535) → file_with name size kind id port p q ≡ file_with name size k id port r s) same'
    (λ s i. file_with name size kind id port (le_prop p r i) (le_prop q s i)) q')
    p'

abbrev pub row_with : List ℕ → (name : List ℕ) → ℕ → (kind : List ℕ) → length name ≤ 65535 → length kind ≤ 65535 → FileRow
row_with hash name size kind p q = record { hash = hash; name = name; size = size; kind = kind; short_name = p; short_kind = q }

pub row_alike : (hash : List ℕ) (size : ℕ) (name name' kind kind' : List ℕ) → name ≡ name' → kind ≡ kind' → (p : length name ≤ 65535) (p' : length name' ≤ 65535) (q : length kind ≤ 65535) (q' : length kind' ≤ 65535)
    → row_with hash name size kind p q ≡ row_with hash name' size kind' p' q'
row_alike hash size name name' kind kind' same same' p p' q q' =
    subst (λ (n : List ℕ). (r : length n ≤ 65535) → row_with hash name size kind p q ≡ row_with hash n size kind' r q') same
    (λ r. subst (λ (k : List ℕ). (s : length k ≤ 65535) → row_with hash name size kind p q ≡ row_with hash name size k r s) same'
    (λ s i. row_with hash name size kind (le_prop p r i) (le_prop q s i)) q')
    p'
