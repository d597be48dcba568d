-- What the first nine bytes of a log tell.
use Rattle.std.proofs.Common.{◌≡◌, ◌≢◌, ℕ, ◌+◌, ◌<◌, ◌≤◌, List, [], ◌∷◌, ◌++◌, length, take, drop, get_or, sym, ap, ◌∙◌, inr, arith, length-drop, take-append-drop}
use Rattle.std.proofs.lemmas.List.{ext_get_or, get_or-take, length-take-le, take_more}
use Rattle.journal_core.specs.Faults.{IsForeign, IsKept}
use Rattle.journal_core.specs.Fresh.{IsFresh}
use Rattle.journal_core.specs.Headers.{magic}

abbrev pub SameBelow : List ℕ → ℕ → Type 0
SameBelow bytes n = (k : ℕ) → k < n → get_or bytes k 0 ≡ get_or magic k 0

pub same-more : (bytes : List ℕ) (n : ℕ) → SameBelow bytes n → get_or bytes n 0 ≡ get_or magic n 0 → SameBelow bytes (n + 1)
same-more bytes n same one k lt = grind arith

front-same : (bytes : List ℕ) (n : ℕ) → n ≤ 8 → n ≤ length bytes → SameBelow bytes n → take n bytes ≡ take n magic
front-same bytes n low within same =
    let long = length-take-le n bytes within in
    let eight : n ≤ length magic = low in
    ext_get_or 0 (take n bytes) (take n magic) (long ∙ sym (length-take-le n magic eight))
    (λ k lt. let below : k < n = omega (arith, lt, long) in get_or-take n bytes k 0 below ∙ same k below ∙ sym (get_or-take n magic k 0 below))

seen : (log front : List ℕ) (k : ℕ) → k < 9 → take 9 log ≡ front → get_or log k 0 ≡ get_or front k 0
seen log front k lt is = sym (get_or-take 9 log k 0 lt) ∙ ap (λ (l : List ℕ). get_or l k 0) is

pub is-foreign : (log front : List ℕ) (at : ℕ) → at < 8 → SameBelow front at → get_or front at 0 ≢ get_or magic at 0 → 9 < length log → take 9 log ≡ front → IsForeign log at
is-foreign log front at low same differs long is = record {
  long = long;
  within = low;
  same = front-same log at (omega arith) (omega (arith, long)) (λ k lt. seen log front k (omega (arith, lt, low)) is ∙ same k lt);
  differs = λ no. differs (sym (seen log front at (omega (arith, low)) is) ∙ no);
}

front-whole : (log front : List ℕ) → SameBelow front 8 → 9 < length log → take 9 log ≡ front → log ≡ magic ++ get_or front 8 0 ∷ drop 9 log
front-whole log front same long is =
    let eight : take 8 log ≡ magic = front-same log 8 (omega arith) (omega (arith, long)) (λ k lt. seen log front k (omega (arith, lt)) is ∙ same k lt) in
    sym (take-append-drop 9 log)
    ∙ ap (λ (l : List ℕ). l ++ drop 9 log) (take_more log 8 0 (omega (arith, long)))
    ∙ ap (λ (l : List ℕ). (l ++ get_or log 8 0 ∷ []) ++ drop 9 log) eight
    ∙ ap (λ (n : ℕ). magic ++ n ∷ drop 9 log) (seen log front 8 (omega arith) is)

pub is-kept : (log front : List ℕ) → SameBelow front 8 → get_or front 8 0 ≡ 1 → 9 < length log → take 9 log ≡ front → IsKept log
is-kept log front same gate long is = record {
  rest = drop 9 log;
  some = omega (arith, length-drop 9 log, long);
  whole = front-whole log front same long is ∙ ap (λ (n : ℕ). magic ++ n ∷ drop 9 log) gate;
}

pub is-fresh : (log front : List ℕ) → SameBelow front 8 → get_or front 8 0 ≢ 1 → 9 < length log → take 9 log ≡ front → IsFresh log
is-fresh log front same gate long is = inr (record { tail = get_or front 8 0 ∷ drop 9 log; closed = gate; whole = front-whole log front same long is })
