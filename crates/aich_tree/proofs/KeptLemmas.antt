-- The parts of a tree and the nodes above them, as they are kept.
use Rattle.std.proofs.Common.{arith, ◌≡◌, refl, sym, ◌∙◌, ap, ℕ, zero, suc, ◌+◌, ◌-◌, ◌<◌, ◌≤◌, nat_le, Bool, true, false, List, [], ◌∷◌, ◌++◌, length, take, drop, get_or, append_assoc, append-nil, length-append, length-drop, subst, inl, inr}
use Rattle.std.proofs.lemmas.Bool.{cases_lt}
use Rattle.std.proofs.lemmas.Bool.Decides.{nat_tests}
use Rattle.std.proofs.lemmas.List.{drop-drop, drop-take, take-take, take_all, length-take-le, get_or_append_left, get_or-append_right, get_or_push}
use Rattle.part_sizes.specs.declared.part.TheConstants.{PART}
use Rattle.aich_tree.specs.Kept.{kept_count, kept_within, kept_of, IsAmong, IsKeptAt}
use Rattle.aich_tree.specs.Tree.{tree, left_bytes}
use Rattle.aich_tree.proofs.PlaceLemmas.{length-bytes_at}
use Rattle.aich_tree.proofs.Division.{flag_small, left_bytes-parts, left_bytes-some, left_bytes-proper}

abbrev first : List ℕ → Bool → List ℕ
first bytes left = take (left_bytes (length bytes) left) bytes

abbrev second : List ℕ → Bool → List ℕ
second bytes left = drop (left_bytes (length bytes) left) bytes

length-first : (bytes : List ℕ) (left : Bool) → PART < length bytes → length (first bytes left) ≡ left_bytes (length bytes) left
length-first bytes left large =
    length-take-le (left_bytes (length bytes) left) bytes (omega (arith, left_bytes-proper (length bytes) left (omega (arith, large))))

length-second : (bytes : List ℕ) (left : Bool) → length (second bytes left) ≡ length bytes - left_bytes (length bytes) left
length-second bytes left = length-drop (left_bytes (length bytes) left) bytes

within-part : (levels : ℕ) (bytes : List ℕ) (left : Bool) → length bytes ≤ PART → kept_within levels bytes left ≡ tree bytes left ∷ []
unfolding kept_within
within-part zero bytes left small = refl
within-part (suc levels) bytes left small =
    let test : nat_le (length bytes) PART ≡ true = grind (arith, nat_tests) in rw test refl

within-above : (levels : ℕ) (bytes : List ℕ) (left : Bool) → PART < length bytes
    → kept_within (suc levels) bytes left ≡ kept_within levels (first bytes left) true ++ kept_within levels (second bytes left) false ++ tree bytes left ∷ []
unfolding kept_within
within-above levels bytes left large =
    let test : nat_le (length bytes) PART ≡ false = grind (arith, nat_tests) in rw test refl

-- the nodes do not depend on the number of levels that are allowed, where there are enough
enough : (levels others : ℕ) (bytes : List ℕ) (left : Bool) → length bytes ≤ levels → length bytes ≤ others → kept_within levels bytes left ≡ kept_within others bytes left
enough zero others bytes left fits fits' =
    within-part zero bytes left (omega arith) ∙ sym (within-part others bytes left (omega arith))
enough (suc levels) zero bytes left fits fits' =
    within-part (suc levels) bytes left (omega arith) ∙ sym (within-part zero bytes left (omega arith))
enough (suc levels) (suc others) bytes left fits fits' =
    elim (cases_lt PART (length bytes)) [
      | inl large ↦
          let some = left_bytes-some (length bytes) left (omega (arith, large)) in
          let proper = left_bytes-proper (length bytes) left (omega (arith, large)) in
          let here = length-first bytes left large in
          let there = length-second bytes left in
          within-above levels bytes left large
          ∙ ap (λ (nodes : List (List ℕ)). nodes ++ kept_within levels (second bytes left) false ++ tree bytes left ∷ [])
          (enough levels others (first bytes left) true (omega arith) (omega arith))
          ∙ ap (λ (nodes : List (List ℕ)). kept_within others (first bytes left) true ++ nodes ++ tree bytes left ∷ [])
          (enough levels others (second bytes left) false (omega arith) (omega arith))
          ∙ sym (within-above others bytes left large)
      | inr small ↦ within-part (suc levels) bytes left small ∙ sym (within-part (suc others) bytes left small)
    ]

pub kept_of-part : (bytes : List ℕ) (left : Bool) → length bytes ≤ PART → kept_of bytes left ≡ tree bytes left ∷ []
unfolding kept_of
kept_of-part bytes left small = within-part (length bytes) bytes left small

from_levels : (levels : ℕ) (bytes : List ℕ) (left : Bool) → length bytes ≡ suc levels → PART < length bytes
    → kept_of bytes left ≡ kept_of (first bytes left) true ++ kept_of (second bytes left) false ++ tree bytes left ∷ []
unfolding kept_of
from_levels levels bytes left count large =
    let some = left_bytes-some (length bytes) left (omega (arith, large)) in
    let proper = left_bytes-proper (length bytes) left (omega (arith, large)) in
    let here = length-first bytes left large in
    let there = length-second bytes left in
    ap (λ (n : ℕ). kept_within n bytes left) count
    ∙ within-above levels bytes left large
    ∙ ap (λ (nodes : List (List ℕ)). nodes ++ kept_within levels (second bytes left) false ++ tree bytes left ∷ [])
    (enough levels (length (first bytes left)) (first bytes left) true (omega arith) (omega arith))
    ∙ ap (λ (nodes : List (List ℕ)). kept_within (length (first bytes left)) (first bytes left) true ++ nodes ++ tree bytes left ∷ [])
    (enough levels (length (second bytes left)) (second bytes left) false (omega arith) (omega arith))

before : (n : ℕ) → 0 < n → (levels : ℕ) × (n ≡ suc levels)
before zero some = absurd (omega arith)
before (suc levels) some = (levels, refl)

pub kept_of-above : (bytes : List ℕ) (left : Bool) → PART < length bytes
    → kept_of bytes left ≡ kept_of (first bytes left) true ++ kept_of (second bytes left) false ++ tree bytes left ∷ []
kept_of-above bytes left large =
    let levels = before (length bytes) (omega arith) in
    from_levels levels.0 bytes left levels.1 large

pub kept_count-split : (n : ℕ) (left : Bool) → PART < n → kept_count n ≡ kept_count (left_bytes n left) + kept_count (n - left_bytes n left) + 1
kept_count-split n left large =
    let small = flag_small left in
    let e = left_bytes-parts n left large in omega arith

-- ---- how many they are, and which is the last

length_within : (levels : ℕ) (bytes : List ℕ) (left : Bool) → length bytes ≤ levels → 0 < length bytes → length (kept_of bytes left) ≡ kept_count (length bytes)
length_within zero bytes left fits some = absurd (omega arith)
length_within (suc levels) bytes left fits some =
    elim (cases_lt PART (length bytes)) [
      | inl large ↦
          let more = left_bytes-some (length bytes) left (omega (arith, large)) in
          let proper = left_bytes-proper (length bytes) left (omega (arith, large)) in
          let here = length-first bytes left large in
          let there = length-second bytes left in
          let one = length_within levels (first bytes left) true (omega arith) (omega arith) in
          let two = length_within levels (second bytes left) false (omega arith) (omega arith) in
          let split = kept_count-split (length bytes) left large in
          let both = length-append (kept_of (first bytes left) true) (kept_of (second bytes left) false) in
          let all = length-append (kept_of (first bytes left) true ++ kept_of (second bytes left) false) (tree bytes left ∷ []) in
          ap length (kept_of-above bytes left large)
          ∙ omega (arith, all, both, one, two, split, ap kept_count here, ap kept_count there)
      | inr small ↦ ap length (kept_of-part bytes left small) ∙ omega (arith, small, some)
    ]

pub length-kept_of : (bytes : List ℕ) (left : Bool) → 0 < length bytes → length (kept_of bytes left) ≡ kept_count (length bytes)
length-kept_of bytes left some = length_within (length bytes) bytes left (omega arith) some

-- a list whose last is the node's own hash
record Ends (bytes : List ℕ) (left : Bool) : Type 0 where
  pub front : List (List ℕ)
  pub whole : kept_of bytes left ≡ front ++ tree bytes left ∷ []

ends : (bytes : List ℕ) (left : Bool) → Ends bytes left
ends bytes left =
    elim (cases_lt PART (length bytes)) [
      | inl large ↦ record { front = kept_of (first bytes left) true ++ kept_of (second bytes left) false; whole = kept_of-above bytes left large }
      | inr small ↦ record { front = []; whole = kept_of-part bytes left small }
    ]

pub kept_of-last : (bytes : List ℕ) (left : Bool) (other : List ℕ) → 0 < length bytes → get_or (kept_of bytes left) (kept_count (length bytes) - 1) other ≡ tree bytes left
kept_of-last bytes left other some =
    let end = ends bytes left in
    let long = length-append end.front (tree bytes left ∷ []) in
    let place : length end.front ≡ kept_count (length bytes) - 1 = omega (arith, long, ap length end.whole, length-kept_of bytes left some) in
    ap (λ (nodes : List (List ℕ)). get_or nodes (kept_count (length bytes) - 1) other) end.whole
    ∙ get_or_push end.front (tree bytes left) other (kept_count (length bytes) - 1) place

-- ---- where they stand among all that are kept

flat : (b x y z r : List (List ℕ)) → (b ++ (x ++ y ++ z)) ++ r ≡ b ++ (x ++ (y ++ (z ++ r)))
flat b x y z r =
    append_assoc b (x ++ y ++ z) r
    ∙ ap (λ (nodes : List (List ℕ)). b ++ nodes) (append_assoc (x ++ y) z r ∙ append_assoc x y (z ++ r))

among-first : (all : List (List ℕ)) (at : ℕ) (x y z : List (List ℕ)) → IsAmong all at (x ++ y ++ z) → IsAmong all at x
among-first all at x y z here =
    record {
      before = here.before;
      behind = y ++ (z ++ here.behind);
      whole = here.whole ∙ flat here.before x y z here.behind ∙ sym (append_assoc here.before x (y ++ (z ++ here.behind)));
      placed = here.placed;
    }

among-second : (all : List (List ℕ)) (at : ℕ) (x y z : List (List ℕ)) → IsAmong all at (x ++ y ++ z) → IsAmong all (at + length x) y
among-second all at x y z here =
    record {
      before = here.before ++ x;
      behind = z ++ here.behind;
      whole =
          here.whole
          ∙ flat here.before x y z here.behind
          ∙ sym (append_assoc here.before x (y ++ (z ++ here.behind)))
          ∙ sym (append_assoc (here.before ++ x) y (z ++ here.behind));
      placed = length-append here.before x ∙ ap (λ (n : ℕ). n + length x) here.placed;
    }

-- the last of these
among-last : (all : List (List ℕ)) (at n : ℕ) (these : List (List ℕ)) (other : List ℕ) → length these ≡ n → 0 < n → IsAmong all at these → get_or all (at + n - 1) other ≡ get_or these (n - 1) other
among-last all at n these other long some here =
    let both = length-append here.before these in
    let behind : at + n - 1 - at ≡ n - 1 = omega arith in
    ap (λ (nodes : List (List ℕ)). get_or nodes (at + n - 1) other) here.whole
    ∙ get_or_append_left (here.before ++ these) here.behind other (at + n - 1) (omega (arith, both, long, here.placed, some))
    ∙ get_or-append_right here.before these at (at + n - 1) other here.placed (omega (arith, some))
    ∙ ap (λ (i : ℕ). get_or these i other) behind

pub root-kept : (size : ℕ) → IsKeptAt size true (record { s = 0; e = size }) 0
root-kept size =
    record {
      within = omega arith;
      count = omega arith;
      nodes = λ bytes count.
          record {
            before = [];
            behind = [];
            whole = ap (λ (whole : List ℕ). kept_of whole true) (sym (take_all (size - 0) bytes (omega (arith, count)))) ∙ sym (append-nil (kept_of (take (size - 0) (drop 0 bytes)) true));
            placed = refl;
          };
    }

pub left-kept : (size s e at : ℕ) (left : Bool) → PART < e - s → IsKeptAt size left (record { s = s; e = e }) at
    → IsKeptAt size true (record { s = s; e = s + left_bytes (e - s) left }) at
left-kept size s e at left large parent =
    let l = left_bytes (e - s) left in
    let proper = left_bytes-proper (e - s) left (omega (arith, large)) in
    let split = kept_count-split (e - s) left large in
    let width : s + l - s ≡ l = omega arith in
    record {
      within = omega (arith, proper, parent.within);
      count = omega (arith, split, parent.count, ap kept_count width);
      nodes = λ bytes count.
          let whole = take (e - s) (drop s bytes) in
          let long : length whole ≡ e - s = length-bytes_at bytes size s e count parent.within in
          let large' : PART < length whole = omega (arith, long, large) in
          let here : first whole left ≡ take (s + l - s) (drop s bytes) =
          ap (λ (n : ℕ). take (left_bytes n left) whole) long
          ∙ take-take l (e - s) (drop s bytes) (omega (arith, proper))
          ∙ ap (λ (n : ℕ). take n (drop s bytes)) (sym width) in
          subst (λ (these : List ℕ). IsAmong (kept_of bytes true) at (kept_of these true)) here
          (among-first (kept_of bytes true) at (kept_of (first whole left) true) (kept_of (second whole left) false) (tree whole left ∷ [])
          (subst (IsAmong (kept_of bytes true) at) (kept_of-above whole left large') (parent.nodes bytes count)));
    }

pub right-kept : (size s e at : ℕ) (left : Bool) → PART < e - s → IsKeptAt size left (record { s = s; e = e }) at
    → IsKeptAt size false (record { s = s + left_bytes (e - s) left; e = e }) (at + kept_count (left_bytes (e - s) left))
right-kept size s e at left large parent =
    let l = left_bytes (e - s) left in
    let some = left_bytes-some (e - s) left (omega (arith, large)) in
    let proper = left_bytes-proper (e - s) left (omega (arith, large)) in
    let split = kept_count-split (e - s) left large in
    let width : e - (s + l) ≡ e - s - l = omega arith in
    let all : e - s ≡ l + (e - s - l) = omega (arith, proper) in
    record {
      within = parent.within;
      count = omega (arith, split, parent.count, ap kept_count width);
      nodes = λ bytes count.
          let whole = take (e - s) (drop s bytes) in
          let long : length whole ≡ e - s = length-bytes_at bytes size s e count parent.within in
          let large' : PART < length whole = omega (arith, long, large) in
          let cut : left_bytes (length whole) left ≡ l = ap (λ (n : ℕ). left_bytes n left) long in
          let before : length (kept_of (first whole left) true) ≡ kept_count l =
          length-kept_of (first whole left) true (omega (arith, length-first whole left large', cut, some))
          ∙ ap kept_count (length-first whole left large' ∙ cut) in
          let there : second whole left ≡ take (e - (s + l)) (drop (s + l) bytes) =
          ap (λ (n : ℕ). drop n whole) cut
          ∙ ap (λ (n : ℕ). drop l (take n (drop s bytes))) all
          ∙ drop-take l (e - s - l) (drop s bytes)
          ∙ ap (λ (rest : List ℕ). take (e - s - l) rest) (drop-drop l s bytes)
          ∙ ap (λ (n : ℕ). take n (drop (s + l) bytes)) (sym width) in
          let found = among-second (kept_of bytes true) at (kept_of (first whole left) true) (kept_of (second whole left) false) (tree whole left ∷ [])
          (subst (IsAmong (kept_of bytes true) at) (kept_of-above whole left large') (parent.nodes bytes count)) in
          subst (λ (n : ℕ). IsAmong (kept_of bytes true) (at + n) (kept_of (take (e - (s + l)) (drop (s + l) bytes)) false)) before
          (subst (λ (these : List ℕ). IsAmong (kept_of bytes true) (at + length (kept_of (first whole left) true)) (kept_of these false)) there found);
    }

pub node-kept : (bytes : List ℕ) (size s e at : ℕ) (left : Bool) (other : List ℕ) → length bytes ≡ size → s < e → IsKeptAt size left (record { s = s; e = e }) at
    → get_or (kept_of bytes true) (at + kept_count (e - s) - 1) other ≡ tree (take (e - s) (drop s bytes)) left
node-kept bytes size s e at left other count some here =
    let whole = take (e - s) (drop s bytes) in
    let long : length whole ≡ e - s = length-bytes_at bytes size s e count here.within in
    let filled : 0 < length whole = omega (arith, long, some) in
    among-last (kept_of bytes true) at (kept_count (e - s)) (kept_of whole left) other (length-kept_of whole left filled ∙ ap kept_count long) (omega (arith, some)) (here.nodes bytes count)
    ∙ ap (λ (n : ℕ). get_or (kept_of whole left) (kept_count n - 1) other) (sym long)
    ∙ kept_of-last whole left other filled
