-- A file that is asked for has the words that are needed.
use Rattle.std.proofs.Common.{◌≡◌, ℕ, Bool, true, false, cond, List, [], ◌∷◌, ◌++◌, refl, ap, sym, ◌∙◌, map, ◌&&◌, ◌||◌, inl, inr, ◌⊎◌}
use Rattle.std.specs.Prelude.{not, nat_eq}
use Rattle.std.specs.Cmp.Lexicographic.{pointwise}
use Rattle.std.specs.Cmp.Lexicographic.{same_text as same_text_is}
use Rattle.std.proofs.lemmas.Bool.{eq-eqb}
use Rattle.std.specs.List.{list_all, list_any}
use Rattle.search_expr.specs.Query.{Query, Both, Either, ButNot, HasWords, HasText, HasNumber}
use Rattle.search_expr.specs.Meets.{File, meets, is_named, meets_text}
use Rattle.search_expr.specs.Words.{words, has_word, has_words, same_text}
use Rattle.search_expr.specs.Needs.{needs, sides, has_all, NeedsAll, NeedsOne, NeedsKeys}

pub both : (a b : Bool) → (a && b) ≡ true → (a ≡ true) × (b ≡ true)
both true b e = (refl, e)
both false b e = absurd cc

either : (a b : Bool) → (a || b) ≡ true → (a ≡ true) ⊎ (b ≡ true)
either true b e = inl refl
either false b e = inr e

all_both : (p : List ℕ → Bool) (xs ys : List (List ℕ)) → list_all p xs ≡ true → list_all p ys ≡ true → list_all p (xs ++ ys) ≡ true
all_both p [] ys e f = f
all_both p (x ∷ xs) ys e f = let b = both (p x) (list_all p xs) e in rw b.0 (all_both p xs ys b.1 f)

any_left : (p : List (List ℕ) → Bool) (xs ys : List (List (List ℕ))) → list_any p xs ≡ true → list_any p (xs ++ ys) ≡ true
any_left p [] ys e = absurd cc
any_left p (x ∷ xs) ys e = elim (either (p x) (list_any p xs) e) [
  | inl here ↦ rw here refl
  | inr there ↦ rw (any_left p xs ys there) (or_true (p x))
]
  where
    or_true : (b : Bool) → (b || true) ≡ true
    or_true true = refl
    or_true false = refl

any_right : (p : List (List ℕ) → Bool) (xs ys : List (List (List ℕ))) → list_any p ys ≡ true → list_any p (xs ++ ys) ≡ true
any_right p [] ys e = e
any_right p (x ∷ xs) ys e = rw (any_right p xs ys e) (or_true (p x))
  where
    or_true : (b : Bool) → (b || true) ≡ true
    or_true true = refl
    or_true false = refl

-- words of a text that stands in a tag
text_needs : (b : Bool) (other : Bool) (value name : List ℕ) → cond b (has_words value name) other ≡ true → has_all name (cond b (words value) []) ≡ true
text_needs true other value name e = e
text_needs false other value name e = refl

pub needs_all : NeedsAll
needs_all (Both left right) file e =
    let b = both (meets left file) (meets right file) e in
    all_both (has_word (words file.name)) (needs left) (needs right) (needs_all left file b.0) (needs_all right file b.1)
needs_all (Either left right) file e = refl
needs_all (ButNot left right) file e = needs_all left file (both (meets left file) (not (meets right file)) e).0
needs_all (HasWords text) file e = e
needs_all (HasText value tag) file e = text_needs (is_named tag 1) (is_named tag 3 && same_text value file.kind) value file.name e
needs_all (HasNumber value most tag) file e = refl

more_any : (name : List ℕ) (more : List (List ℕ)) (xs : List (List (List ℕ))) → has_all name more ≡ true → list_any (has_all name) xs ≡ true → list_any (has_all name) (map (λ some. some ++ more) xs) ≡ true
more_any name more [] m e = absurd cc
more_any name more (x ∷ xs) m e = elim (either (has_all name x) (list_any (has_all name) xs) e) [
  | inl here ↦ rw (all_both (has_word (words name)) x more here m) refl
  | inr there ↦ rw (more_any name more xs m there) (or_true (has_all name (x ++ more)))
]
  where
    or_true : (b : Bool) → (b || true) ≡ true
    or_true true = refl
    or_true false = refl

single : (b : Bool) → b ≡ true → (b || false) ≡ true
single true e = refl
single false e = absurd cc

pub needs_one : NeedsOne
needs_one (Both left right) file e =
    let b = both (meets left file) (meets right file) e in
    more_any file.name (needs right) (sides left) (needs_all right file b.1) (needs_one left file b.0)
needs_one (Either left right) file e = elim (either (meets left file) (meets right file) e) [
  | inl l ↦ any_left (has_all file.name) (sides left) (sides right) (needs_one left file l)
  | inr r ↦ any_right (has_all file.name) (sides left) (sides right) (needs_one right file r)
]
needs_one (ButNot left right) file e = needs_one left file (both (meets left file) (not (meets right file)) e).0
needs_one (HasWords text) file e = single (has_words text file.name) e
needs_one (HasText value tag) file e = single (has_all file.name (cond (is_named tag 1) (words value) [])) (text_needs (is_named tag 1) (is_named tag 3 && same_text value file.kind) value file.name e)
needs_one (HasNumber value most tag) file e = refl

any_key : (key : List ℕ → ℕ) (word : List ℕ) (ws : List (List ℕ)) → list_any (pointwise nat_eq word) ws ≡ true → list_any (nat_eq (key word)) (map key ws) ≡ true
any_key key word [] e = absurd cc
any_key key word (w ∷ ws) e = elim (either (pointwise nat_eq word w) (list_any (pointwise nat_eq word) ws) e) [
  | inl here ↦ let same : word ≡ w = same_text_is word w (sym here) in rw (eq-eqb (key word) (key w) (ap key same)) refl
  | inr there ↦ rw (any_key key word ws there) (or_true (nat_eq (key word) (key w)))
]
  where
    or_true : (b : Bool) → (b || true) ≡ true
    or_true true = refl
    or_true false = refl

all_keys : (key : List ℕ → ℕ) (ws some : List (List ℕ)) → list_all (λ word. list_any (pointwise nat_eq word) ws) some ≡ true → list_all (λ k. list_any (nat_eq k) (map key ws)) (map key some) ≡ true
all_keys key ws [] e = refl
all_keys key ws (word ∷ some) e =
    let b = both (list_any (pointwise nat_eq word) ws) (list_all (λ word. list_any (pointwise nat_eq word) ws) some) e in
    rw (any_key key word ws b.0) (all_keys key ws some b.1)

pub needs_keys : NeedsKeys
needs_keys key e file h = all_keys key (words file.name) (needs e) (needs_all e file h)
