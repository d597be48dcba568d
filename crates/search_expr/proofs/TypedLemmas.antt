-- How great the expression is that is typed: each term is a node, and each but the first one more level and one more node.
use Rattle.std.proofs.Common.{◌≡◌, ℕ, ◌+◌, ◌*◌, ◌<◌, ◌≤◌, Bool, true, false, cond, ltb, List, [], ◌∷◌, drop, Ok, Err, Option, Some, None, refl, sym, ap, ◌∙◌, arith, inl, inr}
use Rattle.std.specs.Prelude.{◌||◌, ◌&&◌}
use Rattle.std.proofs.lemmas.Bool.{cases_Bool, cond-true, cond-false, cases_lt, lt-ltb, le-ltb, ne_eqb}
use Rattle.search_expr.specs.declared.typed.WordsFault.TheVariants.{Many}
use Rattle.search_expr.specs.declared.read.Join.{Join}
use Rattle.search_expr.specs.declared.read.Join.TheVariants as joins
use Rattle.search_expr.specs.Query.{Query, HasWords, HasText, HasNumber, joined, depth, nodes}
use Rattle.search_expr.specs.Typed.{is_term, begins_term, term, term_of, or_word, sized, number_of, begins, parsed, bad_number, terms, dangling, built, whole, is_too_great, join_of}

-- one node, one level
record IsLeaf (e : Query) : Type 0 where
  pub depth_is : depth e ≡ 1
  pub nodes_is : nodes e ≡ 1

leaf_or : (piece : List ℕ) (b : Bool) (x y : Option Query) → IsLeaf (or_word piece x) → IsLeaf (or_word piece y) → IsLeaf (or_word piece (cond b x y))
leaf_or piece true x y h k = h
leaf_or piece false x y h k = k

leaf_sized : (piece : List ℕ) (most : Bool) (n : Option ℕ) → IsLeaf (or_word piece (sized most n))
leaf_sized piece most None = record { depth_is = refl; nodes_is = refl }
leaf_sized piece most (Some n) = record { depth_is = refl; nodes_is = refl }

leaf_term : (piece : List ℕ) → IsLeaf (term piece)
leaf_term piece =
    let kind : Option Query = Some (HasText (drop 5 piece) (3 ∷ [])) in
    let word : Option Query = Some (HasWords piece) in
    let least = begins piece (115 ∷ 105 ∷ 122 ∷ 101 ∷ 62 ∷ 61 ∷ []) in
    let most = begins piece (115 ∷ 105 ∷ 122 ∷ 101 ∷ 60 ∷ 61 ∷ []) in
    let type = begins piece (116 ∷ 121 ∷ 112 ∷ 101 ∷ 61 ∷ []) in
    let n = number_of (drop 6 piece) in
    leaf_or piece least (sized false n) (cond most (sized true n) (cond type kind word)) (leaf_sized piece false n)
    (leaf_or piece most (sized true n) (cond type kind word) (leaf_sized piece true n)
    (leaf_or piece type kind word (record { depth_is = refl; nodes_is = refl }) (record { depth_is = refl; nodes_is = refl })))

joined_depth : (join : Join) (left right : Query) → depth right ≡ 1 → 1 ≤ depth left → depth (joined join left right) ≡ depth left + 1
joined_depth joins.And left right e l = omega (arith, e, l)
joined_depth joins.Or left right e l = omega (arith, e, l)
joined_depth joins.Not left right e l = omega (arith, e, l)

joined_nodes : (join : Join) (left right : Query) → nodes right ≡ 1 → nodes (joined join left right) ≡ nodes left + 2
joined_nodes joins.And left right e = omega (arith, e)
joined_nodes joins.Or left right e = omega (arith, e)
joined_nodes joins.Not left right e = omega (arith, e)

record IsGrown (e : Query) (more : ℕ) (new : Query) : Type 0 where
  pub depth_is : depth new ≡ depth e + more
  pub nodes_is : nodes new ≡ nodes e + 2 * more

grown : (join : Join) (e : Query) (ps : List (ℕ × List ℕ)) → 1 ≤ depth e → IsGrown e (terms ps) (built join e ps)
grown join e [] l = record { depth_is = omega arith; nodes_is = omega arith }
grown join e (p ∷ ps) l = elim (cases_Bool (is_term p.1)) [
  | inl t ↦
      let leaf = leaf_term p.1 in
      let d = joined_depth join e (term p.1) leaf.depth_is l in
      let n = joined_nodes join e (term p.1) leaf.nodes_is in
      let g = grown joins.And (joined join e (term p.1)) ps (omega (arith, d, l)) in
      let it : IsGrown e (terms ps + 1) (built joins.And (joined join e (term p.1)) ps) = record { depth_is = omega (arith, d, g.depth_is); nodes_is = omega (arith, n, g.nodes_is) } in
      rw t it
  | inr t ↦
      rw t (grown (join_of p.1) e ps l)
]

begun : (p : ℕ × List ℕ) (ps : List (ℕ × List ℕ)) → dangling false (p ∷ ps) ≡ None → is_term p.1 ≡ true
begun p ps e = elim (cases_Bool (is_term p.1)) [
  | inl t ↦ t
  | inr t ↦ absurd (not_none p.0 (sym (at_once t) ∙ e))
]
  where
    at_once : is_term p.1 ≡ false → dangling false (p ∷ ps) ≡ Some p.0
    at_once t = rw t refl

    not_none : (n : ℕ) → (let o : Option ℕ = Some n in o) ≡ None → ⊥
    not_none n e = cc

too_great : (e : Query) (n : ℕ) → depth e ≡ n → nodes e + 1 ≡ 2 * n → is_too_great e ≡ ltb 64 n
too_great e n d m = elim (cases_lt 64 n) [
  | inl lt ↦
      let deep : ltb 64 (depth e) ≡ true = lt-ltb _ _ (omega (arith, d, lt)) in
      rw (deep, lt-ltb _ _ lt) (or_true (ltb 512 (nodes e)))
  | inr le ↦
      let few : ltb 512 (nodes e) ≡ false = le-ltb _ _ (omega (arith, m, le)) in
      let low : ltb 64 (depth e) ≡ false = le-ltb _ _ (omega (arith, d, le)) in
      rw (few, low, le-ltb _ _ le) refl
]
  where
    or_true : (b : Bool) → (b || true) ≡ true
    or_true true = refl
    or_true false = refl

-- an expression is too great exactly where it has more than 64 terms
pub whole_great : (ps : List (ℕ × List ℕ)) → dangling false ps ≡ None → is_too_great (whole ps) ≡ ltb 64 (terms ps)
whole_great [] e = refl
whole_great (p ∷ ps) e =
    let t = begun p ps e in
    let leaf = leaf_term p.1 in
    let g = grown joins.And (term p.1) ps (omega (arith, leaf.depth_is)) in
    let n : terms (p ∷ ps) ≡ terms ps + 1 = rw t refl in
    rw n (too_great (whole (p ∷ ps)) (terms ps + 1) (omega (arith, leaf.depth_is, g.depth_is)) (omega (arith, leaf.nodes_is, g.nodes_is)))

-- with more than 64 terms
pub parsed_many : (ps : List (ℕ × List ℕ)) → (terms ps ≡ 0 → ⊥) → dangling false ps ≡ None → bad_number ps ≡ None → 64 < terms ps → parsed ps ≡ Err Many
parsed_many ps some d b lt = rw (ne_eqb (terms ps) 0 some, d, b, whole_great ps d, lt-ltb _ _ lt) refl

pub parsed_whole : (ps : List (ℕ × List ℕ)) → (terms ps ≡ 0 → ⊥) → dangling false ps ≡ None → bad_number ps ≡ None → terms ps ≤ 64 → parsed ps ≡ Ok (whole ps)
parsed_whole ps some d b le = rw (ne_eqb (terms ps) 0 some, d, b, whole_great ps d, le-ltb _ _ le) refl
