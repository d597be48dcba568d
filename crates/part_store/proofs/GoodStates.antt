-- What is true of the state of each legal log file, so that a download may begin with it.
use Rattle.std.proofs.Common.{◌≡◌, ◌⊎◌, ℕ, ◌<◌, ◌≤◌, Bool, true, false, not, ◌&&◌, ◌||◌, ◌==◌, nat_lt, List, [], ◌∷◌, slice_get, get_or, fold, Option, Some, None, unwrap_or, is_none, find, IsSome, if◌then◌else◌, refl, sym, ap, ◌∙◌, subst, inl, inr, arith}
use Rattle.std.specs.List.{list_any}
use Rattle.std.proofs.lemmas.Bool.{cases_Bool, not-false}
use Rattle.std.proofs.lemmas.Bool.Decides.{nat_tests}
use Rattle.journal_core.specs.LogFile.{Stands, aim_of}
use Rattle.journal_core.specs.States.{AreLegal, MayFollow, State, after, is_full_in, nothing, state_of}
use Rattle.journal_core.specs.declared.header.Header.{Header}
use Rattle.journal_core.specs.declared.record.Record.{Record}
use Rattle.journal_core.specs.declared.record.Record.TheVariants.{Set, Filled, Judged, Recovered, Dropped}
use Rattle.part_hashset.specs.Goals.{goal_in}
use Rattle.part_hashset.specs.HashSet.{ValidSet}
use Rattle.part_hashset.specs.declared.aim.Aim.{Aim}
use Rattle.part_sizes.specs.Block.{block_of}
use Rattle.part_sizes.specs.Part.{data_parts, part_range}
use Rattle.part_sizes.specs.Span.{has, positions}
use Rattle.part_sizes.specs.declared.part.TheConstants.{PART}
use Rattle.part_sizes.proofs.Laws.{between_has, part_of_alone}
use Rattle.part_store.proofs.Carried.{judged-own, unless-own}
use Rattle.reserve_core.proofs.Runs.{before_find_positions}

-- A set is none, or it is valid where one is needed; each part that has a verdict exists and is full; there is no
-- verdict where a set is needed and none is kept.
pub record IsGood (aim : Aim) (s : State) : Type 0 where
  pub set : (s.set ≡ []) ⊎ ((PART ≤ aim.size) × ValidSet aim.size aim.hash s.set)
  pub exist : (i : ℕ) (d : List ℕ) → s.verdict i ≡ Some d → i < data_parts aim.size
  pub full : (i x : ℕ) (d : List ℕ) → s.verdict i ≡ Some d → has (part_range aim.size i) x ≡ true → s.filled x ≡ true
  pub unjudged : PART ≤ aim.size → s.set ≡ [] → (i : ℕ) → s.verdict i ≡ None

none-known : (d : List ℕ) → None ≡ Some d → ⊥
none-known d is = cc

good-nothing : (aim : Aim) → IsGood aim nothing
good-nothing aim = record {
  set = inl refl;
  exist = λ i d is. absurd (none-known d is);
  full = λ i x d is inside. absurd (none-known d is);
  unjudged = λ large none i. refl;
}

full-in-has : (n : ℕ) (s : State) (i x : ℕ) → is_full_in n s i ≡ true → has (part_range n i) x ≡ true → s.filled x ≡ true
full-in-has n s i x full here =
    let ends = between_has (part_range n i) x here in
    not-false (s.filled x) (by_found (find (λ y. not (s.filled y)) (positions (part_range n i))) refl full ends.0 ends.1)
  where
    by_found : (o : Option ℕ) → find (λ y. not (s.filled y)) (positions (part_range n i)) ≡ o → is_none o ≡ true → (part_range n i).s ≤ x → x < (part_range n i).e → not (s.filled x) ≡ false
    by_found None is none low high = before_find_positions (λ y. not (s.filled y)) (part_range n i) x low (subst (λ (o : Option ℕ). x < unwrap_or o (part_range n i).e) (sym is) high)
    by_found (Some y) is none low high = absurd (cc)

same-part : (i j : ℕ) → (i == j) ≡ true → i ≡ j
same-part i j test = grind (arith, nat_tests)

good-judged : (aim : Aim) (s : State) (i : ℕ) (d : List ℕ) → MayFollow aim s (Judged i d) → IsGood aim s → IsGood aim (after aim.size s (Judged i d))
good-judged aim s i d may good = record {
  set = good.set;
  exist = λ j e is. elim (judged-own (i == j) (s.verdict j) d e is) [
    | inl own ↦ subst (λ (k : ℕ). k < data_parts aim.size) (same-part i j own.0) may.exists
    | inr was ↦ good.exist j e was
  ];
  full = λ j x e is inside. elim (judged-own (i == j) (s.verdict j) d e is) [
    | inl own ↦ full-in-has aim.size s i x may.full (subst (λ (k : ℕ). has (part_range aim.size k) x ≡ true) (sym (same-part i j own.0)) inside)
    | inr was ↦ good.full j x e was inside
  ];
  unjudged = λ large none j. absurd (unknown aim s.set i large none may.goal_known);
}
  where
    lacking : (o : Option (List ℕ)) → o ≡ None → IsSome o → ⊥
    lacking None is known = cc
    lacking (Some d) is known = cc

    unknown : (aim : Aim) (set : List (List ℕ)) (i : ℕ) → PART ≤ aim.size → set ≡ [] → IsSome (goal_in aim set i) → ⊥
    unknown aim set i large none known =
        let test : nat_lt aim.size PART ≡ false = grind (arith, nat_tests) in
        let is : goal_in aim set i ≡ None = ap (λ (q : List (List ℕ)). goal_in aim q i) none ∙ ap (λ b. if b then Some aim.hash else slice_get [] i) test in
        lacking (goal_in aim set i) is known

-- where one part is opened, in whole or in part

verdict-else : (own : Bool) (v : Option (List ℕ)) (d : List ℕ) → (if own then None else v) ≡ Some d → own ≡ false
verdict-else true v d is = absurd (cc)
verdict-else false v d is = refl

beside : (n i j x : ℕ) → (i == j) ≡ false → has (part_range n j) x ≡ true → has (part_range n i) x ≡ false
beside n i j x other here = elim (cases_Bool (has (part_range n i) x)) [
  | inl there ↦
      let same : i ≡ j = sym (part_of_alone n i x there) ∙ part_of_alone n j x here in
      absurd (let test = other in grind (arith, nat_tests))
  | inr out ↦ out
]

none-else : (own : Bool) (v : Option (List ℕ)) → v ≡ None → (if own then None else v) ≡ None
none-else true v none = refl
none-else false v none = none

good-opened : (aim : Aim) (s t : State) (i : ℕ) (opens : ℕ → Bool) → t.set ≡ s.set → ((j : ℕ) → t.verdict j ≡ (if i == j then None else s.verdict j))
    → ((x : ℕ) → t.filled x ≡ (if opens x then false else s.filled x)) → ((x : ℕ) → has (part_range aim.size i) x ≡ false → opens x ≡ false) → IsGood aim s → IsGood aim t
good-opened aim s t i opens set verdict filled within good = record {
  set = subst (λ (q : List (List ℕ)). (q ≡ []) ⊎ ((PART ≤ aim.size) × ValidSet aim.size aim.hash q)) (sym set) good.set;
  exist = λ j d is. good.exist j d (unless-own (i == j) (s.verdict j) d (sym (verdict j) ∙ is));
  full = λ j x d is inside.
      let own = sym (verdict j) ∙ is in
      let out = within x (beside aim.size i j x (verdict-else (i == j) (s.verdict j) d own) inside) in
      filled x ∙ ap (λ b. if b then false else s.filled x) out ∙ good.full j x d (unless-own (i == j) (s.verdict j) d own) inside;
  unjudged = λ large none j. verdict j ∙ none-else (i == j) (s.verdict j) (good.unjudged large (sym set ∙ none) j);
}

good-after : (aim : Aim) (s : State) (r : Record) → MayFollow aim s r → IsGood aim s → IsGood aim (after aim.size s r)
good-after aim s (Set q) may good = record {
  set = inr (may.0, may.2);
  exist = good.exist;
  full = good.full;
  unjudged = λ large none i. good.unjudged large may.1 i;
}
good-after aim s (Filled spans) may good = record {
  set = good.set;
  exist = good.exist;
  full = λ i x d is inside. ap (λ b. b || list_any (λ r. has r x) spans) (good.full i x d is inside);
  unjudged = good.unjudged;
}
good-after aim s (Judged i d) may good = good-judged aim s i d may good
good-after aim s (Recovered i kept) may good =
    good-opened aim s (after aim.size s (Recovered i kept)) i (λ x. has (part_range aim.size i) x && not (get_or kept (block_of x) false)) refl (λ j. refl) (λ x. refl)
    (λ x out. ap (λ b. b && not (get_or kept (block_of x) false)) out) good
good-after aim s (Dropped i) may good =
    good-opened aim s (after aim.size s (Dropped i)) i (λ x. has (part_range aim.size i) x) refl (λ j. refl) (λ x. refl) (λ x out. out) good

good-records : (aim : Aim) (s : State) (rs : List Record) → AreLegal aim s rs → IsGood aim s → IsGood aim (fold (after aim.size) s rs)
good-records aim s [] legal good = good
good-records aim s (r ∷ rs) legal good = good-records aim (after aim.size s r) rs legal.1 (good-after aim s r legal.0 good)

pub good-state : (aim : Aim) (rs : List Record) → AreLegal aim nothing rs → IsGood aim (state_of aim.size rs)
good-state aim rs legal = good-records aim nothing rs legal (good-nothing aim)

pub good-stands : (h : Header) (log : List ℕ) (s : State) → Stands h log s → IsGood (aim_of h) s
good-stands h log s st = subst (λ (t : State). IsGood (aim_of h) t) st.state (good-state (aim_of h) st.records st.legal)
