-- Membership in the set of a span, in a union with it and in a difference from it, for callers; and
-- in the set of a list of spans.
use Rattle.std.proofs.Common.{◌≡◌, ℕ, Bool, true, false, not, ◌&&◌, ◌||◌, nat_eq, List, [], ◌∷◌, refl, ap, sym, ◌∙◌, arith}
use Rattle.std.specs.Cmp.{nat_cmp_total}
use Rattle.std.specs.FinSet.{FinSet, empty, contains, union, difference, contains-from_list_nat, contains-union, contains-difference, same_set, nat_cmp-IsAntisymmetric}
use Rattle.std.specs.List.{list_any, flat_map}
use Rattle.std.specs.Ordering.{nat_cmp}
use Rattle.std.proofs.lemmas.Bool.Decides.{nat_tests}
use Rattle.std.proofs.lemmas.List.Folds.{list_any-append}
use Rattle.part_sizes.specs.declared.span.Span.{Span}
use Rattle.part_sizes.specs.Span.{has, is_empty, positions}
use Rattle.part_sizes.proofs.Positions.{any-positions}
use Rattle.byte_ranges.specs.RangeSet.{span_set}
use Rattle.byte_ranges.specs.Spans.{set_of}

pub contains-span_set : (span : Span) (x : ℕ) → contains (span_set span) x ≡ has span x
unfolding span_set
contains-span_set span x = contains-from_list_nat (positions span) x ∙ any-positions span x

pub contains-union_span : (set : FinSet nat_cmp) (span : Span) (x : ℕ) → contains (union set (span_set span)) x ≡ (contains set x || has span x)
contains-union_span set span x =
    contains-union nat_cmp_total set (span_set span) x ∙ ap (λ b. contains set x || b) (contains-span_set span x)

pub contains-difference_span : (set : FinSet nat_cmp) (span : Span) (x : ℕ) → contains (difference set (span_set span)) x ≡ (contains set x && not (has span x))
contains-difference_span set span x =
    contains-difference nat_cmp_total set (span_set span) x ∙ ap (λ b. contains set x && not b) (contains-span_set span x)

-- some span of the list has the position
abbrev pub any_has : List Span → ℕ → Bool
any_has spans x = list_any (λ span. has span x) spans

any-flat : (spans : List Span) (x : ℕ) → list_any (λ y. nat_eq y x) (flat_map positions spans) ≡ any_has spans x
any-flat [] x = refl
any-flat (span ∷ spans) x =
    list_any-append (λ y. nat_eq y x) (positions span) (flat_map positions spans)
    ∙ ap (λ b. b || list_any (λ y. nat_eq y x) (flat_map positions spans)) (any-positions span x)
    ∙ ap (λ b. has span x || b) (any-flat spans x)

pub contains-set_of : (spans : List Span) (x : ℕ) → contains (set_of spans) x ≡ any_has spans x
unfolding set_of
contains-set_of spans x = contains-from_list_nat (flat_map positions spans) x ∙ any-flat spans x

-- two sets with the same members are equal, for the list after an edit
pub set_of_added : (old new : List Span) (span : Span) → ((x : ℕ) → any_has new x ≡ (any_has old x || has span x)) → set_of new ≡ union (set_of old) (span_set span)
set_of_added old new span same =
    same_set nat_cmp_total nat_cmp-IsAntisymmetric _ _ (λ x. contains-set_of new x ∙ same x ∙ ap (λ b. b || has span x) (sym (contains-set_of old x)) ∙ sym (contains-union_span (set_of old) span x))

pub set_of_taken : (old new : List Span) (span : Span) → ((x : ℕ) → any_has new x ≡ (any_has old x && not (has span x))) → set_of new ≡ difference (set_of old) (span_set span)
set_of_taken old new span same =
    same_set nat_cmp_total nat_cmp-IsAntisymmetric _ _ (λ x. contains-set_of new x ∙ same x ∙ ap (λ b. b && not (has span x)) (sym (contains-set_of old x)) ∙ sym (contains-difference_span (set_of old) span x))

pub set_of-none : set_of [] ≡ empty
unfolding set_of
set_of-none = refl

-- a span with no position adds nothing and takes nothing
union_none : (b c : Bool) → c ≡ false → b ≡ (b || c)
union_none b c e = grind arith

difference_none : (b c : Bool) → c ≡ false → b ≡ (b && not c)
difference_none b c e = grind arith

has_none : (span : Span) (x : ℕ) → is_empty span ≡ true → has span x ≡ false
has_none span x e = grind (arith, nat_tests)

pub union-no_span : (set : FinSet nat_cmp) (span : Span) → is_empty span ≡ true → set ≡ union set (span_set span)
union-no_span set span e =
    same_set nat_cmp_total nat_cmp-IsAntisymmetric _ _ (λ x. union_none (contains set x) (has span x) (has_none span x e) ∙ sym (contains-union_span set span x))

pub difference-no_span : (set : FinSet nat_cmp) (span : Span) → is_empty span ≡ true → set ≡ difference set (span_set span)
difference-no_span set span e =
    same_set nat_cmp_total nat_cmp-IsAntisymmetric _ _ (λ x. difference_none (contains set x) (has span x) (has_none span x e) ∙ sym (contains-difference_span set span x))
