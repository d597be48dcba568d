-- The lists that adding a span and taking it away leave: which positions they have, and that they
-- are apart again.
use Rattle.std.proofs.Common.{◌≡◌, ℕ, ◌+◌, ◌<◌, ◌≤◌, min, max, Bool, true, false, not, nat_le, nat_lt, ◌&&◌, ◌||◌, List, [], ◌∷◌, ◌++◌, refl, ap, sym, ◌∙◌, inl, inr, arith}
use Rattle.std.proofs.lemmas.Bool.{cases_lt, false≢true, or_cases}
use Rattle.std.proofs.lemmas.Bool.Decides.{nat_tests}
use Rattle.std.proofs.lemmas.List.Folds.{list_any-append}
use Rattle.part_sizes.specs.declared.span.Span.{Span}
use Rattle.part_sizes.specs.Span.{has, is_empty}
use Rattle.part_sizes.proofs.Laws.{between_has}
use Rattle.byte_ranges.specs.Spans.{Each, IsApart, IsNear, hull, unless_empty}
use Rattle.byte_ranges.proofs.Each.{each_both}
use Rattle.byte_ranges.proofs.Apart.{apart_before, apart_behind, apart_join, apart_split, apart_wider, each_below, each_filled, each_from}
use Rattle.byte_ranges.proofs.Hull.{Touches, or-false, has-hull, hull_grows, hull_from, hull_below}
use Rattle.byte_ranges.proofs.Members.{any_has}

-- a list cut near a span: its front and back leave room for the hull
record Cut (span : Span) (high : ℕ) (front near behind : List Span) : Type 0 where
  start : ℕ
  end : ℕ
  fits_start : start ≤ (hull span near).s
  fits_end : (hull span near).e < end
  end_behind : span.e < end
  high_above : (hull span near).e < high
  start_within : start ≤ high
  front_apart : IsApart 0 start front
  behind_apart : IsApart end high behind
  touching : Each (Touches span) near

cut_of : (span : Span) (high : ℕ) (front near behind : List Span) → span.s < span.e → span.e < high → IsNear span front near behind → IsApart 0 high (front ++ (near ++ behind)) → Cut span high front near behind
cut_of span high front near behind filled within sides apart =
    let one = apart_split 0 high front (near ++ behind) (omega arith) apart in
    let two = apart_split one.0 high near behind one.2 one.4 in
    record {
      start = min one.0 span.s;
      end = max two.0 (span.e + 1);
      fits_start = hull_from span near (min one.0 span.s) (omega arith) (each_from one.0 (min one.0 span.s) two.0 near (omega arith) two.3);
      fits_end = hull_below span near (max two.0 (span.e + 1)) (omega arith) (each_below _ _ near (apart_wider one.0 one.0 two.0 (max two.0 (span.e + 1)) near (omega arith) (omega arith) two.3));
      end_behind = omega arith;
      high_above = hull_below span near high within (each_below _ _ near (apart_wider one.0 one.0 two.0 high near (omega arith) two.2 two.3));
      start_within = omega arith;
      front_apart = apart_before 0 one.0 span.s front sides.ended one.3;
      behind_apart = apart_behind two.0 high span.e behind sides.ahead two.4;
      touching = each_both (λ q. span.s ≤ q.e) (λ q. (q.s ≤ span.e) × (q.s < q.e)) (Touches span) (λ q a b. (a, b.0, b.1)) near sides.reaching (each_both (λ q. q.s ≤ span.e) (λ q. q.s < q.e) (λ q. (q.s ≤ span.e) × (q.s < q.e)) (λ q a b. (a, b)) near sides.begun (each_filled _ _ near two.3));
    }

-- the hull stands in the place of the near spans
pub added_apart : (span : Span) (high : ℕ) (front near behind : List Span) → span.s < span.e → span.e < high → IsNear span front near behind → IsApart 0 high (front ++ (near ++ behind)) → IsApart 0 high (front ++ (hull span near ∷ behind))
added_apart span high front near behind filled within sides apart =
    let cut = cut_of span high front near behind filled within sides apart in
    let grows = hull_grows span near in
    apart_join 0 cut.start high front (hull span near ∷ behind) (omega arith) cut.start_within cut.front_apart
    (cut.fits_start, omega (arith, grows.0, grows.1), cut.high_above, apart_wider cut.end ((hull span near).e + 1) high high behind (omega (arith, cut.fits_end)) (omega arith) cut.behind_apart)

any_three : (a b c : List Span) (x : ℕ) → any_has (a ++ (b ++ c)) x ≡ (any_has a x || (any_has b x || any_has c x))
any_three a b c x =
    list_any-append (λ q. has q x) a (b ++ c)
    ∙ ap (λ t. any_has a x || t) (list_any-append (λ q. has q x) b c)

or_moved : (f m b h r : Bool) → h ≡ (r || m) → (f || (h || b)) ≡ ((f || (m || b)) || r)
or_moved f m b h r e = grind arith

pub added_any : (span : Span) (high : ℕ) (front near behind : List Span) → span.s < span.e → span.e < high → IsNear span front near behind → IsApart 0 high (front ++ (near ++ behind)) → (x : ℕ) → any_has (front ++ (hull span near ∷ behind)) x ≡ (any_has (front ++ (near ++ behind)) x || has span x)
added_any span high front near behind filled within sides apart x =
    let cut = cut_of span high front near behind filled within sides apart in
    let e = any_three front near behind x in
    let h = has-hull span near x filled cut.touching in
    list_any-append (λ q. has q x) front (hull span near ∷ behind)
    ∙ or_moved (any_has front x) (any_has near x) (any_has behind x) (has (hull span near) x) (has span x) h
    ∙ ap (λ t. t || has span x) (sym e)

-- what is left of the hull on both sides of the span
abbrev pub left_of : Span → List Span → Span
left_of span near = record { s = (hull span near).s; e = span.s }

abbrev pub right_of : Span → List Span → Span
right_of span near = record { s = span.e; e = (hull span near).e }

apart_unless_empty : (start high : ℕ) (span : Span) (xs : List Span) → start ≤ span.s → span.e < high → start ≤ span.e + 1 → IsApart (span.e + 1) high xs → IsApart start high xs → IsApart start high (unless_empty span ++ xs)
apart_unless_empty start high span xs low below behind rest whole =
    elim (cases_lt span.s span.e) [
      | inl filled ↦
          let some : is_empty span ≡ false = grind (arith, nat_tests) in
          rw some (low, filled, below, rest)
      | inr none ↦
          let empty : is_empty span ≡ true = grind (arith, nat_tests) in
          rw empty whole
    ]

pub taken_apart : (span : Span) (high : ℕ) (front near behind : List Span) → span.s < span.e → span.e < high → IsNear span front near behind → IsApart 0 high (front ++ (near ++ behind)) → IsApart 0 high (front ++ (unless_empty (left_of span near) ++ (unless_empty (right_of span near) ++ behind)))
taken_apart span high front near behind filled within sides apart =
    let cut = cut_of span high front near behind filled within sides apart in
    let grows = hull_grows span near in
    let right : IsApart span.e high (unless_empty (right_of span near) ++ behind) =
    apart_unless_empty span.e high (right_of span near) behind (omega arith) cut.high_above (omega (arith, grows.1))
    (apart_wider cut.end ((hull span near).e + 1) high high behind (omega (arith, cut.fits_end)) (omega arith) cut.behind_apart)
    (apart_wider cut.end span.e high high behind (omega (arith, cut.end_behind)) (omega arith) cut.behind_apart) in
    apart_join 0 cut.start high front _ (omega arith) cut.start_within cut.front_apart
    (apart_unless_empty cut.start high (left_of span near) _ cut.fits_start (omega arith) (omega (arith, grows.0, cut.fits_start))
    (apart_wider span.e (span.s + 1) high high _ (omega arith) (omega arith) right)
    (apart_wider span.e cut.start high high _ (omega (arith, grows.0, cut.fits_start)) (omega arith) right))

any_unless_empty : (span : Span) (x : ℕ) → any_has (unless_empty span) x ≡ has span x
any_unless_empty span x =
    elim (cases_lt span.s span.e) [
      | inl filled ↦
          let some : is_empty span ≡ false = grind (arith, nat_tests) in
          rw some (sym (or-false (has span x)))
      | inr none ↦
          let empty : is_empty span ≡ true = grind (arith, nat_tests) in
          let out : has span x ≡ false = grind (arith, nat_tests) in
          rw empty (sym out)
    ]

pub any_ended : (xs : List Span) (start x : ℕ) → Each (λ q. q.e < start) xs → any_has xs x ≡ true → x + 1 < start
any_ended [] start x each some = absurd (false≢true some)
any_ended (q ∷ xs) start x each some =
    elim (or_cases (has q x) (any_has xs x) some) [
      | inl here ↦ let inside = between_has q x here in omega (arith, inside.1, each.0)
      | inr there ↦ any_ended xs start x each.1 there
    ]

pub any_ahead : (xs : List Span) (end x : ℕ) → Each (λ q. end < q.s) xs → any_has xs x ≡ true → end < x
any_ahead [] end x each some = absurd (false≢true some)
any_ahead (q ∷ xs) end x each some =
    elim (or_cases (has q x) (any_has xs x) some) [
      | inl here ↦ let inside = between_has q x here in omega (arith, inside.0, each.0)
      | inr there ↦ any_ahead xs end x each.1 there
    ]

left_and_right : (f m b s : Bool) (hs he ss se x : ℕ) → hs ≤ ss → ss < se → se ≤ he → (f ≡ true → x < ss) → (b ≡ true → se < x) → (nat_le hs x && nat_lt x he) ≡ (s || m) → s ≡ (nat_le ss x && nat_lt x se) → (f || ((nat_le hs x && nat_lt x ss) || ((nat_le se x && nat_lt x he) || b))) ≡ ((f || (m || b)) && not s)
left_and_right f m b s hs he ss se x low filled high front behind whole here = grind (arith, nat_tests)

any_pieces : (a left right b : List Span) (x : ℕ) → any_has (a ++ (left ++ (right ++ b))) x ≡ (any_has a x || (any_has left x || (any_has right x || any_has b x)))
any_pieces a left right b x =
    list_any-append (λ q. has q x) a (left ++ (right ++ b))
    ∙ ap (λ t. any_has a x || t) (any_three left right b x)

pub taken_any : (span : Span) (high : ℕ) (front near behind : List Span) → span.s < span.e → span.e < high → IsNear span front near behind → IsApart 0 high (front ++ (near ++ behind)) → (x : ℕ) → any_has (front ++ (unless_empty (left_of span near) ++ (unless_empty (right_of span near) ++ behind))) x ≡ (any_has (front ++ (near ++ behind)) x && not (has span x))
taken_any span high front near behind filled within sides apart x =
    let cut = cut_of span high front near behind filled within sides apart in
    let grows = hull_grows span near in
    let whole = hull span near in
    any_pieces front (unless_empty (left_of span near)) (unless_empty (right_of span near)) behind x
    ∙ ap (λ t. any_has front x || (t || (any_has (unless_empty (right_of span near)) x || any_has behind x))) (any_unless_empty (left_of span near) x)
    ∙ ap (λ t. any_has front x || (has (left_of span near) x || (t || any_has behind x))) (any_unless_empty (right_of span near) x)
    ∙ left_and_right (any_has front x) (any_has near x) (any_has behind x) (has span x) whole.s whole.e span.s span.e x grows.0 filled grows.1 (λ e. let past = any_ended front span.s x sides.ended e in omega (arith, past)) (any_ahead behind span.e x sides.ahead) (has-hull span near x filled cut.touching) refl
    ∙ ap (λ t. t && not (has span x)) (sym (any_three front near behind x))
