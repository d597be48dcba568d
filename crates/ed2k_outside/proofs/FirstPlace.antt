-- The first entry that has a name is the one that is fetched.
use Rattle.std.proofs.Common.{◌≡◌, ◌≢◌, ℕ, ◌<◌, ◌≤◌, Bool, true, false, cond, zero, suc, List, [], ◌∷◌, String, length, slice_index_or, slice_get, remove, position, bytes_eq, string_bytes, Some, None, refl, sym, ap, ◌∙◌, subst, arith}
use Rattle.std.specs.List.{position_or_len, take-map, drop-map}
use Rattle.std.specs.Option.{option_map}
use Rattle.std.proofs.lemmas.List.{length-map, map-append}
use Rattle.std.proofs.lemmas.List.Sums.{fails_before_first, passes_at_first}
use Rattle.std.proofs.lemmas.Option.{slice_get-map, slice_get-get_or, slice_get_within, get_or_from_slice_get}
use Rattle.std.proofs.lemmas.Slice.Eq.{bytes_eq-Decides}
use borrow.Author.Tests.{ltb-true, ltb-false}
use Rattle.ed2k_outside.specs.Blobs.{Named, Fetches, IsAbsent}
use Rattle.ed2k_outside.specs.MemBlobs.{named, named_blobs, blob_bytes}
use Rattle.ed2k_outside.specs.declared.mem_blobs.MemBlob.{MemBlob}

chosen : (b : Bool) (m i : ℕ) → cond b (Some m) None ≡ Some i → (b ≡ true) × (m ≡ i)
chosen true m i e = (refl, cc)
chosen false m i e = absurd (cc)

not_chosen : (b : Bool) (m : ℕ) → cond b (Some m) None ≡ None → b ≡ false
not_chosen true m e = absurd (cc)
not_chosen false m e = refl

slice_get_at : {X : Type 0} (xs : List X) (k : ℕ) → k < length xs → (x : X) × (slice_get xs k ≡ Some x)
slice_get_at [] k within = absurd (omega arith)
slice_get_at (x ∷ xs) zero within = (x, refl)
slice_get_at (x ∷ xs) (suc k) within = slice_get_at xs k (omega arith)

module _ {A : Type 0} (name : List ℕ) where
  abbrev pub has_name : String A × MemBlob → Bool
  has_name entry = bytes_eq (string_bytes entry.0) name

  pub map-remove : (entries : List (String A × MemBlob)) (i : ℕ) → named_blobs (remove entries i) ≡ remove (named_blobs entries) i
  map-remove entries i = simp (map-append, take-map, drop-map)

  -- what stands before the first place has another name
  named_otherwise : (entries : List (String A × MemBlob)) (k : ℕ) (blob : Named)
      → k < position_or_len has_name entries → k < length entries → slice_get (named_blobs entries) k ≡ Some blob → blob.name ≢ name
  named_otherwise entries k blob before within got same =
      let there = slice_get_at entries k within in
      let both : Some (named there.0) ≡ Some blob = sym (slice_get-map named entries k ∙ ap (λ o. option_map named o) there.1) ∙ got in
      let tie : named there.0 ≡ blob = cc in
      let fails : has_name (slice_index_or entries k there.0) ≡ false = fails_before_first has_name entries k there.0 before in
      let is : slice_index_or entries k there.0 ≡ there.0 = get_or_from_slice_get entries k there.0 there.0 there.1 in
      let passes : has_name there.0 ≡ true = (bytes_eq-Decides _ _).1 (ap (λ n. n.name) tie ∙ same) in
      let fails_too : has_name there.0 ≡ false = subst (λ e. has_name e ≡ false) is fails in
      cc

  pub IsAbsent-none : (entries : List (String A × MemBlob)) → position has_name entries ≡ None → IsAbsent name (named_blobs entries)
  IsAbsent-none entries none = λ k blob got.
      let within : k < length entries = omega (arith, slice_get_within (named_blobs entries) k blob got, length-map entries (named {A = A})) in
      let past : length entries ≤ position_or_len has_name entries = ltb-false _ _ (not_chosen _ _ none) in
      named_otherwise entries k blob (omega arith) within got

  pub Fetches-first : (entries : List (String A × MemBlob)) (i : ℕ) (entry : String A × MemBlob)
      → position has_name entries ≡ Some i → entry ≡ slice_index_or entries i entry
      → Fetches name (Some (blob_bytes entry.1)) (named_blobs entries) (named_blobs (remove entries i))
  Fetches-first entries i entry place is =
      let at = chosen _ _ _ place in
      let inside : position_or_len has_name entries < length entries = ltb-true _ _ at.0 in
      let within : i < length entries = subst (λ n. n < length entries) at.1 inside in
      let here : slice_get entries i ≡ Some entry = slice_get-get_or entries i entry within ∙ ap (λ e. Some e) (sym is) in
      let passes : has_name (slice_index_or entries i entry) ≡ true =
      subst (λ n. has_name (slice_index_or entries n entry) ≡ true) at.1 (passes_at_first has_name entries entry inside) in
      record {
        index = i;
        found = (named entry, slice_get-map named entries i ∙ ap (λ o. option_map named o) here, (bytes_eq-Decides _ _).0 (subst (λ e. has_name e ≡ true) (sym is) passes), refl);
        is_first = λ k blob before got. named_otherwise entries k blob (omega arith) (omega arith) got;
        others = map-remove entries i;
      }
