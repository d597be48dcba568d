-- One of the keys that are needed.
use Rattle.std.proofs.Common.{◌≡◌, ℕ, zero, suc, ◌<◌, Bool, true, false, List, [], ◌∷◌, length, refl, arith}
use Rattle.std.specs.Prelude.{slice_index_or, ◌&&◌, ◌||◌}
use Rattle.std.specs.List.{list_all}
use Rattle.std.proofs.lemmas.Bool.{or_left}

both : (a b : Bool) → (a && b) ≡ true → (a ≡ true) × (b ≡ true)
both true b e = (refl, e)
both false b e = absurd cc

pub one_has : (p : ℕ → Bool) (keys : List ℕ) (i : ℕ) → i < length keys → list_all p keys ≡ true → (p (slice_index_or keys i 0) || false) ≡ true
one_has p [] i inside e = absurd (omega (arith, inside))
one_has p (k ∷ ks) zero inside e = or_left _ _ (both (p k) (list_all p ks) e).0
one_has p (k ∷ ks) (suc i) inside e = one_has p ks i (omega (arith, inside)) (both (p k) (list_all p ks) e).1
