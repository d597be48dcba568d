-- The live files at the spots of the postings of one key.
use Rattle.std.proofs.Common.{◌≡◌, ℕ, true, false, List, [], ◌∷◌, ap, ◌∙◌, nat_eq, cond}
use Rattle.std.specs.Prelude.{Option, Some, None}
use Rattle.std.proofs.lemmas.Bool.{cond-true, cond-false}
use Rattle.server_index.specs.Live.{File}
use Rattle.server_index.specs.Files.{file_at}

abbrev pub with_file : List ℕ × ℕ → Option File → List ((List ℕ × ℕ) × File) → List ((List ℕ × ℕ) × File)
with_file p None es = es
with_file p (Some f) es = (p, f) ∷ es

abbrev pub joined : ℕ → List ((List ℕ × ℕ) × File) → List (ℕ × (List ℕ × ℕ)) → List ((List ℕ × ℕ) × File)
joined key files [] = []
joined key files (k ∷ ks) = cond (nat_eq k.0 key) (with_file k.1 (file_at files k.1) (joined key files ks)) (joined key files ks)

module _ (key : ℕ) (files : List ((List ℕ × ℕ) × File)) (k : ℕ × (List ℕ × ℕ)) (ks : List (ℕ × (List ℕ × ℕ))) where
  pub joined-other : nat_eq k.0 key ≡ false → joined key files (k ∷ ks) ≡ joined key files ks
  joined-other e = cond-false (nat_eq k.0 key) (with_file k.1 (file_at files k.1) (joined key files ks)) (joined key files ks) e

  pub joined-file : (o : Option File) → nat_eq k.0 key ≡ true → file_at files k.1 ≡ o → joined key files (k ∷ ks) ≡ with_file k.1 o (joined key files ks)
  joined-file o e at = cond-true (nat_eq k.0 key) (with_file k.1 (file_at files k.1) (joined key files ks)) (joined key files ks) e ∙ ap (λ (p : Option File). with_file k.1 p (joined key files ks)) at
