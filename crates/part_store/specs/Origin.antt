-- What a part file was made with, and the list of numbers that tells it.
use Rattle.std.specs.Prelude.{ℕ, zero, suc, Bool, true, false, List, [], ◌∷◌, ◌++◌, length, take, drop, Option, Some, None, if◌then◌else◌}
use Rattle.ed2k_outside.specs.declared.vault.Vault as vault
use Rattle.part_hashset.specs.declared.aim.Aim.{Aim}
use Rattle.part_store.specs.Body.{Stored, body_of, log_of}

-- how often the vault had failed by then, whether it is honest, the file that is wanted, the bytes that the body had, the name of
-- the place, and the bytes of the log file; bytes where they are told
pub record Origin : Type 0 where
  pub faults : ℕ
  pub honest : Bool
  pub aim : Aim
  pub body : Option (List ℕ)
  pub place : Option (List ℕ)
  pub log_file : Option (List ℕ)

abbrev pub origin_of : {V : Type 0} → vault.Ghosts V → Stored V → Origin
origin_of vault file = record {
  faults = vault.faults file.initial;
  honest = vault.honest file.initial;
  aim = file.aim;
  body = body_of (vault.files file.initial);
  place = vault.placed file.initial;
  log_file = log_of (vault.files file.initial);
}

-- nothing, or a list with its length before it, and then more
abbrev pub coded : Option (List ℕ) → List ℕ → List ℕ
coded None more = 0 ∷ more
coded (Some bytes) more = 1 ∷ length bytes ∷ (bytes ++ more)

abbrev pub code_of : Bool → ℕ
code_of honest = if honest then 1 else 0

-- the origin as a list of numbers
abbrev pub origin_code : Origin → List ℕ
origin_code o =
    o.faults ∷ code_of o.honest ∷ o.aim.size ∷ length o.aim.hash ∷ (o.aim.hash ++ coded o.aim.root (coded o.body (coded o.place (coded o.log_file []))))

-- the list in front, and what follows it
abbrev pub front : List ℕ → Option (List ℕ)
front (suc n ∷ size ∷ more) = Some (take size more)
front _ = None

abbrev pub behind : List ℕ → List ℕ
behind (suc n ∷ size ∷ more) = drop size more
behind (zero ∷ more) = more
behind _ = []

abbrev pub is_one : ℕ → Bool
is_one zero = false
is_one (suc n) = true

-- the origin that a list of numbers tells
abbrev pub origin_in : List ℕ → Origin
origin_in (faults ∷ honest ∷ size ∷ n ∷ more) =
    let parts = drop n more in
    record {
      faults = faults;
      honest = is_one honest;
      aim = record { size = size; hash = take n more; root = front parts };
      body = front (behind parts);
      place = front (behind (behind parts));
      log_file = front (behind (behind (behind parts)));
    }
origin_in _ = record { faults = 0; honest = false; aim = record { size = 0; hash = []; root = None }; body = None; place = None; log_file = None }
