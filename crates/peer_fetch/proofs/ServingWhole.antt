-- What the bytes of a body are that agrees with the file.
use Rattle.std.proofs.Common.{◌≡◌, ℕ, ◌<◌, true, List, length, Some, ap, ◌∙◌}
use Rattle.part_hashset.specs.declared.aim.Aim.{Aim}
use Rattle.part_sizes.specs.Part.{data_parts}
use Rattle.reserve_core.specs.Filled.{is_filled, is_full}
use Rattle.peer_fetch.specs.Fetches.{Inside}
use Rattle.peer_fetch.specs.Serves.{Agrees}
use Rattle.peer_fetch.proofs.ServingBody.{body_is, filled_parts}

-- where each part is full, the body is the file
pub agrees_whole : (aim : Aim) (file : List ℕ) (now : Inside) → length file ≡ aim.size → Agrees aim file now → ((i : ℕ) → i < data_parts aim.size → is_full aim.size now.log i ≡ true) → now.body ≡ Some file
agrees_whole aim file now whole agrees full =
    agrees.told ∙ ap Some (body_is aim.size file now.log agrees.body whole (record { long = agrees.sized; same = agrees.same }) (filled_parts aim.size now.log full))

-- what comes behind changes nothing of it where it leaves the body and fills nothing more
pub agrees_later : (aim : Aim) (file : List ℕ) (now later : Inside) → later.body ≡ now.body → ((x : ℕ) → is_filled aim.size later.log x ≡ true → is_filled aim.size now.log x ≡ true) → Agrees aim file now → Agrees aim file later
agrees_later aim file now later body fewer agrees = record { body = agrees.body; told = body ∙ agrees.told; sized = agrees.sized; same = λ x filled. agrees.same x (fewer x filled) }
