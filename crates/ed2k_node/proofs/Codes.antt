-- Each status has a number of its own.
use Rattle.std.proofs.Common.{arith, ◌≡◌, ◌≢◌, ◌∙◌, sym, subst, ℕ, List, refl, ◌⊎◌, inl, inr}
use Rattle.part_hashset.specs.declared.aim.Aim.{Aim}
use Rattle.reserve_core.specs.declared.event.Entry.{Entry}
use Rattle.ed2k_node.specs.declared.status.Status.{Status}
use Rattle.ed2k_node.specs.declared.status.Status.TheVariants.{Complete, Incomplete, Vault, NoMemory, Net, BadPart, NoSet}
use Rattle.ed2k_node.specs.Status.{code_of, HasWorn, IsDownloadStatus, IsEarly, IsGetStatus, IsOfPeer, IsPeerCode, IsWorn}

other : (n : ℕ) → IsPeerCode n → (n ≡ 4) ⊎ (n ≡ 5) ⊎ (n ≡ 9) → ⊥
other n peer early = omega (arith, peer, early)

pub peer_from_code : (status : Status) → IsPeerCode (code_of status) → IsOfPeer status
peer_from_code Complete e = tt
peer_from_code Incomplete e = tt
peer_from_code Vault e = other 4 e (inl refl)
peer_from_code NoMemory e = other 5 e (inr (inl refl))
peer_from_code Net e = other 9 e (inr (inr refl))
peer_from_code (BadPart part) e = tt
peer_from_code NoSet e = tt

pub complete_at_zero : (status : Status) → code_of status ≡ 0 → status ≡ Complete
complete_at_zero Complete e = refl
complete_at_zero Incomplete e = absurd (omega (arith, e))
complete_at_zero Vault e = absurd (omega (arith, e))
complete_at_zero NoMemory e = absurd (omega (arith, e))
complete_at_zero Net e = absurd (omega (arith, e))
complete_at_zero (BadPart part) e = absurd (omega (arith, e))
complete_at_zero NoSet e = absurd (omega (arith, e))

pub refused_at_five : (status : Status) → code_of status ≡ 5 → status ≡ NoMemory
refused_at_five Complete e = absurd (omega (arith, e))
refused_at_five Incomplete e = absurd (omega (arith, e))
refused_at_five Vault e = absurd (omega (arith, e))
refused_at_five NoMemory e = refl
refused_at_five Net e = absurd (omega (arith, e))
refused_at_five (BadPart part) e = absurd (omega (arith, e))
refused_at_five NoSet e = absurd (omega (arith, e))

code_late : (status : Status) → IsEarly (code_of status) → ⊥
code_late Complete early = omega (arith, early)
code_late Incomplete early = omega (arith, early)
code_late Vault early = omega (arith, early)
code_late NoMemory early = omega (arith, early)
code_late Net early = omega (arith, early)
code_late (BadPart part) early = omega (arith, early)
code_late NoSet early = omega (arith, early)

-- the number is 5 where the output failed only after memory was refused
pub refused_before : (ending : Status) (n : ℕ) → n ≡ 5 → (ending ≢ NoMemory → n ≡ 6) → ending ≡ NoMemory
refused_before Complete n five other = let six = other (λ (is : Complete ≡ NoMemory). cc) in absurd (omega (arith, five, six))
refused_before Incomplete n five other = let six = other (λ (is : Incomplete ≡ NoMemory). cc) in absurd (omega (arith, five, six))
refused_before Vault n five other = let six = other (λ (is : Vault ≡ NoMemory). cc) in absurd (omega (arith, five, six))
refused_before NoMemory n five other = refl
refused_before Net n five other = let six = other (λ (is : Net ≡ NoMemory). cc) in absurd (omega (arith, five, six))
refused_before (BadPart part) n five other = let six = other (λ (is : BadPart part ≡ NoMemory). cc) in absurd (omega (arith, five, six))
refused_before NoSet n five other = let six = other (λ (is : NoSet ≡ NoMemory). cc) in absurd (omega (arith, five, six))

-- a download doesn't end with 1 or 2
pub not_early : (n : ℕ) → (n ≡ 6) ⊎ IsDownloadStatus n → IsEarly n → ⊥
not_early n ended early = elim ended [
  | inl six ↦ omega (arith, six, early)
  | inr own ↦ code_late own.0 (subst IsEarly own.1 early)
]

-- the number of a download's end
pub download_status : (ending : Status) (n : ℕ) → (n ≡ code_of ending) ⊎ (n ≡ 5) ⊎ (n ≡ 6) → (n ≡ 6) ⊎ IsDownloadStatus n
download_status ending n told = elim told [
  | inl own ↦ inr (ending, own)
  | inr other ↦ elim other [ inl five ↦ inr (NoMemory, five) | inr six ↦ inl six ]
]

-- the number of a run is that of its ending, where it isn't 5 or 6
pub own_code : (ending : Status) (n : ℕ) → (n ≡ code_of ending) ⊎ (n ≡ 5) ⊎ (n ≡ 6) → n ≢ 5 → n ≢ 6 → code_of ending ≡ n
own_code ending n told five six = elim told [ inl own ↦ sym own | inr other ↦ elim other [ inl is ↦ absurd (five is) | inr is ↦ absurd (six is) ] ]

pub set_at_thirteen : (status : Status) → code_of status ≡ 13 → status ≡ NoSet
set_at_thirteen Complete e = absurd (omega (arith, e))
set_at_thirteen Incomplete e = absurd (omega (arith, e))
set_at_thirteen Vault e = absurd (omega (arith, e))
set_at_thirteen NoMemory e = absurd (omega (arith, e))
set_at_thirteen Net e = absurd (omega (arith, e))
set_at_thirteen (BadPart part) e = absurd (omega (arith, e))
set_at_thirteen NoSet e = refl

pub short_at_three : (status : Status) → code_of status ≡ 3 → status ≡ Incomplete
short_at_three Complete e = absurd (omega (arith, e))
short_at_three Incomplete e = refl
short_at_three Vault e = absurd (omega (arith, e))
short_at_three NoMemory e = absurd (omega (arith, e))
short_at_three Net e = absurd (omega (arith, e))
short_at_three (BadPart part) e = absurd (omega (arith, e))
short_at_three NoSet e = absurd (omega (arith, e))

pub vault_at_four : (status : Status) → code_of status ≡ 4 → status ≡ Vault
vault_at_four Complete e = absurd (omega (arith, e))
vault_at_four Incomplete e = absurd (omega (arith, e))
vault_at_four Vault e = refl
vault_at_four NoMemory e = absurd (omega (arith, e))
vault_at_four Net e = absurd (omega (arith, e))
vault_at_four (BadPart part) e = absurd (omega (arith, e))
vault_at_four NoSet e = absurd (omega (arith, e))

pub net_at_nine : (status : Status) → code_of status ≡ 9 → status ≡ Net
net_at_nine Complete e = absurd (omega (arith, e))
net_at_nine Incomplete e = absurd (omega (arith, e))
net_at_nine Vault e = absurd (omega (arith, e))
net_at_nine NoMemory e = absurd (omega (arith, e))
net_at_nine Net e = refl
net_at_nine (BadPart part) e = absurd (omega (arith, e))
net_at_nine NoSet e = absurd (omega (arith, e))

pub net_is_not_complete : (status : Status) → status ≡ Net → status ≡ Complete → ⊥
net_is_not_complete status net complete = cc

pub worn_at_ten : (aim : Aim) (log : List Entry) (status : Status) → IsWorn aim log status → code_of status ≡ 10 → HasWorn aim log
worn_at_ten aim log Complete worn e = absurd (omega (arith, e))
worn_at_ten aim log Incomplete worn e = absurd (omega (arith, e))
worn_at_ten aim log Vault worn e = absurd (omega (arith, e))
worn_at_ten aim log NoMemory worn e = absurd (omega (arith, e))
worn_at_ten aim log Net worn e = absurd (omega (arith, e))
worn_at_ten aim log (BadPart part) worn e = (part, worn)
worn_at_ten aim log NoSet worn e = absurd (omega (arith, e))

-- a complete download wasn't refused memory
pub made_where_complete : (status : Status) → status ≡ Complete → status ≢ NoMemory
made_where_complete status is refused = let both : Complete ≡ NoMemory = sym is ∙ refused in cc

pub get_status : (ending : Status) (n : ℕ) → (n ≡ code_of ending) ⊎ (n ≡ 5) ⊎ (n ≡ 6) → IsGetStatus n
get_status ending n says = inr (download_status ending n says)
