-- One step more.
use Rattle.std.proofs.Common.{◌≡◌, ℕ, ◌≤◌, min, List, [], ◌∷◌, ◌++◌, length, take, drop, refl, sym, ap, ◌∙◌, subst, inl, arith}
use Rattle.std.proofs.lemmas.List.{length-take}
use Rattle.ed2k_outside.specs.Crashes.{Torn, Stretched}
use Rattle.ed2k_outside.specs.Files.{overwritten, resized}
use Rattle.vault_sim.proofs.Lists.{length-overwritten, overwritten-undone, torn-overwritten, length-filled, resized-undone, stretched-resized, kept-undone, torn-refl, stretched-refl}
use Rattle.vault_sim.specs.Images.{Unsettled, asked_more}
use Rattle.vault_sim.specs.Steps.{MayLeave, Reaches, asked_of, before, unmade, IsLegal}
use Rattle.vault_sim.specs.declared.step.Asked.{Asked}
use Rattle.vault_sim.specs.declared.step.Asked.TheVariants.{Write, Length}
use Rattle.vault_sim.specs.declared.step.Step.{Step}

-- what the last sync left, and what was asked since
abbrev pub left : List Step → List ℕ → Unsettled
left steps now = record { base = unmade steps now; asked = asked_of steps }

pub asked-added : (steps : List Step) (step : Step) → asked_of (steps ++ step ∷ []) ≡ asked_of steps ++ step.asked ∷ []
asked-added [] step = refl
asked-added (first ∷ steps) step = ap (λ asked. first.asked ∷ asked) (asked-added steps step)

pub unmade-added : (steps : List Step) (step : Step) (file now : List ℕ) → before step now ≡ file → unmade (steps ++ step ∷ []) now ≡ unmade steps file
unmade-added [] step file now undone = undone
unmade-added (first ∷ steps) step file now undone = ap (before first) (unmade-added steps step file now undone)

pub legal-added : (steps : List Step) (step : Step) (file now : List ℕ) → before step now ≡ file → MayLeave step.asked file now → step.at ≤ length (take step.len now) → IsLegal steps file → IsLegal (steps ++ step ∷ []) now
legal-added [] step file now undone may within legal = (subst (λ old. MayLeave step.asked old now) (sym undone) may, within, tt)
legal-added (first ∷ steps) step file now undone may within legal =
    let same = unmade-added steps step file now undone in (
      subst (λ mid. MayLeave first.asked (before first mid) mid) (sym same) legal.0,
      subst (λ mid. first.at ≤ length (take first.len mid)) (sym same) legal.1,
      legal-added steps step file now undone may within legal.2,
    )

-- a call may leave nothing
pub may-rest : (asked : Asked) (file : List ℕ) → MayLeave asked file file
may-rest (Write at n) file = torn-refl at n file
may-rest (Length n) file = stretched-refl n file

-- what each call did can be undone, and is among what a crash may leave of it
pub wrote : (file now piece lost : List ℕ) (len at : ℕ) → at ≤ length file → len ≡ length file → lost ≡ take (length piece) (drop at file) → now ≡ overwritten file at piece
    → (overwritten (take len now) at lost ≡ file) × MayLeave (Write at (length piece)) file now × (at ≤ length (take len now))
wrote file now piece lost len at within long taken is =
    let full : MayLeave (Write at (length piece)) file now = subst (λ (bytes : List ℕ). Torn at (length piece) file bytes) (sym is) (torn-overwritten file piece at (length piece) within (omega arith) (inl refl)) in
    let undone : overwritten (take len now) at lost ≡ file =
    ap (λ (k : ℕ). overwritten (take k now) at lost) long ∙ ap (λ (bytes : List ℕ). overwritten (take (length file) bytes) at lost) is ∙ ap (λ (bytes : List ℕ). overwritten (take (length file) (overwritten file at piece)) at bytes) taken ∙ overwritten-undone file piece at within in
    (undone, full, omega (arith, length-take len now, ap length is, length-overwritten file piece at within, long, within))

pub sized : (file now lost : List ℕ) (len at n : ℕ) → len ≡ length file → at ≡ min n (length file) → lost ≡ take len (drop at file) → now ≡ resized file n
    → (overwritten (take len now) at lost ≡ file) × MayLeave (Length n) file now × (at ≤ length (take len now))
sized file now lost len at n long least taken is =
    let cut : lost ≡ take (length file) (drop (min n (length file)) file) =
    taken ∙ ap (λ (k : ℕ). take k (drop at file)) long ∙ ap (λ (k : ℕ). take (length file) (drop k file)) least in
    let full : MayLeave (Length n) file now = subst (λ (bytes : List ℕ). Stretched n file bytes) (sym is) (stretched-resized file n) in
    let undone : overwritten (take len now) at lost ≡ file =
    ap (λ (k : ℕ). overwritten (take k now) at lost) long ∙ ap (λ (k : ℕ). overwritten (take (length file) now) k lost) least
    ∙ ap (λ (bytes : List ℕ). overwritten (take (length file) bytes) (min n (length file)) lost) is ∙ ap (λ (bytes : List ℕ). overwritten (take (length file) (resized file n)) (min n (length file)) bytes) cut ∙ resized-undone file n in
    (undone, full, omega (arith, length-take len now, ap length is, length-filled file n 0, long, least))

pub doubted : (asked : Asked) (file : List ℕ) (len at : ℕ) (lost : List ℕ) → lost ≡ [] → len ≡ length file → at ≡ length file
    → (overwritten (take len file) at lost ≡ file) × MayLeave asked file file × (at ≤ length (take len file))
doubted asked file len at lost none long end = (
  ap (λ (bytes : List ℕ). overwritten (take len file) at bytes) none ∙ ap (λ (k : ℕ). overwritten (take k file) at []) long ∙ ap (λ (k : ℕ). overwritten (take (length file) file) k []) end ∙ kept-undone file,
  may-rest asked file,
  omega (arith, length-take len file, long, end),
)

-- one step more, as a file has it
pub legal-more : (steps more : List Step) (step : Step) (file now : List ℕ) → more ≡ steps ++ step ∷ [] → before step now ≡ file → MayLeave step.asked file now → step.at ≤ length (take step.len now) → IsLegal steps file → IsLegal more now
legal-more steps more step file now is undone may within legal = subst (λ all. IsLegal all now) (sym is) (legal-added steps step file now undone may within legal)

pub unsettled-more : (steps more : List Step) (step : Step) (file now : List ℕ) → more ≡ steps ++ step ∷ [] → before step now ≡ file
    → left more now ≡ asked_more step.asked (left steps file)
unsettled-more steps more step file now is undone =
    subst (λ all. left all now ≡ asked_more step.asked (left steps file)) (sym is)
    (λ k. record { base = unmade-added steps step file now undone k; asked = asked-added steps step k })

-- what a crash may leave after one call more is made by it of what one may have left before
pub from-asked : (asked : List Asked) (one : Asked) (old new : List ℕ) → Reaches (asked ++ one ∷ []) old new → (mid : List ℕ) × Reaches asked old mid × MayLeave one mid new
from-asked [] one old new reaches = (old, refl, subst (MayLeave one old) (sym reaches.2) reaches.1)
from-asked (first ∷ asked) one old new reaches =
    let rest = from-asked asked one reaches.0 new reaches.2 in
    (rest.0, (reaches.0, reaches.1, rest.1), rest.2)

pub to-asked : (asked : List Asked) (one : Asked) (old mid new : List ℕ) → Reaches asked old mid → MayLeave one mid new → Reaches (asked ++ one ∷ []) old new
to-asked [] one old mid new reaches may = (new, subst (λ file. MayLeave one file new) reaches may, refl)
to-asked (first ∷ asked) one old mid new reaches may = (reaches.0, reaches.1, to-asked asked one reaches.0 mid new reaches.2 may)

-- calls may leave nothing
pub left-nothing : (asked : List Asked) (file : List ℕ) → Reaches asked file file
left-nothing [] file = refl
left-nothing (first ∷ asked) file = (file, may-rest first file, left-nothing asked file)
