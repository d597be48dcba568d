-- Steps, place by place.
use Rattle.std.proofs.Common.{◌≡◌, ℕ, ◌+◌, ◌<◌, ◌≤◌, zero, suc, List, [], ◌∷◌, ◌++◌, length, take, drop, slice_index_or, sym, ap, ◌∙◌, subst, arith}
use Rattle.std.proofs.lemmas.List.{take_more}
use Rattle.vault_sim.specs.Steps.{IsLegal, MayLeave, Reaches, asked_of, unmade}
use Rattle.vault_sim.specs.declared.step.Step.{Step}
use Rattle.vault_sim.proofs.StepLemmas.{asked-added, to-asked}

-- the newest step that is left can be undone
pub legal-at : (steps : List Step) (k : ℕ) (step : Step) (now : List ℕ) → IsLegal steps now → k < length steps → step ≡ slice_index_or steps k step → step.at ≤ length (take step.len (unmade (drop (suc k) steps) now))
legal-at [] k step now legal within is = absurd (omega arith)
legal-at (first ∷ steps) zero step now legal within is = subst (λ (s : Step). s.at ≤ length (take s.len (unmade steps now))) (sym is) legal.1
legal-at (first ∷ steps) (suc k) step now legal within is = legal-at steps k step now legal.2 (omega arith) is

-- one call more is made again
pub reaches-more : (steps : List Step) (k : ℕ) (step : Step) (old mid new : List ℕ) → k < length steps → step ≡ slice_index_or steps k step
    → Reaches (asked_of (take k steps)) old mid → MayLeave step.asked mid new → Reaches (asked_of (take (k + 1) steps)) old new
reaches-more steps k step old mid new within is reaches may =
    let all : take (k + 1) steps ≡ take k steps ++ step ∷ [] = take_more steps k step within ∙ ap (λ (s : Step). take k steps ++ s ∷ []) (sym is) in
    subst (λ asked. Reaches asked old new) (sym (ap asked_of all ∙ asked-added (take k steps) step)) (to-asked (asked_of (take k steps)) step.asked old mid new reaches may)
