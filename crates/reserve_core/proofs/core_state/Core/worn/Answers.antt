use Rattle.std.proofs.Common.{◌≡◌, ℕ, min, nat_le, ap, arith, count_by}
use Rattle.std.proofs.lemmas.Bool.Decides.{nat_tests}
use Rattle.reserve_core.specs.Events.{events}
use Rattle.reserve_core.specs.Verdicts.{goal as goal_of, is_failure}
use Rattle.reserve_core.specs.declared.part_state.PartState.{PartState}
use Rattle.reserve_core.proofs.core_state.Core.worn.Goals as goal

at-least : (n m : ℕ) → m ≡ min 8 n → nat_le 8 m ≡ nat_le 8 n
at-least n m is = grind (arith, nat_tests)

pub returns : goal.returns
returns c =
    let aim = c.args.self.now.aim in
    let h = events c.args.self.now.log in
    at-least (count_by (is_failure (goal_of aim h c.args.part) c.args.part) h) c.state.result.failures (ap (λ (s : PartState). s.failures) c.state.ensures)
