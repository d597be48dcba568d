use Rattle.std.proofs.Common.{◌≡◌, ◌<◌, ℕ, get_or}
use Rattle.journal_core.specs.Headers.{magic}
use Rattle.journal_core.proofs.probing.probe_front.Given as goal

abbrev pub invariant-loop-place : goal.invariant-loop-place
invariant-loop-place l = (k : ℕ) → k < l.place → get_or l.front k 0 ≡ get_or magic k 0
