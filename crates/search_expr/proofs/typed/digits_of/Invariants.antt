use Rattle.std.proofs.Common.{drop, ◌≡◌, ◌<◌, ◌^◌}
use Rattle.search_expr.specs.Typed.{digits_from}
use Rattle.search_expr.proofs.typed.digits_of.Given as goal

abbrev pub invariant-loop-byte : goal.invariant-loop-byte
invariant-loop-byte l = (digits_from l.number (drop l.byte-index l.digits) ≡ digits_from 0 l.digits) × (l.number < 2 ^ 32)
