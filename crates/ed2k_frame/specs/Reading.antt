-- What a reader holds, as its callers see it.
use Rattle.std.specs.Prelude.{ℕ, List, Option}
use Rattle.ed2k_frame.specs.declared.fault.FrameFault.{FrameFault}

-- the bytes that were fed and not yet given, and the fault that was answered
pub record Reading : Type 0 where
  pub rest : List ℕ
  pub said : Option FrameFault
