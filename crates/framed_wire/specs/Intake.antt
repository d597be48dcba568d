-- A reader of a wire, as its callers see it.
use Rattle.std.specs.Prelude.{ℕ, List}

-- how many bytes it took, and those of them that stand in no frame that it gave
pub record Intake : Type 0 where
  pub taken : ℕ
  pub unread : List ℕ
