-- A live file as contracts see it.
use Rattle.std.specs.Prelude.{ℕ, ◌≤◌, List, length}

-- what its session tells of a file, and the session's id and port
pub record File : Type 0 where
  pub name : List ℕ
  pub size : ℕ
  pub kind : List ℕ
  pub id : ℕ
  pub port : ℕ
  pub short_name : length name ≤ 65535
  pub short_kind : length kind ≤ 65535
