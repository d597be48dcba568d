-- Links that say the same.
use Rattle.std.specs.Prelude.{◌≡◌}
use Rattle.ed2k_link.specs.declared.link.FileLink.{FileLink}

pub record IsSame (one other : FileLink) : Type 0 where
  pub same_name : one.name ≡ other.name
  pub same_size : one.size ≡ other.size
  pub same_hash : one.hash ≡ other.hash
  pub same_parts : one.parts ≡ other.parts
  pub same_root : one.root ≡ other.root
