-- The bytes of a name.
use Rattle.std.specs.Prelude.{ℕ, List}
use Rattle.ed2k_tags.specs.declared.name.Form.{Form}
use Rattle.ed2k_tags.specs.declared.name.Form.TheVariants.{One, Many}

abbrev pub bytes_of : Form → List ℕ
bytes_of (One bytes) = bytes
bytes_of (Many bytes) = bytes
