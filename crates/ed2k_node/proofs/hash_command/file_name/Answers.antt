use Rattle.std.proofs.Common.{◌≡◌, refl, Bool, true, false, ◌&&◌}
use Rattle.std.proofs.lemmas.Str.{is_utf8-from_IsUtf8}
use Rattle.ed2k_node.proofs.hash_command.file_name.Goals as goal

front : (x y : Bool) → (x && y) ≡ true → x ≡ true
front true y both = refl
front false y both = both

both : (x y : Bool) → x ≡ true → y ≡ true → (x && y) ≡ true
both true y first second = second
both false y first second = first

pub returns-clause-legal : goal.returns-clause-legal
returns-clause-legal c =
    both _ _ (front _ _ c.requires.named) (is_utf8-from_IsUtf8 c.args.name.now c.utf8.name)
