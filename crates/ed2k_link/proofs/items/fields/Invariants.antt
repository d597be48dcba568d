use Rattle.std.proofs.Common.{◌≡◌, false, take}
use Rattle.std.specs.List.{list_any}
use Rattle.ed2k_link.specs.Items.{is_end, texts}
use Rattle.ed2k_link.proofs.items.fields.Given as goal

abbrev pub invariant-loop-place : goal.invariant-loop-place
invariant-loop-place l = list_any is_end (texts (take l.place l.items)) ≡ false
