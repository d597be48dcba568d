use Rattle.std.proofs.Common.{take}
use Rattle.ed2k_link.specs.Fields.{IsFound}
use Rattle.ed2k_link.specs.Items.{values, texts}
use Rattle.ed2k_link.proofs.fields.find.Given as goal

abbrev pub invariant-loop-field : goal.invariant-loop-field
invariant-loop-field l = IsFound (values l.key (texts (take l.field-index l.fields))) l.found
