use Rattle.std.proofs.Common.{false, ap, ◌∙◌, refl, [], ◌∷◌, ◌++◌, List}
use Rattle.part_hashset.specs.HashSet.{ed2k}
use Rattle.share_list.specs.Shares.{Shared}
use Rattle.share_list.proofs.adding.add.Goals as goal

pub returns-in-Ok-clause-added : goal.returns-in-Ok-clause-added
returns-in-Ok-clause-added g c =
    let blob = c.prepare.new.blob in
    let file : Shared g.row.B.Denot = record { name = c.in-Ok.name; bytes = c.in-Ok.hashed.tree; first = blob; blob = blob; failed = false } in
    let behind = ap (λ (f : Shared g.row.B.Denot). c.prepare.new.files.items ++ f ∷ []) c.new-file.ensures.is in
    record {
      file = file;
      behind = c.push_reserved.ensures.items ∙ behind ∙ ap (λ (files : List (Shared g.row.B.Denot)). files ++ file ∷ []) c.prepare.ensures.files;
      named = c.in-Ok.ensures.name;
      hashed = c.hash-hash.ensures ∙ ap (λ (f : Shared g.row.B.Denot). ed2k f.bytes) c.new-file.ensures.is;
      stays = c.prepare.ensures.stays;
      fresh = (refl, refl);
      shared = c.new-file.ensures.shared;
    }
