use Rattle.std.proofs.Common.{◌≡◌, map, Some, ◌∷◌, [], codes}
use Rattle.ed2k_link.proofs.Lists.{hashes_pass}
use Rattle.ed2k_link.specs.Fields.{hash_of}
use Rattle.ed2k_link.specs.Items.{values, texts, split_at_colons}
use Rattle.ed2k_link.proofs.fields.read_parts.Goals as goal

pub returns-in_ok-read_hashes-in-Once : goal.returns-in_ok-read_hashes-in-Once
returns-in_ok-read_hashes-in-Once c =
    let found : values (codes "p=") (texts c.args.fields.now) ≡ c.in-Once.text.now ∷ [] = c.in-Once.ensures in
    let hashes : map hash_of (split_at_colons c.in-Once.text.now) ≡ map Some c.in_ok-read_hashes-in-Once.field-0.items = c.in_ok-read_hashes-in-Once.ensures in
    rw (found, c.new-in-Once.ensures) (hashes, hashes_pass _ _ hashes)
