use Rattle.std.proofs.Common.{List, ℕ, length, true, ap, ◌∙◌}
use Rattle.aich_tree.specs.Tree.{tree}
use Rattle.ed2k_node.proofs.hash_command.digest_blob.Goals as goal

pub returns-clause-digest : goal.returns-clause-digest
returns-clause-digest g c =
    let found = c.in_ok-found.ensures.hashes in
    record {
      bytes = found.bytes;
      told = found.told;
      digests = record {
        sized = c.size-size.ensures.value ∙ ap (λ (bytes : List ℕ). length bytes) found.hashes.tree;
        hashed = found.hashes.hash;
        rooted = c.root-root.ensures ∙ ap (λ (bytes : List ℕ). tree bytes true) found.hashes.tree;
      };
    }
