use Rattle.std.proofs.Common.{◌∙◌, ap, ℕ, List, Some}
use Rattle.ed2k_node.specs.Texts.{line}
use Rattle.ed2k_node.proofs.hash_command.hash_line.Goals as goal

pub returns-clause-line : goal.returns-clause-line
returns-clause-line g c =
    let found = c.in_ok-digest.ensures.digest in
    let link = c.link_of-link.ensures in
    record {
      bytes = found.bytes;
      fetched = found.fetched;
      link = c.link_of-link.result;
      describes = record {
        named = link.name ∙ c.in_ok-file_name.ensures.same;
        sized = link.size ∙ found.digests.sized;
        hashed = link.hash ∙ found.digests.hashed;
        without_parts = link.parts;
        rooted = link.root ∙ ap (λ (root : List ℕ). Some root) found.digests.rooted;
      };
      says = c.in_ok-line.ensures ∙ ap line c.in_ok-print_link.ensures.form;
    }
