use Rattle.std.proofs.Common.{arith, map, string_bytes}
use Rattle.std.proofs.lemmas.List.{length-map}
use Rattle.std.proofs.lemmas.Bool.Decides.{nat_tests}
use Rattle.ed2k_node.proofs.WordLemmas.{asks_of-other}
use Rattle.ed2k_node.proofs.words.parse_download.Goals as goal
use Rattle.ed2k_node.proofs.words.parse_download.Goals.{in_default-via-then-words-lt3, in_default-via-else-words-lt3+else-words-lt4}

pub returns-in_default : goal.returns-in_default
returns-in_default c =
    let words = map string_bytes c.args.words.now in
    asks_of-other words (elim c.in_default.branch [ in_default-via-then-words-lt3 w ↦ (λ e. grind (arith, nat_tests, length-map c.args.words.now string_bytes, e)) | in_default-via-else-words-lt3+else-words-lt4 w ↦ (λ e. grind (arith, nat_tests, length-map c.args.words.now string_bytes, e)) ])
