use Rattle.std.proofs.Common.{◌<◌, length, arith}
use Rattle.server_index.proofs.WordLemmas.{next_word-some}
use Rattle.server_index.proofs.words.next_word.Goals as goal

pub returns : goal.returns
returns c =
    let lt : c.skip-start.result < length c.args.text.now = omega arith in
    (next_word-some c.args.text.now c.args.at c.skip-start.result _ _ lt c.skip-start.ensures.same (c.skip-start.ensures.stops lt) (rw c.add_byte.ensures at c.rest_of_word.ensures.keys), omega arith, c.rest_of_word.ensures.within)
