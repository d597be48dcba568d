use Rattle.std.proofs.Common.{sym}
use Rattle.server_index.specs.Files.{file_at}
use Rattle.server_index.proofs.FileLemmas.{listed_beside, listed_beside_none}
use Rattle.server_index.proofs.SweptLemmas.{clean_some, clean_none}
use Rattle.server_index.proofs.files.withdraw.Goals as goal

pub returns-in-Some : goal.returns-in-Some
returns-in-Some c = record {
  listed = listed_beside c.args.live.now.entries _ _ c.args.spot c.drop_words.ensures.others c.in-Some.file.now (sym c.in-Some.ensures.value) (rw c.name.ensures at c.drop_words.ensures.kept) c.requires.listed;
  gone = clean_some _ c.args.spot c.args.name.now _ c.in-Some.file.now (sym c.in-Some.ensures.value) (rw c.name.ensures at c.drop_words.ensures.gone);
  fewer = c.drop_words.ensures.fewer;
}

pub returns-in-None : goal.returns-in-None
returns-in-None c = record {
  listed = listed_beside_none c.args.live.now.entries _ _ c.args.spot c.drop_words-in-None.ensures.others (sym c.in-None.ensures.value) c.requires.listed;
  gone = clean_none _ c.args.spot c.args.name.now (file_at c.args.live.now.entries c.args.spot) c.drop_words-in-None.ensures.gone;
  fewer = c.drop_words-in-None.ensures.fewer;
}
