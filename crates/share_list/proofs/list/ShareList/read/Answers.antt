use Rattle.std.proofs.Common.{slice_get, slice_set, refl, ap, sym, ◌∙◌}
use Rattle.std.proofs.lemmas.Option.{slice_get_read}
use Rattle.std.proofs.lemmas.Result.{err_from_is_err_and}
use Rattle.share_list.proofs.list.ShareList.read.Goals as goal

pub returns : goal.returns
returns g c = record {
  read = record {
    file = c.index_mut.result.now;
    before = ap (λ l. slice_get l c.args.k) (sym c.self.view_is) ∙ slice_get_read _ _ c.args.k _ refl (rw c.self.view_is c.requires.file) c.index_mut.ensures.value;
    after = c.read.new.self;
    others = ap (λ l. slice_set l c.args.k c.read.new.self) c.self.view_is;
    content = c.in_ok-read.ensures.content;
    same = c.in_ok-read.ensures.same;
    later = c.in_ok-read.ensures.cause.later;
    failed = c.in_ok-read.ensures.failed;
    fault = tt;
  };
}

pub returns-in_err-read : goal.returns-in_err-read
returns-in_err-read g c =
    let e = err_from_is_err_and c.from_residual.result c.from_residual.ensures.1 in
    rw (e.1, e.2) (record {
      read = record {
        file = c.index_mut.result.now;
        before = ap (λ l. slice_get l c.args.k) (sym c.self.view_is) ∙ slice_get_read _ _ c.args.k _ refl (rw c.self.view_is c.requires.file) c.index_mut.ensures.value;
        after = c.read.new.self;
        others = ap (λ l. slice_set l c.args.k c.read.new.self) c.self.view_is;
        content = tt;
        same = c.in_err-read.ensures.same;
        later = c.in_err-read.ensures.cause.later;
        failed = c.in_err-read.ensures.failed;
        fault = (refl, c.in_err-read.ensures.cause.failed);
      };
    })
