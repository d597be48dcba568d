use Rattle.std.proofs.Common.{[], sym, append-nil}
use Rattle.ed2k_frame.specs.Frame.{spell}
use Rattle.ed2k_frame.specs.Front.{IsFrameAt}
use Rattle.ed2k_frame.proofs.Fronts.{one_frame}
use Rattle.ed2k_frame.proofs.laws.no_frame_begins_another.Goals as goal

pub returns : goal.returns
returns c frame other rest valid right e =
    let whole : IsFrameAt frame (spell frame) [] = record { valid = valid; spelled = sym (append-nil (spell frame)) } in
    let front : IsFrameAt other (spell frame) rest = record { valid = right; spelled = e } in
    let one = one_frame frame other (spell frame) [] rest whole front in
    (one.0, sym one.1)
