use Rattle.std.proofs.Common.{◌++◌, [], List, OnErr, OnOk, map, slice_set, ap, sym, subst, ◌∙◌, refl}
use Rattle.reserve_core.specs.Held.{hold_after}
use Rattle.reserve_core.specs.Holders.{Replaces}
use Rattle.reserve_core.specs.declared.hold.Hold.{Hold}
use Rattle.reserve_core.specs.declared.hold.Holder.{Holder}
use Rattle.reserve_core.proofs.HolderEdits.{kept-at, on-err, on-ok, replaces-again, replaces-set}
use Rattle.reserve_core.proofs.holders.hold.Goals as goal

pub returns-clause-ok : goal.returns-clause-ok
returns-clause-ok c =
    let p = c.args.peer in
    let xs = c.args.holders.now.items in
    let ys = c.place_for.new.holders.items in
    let place = c.in_ok-place.place in
    let d = c.index_mut-holder.result.now in
    let x : Holder = record { peer = d.peer; ranges = c.hold_all.new.ranges } in
    let at = c.in_ok-place.ensures.place in
    let same = c.place_for.ensures.same in
    let value = c.index_mut-holder.ensures.value in
    let more = λ (ks : List Hold). ks ++ map (hold_after p []) c.args.spans.now in
    let was = ap (λ (h : Holder). h.ranges.items) value ∙ sym (kept-at ys p place d same.ascend at) ∙ same.own in
    subst (λ (ks : List Hold). OnOk c.hold_all.result (Replaces xs (slice_set ys place x) p (more ks))) was
    (on-ok c.hold_all.result (Replaces xs (slice_set ys place x) p) x.ranges.items (more d.ranges.items) d.ranges.items c.hold_all.ensures
    (replaces-again xs ys (slice_set ys place x) p _ x.ranges.items same (replaces-set ys p place d x x.ranges.items same.ascend at (ap (λ (h : Holder). h.peer) value ∙ at.own d) refl)))

pub returns-clause-refused : goal.returns-clause-refused
returns-clause-refused c =
    let p = c.args.peer in
    let xs = c.args.holders.now.items in
    let ys = c.place_for.new.holders.items in
    let place = c.in_ok-place.place in
    let d = c.index_mut-holder.result.now in
    let x : Holder = record { peer = d.peer; ranges = c.hold_all.new.ranges } in
    let at = c.in_ok-place.ensures.place in
    let same = c.place_for.ensures.same in
    let value = c.index_mut-holder.ensures.value in
    let was = ap (λ (h : Holder). h.ranges.items) value ∙ sym (kept-at ys p place d same.ascend at) ∙ same.own in
    subst (λ (ks : List Hold). OnErr c.hold_all.result (Replaces xs (slice_set ys place x) p ks)) was
    (on-err c.hold_all.result (Replaces xs (slice_set ys place x) p) x.ranges.items (d.ranges.items ++ map (hold_after p []) c.args.spans.now) d.ranges.items c.hold_all.ensures
    (replaces-again xs ys (slice_set ys place x) p _ x.ranges.items same (replaces-set ys p place d x x.ranges.items same.ascend at (ap (λ (h : Holder). h.peer) value ∙ at.own d) refl)))
