use Rattle.std.proofs.Common.{◌≡◌, position, Some, None, sym, ◌∙◌}
use Rattle.ed2k_outside.proofs.FirstPlace.{has_name, Fetches-first, IsAbsent-none}
use Rattle.ed2k_outside.proofs.mem_blobs.MemBlobsBlobs.fetch.Goals as goal

pub returns-in-Some-clause-list : goal.returns-in-Some-clause-list
returns-in-Some-clause-list c =
    let entries = c.args.self.now.list.items in
    let place : position (has_name c.args.name.now) entries ≡ Some c.in-Some.index =
    rw (← c.deref.ensures.value) (sym c.place_of.ensures ∙ c.in-Some.is) in
    rw c.remove-blob.ensures.items (Fetches-first c.args.name.now entries c.in-Some.index c.remove-blob.result place c.remove-blob.ensures.value)

pub returns-in-None-clause-only : goal.returns-in-None-clause-only
returns-in-None-clause-only c =
    let place : position (has_name c.args.name.now) c.args.self.now.list.items ≡ None =
    rw (← c.deref.ensures.value) (sym c.place_of.ensures ∙ c.in-None.is) in
    IsAbsent-none c.args.name.now c.args.self.now.list.items place
