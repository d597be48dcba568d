use Rattle.std.proofs.Common.{◌≡◌, ◌++◌, refl, length, take, drop}
use Rattle.std.proofs.Math.Seq.{take-append_seam, drop-append_seam}
use Rattle.server_index.proofs.AlikeLemmas.{file_alike}
use Rattle.server_index.proofs.file.File.new.Goals as goal

pub returns : goal.returns
returns c =
    let whole : c.new.result ≡ c.args.row.name ++ c.args.row.kind = rw (c.new.ensures, c.in_ok-extend_from_slice-2.ensures.items, c.in_ok-extend_from_slice.ensures.items, c.in_ok-text.ensures.items, c.as_slice-name.ensures, c.as_slice-kind.ensures) refl in
    let name : take (length c.as_slice-name.result.now) c.new.result ≡ c.args.row.name = rw (c.as_slice-name.ensures, whole) (take-append_seam c.args.row.name c.args.row.kind) in
    let kind : drop (length c.as_slice-name.result.now) c.new.result ≡ c.args.row.kind = rw (c.as_slice-name.ensures, whole) (drop-append_seam c.args.row.name c.args.row.kind) in
    file_alike c.args.row.size c.args.owner.id c.args.owner.port _ _ _ _ name kind _ _ _ _
