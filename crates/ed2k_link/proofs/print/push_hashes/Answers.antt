use Rattle.std.proofs.Common.{◌≡◌, ◌∙◌, ap, refl, ◌++◌, ◌∷◌, [], arith, get_or, map, take, ◌+◌}
use Rattle.std.specs.List.{join_with_byte}
use Rattle.hex.specs.Hex.{encode_upper}
use Rattle.ed2k_link.proofs.Lists.{joined_first, joined_more}
use Rattle.ed2k_link.proofs.Reading.{hashes_back}
use Rattle.ed2k_link.proofs.print.push_hashes.Goals as goal
use Rattle.ed2k_link.proofs.print.push_hashes.Goals.{then-place-gt0+in_ok-push, else-place-gt0}

pub loop-place-preserved : goal.loop-place-preserved
loop-place-preserved c =
    let old = c.loop-place.invariant in
    let pushed : c.push_hash.new.out.items ≡ c.if-place-gt0.out.items ++ encode_upper (get_or c.args.hashes.now c.loop-place.place []) = c.in_ok-push_hash.ensures.written in
    let written : c.push_hash.new.out.items ≡ c.args.out.now.items ++ join_with_byte 58 (map encode_upper (take (c.loop-place.place + 1) c.args.hashes.now)) =
    elim c.if-place-gt0.branch [
      | then-place-gt0+in_ok-push w ↦
          let middle : c.if-place-gt0.out.items ≡ c.loop-place.out.items ++ 58 ∷ [] = rw w.out-is w.in_ok-push.ensures.items in
          joined_more encode_upper c.args.hashes.now c.loop-place.place [] c.args.out.now.items c.loop-place.out.items c.if-place-gt0.out.items
          c.push_hash.new.out.items c.loop-place-test.true w.if-place-gt0.true old.written middle pushed
      | else-place-gt0 w ↦
          let first : c.loop-place.place ≡ 0 = omega (arith, w.if-place-gt0.false) in
          let same : c.if-place-gt0.out.items ≡ c.loop-place.out.items = rw w.out-is refl in
          joined_first encode_upper c.args.hashes.now c.loop-place.place [] c.args.out.now.items c.loop-place.out.items
          c.push_hash.new.out.items c.loop-place-test.true first old.written
          (pushed ∙ ap (λ xs. xs ++ encode_upper (get_or c.args.hashes.now c.loop-place.place [])) same)
    ] in
    record {
      written = written;
      read = hashes_back c.args.hashes.now c.loop-place.place [] c.loop-place-test.true old.read c.in_ok-push_hash.ensures.read_back;
    }
