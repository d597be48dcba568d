use Rattle.std.proofs.Common.{◌≡◌, ◌%◌, ℕ, List, length, refl, sym, ap, ◌∙◌}
use Rattle.md4_hash.specs.Md4.{after, start}
use Rattle.md4_hash.proofs.Pieces.{Holds-blocks}
use Rattle.md4_hash.proofs.hasher.Md4.append_blocks.Goals as goal

pub invariant_of-self : goal.invariant_of-self
invariant_of-self c =
    let m = c.self.inside.fed.bytes in
    let d = c.args.blocks.now in
    let begins : length m % 64 ≡ 0 = ap (λ (bytes : List ℕ). length bytes % 64) c.self.view_is ∙ c.requires.begins in
    let found = c.requires.found ∙ ap (λ (bytes : List ℕ). after (after start bytes) d) (sym c.self.view_is) in
    rw c.note.ensures
    (Holds-blocks _ _ _ m d _ _ c.self.invariant begins c.requires.whole found refl)
