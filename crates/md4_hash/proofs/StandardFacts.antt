-- Digests of RFC 1320's test suite, so that a wrong constant, step or padding in the definition does not check.
use Rattle.std.proofs.Common.{◌≡◌, ℕ, ◌+◌, ◌%◌, ◌<◌, List, [], ◌∷◌, codes, length, arith, refl}
use Rattle.md4_hash.specs.Md4.{step, after_block, after_blocks, after, zeros_after, md4}

pub digest_of_nothing : md4 [] ≡ 0x31 ∷ 0xd6 ∷ 0xcf ∷ 0xe0 ∷ 0xd1 ∷ 0x6a ∷ 0xe9 ∷ 0x31 ∷ 0xb7 ∷ 0x3c ∷ 0x59 ∷ 0xd7 ∷ 0xe0 ∷ 0xc0 ∷ 0x89 ∷ 0xc0 ∷ []
unfolding step after_block after_blocks after md4
digest_of_nothing = refl

pub digest_of_abc : md4 (codes "abc") ≡ 0xa4 ∷ 0x48 ∷ 0x01 ∷ 0x7a ∷ 0xaf ∷ 0x21 ∷ 0xd8 ∷ 0x52 ∷ 0x5f ∷ 0xc1 ∷ 0x0a ∷ 0xe8 ∷ 0x7a ∷ 0xa6 ∷ 0x72 ∷ 0x9d ∷ []
unfolding step after_block after_blocks after md4
digest_of_abc = refl

-- 62 bytes, which the padding carries into a second block
pub digest_of_two_blocks : md4 (codes "ABCDEFGHIJKLMNOPQRSTUVWXYZabcdefghijklmnopqrstuvwxyz0123456789") ≡ 0x04 ∷ 0x3f ∷ 0x85 ∷ 0x82 ∷ 0xf2 ∷ 0x41 ∷ 0xdb ∷ 0x35 ∷ 0x1c ∷ 0xe6 ∷ 0x27 ∷ 0xe1 ∷ 0x53 ∷ 0xe7 ∷ 0xf0 ∷ 0xe4 ∷ []
unfolding step after_block after_blocks after md4
digest_of_two_blocks = refl

-- the zeros end eight bytes short of a block, and are the fewest that do
pub zeros_end : (n : ℕ) → (n + 1 + zeros_after n) % 64 ≡ 56
zeros_end n = omega arith

pub zeros_few : (n : ℕ) → zeros_after n < 64
zeros_few n = omega arith

-- a digest has sixteen bytes
pub length-md4 : (m : List ℕ) → length (md4 m) ≡ 16
unfolding md4
length-md4 m = refl
