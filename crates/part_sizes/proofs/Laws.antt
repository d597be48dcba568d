-- Laws of spans, parts and blocks, for the proofs of callers.
use Rattle.std.proofs.Common.{◌≡◌, ℕ, ◌<◌, ◌≤◌, IsTrue, arith}
use Rattle.std.proofs.lemmas.Bool.Decides.{nat_tests}
use Rattle.part_sizes.specs.declared.span.Span.{Span}
use Rattle.part_sizes.specs.Span.{has}
use Rattle.part_sizes.specs.Part.{data_parts, hash_count, part_count, part_range, part_of}
use Rattle.part_sizes.specs.Block.{block_count, block_range, block_of}
use Rattle.part_sizes.specs.declared.part.TheConstants.{PART}

-- a position lies in a span exactly between its ends
pub has_between : (span : Span) (x : ℕ) → span.s ≤ x → x < span.e → IsTrue (has span x)
has_between span x low high = grind (arith, nat_tests)

pub between_has : (span : Span) (x : ℕ) → IsTrue (has span x) → (span.s ≤ x) × (x < span.e)
between_has span x here = grind (arith, nat_tests)

-- each position of a file lies in its part, which exists, and in no other
pub part_of_exists : (size x : ℕ) → x < size → part_of x < data_parts size
part_of_exists size x within = omega arith

pub has-part_of : (size x : ℕ) → x < size → IsTrue (has (part_range size (part_of x)) x)
has-part_of size x within = has_between (part_range size (part_of x)) x (omega arith) (omega arith)

pub part_of_alone : (size part x : ℕ) → IsTrue (has (part_range size part) x) → part_of x ≡ part
part_of_alone size part x here =
    let ends = between_has (part_range size part) x here in omega arith

-- a part lies within its file
pub part_within : (size part x : ℕ) → IsTrue (has (part_range size part) x) → x < size
part_within size part x here =
    let ends = between_has (part_range size part) x here in omega arith

-- each position of a part lies in its block, which exists, and in no other
pub block_of_exists : (size x : ℕ) → x < size → block_of x < block_count size (part_of x)
block_of_exists size x within = omega arith

pub has-block_of : (size x : ℕ) → x < size → IsTrue (has (block_range size (part_of x) (block_of x)) x)
has-block_of size x within =
    has_between (block_range size (part_of x) (block_of x)) x (omega arith) (omega arith)

-- a block lies within its part
pub block_within : (size part block x : ℕ) → IsTrue (has (block_range size part block) x) → IsTrue (has (part_range size part) x)
block_within size part block x here =
    let ends = between_has (block_range size part block) x here in
    has_between (part_range size part) x (omega arith) (omega arith)

pub block_of_alone : (size part block x : ℕ) → IsTrue (has (block_range size part block) x) → block_of x ≡ block
block_of_alone size part block x here =
    let ends = between_has (block_range size part block) x here in omega arith

-- a hash set has a member for each part, and a status a bit
pub data_parts_hashed : (size : ℕ) → PART ≤ size → data_parts size ≤ hash_count size
data_parts_hashed size whole = grind (arith, nat_tests)

pub data_parts_counted : (size : ℕ) → data_parts size ≤ part_count size
data_parts_counted size = omega arith
