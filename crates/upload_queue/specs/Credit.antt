-- The credit of a user, by the bytes that it gave and those that it was given.
use Rattle.std.specs.Prelude.{ℕ, zero, suc, ◌+◌, ◌*◌, ◌/◌, ◌==◌, nat_le, nat_lt, min, max, if◌then◌else◌}

-- the whole part of the square root
abbrev pub square_root : ℕ → ℕ
square_root zero = 0
square_root (suc n) = let root = square_root n in if nat_le ((root + 1) * (root + 1)) (suc n) then root + 1 else root

-- two hundred times what came for each byte that went
abbrev pub ratio : (received given : ℕ) → ℕ
ratio received given = if given == 0 then 1000 else 200 * received / given

-- a hundred times the root of the MiB that came and two more
abbrev pub reach : ℕ → ℕ
reach received = square_root (10000 * (received / 1048576 + 2))

-- the lesser of the two, from 100 to 1,000; 100 for less than a MiB
abbrev pub credit : (received given : ℕ) → ℕ
credit received given =
    if nat_lt received 1048576 then 100 else max 100 (min (min (ratio received given) (reach received)) 1000)
