-- The expression that a person types, and what is wrong with it. Places are counted in bytes.
use Rattle.std.specs.Prelude.{◌≡◌, ◌≤◌, ◌<◌, ℕ, ◌+◌, ◌-◌, ◌*◌, ◌^◌, ◌==◌, Bool, true, false, ◌&&◌, ◌||◌, not, if◌then◌else◌, List, [], ◌∷◌, ◌++◌, length, drop, Option, Some, None, Result, Ok, Err, nat_le, nat_lt, nat_eq, is_none, take, codes}
use Rattle.std.specs.List.{slice_range}
use Rattle.std.specs.Cmp.Lexicographic.{pointwise}
use Rattle.std.specs.Char.{is_ascii_digit}
use Rattle.search_expr.specs.declared.read.Join.{Join}
use Rattle.search_expr.specs.declared.read.Join.TheVariants as joins
use Rattle.search_expr.specs.Query.{Query, HasWords, HasText, HasNumber, joined, depth, nodes}
use Rattle.search_expr.specs.declared.typed.WordsFault.{WordsFault}
use Rattle.search_expr.specs.declared.typed.WordsFault.TheVariants.{Empty, Dangling, BadNumber, Many}

-- the piece read so far, if it has a byte, with the place where it begins
abbrev pub closed : ℕ → List ℕ → List (ℕ × List ℕ)
closed at [] = []
closed at (b ∷ bs) = (at - length (b ∷ bs), b ∷ bs) ∷ []

-- the pieces of a text that goes on at a place, behind the piece read so far
abbrev pub cut : ℕ → List ℕ → List ℕ → List (ℕ × List ℕ)
cut at piece [] = closed at piece
cut at piece (b ∷ bs) =
    if b == 32 then closed at piece ++ cut (at + 1) [] bs else cut (at + 1) (piece ++ b ∷ []) bs

-- the pieces between the spaces, from a place on
abbrev pub pieces_from : ℕ → List ℕ → List (ℕ × List ℕ)
pieces_from at text = cut at [] (drop at text)

-- the first piece from a place on goes from p.0 to p.1
abbrev pub IsPiece : List ℕ → ℕ → ℕ × ℕ → Type 0
IsPiece text at p =
    (pieces_from at text ≡ (p.0, slice_range text p.0 p.1) ∷ pieces_from p.1 text)
    × (at ≤ p.0) × (p.0 < p.1) × (p.1 ≤ length text)

abbrev pub is_text : List ℕ → List ℕ → Bool
is_text left right = pointwise nat_eq left right

-- `or`, `not`, and any other piece, which is a term
abbrev pub join_of : List ℕ → Join
join_of piece =
    if is_text piece (codes "or") then joins.Or
    else (if is_text piece (codes "not") then joins.Not else joins.And)

abbrev pub is_term : List ℕ → Bool
is_term piece = not (is_text piece (codes "or")) && not (is_text piece (codes "not"))

-- how many terms
abbrev pub terms : List (ℕ × List ℕ) → ℕ
terms [] = 0
terms (p ∷ ps) = if is_term p.1 then terms ps + 1 else terms ps

abbrev pub begins_term : List (ℕ × List ℕ) → Bool
begins_term [] = false
begins_term (p ∷ ps) = is_term p.1

-- the first `or` or `not` that has no term before it or none behind it
abbrev pub dangling : Bool → List (ℕ × List ℕ) → Option ℕ
dangling before [] = None
dangling before (p ∷ ps) =
    if is_term p.1 then dangling true ps
    else (if before && begins_term ps then dangling false ps else Some p.0)

-- digits behind a number so far, as a number of 32 bits
abbrev pub digits_from : ℕ → List ℕ → Option ℕ
digits_from n [] = Some n
digits_from n (b ∷ bs) =
    if is_ascii_digit b && nat_lt (n * 10 + (b - 48)) (2 ^ 32) then digits_from (n * 10 + (b - 48)) bs
    else None

-- one to ten digits
abbrev pub number_of : List ℕ → Option ℕ
number_of bs = if nat_le 1 (length bs) && nat_le (length bs) 10 then digits_from 0 bs else None

abbrev pub begins : List ℕ → List ℕ → Bool
begins piece front = pointwise nat_eq (take (length front) piece) front

abbrev pub sized : Bool → Option ℕ → Option Query
sized most None = None
sized most (Some n) = Some (HasNumber n most (2 ∷ []))

-- size>=N, size<=N, type=T, or a word; nothing where the number is bad
abbrev pub term_of : List ℕ → Option Query
term_of piece =
    if begins piece (codes "size>=") then sized false (number_of (drop 6 piece))
    else (if begins piece (codes "size<=") then sized true (number_of (drop 6 piece))
    else (if begins piece (codes "type=") then Some (HasText (drop 5 piece) (3 ∷ []))
    else Some (HasWords piece)))

abbrev pub or_word : List ℕ → Option Query → Query
or_word piece None = HasWords piece
or_word piece (Some e) = e

abbrev pub term : List ℕ → Query
term piece = or_word piece (term_of piece)

-- the first term whose number is bad
abbrev pub bad_number : List (ℕ × List ℕ) → Option ℕ
bad_number [] = None
bad_number (p ∷ ps) = if is_none (term_of p.1) then Some p.0 else bad_number ps

-- what stands before, joined with what follows from left to right
abbrev pub built : Join → Query → List (ℕ × List ℕ) → Query
built join e [] = e
built join e (p ∷ ps) =
    if is_term p.1 then built joins.And (joined join e (term p.1)) ps else built (join_of p.1) e ps

abbrev pub whole : List (ℕ × List ℕ) → Query
whole [] = HasWords []
whole (p ∷ ps) = built joins.And (term p.1) ps

-- past a limit
abbrev pub is_too_great : Query → Bool
is_too_great e = nat_lt 512 (nodes e) || nat_lt 64 (depth e)

abbrev pub unless : (ℕ → WordsFault) → Option ℕ → Result Query WordsFault → Result Query WordsFault
unless fault None other = other
unless fault (Some place) other = Err (fault place)

abbrev pub parsed : List (ℕ × List ℕ) → Result Query WordsFault
parsed ps =
    if terms ps == 0 then Err Empty
    else unless Dangling (dangling false ps)
    (unless BadNumber (bad_number ps)
    (if is_too_great (whole ps) then Err Many else Ok (whole ps)))
