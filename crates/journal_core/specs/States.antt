-- What records tell of a download, folded from the oldest.
use Rattle.std.specs.Prelude.{◌≡◌, ℕ, ◌+◌, ◌<◌, ◌≤◌, Bool, true, false, not, ◌&&◌, ◌||◌, ◌==◌, List, [], ◌∷◌, length, get_or, fold, find, is_none, Option, Some, None, IsTrue, IsSome, if◌then◌else◌}
use Rattle.std.specs.List.{list_any}
use Rattle.byte_ranges.specs.Spans.{IsApart}
use Rattle.part_hashset.specs.Goals.{fails, goal_in}
use Rattle.part_hashset.specs.HashSet.{ValidSet}
use Rattle.part_hashset.specs.declared.aim.Aim.{Aim}
use Rattle.part_sizes.specs.Block.{block_count, block_of}
use Rattle.part_sizes.specs.Part.{data_parts, part_range}
use Rattle.part_sizes.specs.Span.{has, positions}
use Rattle.part_sizes.specs.declared.part.TheConstants.{PART}
use Rattle.part_sizes.specs.declared.span.Span.{Span}
use Rattle.journal_core.specs.declared.record.Record.{Record}
use Rattle.journal_core.specs.declared.record.Record.TheVariants.{Set, Filled, Judged, Recovered, Dropped}

-- the kept set, empty where none is kept; the filled positions; the verdict of each part that has one
pub record State : Type 0 where
  pub set : List (List ℕ)
  pub filled : ℕ → Bool
  pub verdict : ℕ → Option (List ℕ)

-- the states answer alike, so they are equal
pub record IsAlike (s t : State) : Type 0 where
  pub set : s.set ≡ t.set
  pub filled : (x : ℕ) → s.filled x ≡ t.filled x
  pub verdict : (i : ℕ) → s.verdict i ≡ t.verdict i

abbrev pub nothing : State
nothing = record { set = []; filled = λ x. false; verdict = λ i. None }

-- the state after one more record
abbrev pub after : ℕ → State → Record → State
after n s (Set q) = record s { set = q }
after n s (Filled spans) = record s { filled = λ x. s.filled x || list_any (λ r. has r x) spans }
after n s (Judged i d) = record s { verdict = λ j. if i == j then Some d else s.verdict j }
after n s (Recovered i kept) = record s {
  filled = λ x. if has (part_range n i) x && not (get_or kept (block_of x) false) then false else s.filled x;
  verdict = λ j. if i == j then None else s.verdict j;
}
after n s (Dropped i) = record s {
  filled = λ x. if has (part_range n i) x then false else s.filled x;
  verdict = λ j. if i == j then None else s.verdict j;
}

abbrev pub state_of : ℕ → List Record → State
state_of n rs = fold (after n) nothing rs

abbrev pub is_full_in : ℕ → State → ℕ → Bool
is_full_in n s i = is_none (find (λ x. not (s.filled x)) (positions (part_range n i)))

abbrev pub is_failed_in : Aim → State → ℕ → Bool
is_failed_in aim s i = fails (goal_in aim s.set i) (s.verdict i)

pub record MayJudge (aim : Aim) (s : State) (i : ℕ) : Type 0 where
  pub exists : i < data_parts aim.size
  pub full : IsTrue (is_full_in aim.size s i)
  pub unjudged : s.verdict i ≡ None
  pub goal_known : IsSome (goal_in aim s.set i)

pub record MayFill (aim : Aim) (s : State) (spans : List Span) : Type 0 where
  pub apart : IsApart 0 (aim.size + 1) spans
  pub unfilled : (x : ℕ) → list_any (λ r. has r x) spans ≡ true → s.filled x ≡ false

-- what a record may say after others
abbrev pub MayFollow : Aim → State → Record → Type 0
MayFollow aim s (Set q) = (PART ≤ aim.size) × (s.set ≡ []) × ValidSet aim.size aim.hash q
MayFollow aim s (Filled spans) = MayFill aim s spans
MayFollow aim s (Judged i d) = MayJudge aim s i
MayFollow aim s (Recovered i kept) = (i < data_parts aim.size) × IsTrue (is_failed_in aim s i) × (length kept ≡ block_count aim.size i)
MayFollow aim s (Dropped i) = (i < data_parts aim.size) × IsTrue (is_failed_in aim s i)

abbrev pub AreLegal : Aim → State → List Record → Type 0
AreLegal aim s [] = Unit {0}
AreLegal aim s (r ∷ rs) = MayFollow aim s r × AreLegal aim (after aim.size s r) rs
