-- What is kept where a log begins.
use Rattle.std.proofs.Common.{◌≡◌, ◌⊎◌, ℕ, zero, suc, ◌+◌, ◌*◌, ◌<◌, ◌≤◌, Bool, true, false, nat_lt, ◌||◌, List, [], ◌∷◌, length, slice_index_or, refl, ap, sym, ◌∙◌, arith, IsFalse, inl, inr}
use Rattle.std.specs.FinSet.{contains}
use Rattle.std.specs.List.{list_any}
use Rattle.std.proofs.lemmas.Bool.{true≢false}
use Rattle.std.proofs.lemmas.Bool.Decides.{nat_tests}
use Rattle.byte_ranges.specs.RangeSet.{RangeSet}
use Rattle.byte_ranges.specs.Spans.{IsApart}
use Rattle.part_hashset.specs.HashSet.{ValidSet}
use Rattle.part_hashset.specs.declared.aim.Aim.{Aim}
use Rattle.part_sizes.specs.Part.{IsSize, data_parts, hash_count}
use Rattle.part_sizes.specs.Span.{has}
use Rattle.part_sizes.specs.declared.part.TheConstants.{PART}
use Rattle.part_sizes.specs.declared.span.Span.{Span}
use Rattle.reserve_core.specs.Legal.{IsState}
use Rattle.reserve_core.specs.Moved.{moved}
use Rattle.reserve_core.specs.Tells.{IsUncommittedAt, CoreKeeps}
use Rattle.part_hashset.specs.Goals.{is_nil, digest_in}
use Rattle.reserve_core.specs.declared.event.Event.TheVariants.{Opened}
use Rattle.reserve_core.specs.declared.event.Opened.{Opened as State}
use Rattle.reserve_core.specs.declared.part_state.PartState.{PartState}
use Rattle.reserve_core.proofs.Quiet.{dues_most}

pub apart-at : (low high : ℕ) (spans : List Span) (k : ℕ) (d : Span) → IsApart low high spans → k < length spans → ((slice_index_or spans k d).s ≤ (slice_index_or spans k d).e) × ((slice_index_or spans k d).e < high)
apart-at low high [] k d apart below = absurd (omega arith)
apart-at low high (span ∷ spans) zero d apart below = (omega (arith, apart.1), apart.2)
apart-at low high (span ∷ spans) (suc k) d apart below = apart-at (span.e + 1) high spans k d apart.3 (omega arith)

pub or-or : (a b c : Bool) → ((a || b) || c) ≡ (a || (b || c))
or-or true b c = refl
or-or false b c = refl

-- a kept set has the members that the size needs
set-whole : (aim : Aim) (set : List (List ℕ)) → (set ≡ []) ⊎ ((PART ≤ aim.size) × ValidSet aim.size aim.hash set) → IsFalse (is_nil set) → length set ≡ hash_count aim.size
set-whole aim set kept some =
    elim kept [
      | inl none ↦ absurd (true≢false (sym (ap is_nil none) ∙ some))
      | inr valid ↦ (valid.1.whole valid.0).count
    ]

pub keeps-opened : (aim : Aim) (o : State) (calls : ℕ) (ranges fresh : RangeSet) (states : List PartState) (capacity : ℕ)
    → IsSize aim.size → IsState aim o
    → ranges.size ≡ aim.size → ((x : ℕ) → contains ranges.set x ≡ list_any (λ r. has r x) o.filled) → 2 * data_parts aim.size ≤ ranges.spare
    → fresh.size ≡ aim.size → ((x : ℕ) → contains fresh.set x ≡ false) → 2 * data_parts aim.size ≤ fresh.spare
    → length states ≡ data_parts aim.size
    → ((i : ℕ) (d : PartState) → i < data_parts aim.size → slice_index_or states i d ≡ record { verdict = digest_in o.verdicts i; uncommitted = false; failures = 0 })
    → 2 * data_parts aim.size + 1 ≤ capacity
    → CoreKeeps aim (record { calls = calls; event = Opened o } ∷ []) ranges fresh [] states [] 0 0 false 1 capacity
keeps-opened aim o calls ranges fresh states capacity size state sized filled spare fresh_sized none fresh_spare count each room =
    let most = dues_most aim (Opened o ∷ []) in
    record {
      legal = record { events = (state, tt); calls = (omega arith, tt) };
      tells = record {
        size = size;
        filled_size = sized;
        filled = filled;
        fresh_size = fresh_sized;
        fresh = λ x. rw (none x) (whole (list_any (λ r. has r x) o.filled));
        sits = λ k d below. absurd (omega arith);
        clear = λ x here. absurd (true≢false (sym here));
        count = count;
        state = each;
        uncommitted = refl;
        unjudged = λ large kept. refl;
        unrecovered = refl;
      };
      held = record { ascend = tt; ranges = λ p. refl };
      set = record { within = omega arith; is = λ d. refl; whole = set-whole aim o.set state.set };
      offers = record { peers = refl; each = λ k d below. absurd (omega arith) };
      moved_end = λ from. none-moved from;
      room = record { log = omega (arith, most, room); filled = omega (arith, most, spare, fresh_spare) };
    }
  where
    whole : (filled : Bool) → IsUncommittedAt false filled filled
    whole true = record { is = refl; within = λ e. e }
    whole false = record { is = refl; within = λ e. e }

    never : (k : ℕ) → nat_lt k 0 ≡ false
    never k = grind (arith, nat_tests)

    nothing : (k : ℕ) → moved aim (Opened o ∷ []) (suc k) ≡ false
    nothing zero = refl
    nothing (suc k) = refl

    none-moved : (from : ℕ) → moved aim (Opened o ∷ []) from ≡ nat_lt from 0
    none-moved zero = refl
    none-moved (suc from) = nothing from ∙ sym (never (suc from))
