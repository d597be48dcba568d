-- When a part may be judged.
use Rattle.std.proofs.Common.{◌≡◌, ℕ, zero, suc, ◌<◌, ◌≤◌, Bool, true, false, ◌&&◌, nat_lt, nat_le, List, [], ◌∷◌, length, slice_get, Option, Some, None, is_none, IsSome, IsFalse, if◌then◌else◌, refl, ap, arith}
use Rattle.std.specs.Bool.{then_some}
use Rattle.std.specs.Option.{option_map}
use Rattle.std.proofs.lemmas.Bool.Decides.{nat_tests}
use Rattle.part_hashset.specs.declared.aim.Aim.{Aim}
use Rattle.part_sizes.specs.Part.{data_parts, hash_count}
use Rattle.part_sizes.specs.declared.part.TheConstants.{PART}
use Rattle.part_sizes.proofs.Laws.{data_parts_hashed}
use Rattle.reserve_core.specs.Refusals.{first_cause, refusal}
use Rattle.reserve_core.specs.Events.{events}
use Rattle.reserve_core.specs.Filled.{first_unfilled, is_part_uncommitted}
use Rattle.reserve_core.specs.Legal.{MayJudge}
use Rattle.reserve_core.specs.Tells.{SetStands}
use Rattle.part_hashset.specs.Goals.{is_nil}
use Rattle.reserve_core.specs.Verdicts.{kept_set, lacks_set, verdict_of}
use Rattle.reserve_core.specs.declared.event.Entry.{Entry}
use Rattle.reserve_core.specs.declared.event.Event.{Event}
use Rattle.reserve_core.specs.declared.event.Event.TheVariants.{Verdict}
use Rattle.reserve_core.specs.declared.fault.DeskFault.TheVariants.{NotFull, NotCommitted, NoSet, Already}

-- no cause applies
pub record NoCause (unfilled : Option ℕ) (open_part lacks : Bool) (judged : Option (List ℕ)) : Type 0 where
  pub full : unfilled ≡ None
  pub committed : open_part ≡ false
  pub set : lacks ≡ false
  pub unjudged : judged ≡ None

no-cause : (a : Option ℕ) (b c : Bool) (d : Option (List ℕ)) → first_cause (option_map NotFull a ∷ then_some b NotCommitted ∷ then_some c NoSet ∷ option_map Already d ∷ []) ≡ None → NoCause a b c d
no-cause (Some x) b c d none = absurd (cc)
no-cause None true c d none = absurd (cc)
no-cause None false true d none = absurd (cc)
no-cause None false false (Some digest) none = absurd (cc)
no-cause None false false None none = record { full = refl; committed = refl; set = refl; unjudged = refl }

pub ready : (aim : Aim) (h : List Event) (i : ℕ) → refusal aim h (Verdict i []) ≡ None → NoCause (first_unfilled aim.size h i) (is_part_uncommitted aim.size h i) (lacks_set aim.size h) (verdict_of h i)
ready aim h i none = no-cause (first_unfilled aim.size h i) (is_part_uncommitted aim.size h i) (lacks_set aim.size h) (verdict_of h i) none

member : (set : List (List ℕ)) (i : ℕ) → i < length set → IsSome (slice_get set i)
member [] i below = absurd (omega arith)
member (x ∷ set) zero below = refl
member (x ∷ set) (suc i) below = member set i (omega arith)

pub goal-known : (aim : Aim) (set : List (List ℕ)) (i : ℕ) (below : Bool) → nat_lt aim.size PART ≡ below → (nat_le PART aim.size && is_nil set) ≡ false → (IsFalse (is_nil set) → length set ≡ hash_count aim.size) → i < data_parts aim.size
    → IsSome (if below then Some aim.hash else slice_get set i)
goal-known aim set i true test lacks whole exists = refl
goal-known aim set i false test lacks whole exists =
    let large : PART ≤ aim.size = grind (arith, nat_tests) in
    let some : is_nil set ≡ false = grind (arith, nat_tests) in
    let hashed = data_parts_hashed aim.size large in
    member set i (omega (arith, whole some, hashed, exists))

pub may_judge : (aim : Aim) (log : List Entry) (i place : ℕ) → SetStands aim.size log place → i < data_parts aim.size → refusal aim (events log) (Verdict i []) ≡ None → MayJudge aim (events log) i
may_judge aim log i place stands exists none =
    let no = ready aim (events log) i none in
    record {
      exists = exists;
      full = ap is_none no.full;
      committed = no.committed;
      unjudged = no.unjudged;
      goal_known = goal-known aim (kept_set (events log)) i (nat_lt aim.size PART) refl no.set stands.whole exists;
    }
