-- A refusal behind a call that the blob stayed in.
use Rattle.std.proofs.Common.{ℕ, List, Option, length, ◌≡◌, ◌≤◌, IfSome, arith, subst, ◌∙◌}
use Rattle.ed2k_outside.specs.Causes.{Rose}
use Rattle.part_sizes.specs.Part.{IsSize}
use Rattle.share_list.specs.Calls.{Refuses, Stays}
use Rattle.share_list.specs.declared.fault.ShareFault.{ShareFault}

rose_later : (first mid now : ℕ) → first ≤ mid → Rose mid now → Rose first now
rose_later first mid now later rose = omega (arith, later, rose)

pub refused_later : {B : Type 0} (told : B → Option (List ℕ)) (faults : B → ℕ) (old mid new : B) (fault : ShareFault)
    → Stays told faults old mid → Refuses told faults mid new fault → Refuses told faults old new fault
refused_later told faults old mid new fault stays refused = record {
  stays = record { own = refused.stays.own ∙ stays.own; later = omega (arith, stays.later, refused.stays.later) };
  size = λ n is. ((refused.size n is).0, subst (λ own. IfSome own (λ bytes. n ≡ length bytes)) stays.own (refused.size n is).1);
  failed = λ is. rose_later (faults old) (faults mid) (faults new) stays.later (refused.failed is);
  memory = λ is. subst (λ own. IfSome own (λ bytes. IsSize (length bytes))) stays.own (refused.memory is);
}
