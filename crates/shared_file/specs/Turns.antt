-- What a call on the part file does to the log that the lock carries.
use Rattle.std.specs.Prelude.{◌≡◌, ◌≢◌, ℕ, ◌++◌, Bool, List, Result, Err, IsTrue, IsFalse}
use Rattle.part_store.specs.Body.{Stored}
use Rattle.reserve_core.specs.Desk.{Answered, own}
use Rattle.reserve_core.specs.Events.{events}
use Rattle.reserve_core.specs.declared.desk.Answer.{Answer}
use Rattle.reserve_core.specs.declared.desk.DeskAsk.{DeskAsk}
use Rattle.reserve_core.specs.declared.event.Entry.{Entry}
use Rattle.reserve_core.specs.declared.fault.DeskFault.{DeskFault}
use Rattle.reserve_core.specs.declared.fault.DeskFault.TheVariants as faults
use Rattle.turn_lock.specs.Views.{BeginsWith}
use Rattle.shared_file.specs.Notes.{noted}

-- A call by the peer with a number: the log goes on with the call's own entry, if it adds one, and the answer is that of the log
-- before; all that could be seen still stands in front; and no other number's events change.
pub record Steps {V : Type 0} (n : ℕ) (ask : DeskAsk) (answer : Answer) (old new : Stored V) : Type 0 where
  pub mine : List Entry
  pub grows : new.log ≡ old.log ++ mine
  pub answered : Answered old.aim n (events old.log) ask answer (events mine)
  pub begins : BeginsWith (noted new.log new.broken) (noted old.log old.broken)
  pub others : (m : ℕ) → m ≢ n → own (events new.log) m ≡ own (events old.log) m

-- a part file that failed is broken, and was not before; a broken one answers Broken, and no other does
pub record Marks {X : Type 0} (result : Result X DeskFault) (old new : Bool) : Type 0 where
  pub failed : result ≡ Err faults.Fault → IsFalse old × IsTrue new
  pub stuck : result ≡ Err faults.Broken → IsTrue old × IsTrue new
  pub works : result ≢ Err faults.Fault → result ≢ Err faults.Broken → IsFalse new
