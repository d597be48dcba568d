-- A stream that serves a file: what a peer sends that has all of it and gives all that it is asked for.
use Rattle.std.specs.Prelude.{◌≡◌, ◌≢◌, ◌⊎◌, ℕ, ◌-◌, ◌<◌, ◌≤◌, Bool, true, false, List, [], ◌∷◌, ◌++◌, length, get_or, replicate, take, drop, Some, Ok, IsTrue}
use Rattle.std.specs.List.{flat_map, list_all}
use Rattle.client_msgs.specs.Reading.{message}
use Rattle.client_msgs.specs.declared.msg.PeerMsg.{PeerMsg}
use Rattle.client_msgs.specs.declared.msg.PeerMsg.TheVariants.{HelloAnswer, NameAnswer, FileStatus, SetAnswer, Accept, SendingPart}
use Rattle.client_msgs.specs.declared.msg.Hello.{Hello}
use Rattle.ed2k_frame.specs.Frame.{IsFrame, spell}
use Rattle.ed2k_frame.specs.declared.frame.Frame.{Frame}
use Rattle.part_hashset.specs.HashSet.{ed2k, set_of}
use Rattle.part_hashset.specs.declared.aim.Aim.{Aim}
use Rattle.part_sizes.specs.Part.{data_parts}
use Rattle.part_sizes.specs.declared.span.Span.{Span}
use Rattle.reserve_core.specs.Choice.{pick_of}
use Rattle.reserve_core.specs.Filled.{is_filled}
use Rattle.reserve_core.specs.Verdicts.{is_verified, lacks_set, parts}
use Rattle.reserve_core.specs.declared.event.Event.{Event}
use Rattle.reserve_core.specs.declared.event.Event.TheVariants.{Opened, Hashes, Offer, Reserve, Write}
use Rattle.reserve_core.specs.declared.event.Opened.{Opened as State}
use Rattle.peer_fetch.specs.Fetches.{Inside, Standing, Talk}
use Rattle.peer_fetch.specs.Plan.{Begin}
use Rattle.peer_fetch.specs.declared.cause.Cause.{Cause}
use Rattle.peer_fetch.specs.declared.cause.Cause.TheVariants as cause
use Rattle.peer_fetch.specs.declared.session.Session.{Session}

-- the messages bring the file's bytes from one position to another, cut into pieces of any sizes above 0
abbrev pub Brings : Aim → List ℕ → ℕ → ℕ → List PeerMsg → Type 0
Brings aim file from to [] = from ≡ to
Brings aim file from to (SendingPart hash start end piece ∷ msgs) =
    (hash ≡ aim.hash) × (start ≡ from) × (from < end) × (end ≤ to) × (piece ≡ take (end - from) (drop from file)) × Brings aim file end to msgs
Brings aim file from to (_ ∷ msgs) = ⊥

-- they bring the bytes of each span, in order
abbrev pub Covers : Aim → List ℕ → List Span → List PeerMsg → Type 0
Covers aim file [] msgs = msgs ≡ []
Covers aim file (span ∷ spans) msgs =
    (first rest : List PeerMsg) × (msgs ≡ first ++ rest) × Brings aim file span.s span.e first × Covers aim file spans rest

-- what the peer fills by them
abbrev pub fills : ℕ → List PeerMsg → List Event
fills p [] = []
fills p (SendingPart hash start end piece ∷ msgs) = Write p (record { s = start; e = end }) ∷ fills p msgs
fills p (_ ∷ msgs) = fills p msgs

-- The spans that are chosen for the one peer after these events, in turn, until nothing is left to choose:
-- it gets all that it asks for.
abbrev pub AreTurns : Aim → List ℕ → ℕ → List Event → List (List PeerMsg) → Type 0
AreTurns aim file p h [] = pick_of aim.size h p ≡ []
AreTurns aim file p h (msgs ∷ turns) =
    (pick_of aim.size h p ≢ []) × Covers aim file (pick_of aim.size h p) msgs × AreTurns aim file p (h ++ Reserve p (pick_of aim.size h p) ∷ fills p msgs) turns

-- the state of a store that has nothing yet
abbrev pub nothing : State
nothing = record { set = []; filled = []; verdicts = [] }

-- a new log: nothing was done, or only a hash set was kept
abbrev pub IsNewFor : List (List ℕ) → List Event → Type 0
IsNewFor set h = (h ≡ Opened nothing ∷ []) ⊎ (h ≡ Opened nothing ∷ Hashes set ∷ [])

-- each frame reads as the message at its place
abbrev pub AreRead : List Frame → List PeerMsg → Type 0
AreRead [] msgs = msgs ≡ []
AreRead (frame ∷ frames) [] = ⊥
AreRead (frame ∷ frames) (msg ∷ msgs) = IsFrame frame × (message frame ≡ Ok msg) × AreRead frames msgs

-- a set answer, where the set is needed and not yet kept
abbrev pub set_answers : Aim → List ℕ → Bool → List PeerMsg
set_answers aim file true = SetAnswer aim.hash (set_of file) ∷ []
set_answers aim file false = []

-- The stream is a hello answer, a name answer, a status that says that the peer has all parts, a set answer
-- where one is wanted, an accept, and the pieces of the spans that are chosen in turn.
pub record Serves (stream : List ℕ) (aim : Aim) (file : List ℕ) (wants_set : Bool) : Type 0 where
  pub frames : List Frame
  pub hello : Hello
  pub name : List ℕ
  pub turns : List (List PeerMsg)
  pub spelled : stream ≡ flat_map spell frames
  pub read : AreRead frames (HelloAnswer hello ∷ NameAnswer aim.hash name ∷ FileStatus aim.hash 0 [] ∷ set_answers aim file wants_set ++ Accept ∷ flat_map (λ msgs. msgs) turns)
  pub in_turn : AreTurns aim file 0 (Opened nothing ∷ Offer 0 (replicate (data_parts aim.size) true) ∷ []) turns

-- the session was stopped from outside: the wire or the store failed, the budget was used up, or memory was
-- wanted
abbrev pub IsFromOutside : Cause → Type 0
IsFromOutside cause.WireFault = Unit {0}
IsFromOutside cause.StoreFault = Unit {0}
IsFromOutside cause.Spent = Unit {0}
IsFromOutside cause.NoMemory = Unit {0}
IsFromOutside _ = ⊥

-- at each filled position the body has the byte of the file, and it has the file's length
pub record Agrees (aim : Aim) (file : List ℕ) (now : Inside) : Type 0 where
  pub body : List ℕ
  pub told : now.body ≡ Some body
  pub sized : length body ≡ aim.size
  pub same : (x : ℕ) → is_filled aim.size now.log x ≡ true → get_or body x 0 ≡ get_or file x 0

-- every part is verified in the log, and the body is the file
pub record IsWhole (aim : Aim) (file : List ℕ) (now : Inside) : Type 0 where
  pub verified : IsTrue (list_all (is_verified aim now.log) (parts aim.size))
  pub body : now.body ≡ Some file

-- A session that begins, over a new store that nobody else uses and a stream that serves the file, ends with
-- the whole file, unless it was stopped from outside. However it ended, the body has the file's byte at each
-- filled position.
abbrev pub ServedIsWhole : Type 0
ServedIsWhole =
    (aim : Aim) (session : Session) (file body stream : List ℕ) (old new : Standing) (found : Cause) →
    session.aim ≡ aim → length file ≡ aim.size → ed2k file ≡ aim.hash → old.due.plan ≡ Begin session →
    IsNewFor (set_of file) old.inside.log → IsTrue old.inside.alone → old.inside.body ≡ Some body → length body ≡ aim.size →
    old.outside.ahead ≡ Some stream → Serves stream aim file (lacks_set aim.size old.inside.log) →
    Talk aim 0 old new found →
    Agrees aim file new.inside × (IsFromOutside found ⊎ ((found ≡ cause.NoBlock) × IsWhole aim file new.inside))
