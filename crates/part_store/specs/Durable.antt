-- What is durable of a download, and what a crash leaves of it.
use Rattle.std.specs.Prelude.{◌≡◌, ◌⊎◌, ℕ, Bool, true, false, List, [], ◌∷◌, ◌++◌, length, slice_get, Some, is_some}
use Rattle.std.specs.List.{list_any}
use Rattle.ed2k_outside.specs.Files.{Files}
use Rattle.journal_core.specs.LogFile.{Stands}
use Rattle.journal_core.specs.States.{State}
use Rattle.journal_core.specs.declared.header.Header.{Header}
use Rattle.md4_hash.specs.Md4.{md4}
use Rattle.part_sizes.specs.Part.{part}
use Rattle.reserve_core.specs.Filled.{filled_by, is_durable}
use Rattle.reserve_core.specs.Verdicts.{kept_set, verdict_of}
use Rattle.reserve_core.specs.declared.event.Event.{Event}

-- The durable state of a file of n bytes after these events: the kept set, the positions that are filled where
-- a Write counts only if a Commit follows it, and the verdicts.
abbrev pub durable : ℕ → List Event → State
durable n h = record { set = kept_set h; filled = is_durable n h; verdict = verdict_of h }

-- An image of the two files is sound for a state: its log stands for the state under this header, its body
-- has the header's size, and each verdict of the state is the MD4 of that part's bytes in the image.
pub record Sound (header : Header) (c : Files) (s : State) : Type 0 where
  pub log : Stands header c.log s
  pub sized : length c.body ≡ header.size
  pub verdicts : (i : ℕ) (d : List ℕ) → s.verdict i ≡ Some d → d ≡ md4 (part c.body i)

-- the event touches the position: it fills it, or opens it again
abbrev pub touches : ℕ → ℕ → Event → Bool
touches n x e = is_some (filled_by n x e)

-- the bytes are the body's at each position that is durable after the events g and that none of the rest touches
abbrev pub Same : ℕ → List ℕ → List Event → List Event → List ℕ → Type 0
Same n bytes g rest body =
    (x : ℕ) → is_durable n g x ≡ true → list_any (touches n x) rest ≡ false → slice_get bytes x ≡ slice_get body x

-- the image is sound for what is durable after the events, and has the body's bytes at each durable position
pub record RestsOn (header : Header) (h : List Event) (body : List ℕ) (c : Files) : Type 0 where
  pub sound : Sound header c (durable header.size h)
  pub same : Same header.size c.body h [] body

-- Whatever is left by a call with this event rests on the events before it, or on these and the event, beside the
-- body as the call began.
abbrev pub LeavesEither : Header → List Event → Event → List ℕ → (Files → Type 0) → Type 0
LeavesEither header h e body left =
    (c : Files) → left c → RestsOn header h body c ⊎ RestsOn header (h ++ e ∷ []) body c
