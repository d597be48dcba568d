-- What the peers of a part file see, and the entries of it.
use Rattle.std.proofs.Common.{◌≡◌, ℕ, ◌+◌, Bool, true, false, List, [], ◌∷◌, ◌++◌, length, refl, sym, ap, ◌∙◌, if◌then◌else◌, arith}
use Rattle.std.proofs.lemmas.List.{append-nil, append_assoc, map-append, length-append}
use Rattle.reserve_core.specs.Desk.{is_own, own}
use Rattle.reserve_core.specs.Events.{events}
use Rattle.reserve_core.specs.declared.event.Entry.{Entry}
use Rattle.reserve_core.specs.declared.event.Event.{Event}
use Rattle.turn_lock.specs.Views.{BeginsWith}
use Rattle.shared_file.specs.Notes.{entries, mark_of, marked, marks, noted}
use Rattle.shared_file.specs.declared.noted.Noted.{Noted}
use Rattle.shared_file.specs.declared.noted.Noted.TheVariants as note

-- one for true
abbrev pub one_if : Bool → ℕ
one_if true = 1
one_if false = 0

pub noted_length : (log : List Entry) (broken : Bool) → length (noted log broken) ≡ length log + one_if broken
noted_length [] true = refl
noted_length [] false = refl
noted_length (entry ∷ log) broken = let next = noted_length log broken in omega arith

pub noted_entries : (log : List Entry) (broken : Bool) → entries (noted log broken) ≡ log
noted_entries [] true = refl
noted_entries [] false = refl
noted_entries (entry ∷ log) broken = ap (λ (l : List Entry). entry ∷ l) (noted_entries log broken)

pub noted_marks : (log : List Entry) (broken : Bool) → marks (noted log broken) ≡ one_if broken
noted_marks [] true = refl
noted_marks [] false = refl
noted_marks (entry ∷ log) broken = noted_marks log broken

pub entries_append : (a b : List Noted) → entries (a ++ b) ≡ entries a ++ entries b
entries_append [] b = refl
entries_append (note.Entry entry ∷ a) b = ap (λ (l : List Entry). entry ∷ l) (entries_append a b)
entries_append (note.Broken ∷ a) b = entries_append a b

pub marks_append : (a b : List Noted) → marks (a ++ b) ≡ marks a + marks b
marks_append [] b = omega arith
marks_append (note.Entry entry ∷ a) b = marks_append a b
marks_append (note.Broken ∷ a) b = let next = marks_append a b in omega arith

marked_append : (a b : List Entry) → marked (a ++ b) ≡ marked a ++ marked b
marked_append [] b = refl
marked_append (entry ∷ a) b = ap (λ (l : List Noted). note.Entry entry ∷ l) (marked_append a b)

-- a part file that isn't broken goes on with more entries, and may be broken then
pub noted_more : (log mine : List Entry) (broken : Bool) → BeginsWith (noted (log ++ mine) broken) (noted log false)
noted_more log mine broken =
    let tail = marked mine ++ mark_of broken in
    (tail, ap (λ (l : List Noted). l ++ mark_of broken) (marked_append log mine) ∙ (append_assoc (marked log) (marked mine) (mark_of broken) ∙ ap (λ (l : List Noted). l ++ tail) (sym (append-nil (marked log)))))

pub noted_same : (log : List Entry) (broken : Bool) → BeginsWith (noted log broken) (noted log broken)
noted_same log broken = ([], sym (append-nil (noted log broken)))

pub filter_append : (n : ℕ) (a b : List Event) → own (a ++ b) n ≡ own a n ++ own b n
filter_append n [] b = refl
filter_append n (e ∷ a) b = elim (is_own n e) as (λ (is : Bool). (if is then e ∷ own (a ++ b) n else own (a ++ b) n) ≡ (if is then e ∷ own a n else own a n) ++ own b n)
    [ true ↦ ap (λ (l : List Event). e ∷ l) (filter_append n a b) | false ↦ filter_append n a b ]

-- the own events of a log that goes on
pub own_more : (n : ℕ) (a b : List Entry) → own (events (a ++ b)) n ≡ own (events a) n ++ own (events b) n
own_more n a b = ap (λ (h : List Event). own h n) (map-append (λ (entry : Entry). entry.event) a b) ∙ filter_append n (events a) (events b)

pub own_longer : (n : ℕ) (a b : List Entry) → length (own (events (a ++ b)) n) ≡ length (own (events a) n) + length (own (events b) n)
own_longer n a b = ap length (own_more n a b) ∙ length-append (own (events a) n) (own (events b) n)
