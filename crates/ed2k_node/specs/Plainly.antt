-- What a run did for the words of a command that reaches neither the net nor the vault.
use Rattle.std.specs.Prelude.{◌≡◌, ◌⊎◌, ℕ, List, [], None}
use Rattle.ed2k_outside.specs.Causes.{Rose}
use Rattle.ed2k_outside.specs.declared.blobs.Blobs as blobs
use Rattle.ed2k_outside.specs.declared.halves.Sink as sink
use Rattle.ed2k_node.specs.Answers.{HasAnswered, IsPlainStatus, PrintsLink, PrintsRefusal}
use Rattle.ed2k_node.specs.Commands.{AsksNoBlob, asked_of}
use Rattle.ed2k_node.specs.Sent.{IsSent}
use Rattle.ed2k_node.specs.Texts as text
use Rattle.ed2k_node.specs.Words.{get_of}
use Rattle.ed2k_node.specs.declared.hands.Ended.{Ended}
use Rattle.ed2k_node.specs.declared.hands.Hands.{Hands}

module _ {N V B E O C : Type 0} (b : blobs.Ghosts B E) (o : sink.Ghosts O) where
  -- the words got their answer, and it was printed
  pub record IsAnswered (words : List (List ℕ)) (hands : Hands N V B O C) (end : Ended N V B O C) : Type 0 where
    pub answered :
        HasAnswered b words hands.blobs end.hands.blobs end.status (o.sent hands.out) (o.sent end.hands.out)
    pub done :
        end.status ≡ 0 →
        PrintsLink (asked_of words) (b.list hands.blobs) (b.list end.hands.blobs) (o.sent hands.out)
        (o.sent end.hands.out)
    pub usage : end.status ≡ 1 → asked_of words ≡ None
    pub wrong : asked_of words ≡ None → (end.status ≡ 1) ⊎ (end.status ≡ 6)
    pub usage_printed : end.status ≡ 1 → IsSent (o.sent hands.out) (o.sent end.hands.out) (text.line text.usage)
    pub refused :
        end.status ≡ 2 →
        PrintsRefusal (asked_of words) (b.list hands.blobs) (b.list end.hands.blobs) (o.sent hands.out)
        (o.sent end.hands.out)
    pub blob : end.status ≡ 11 → Rose (b.blobs_faults hands.blobs) (b.blobs_faults end.hands.blobs)
    pub output : end.status ≡ 6 → Rose (o.write_faults hands.out) (o.write_faults end.hands.out)
    pub unfetched : AsksNoBlob (asked_of words) → end.hands.blobs ≡ hands.blobs
    pub untouched : (end.hands.net ≡ hands.net) × (end.hands.vault ≡ hands.vault) × (end.hands.clock ≡ hands.clock)
    pub none : (end.log.items ≡ []) × (end.peers.items ≡ [])
    pub listed : IsPlainStatus end.status

  -- words that aren't those of a `get` got their answer
  abbrev pub AnswersOthers : List (List ℕ) → Hands N V B O C → Ended N V B O C → Type 0
  AnswersOthers words hands end = get_of words ≡ None → IsAnswered words hands end
