-- What the status says of the answer.
use Rattle.std.proofs.Common.{arith, ◌≡◌, ◌≢◌, ◌∙◌, refl, sym, ap, ℕ, List, Option, Some, None, ◌⊎◌, inl, inr}
use Rattle.ed2k_outside.specs.Blobs.{Named}
use Rattle.ed2k_node.specs.Answers.{status_of, line_of, IsRight, IsPrinted, IsPrintedWhole, PrintsLink, PrintsRefusal, IsPlainStatus}
use Rattle.ed2k_node.specs.Commands.{Asked, HashOf, FormOf}
use Rattle.ed2k_node.specs.Sent.{IsSent}
use Rattle.ed2k_node.specs.Texts.{line, usage}
use Rattle.ed2k_node.specs.declared.answer.Reply.{Reply}
use Rattle.ed2k_node.specs.declared.answer.Reply.TheVariants.{Usage, Line, Refused, Blob, NoMemory}

pub whole_of : (answer : Reply) (status : ℕ) (old new : Option (List ℕ))
    → IsPrinted answer status old new → status ≢ 6 → IsPrintedWhole answer status old new
whole_of answer status old new printed other = elim printed [ inl whole ↦ whole | inr part ↦ absurd (other part.ended) ]

usage_at_one : (answer : Reply) → status_of answer ≡ 1 → answer ≡ Usage
usage_at_one (Line text) e = absurd (omega (arith, e))
usage_at_one Usage e = refl
usage_at_one (Refused fault) e = absurd (omega (arith, e))
usage_at_one NoMemory e = absurd (omega (arith, e))
usage_at_one Blob e = absurd (omega (arith, e))

blob_at_eleven : (answer : Reply) → status_of answer ≡ 11 → answer ≡ Blob
blob_at_eleven (Line text) e = absurd (omega (arith, e))
blob_at_eleven Usage e = absurd (omega (arith, e))
blob_at_eleven (Refused fault) e = absurd (omega (arith, e))
blob_at_eleven NoMemory e = absurd (omega (arith, e))
blob_at_eleven Blob e = refl

not_zero : (answer : Reply) → answer ≡ Usage → status_of answer ≡ 0 → ⊥
not_zero answer is zero = let e = ap status_of is in omega (arith, e, zero)

not_two : (answer : Reply) → answer ≡ Usage → status_of answer ≡ 2 → ⊥
not_two answer is two = let e = ap status_of is in omega (arith, e, two)

link_at_zero : (asked : Option Asked) (blobs after : Option (List Named)) (answer : Reply) (old new : Option (List ℕ))
    → IsRight asked blobs after answer → status_of answer ≡ 0 → IsSent old new (line_of answer) → PrintsLink asked blobs after old new
link_at_zero None blobs after answer old new right e sent = absurd (not_zero answer right e)
link_at_zero (Some (HashOf name)) blobs after (Line text) old new right e sent = (text, right, sent)
link_at_zero (Some (HashOf name)) blobs after Usage old new right e sent = absurd right
link_at_zero (Some (HashOf name)) blobs after (Refused fault) old new right e sent = absurd (omega (arith, e))
link_at_zero (Some (HashOf name)) blobs after NoMemory old new right e sent = absurd (omega (arith, e))
link_at_zero (Some (HashOf name)) blobs after Blob old new right e sent = absurd (omega (arith, e))
link_at_zero (Some (FormOf word)) blobs after (Line text) old new right e sent = (text, right, sent)
link_at_zero (Some (FormOf word)) blobs after Usage old new right e sent = absurd right
link_at_zero (Some (FormOf word)) blobs after (Refused fault) old new right e sent = absurd (omega (arith, e))
link_at_zero (Some (FormOf word)) blobs after NoMemory old new right e sent = absurd (omega (arith, e))
link_at_zero (Some (FormOf word)) blobs after Blob old new right e sent = absurd right

refusal_at_two : (asked : Option Asked) (blobs after : Option (List Named)) (answer : Reply) (old new : Option (List ℕ))
    → IsRight asked blobs after answer → status_of answer ≡ 2 → IsSent old new (line_of answer) → PrintsRefusal asked blobs after old new
refusal_at_two None blobs after answer old new right e sent = absurd (not_two answer right e)
refusal_at_two (Some (HashOf name)) blobs after (Line text) old new right e sent = absurd (omega (arith, e))
refusal_at_two (Some (HashOf name)) blobs after Usage old new right e sent = absurd right
refusal_at_two (Some (HashOf name)) blobs after (Refused fault) old new right e sent =
    (right.1, rw right.0 at sent)
refusal_at_two (Some (HashOf name)) blobs after NoMemory old new right e sent = absurd (omega (arith, e))
refusal_at_two (Some (HashOf name)) blobs after Blob old new right e sent = absurd (omega (arith, e))
refusal_at_two (Some (FormOf word)) blobs after (Line text) old new right e sent = absurd (omega (arith, e))
refusal_at_two (Some (FormOf word)) blobs after Usage old new right e sent = absurd right
refusal_at_two (Some (FormOf word)) blobs after (Refused fault) old new right e sent = (fault, right, sent)
refusal_at_two (Some (FormOf word)) blobs after NoMemory old new right e sent = absurd (omega (arith, e))
refusal_at_two (Some (FormOf word)) blobs after Blob old new right e sent = absurd right

usage_is_wrong : (asked : Option Asked) (blobs after : Option (List Named)) (answer : Reply)
    → IsRight asked blobs after answer → answer ≡ Usage → asked ≡ None
usage_is_wrong None blobs after answer right is = refl
usage_is_wrong (Some (HashOf name)) blobs after answer right is = absurd (rw is at right)
usage_is_wrong (Some (FormOf word)) blobs after answer right is = absurd (rw is at right)

-- ---- the same of a run

pub run_link : (asked : Option Asked) (blobs after : Option (List Named)) (answer : Reply) (status : ℕ) (old new : Option (List ℕ))
    → IsRight asked blobs after answer → IsPrinted answer status old new → status ≡ 0 → PrintsLink asked blobs after old new
run_link asked blobs after answer status old new right printed zero =
    let whole = whole_of answer status old new printed (λ e. omega (arith, e, zero)) in
    link_at_zero asked blobs after answer old new right (sym whole.ended ∙ zero) whole.sent

pub run_refusal : (asked : Option Asked) (blobs after : Option (List Named)) (answer : Reply) (status : ℕ) (old new : Option (List ℕ))
    → IsRight asked blobs after answer → IsPrinted answer status old new → status ≡ 2 → PrintsRefusal asked blobs after old new
run_refusal asked blobs after answer status old new right printed two =
    let whole = whole_of answer status old new printed (λ e. omega (arith, e, two)) in
    refusal_at_two asked blobs after answer old new right (sym whole.ended ∙ two) whole.sent

pub run_usage : (asked : Option Asked) (blobs after : Option (List Named)) (answer : Reply) (status : ℕ) (old new : Option (List ℕ))
    → IsRight asked blobs after answer → IsPrinted answer status old new → status ≡ 1 → asked ≡ None
run_usage asked blobs after answer status old new right printed one =
    let whole = whole_of answer status old new printed (λ e. omega (arith, e, one)) in
    usage_is_wrong asked blobs after answer right (usage_at_one answer (sym whole.ended ∙ one))

pub run_usage_printed : (answer : Reply) (status : ℕ) (old new : Option (List ℕ)) → IsPrinted answer status old new → status ≡ 1 → IsSent old new (line usage)
run_usage_printed answer status old new printed one =
    let whole = whole_of answer status old new printed (λ e. omega (arith, e, one)) in
    rw (usage_at_one answer (sym whole.ended ∙ one)) at whole.sent

pub run_blob : (answer : Reply) (status : ℕ) (old new : Option (List ℕ)) → IsPrinted answer status old new → status ≡ 11 → answer ≡ Blob
run_blob answer status old new printed eleven =
    let whole = whole_of answer status old new printed (λ e. omega (arith, e, eleven)) in
    blob_at_eleven answer (sym whole.ended ∙ eleven)

wrong_is_usage : (asked : Option Asked) (blobs after : Option (List Named)) (answer : Reply)
    → IsRight asked blobs after answer → asked ≡ None → answer ≡ Usage
wrong_is_usage None blobs after answer right none = right
wrong_is_usage (Some asked) blobs after answer right none = cc

pub run_wrong : (asked : Option Asked) (blobs after : Option (List Named)) (answer : Reply) (status : ℕ) (old new : Option (List ℕ))
    → IsRight asked blobs after answer → IsPrinted answer status old new → asked ≡ None → (status ≡ 1) ⊎ (status ≡ 6)
run_wrong asked blobs after answer status old new right printed none =
    let usage = ap status_of (wrong_is_usage asked blobs after answer right none) in
    elim printed [ inl whole ↦ inl (whole.ended ∙ usage) | inr part ↦ inr part.ended ]

pub run_listed : (answer : Reply) (status : ℕ) (old new : Option (List ℕ)) → IsPrinted answer status old new → IsPlainStatus status
run_listed answer status old new printed = elim printed [ inl whole ↦ inl (answer, whole.ended) | inr part ↦ inr part.ended ]
