-- A frame, less than a frame and a fault at the front of some bytes exclude one another, and one of them is there.
use Rattle.std.proofs.Common.{◌≡◌, ◌≢◌, ℕ, ◌+◌, inl, inr, List, [], ◌∷◌, ◌++◌, length, length-append, take, drop, get_or, refl, sym, ap, subst, ◌∙◌, arith}
use Rattle.std.proofs.lemmas.List.{take_at, drop_at}
use Rattle.std.proofs.lemmas.Bool.{cases_eq, cases_lt}
use Rattle.byteorder.specs.Endian.{little_bytes, little_number}
use Rattle.byteorder.specs.Numbers.{little_from-append, little_number-reads_back}
use Rattle.ed2k_frame.specs.declared.frame.Frame.{Frame}
use Rattle.ed2k_frame.specs.declared.frame.TheConstants.{EDONKEY, EMULE, PACKED, FRAME_LIMIT}
use Rattle.ed2k_frame.specs.declared.fault.FrameFault.{FrameFault}
use Rattle.ed2k_frame.specs.declared.fault.FrameFault.TheVariants.{Packed, BadProtocol, BadLength, NoMemory}
use Rattle.ed2k_frame.specs.declared.front.Front.{Front}
use Rattle.ed2k_frame.specs.declared.front.Front.TheVariants.{Partial, Whole, Faulty}
use Rattle.ed2k_frame.specs.Frame.{IsProtocol, IsLength, IsFrame, spell}
use Rattle.ed2k_frame.specs.Front.{IsFrameAt, IsPartial, IsFaultAt}
use Rattle.ed2k_frame.specs.Whole.{IsFront}

-- the length field of a frame reads back
field_back : (f : Frame) (rest : List ℕ) → IsFrame f → little_number 4 (little_bytes 4 (length f.payload + 1) ++ f.opcode ∷ (f.payload ++ rest)) ≡ length f.payload + 1
field_back f rest frame = little_number-reads_back 4 (length f.payload + 1) (f.opcode ∷ (f.payload ++ rest)) (omega (arith, frame.fits))

pub partial_is_no_frame : (f : Frame) (bytes rest : List ℕ) → IsFrameAt f bytes rest → IsPartial bytes → ⊥
partial_is_no_frame f bytes rest at partial =
    let there = subst IsPartial at.spelled partial in
    let back = field_back f rest at.valid in
    elim there.1 as (λ _. ⊥) [
      | inl short ↦ omega arith
      | inr long ↦ omega (arith, long.1, back, length-append f.payload rest)
    ]

-- no right protocol byte is another
right_is_not_packed : (p : ℕ) → IsProtocol p → p ≡ PACKED → ⊥
right_is_not_packed p right e = elim right as (λ _. ⊥) [ inl d ↦ omega arith | inr m ↦ omega arith ]

right_is_known : (p : ℕ) → IsProtocol p → p ≢ EDONKEY → p ≢ EMULE → ⊥
right_is_known p right n m = elim right as (λ _. ⊥) [ inl e ↦ n e | inr e ↦ m e ]

pub fault_is_no_frame : (f : Frame) (bytes rest : List ℕ) (fault : FrameFault) → IsFrameAt f bytes rest → IsFaultAt fault bytes → ⊥
fault_is_no_frame f bytes rest fault at faulty =
    stands fault (subst (λ (bs : List ℕ). IsFaultAt fault bs) at.spelled faulty)
  where
    stands : (fault : FrameFault) → IsFaultAt fault (spell f ++ rest) → ⊥
    stands Packed e = right_is_not_packed f.protocol at.valid.protocol e
    stands (BadProtocol found) there = right_is_known f.protocol at.valid.protocol there.1 there.2
    stands (BadLength found) there =
        let back = field_back f rest at.valid in
        let fits = at.valid.fits in
        there.3 (omega (arith, there.2, back), omega (arith, there.2, back, fits))
    stands NoMemory there = there

pub partial_is_no_fault : (bytes : List ℕ) (fault : FrameFault) → IsPartial bytes → IsFaultAt fault bytes → ⊥
partial_is_no_fault [] fault partial faulty = faulty
partial_is_no_fault (p ∷ bytes) Packed partial faulty = right_is_not_packed p partial.0 faulty
partial_is_no_fault (p ∷ bytes) (BadProtocol found) partial faulty =
    right_is_known p partial.0 faulty.1 faulty.2
partial_is_no_fault (p ∷ bytes) (BadLength found) partial faulty =
    elim partial.1 as (λ _. ⊥) [
      | inl short ↦ omega (arith, faulty.1)
      | inr long ↦ faulty.3 (subst IsLength (sym faulty.2) long.0)
    ]
partial_is_no_fault (p ∷ bytes) NoMemory partial faulty = faulty

pub one_fault : (bytes : List ℕ) (a b : FrameFault) → IsFaultAt a bytes → IsFaultAt b bytes → a ≡ b
one_fault [] a b at bt = absurd at
one_fault (p ∷ bytes) NoMemory b at bt = absurd at
one_fault (p ∷ bytes) a NoMemory at bt = absurd bt
one_fault (p ∷ bytes) Packed Packed at bt = refl
one_fault (p ∷ bytes) Packed (BadProtocol found) at bt = absurd (bt.3 at)
one_fault (p ∷ bytes) Packed (BadLength found) at bt = absurd (right_is_not_packed p bt.0 at)
one_fault (p ∷ bytes) (BadProtocol found) Packed at bt = absurd (at.3 bt)
one_fault (p ∷ bytes) (BadProtocol found) (BadProtocol other) at bt = ap BadProtocol (at.0 ∙ sym bt.0)
one_fault (p ∷ bytes) (BadProtocol found) (BadLength other) at bt =
    absurd (right_is_known p bt.0 at.1 at.2)
one_fault (p ∷ bytes) (BadLength found) Packed at bt = absurd (right_is_not_packed p at.0 bt)
one_fault (p ∷ bytes) (BadLength found) (BadProtocol other) at bt =
    absurd (right_is_known p at.0 bt.1 bt.2)
one_fault (p ∷ bytes) (BadLength found) (BadLength other) at bt = ap BadLength (at.2 ∙ sym bt.2)

-- frames with the same parts are one
same_parts : (f g : Frame) → f.protocol ≡ g.protocol → f.opcode ≡ g.opcode → f.payload ≡ g.payload → f ≡ g
same_parts f g p o e =
    let by_protocol : ℕ → Frame = λ q. record { protocol = q; opcode = f.opcode; payload = f.payload } in
    let by_opcode : ℕ → Frame = λ q. record { protocol = g.protocol; opcode = q; payload = f.payload } in
    let by_payload : List ℕ → Frame = λ bs. record { protocol = g.protocol; opcode = g.opcode; payload = bs } in
    ap by_protocol p ∙ ap by_opcode o ∙ ap by_payload e

-- no spelling begins another: one frame stands at the front, and one rest follows it
pub one_frame : (f g : Frame) (bytes r s : List ℕ) → IsFrameAt f bytes r → IsFrameAt g bytes s → (f ≡ g) × (r ≡ s)
one_frame f g bytes r s at bt =
    let same : spell f ++ r ≡ spell g ++ s = sym at.spelled ∙ bt.spelled in
    let fields : length f.payload + 1 ≡ length g.payload + 1 =
    sym (field_back f r at.valid) ∙ ap (λ (bs : List ℕ). little_number 4 (drop 1 bs)) same ∙ field_back g s bt.valid in
    let lengths : length f.payload ≡ length g.payload = omega arith in
    let tails : f.payload ++ r ≡ g.payload ++ s = ap (λ (bs : List ℕ). drop 6 bs) same in
    let n = length g.payload in
    let payloads : f.payload ≡ g.payload =
    sym (take_at f.payload r n lengths) ∙ ap (λ (bs : List ℕ). take n bs) tails ∙ take_at g.payload s n refl in
    let rests : r ≡ s =
    sym (drop_at f.payload r n lengths) ∙ ap (λ (bs : List ℕ). drop n bs) tails ∙ drop_at g.payload s n refl in
    let protocols : f.protocol ≡ g.protocol = ap (λ (bs : List ℕ). get_or bs 0 0) same in
    let opcodes : f.opcode ≡ g.opcode = ap (λ (bs : List ℕ). get_or bs 5 0) same in
    (same_parts f g protocols opcodes payloads, rests)

-- behind a right protocol byte
length_there : (p : ℕ) (bytes : List ℕ) → IsProtocol p → (front : Front) × IsFront front (p ∷ bytes)
length_there p bytes right =
    let T : Type 0 = (front : Front) × IsFront front (p ∷ bytes) in
    let n = little_number 4 bytes in
    elim (cases_lt (length bytes) 4) as (λ _. T) [
      | inl short ↦ (Partial, (right, inl short))
      | inr four ↦ elim (cases_lt n 1) as (λ _. T) [
        | inl none ↦ (Faulty (BadLength n), (right, four, refl, λ fits. omega (arith, fits.0)))
        | inr some ↦ elim (cases_lt FRAME_LIMIT n) as (λ _. T) [
          | inl long ↦ (Faulty (BadLength n), (right, four, refl, λ fits. omega (arith, fits.1)))
          | inr fits ↦ elim (cases_lt (length bytes) (4 + n)) as (λ _. T) [
            | inl part ↦ (Partial, (right, inr ((some, fits), part)))
            | inr whole ↦ (Whole n, (right, (some, fits), refl, whole))
          ]
        ]
      ]
    ]

-- what stands at the front of any bytes
pub front_there : (bytes : List ℕ) → (front : Front) × IsFront front bytes
front_there [] = (Partial, tt)
front_there (p ∷ bytes) =
    let T : Type 0 = (front : Front) × IsFront front (p ∷ bytes) in
    elim (cases_eq p EDONKEY) as (λ _. T) [
      | inl e ↦ length_there p bytes (inl e)
      | inr other ↦ elim (cases_eq p EMULE) as (λ _. T) [
        | inl e ↦ length_there p bytes (inr e)
        | inr another ↦ elim (cases_eq p PACKED) as (λ _. T) [
          | inl e ↦ (Faulty Packed, e)
          | inr bad ↦ (Faulty (BadProtocol p), (refl, other, another, bad))
        ]
      ]
    ]

-- what follows a fault doesn't mend it
pub fault_stays : (fault : FrameFault) (bytes more : List ℕ) → IsFaultAt fault bytes → IsFaultAt fault (bytes ++ more)
fault_stays fault [] more there = absurd there
fault_stays Packed (p ∷ bytes) more there = there
fault_stays (BadProtocol found) (p ∷ bytes) more there = there
fault_stays (BadLength found) (p ∷ bytes) more there =
    (there.0, omega (arith, length-append bytes more, there.1), there.2 ∙ sym (little_from-append 4 bytes more there.1), there.3)
fault_stays NoMemory (p ∷ bytes) more there = there
