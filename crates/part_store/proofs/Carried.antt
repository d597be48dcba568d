-- What the bytes of a body have to have, after one more event.
use Rattle.std.proofs.Common.{◌≡◌, ◌⊎◌, ℕ, ◌+◌, ◌*◌, ◌<◌, ◌≤◌, Bool, true, false, not, ◌&&◌, ◌==◌, List, [], ◌∷◌, ◌++◌, length, take, drop, get_or, slice_get, Option, Some, None, unwrap_or, if◌then◌else◌, refl, sym, ap, ◌∙◌, subst, inl, inr, arith}
use Rattle.std.proofs.lemmas.Bool.Decides.{nat_tests}
use Rattle.std.proofs.lemmas.List.{ext_get_or, get_or-drop, get_or-take, length-drop, length-take}
use Rattle.std.proofs.lemmas.Option.{unwrap_or-slice_get}
use Rattle.ed2k_outside.specs.Files.{Files}
use Rattle.journal_core.specs.LogFile.{Stands}
use Rattle.journal_core.specs.States.{State}
use Rattle.journal_core.specs.declared.header.Header.{Header}
use Rattle.md4_hash.specs.Md4.{md4}
use Rattle.part_sizes.specs.Block.{block_of}
use Rattle.part_sizes.specs.Part.{part, part_range}
use Rattle.part_sizes.specs.Span.{has}
use Rattle.part_sizes.specs.declared.part.TheConstants.{PART}
use Rattle.part_sizes.proofs.Laws.{has_between}
use Rattle.part_store.specs.Body.{AreTrue}
use Rattle.part_store.specs.Durable.{RestsOn, Same, durable}
use Rattle.part_store.proofs.DurableSteps.{durable-dropped, durable-hashes, durable-recovered, durable-verdict}
use Rattle.reserve_core.specs.Filled.{is_durable, is_full, is_part_uncommitted}
use Rattle.reserve_core.specs.Verdicts.{verdict_of}
use Rattle.reserve_core.specs.declared.event.Event.{Event}
use Rattle.reserve_core.specs.declared.event.Event.TheVariants as event
use Rattle.reserve_core.proofs.Durable.{part-durable}
use Rattle.reserve_core.proofs.Quiet.{verdict-same}

-- the size, the verdicts' digests, and the body's bytes at all that is durable
pub record Carries (n : ℕ) (h : List Event) (body bytes : List ℕ) : Type 0 where
  pub sized : length bytes ≡ n
  pub verdicts : AreTrue h bytes
  pub same : Same n bytes h [] body

pub carried : {header : Header} {h : List Event} {body : List ℕ} {c : Files} → RestsOn header h body c → Carries header.size h body c.body
carried rests = record { sized = rests.sound.sized; verdicts = rests.sound.verdicts; same = rests.same }

pub rests : {header : Header} {h : List Event} {body : List ℕ} {c : Files} → Stands header c.log (durable header.size h) → Carries header.size h body c.body → RestsOn header h body c
rests stands carries = record { sound = record { log = stands; sized = carries.sized; verdicts = carries.verdicts }; same = carries.same }

-- the same is promised where the durable states are equal
pub carries-as : {n : ℕ} {h g : List Event} {body bytes : List ℕ} → durable n g ≡ durable n h → Carries n h body bytes → Carries n g body bytes
carries-as alike carries = record {
  sized = carries.sized;
  verdicts = λ i d is. carries.verdicts i d (sym (ap (λ (s : State). s.verdict i) alike) ∙ is);
  same = λ x here none. carries.same x (sym (ap (λ (s : State). s.filled x) alike) ∙ here) refl;
}

pub rests-as : {header : Header} {h g : List Event} {body : List ℕ} {c : Files} → durable header.size g ≡ durable header.size h → RestsOn header h body c → RestsOn header g body c
rests-as {header = header} {h = h} {g = g} {body = body} {c = c} alike on =
    rests (subst (λ (s : State). Stands header c.log s) (sym alike) on.sound.log) (carries-as alike (carried on))

-- the body that bytes are compared with may be another one that agrees at all that is durable
pub carries-beside : {n : ℕ} {h : List Event} {body next bytes : List ℕ} → Same n body h [] next → Carries n h body bytes → Carries n h next bytes
carries-beside agree carries = record {
  sized = carries.sized;
  verdicts = carries.verdicts;
  same = λ x here none. carries.same x here none ∙ agree x here none;
}

pub rests-beside : {header : Header} {h : List Event} {body next : List ℕ} {c : Files} → Same header.size body h [] next → RestsOn header h body c → RestsOn header h next c
rests-beside agree on = rests on.sound.log (carries-beside agree (carried on))

-- the bytes are the body's
pub gains-commit : (n : ℕ) (h : List Event) (body bytes : List ℕ) → bytes ≡ body → Carries n h body bytes → Carries n (h ++ event.Commit ∷ []) body bytes
gains-commit n h body bytes same carries = record {
  sized = carries.sized;
  verdicts = λ i d is. carries.verdicts i d (sym (verdict-same h event.Commit i refl) ∙ is);
  same = λ x here none. ap (λ (b : List ℕ). slice_get b x) same;
}

pub gains-hashes : (n : ℕ) (h : List Event) (q : List (List ℕ)) (body bytes : List ℕ) → Carries n h body bytes → Carries n (h ++ event.Hashes q ∷ []) body bytes
gains-hashes n h q body bytes carries = record {
  sized = carries.sized;
  verdicts = λ i d is. carries.verdicts i d (sym (ap (λ (s : State). s.verdict i) (durable-hashes n h q)) ∙ is);
  same = λ x here none. carries.same x (sym (ap (λ (s : State). s.filled x) (durable-hashes n h q)) ∙ here) refl;
}

-- less is promised

pub unless-own : (own : Bool) (v : Option (List ℕ)) (d : List ℕ) → (if own then None else v) ≡ Some d → v ≡ Some d
unless-own true v d is = absurd (cc)
unless-own false v d is = is

unless-here : (here durable : Bool) → (if here then false else durable) ≡ true → durable ≡ true
unless-here true durable is = absurd (cc)
unless-here false durable is = is

pub gains-dropped : (n : ℕ) (h : List Event) (i : ℕ) (body bytes : List ℕ) → Carries n h body bytes → Carries n (h ++ event.Dropped i ∷ []) body bytes
gains-dropped n h i body bytes carries = record {
  sized = carries.sized;
  verdicts = λ j d is. carries.verdicts j d (unless-own (i == j) (verdict_of h j) d (sym (ap (λ (s : State). s.verdict j) (durable-dropped n h i)) ∙ is));
  same = λ x here none. carries.same x (unless-here (has (part_range n i) x) (is_durable n h x) (sym (ap (λ (s : State). s.filled x) (durable-dropped n h i)) ∙ here)) refl;
}

pub gains-recovered : (n : ℕ) (h : List Event) (i : ℕ) (kept : List Bool) (body bytes : List ℕ) → Carries n h body bytes → Carries n (h ++ event.Recovered i kept ∷ []) body bytes
gains-recovered n h i kept body bytes carries = record {
  sized = carries.sized;
  verdicts = λ j d is. carries.verdicts j d (unless-own (i == j) (verdict_of h j) d (sym (ap (λ (s : State). s.verdict j) (durable-recovered n h i kept)) ∙ is));
  same = λ x here none.
      carries.same x
      (unless-here (has (part_range n i) x && not (get_or kept (block_of x) false)) (is_durable n h x) (sym (ap (λ (s : State). s.filled x) (durable-recovered n h i kept)) ∙ here)) refl;
}

-- a verdict is the MD4 of the part, whose bytes are all durable

window-same : (at n : ℕ) (xs ys : List ℕ) → length xs ≡ length ys → ((x : ℕ) → at ≤ x → x < at + n → x < length xs → slice_get xs x ≡ slice_get ys x) → take n (drop at xs) ≡ take n (drop at ys)
window-same at n xs ys long same =
    ext_get_or 0 (take n (drop at xs)) (take n (drop at ys)) (omega (arith, length-take n (drop at xs), length-drop at xs, length-take n (drop at ys), length-drop at ys, long))
    (λ k below.
    let lt : k < n = omega (arith, below, length-take n (drop at xs)) in
    let inside : at + k < length xs = omega (arith, below, length-take n (drop at xs), length-drop at xs) in
    get_or-take n (drop at xs) k 0 lt ∙ get_or-drop at xs k 0 ∙ sym (unwrap_or-slice_get xs (at + k) 0)
    ∙ ap (λ o. unwrap_or o 0) (same (at + k) (omega arith) (omega (arith, lt)) inside)
    ∙ unwrap_or-slice_get ys (at + k) 0 ∙ sym (get_or-drop at ys k 0) ∙ sym (get_or-take n (drop at ys) k 0 lt))

pub part-same : (n i : ℕ) (bytes body : List ℕ) → length bytes ≡ n → length body ≡ n → ((x : ℕ) → has (part_range n i) x ≡ true → slice_get bytes x ≡ slice_get body x) → part bytes i ≡ part body i
part-same n i bytes body long sized same =
    window-same (i * PART) PART bytes body (long ∙ sym sized) (λ x above below inside. same x (has_between (part_range n i) x above (omega (arith, below, inside, long))))

pub judged-own : (own : Bool) (v : Option (List ℕ)) (digest d : List ℕ) → (if own then Some digest else v) ≡ Some d → (own ≡ true) × (digest ≡ d) ⊎ (v ≡ Some d)
judged-own true v digest d is = inl (refl, let same : digest ≡ d = cc in same)
judged-own false v digest d is = inr is

-- the part is full and no write into it is open, so an image has the body's bytes of it
pub part-carried : (n i : ℕ) (h : List Event) (body bytes : List ℕ) → is_full n h i ≡ true → is_part_uncommitted n h i ≡ false → length body ≡ n → Carries n h body bytes → part bytes i ≡ part body i
part-carried n i h body bytes full shut sized carries =
    part-same n i bytes body carries.sized sized (λ x inside. carries.same x (part-durable n i x h full shut inside) refl)

pub gains-verdict : (n i : ℕ) (digest : List ℕ) (h : List Event) (body bytes : List ℕ) → is_full n h i ≡ true → is_part_uncommitted n h i ≡ false → length body ≡ n → digest ≡ md4 (part body i)
    → Carries n h body bytes → Carries n (h ++ event.Verdict i digest ∷ []) body bytes
gains-verdict n i digest h body bytes full shut sized hashed carries = record {
  sized = carries.sized;
  verdicts = λ j d is.
      elim (judged-own (i == j) (verdict_of h j) digest d (sym (ap (λ (s : State). s.verdict j) (durable-verdict n h i digest)) ∙ is)) [
        | inl own ↦
            let at : i ≡ j = (let test = own.0 in grind (arith, nat_tests)) in
            sym own.1 ∙ hashed ∙ ap md4 (sym (part-carried n i h body bytes full shut sized carries)) ∙ ap (λ (k : ℕ). md4 (part bytes k)) at
        | inr was ↦ carries.verdicts j d was
      ];
  same = λ x here none. carries.same x (sym (ap (λ (s : State). s.filled x) (durable-verdict n h i digest)) ∙ here) refl;
}
