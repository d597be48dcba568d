-- The newest offer of each peer, after one more event.
use Rattle.std.proofs.Common.{◌≡◌, ℕ, ◌<◌, Bool, true, false, not, ◌||◌, ◌==◌, nat_eq, List, [], ◌∷◌, ◌++◌, length, map, slice_index_or, cond, Some, None, if◌then◌else◌, refl, ap, sym, ◌∙◌, subst, arith, inl, inr, length-append, zero, suc, find}
use Rattle.std.specs.Bool.{then_some}
use Rattle.std.specs.List.{list_any, filter, All}
use Rattle.std.specs.Option.{option_map, option_or}
use Rattle.std.proofs.Math.Seq.{get_or-append_seam}
use Rattle.std.proofs.lemmas.Bool.{cases_eq, false≢true, eqb-true}
use Rattle.std.proofs.lemmas.Bool.Decides.{nat_tests}
use Rattle.std.proofs.lemmas.List.{get_or_append_left, map-append}
use Rattle.std.proofs.lemmas.List.Folds.{list_any-append}
use Rattle.reserve_core.specs.Choice.{add_offerer, offer_by, offerers}
use Rattle.reserve_core.specs.Events.{events, latest}
use Rattle.reserve_core.specs.Seen.{added}
use Rattle.reserve_core.specs.Tells.{OfferStands, OffersStand, bits_in}
use Rattle.reserve_core.specs.declared.event.Entry.{Entry}
use Rattle.reserve_core.specs.declared.event.Event.{Event}
use Rattle.reserve_core.specs.declared.event.Event.TheVariants.{Opened, Hashes, Offer, Reserve, Write, Release, Commit, Verdict, Recovered, Dropped}
use Rattle.reserve_core.specs.declared.offers.Offerer.{Offerer}
use Rattle.reserve_core.proofs.Latest.{events-added, latest-still, latest-told}

-- the event is no offer
abbrev pub is_offer : Event → Bool
is_offer (Offer p bits) = true
is_offer _ = false

no-offer : (e : Event) → is_offer e ≡ false → (p : ℕ) → offer_by p e ≡ None
no-offer (Offer q bits) none p = cc
no-offer _ none p = refl

offerers-still : (h : List Event) (e : Event) → is_offer e ≡ false → offerers (h ++ e ∷ []) ≡ offerers h
offerers-still [] (Offer q bits) none = cc
offerers-still [] _ none = refl
offerers-still (first ∷ h) e none = ap (add_offerer first) (offerers-still h e none)

-- an event that is no offer leaves them where they stand
pub offers-still : (log : List Entry) (calls : ℕ) (e : Event) (offers : List Offerer) → is_offer e ≡ false → OffersStand log offers → OffersStand (added log calls e) offers
offers-still log calls e offers none stands =
    let entry : Entry = record { calls = calls; event = e } in
    record {
      peers = stands.peers ∙ sym (ap offerers (events-added log calls e) ∙ offerers-still (events log) e none);
      each = λ k d below.
          let was = stands.each k d below in
          let offer = slice_index_or offers k d in
          record {
            within = omega (arith, was.within, length-append log (entry ∷ []));
            is = λ s.
                ap (latest (offer_by offer.peer)) (events-added log calls e)
                ∙ latest-still (offer_by offer.peer) (events log) e (no-offer e none offer.peer)
                ∙ was.is s
                ∙ ap (λ (x : Entry). Some (bits_in x.event)) (sym (get_or_append_left log (entry ∷ []) s offer.place was.within));
          };
    }

-- the peers but one
abbrev but : ℕ → List ℕ → List ℕ
but p peers = filter (λ q. not (q == p)) peers

any-but : (p q : ℕ) (peers : List ℕ) → (q == p) ≡ false → list_any (nat_eq q) (but p peers) ≡ list_any (nat_eq q) peers
any-but p q [] other = refl
any-but p q (k ∷ peers) other =
    elim (cases_eq k p) [
      | inl same ↦
          let gone : not (k == p) ≡ false = grind (arith, nat_tests) in
          let unlike : nat_eq q k ≡ false = grind (arith, nat_tests) in
          rw (gone, unlike) (any-but p q peers other)
      | inr apart ↦
          let stays : not (k == p) ≡ true = grind (arith, nat_tests) in
          rw stays (ap (λ b. nat_eq q k || b) (any-but p q peers other))
    ]

or_false : (b : Bool) → (b || false) ≡ b
or_false true = refl
or_false false = refl

or_true : (b : Bool) → (b || true) ≡ true
or_true true = refl
or_true false = refl

-- a peer that offers again stands behind the others
add-again : (p q : ℕ) (bits : List Bool) (peers : List ℕ) → (if list_any (nat_eq q) (but p peers ++ p ∷ []) then but p peers ++ p ∷ [] else q ∷ (but p peers ++ p ∷ [])) ≡ but p (if list_any (nat_eq q) peers then peers else q ∷ peers) ++ p ∷ []
add-again p q bits peers =
    elim (cases_eq q p) [
      | inl same ↦
          let own : nat_eq q p ≡ true = grind (arith, nat_tests) in
          let some : list_any (nat_eq q) (but p peers ++ p ∷ []) ≡ true = list_any-append (nat_eq q) (but p peers) (p ∷ []) ∙ rw own (or_true (list_any (nat_eq q) (but p peers))) in
          let gone : not (q == p) ≡ false = grind (arith, nat_tests) in
          rw some (elim (list_any (nat_eq q) peers) as (λ (b : Bool). but p peers ++ p ∷ [] ≡ but p (if b then peers else q ∷ peers) ++ p ∷ []) [ true ↦ refl | false ↦ rw gone refl ])
      | inr other ↦
          let test : (q == p) ≡ false = grind (arith, nat_tests) in
          let unlike : nat_eq q p ≡ false = grind (arith, nat_tests) in
          let any : list_any (nat_eq q) (but p peers ++ p ∷ []) ≡ list_any (nat_eq q) peers = list_any-append (nat_eq q) (but p peers) (p ∷ []) ∙ rw unlike (or_false (list_any (nat_eq q) (but p peers)) ∙ any-but p q peers test) in
          let stays : not (q == p) ≡ true = grind (arith, nat_tests) in
          rw any (elim (list_any (nat_eq q) peers) as (λ (b : Bool). (if b then but p peers ++ p ∷ [] else q ∷ (but p peers ++ p ∷ [])) ≡ but p (if b then peers else q ∷ peers) ++ p ∷ []) [ true ↦ refl | false ↦ rw stays refl ])
    ]

offerers-push : (h : List Event) (p : ℕ) (bits : List Bool) → offerers (h ++ Offer p bits ∷ []) ≡ but p (offerers h) ++ p ∷ []
offerers-push [] p bits = refl
offerers-push (first ∷ h) p bits = ap (add_offerer first) (offerers-push h p bits) ∙ again first
  where
    again : (e : Event) → add_offerer e (but p (offerers h) ++ p ∷ []) ≡ but p (add_offerer e (offerers h)) ++ p ∷ []
    again (Offer q others) = add-again p q others (offerers h)
    again _ = refl

map-but : (p : ℕ) (offers : List Offerer) → map (λ (offer : Offerer). offer.peer) (filter (λ (offer : Offerer). not (offer.peer == p)) offers) ≡ but p (map (λ (offer : Offerer). offer.peer) offers)
map-but p [] = refl
map-but p (offer ∷ offers) =
    elim (not (offer.peer == p)) as (λ (b : Bool). map (λ (offer : Offerer). offer.peer) (cond b (offer ∷ filter (λ (offer : Offerer). not (offer.peer == p)) offers) (filter (λ (offer : Offerer). not (offer.peer == p)) offers)) ≡ cond b (offer.peer ∷ but p (map (λ (offer : Offerer). offer.peer) offers)) (but p (map (λ (offer : Offerer). offer.peer) offers))) [
      | true ↦ ap (λ ks. offer.peer ∷ ks) (map-but p offers)
      | false ↦ map-but p offers
    ]

-- what stays of the others
other-stands : (log : List Entry) (calls p : ℕ) (bits : List Bool) (offer : Offerer) → not (offer.peer == p) ≡ true → OfferStands log offer → OfferStands (added log calls (Offer p bits)) offer
other-stands log calls p bits offer apart was =
    let entry : Entry = record { calls = calls; event = Offer p bits } in
    let test : (p == offer.peer) ≡ false = grind (arith, nat_tests) in
    record {
      within = omega (arith, was.within, length-append log (entry ∷ []));
      is = λ s.
          ap (latest (offer_by offer.peer)) (events-added log calls (Offer p bits))
          ∙ latest-still (offer_by offer.peer) (events log) (Offer p bits) (rw test refl)
          ∙ was.is s
          ∙ ap (λ (x : Entry). Some (bits_in x.event)) (sym (get_or_append_left log (entry ∷ []) s offer.place was.within));
    }

own-stands : (log : List Entry) (calls p : ℕ) (bits : List Bool) (offer : Offerer) → offer.peer ≡ p → offer.place ≡ length log → OfferStands (added log calls (Offer p bits)) offer
own-stands log calls p bits offer own at =
    let entry : Entry = record { calls = calls; event = Offer p bits } in
    let test : (p == offer.peer) ≡ true = grind (arith, nat_tests) in
    record {
      within = omega (arith, at, length-append log (entry ∷ []));
      is = λ s.
          ap (latest (offer_by offer.peer)) (events-added log calls (Offer p bits))
          ∙ latest-told (offer_by offer.peer) (events log) (Offer p bits) bits (rw test refl)
          ∙ sym (ap (λ (x : Entry). Some (bits_in x.event)) (ap (λ (k : ℕ). slice_index_or (log ++ entry ∷ []) k s) at ∙ get_or-append_seam log entry [] s));
    }

kept-stand : (log : List Entry) (calls p : ℕ) (bits : List Bool) (offers : List Offerer) → All (OfferStands log) offers → (last : Offerer) → OfferStands (added log calls (Offer p bits)) last
    → All (OfferStands (added log calls (Offer p bits))) (filter (λ (offer : Offerer). not (offer.peer == p)) offers ++ last ∷ [])
kept-stand log calls p bits [] each last own = λ k d below. first k d below
  where
    first : (k : ℕ) (d : Offerer) → k < 1 → OfferStands (added log calls (Offer p bits)) (slice_index_or (last ∷ []) k d)
    first zero d below = own
    first (suc k) d below = absurd (omega arith)
kept-stand log calls p bits (offer ∷ offers) each last own =
    let rest = kept-stand log calls p bits offers (λ j d below. each (suc j) d (omega (arith, below))) last own in
    elim (not (offer.peer == p)) as (λ (b : Bool). not (offer.peer == p) ≡ b → All (OfferStands (added log calls (Offer p bits))) (cond b (offer ∷ filter (λ (offer : Offerer). not (offer.peer == p)) offers) (filter (λ (offer : Offerer). not (offer.peer == p)) offers) ++ last ∷ [])) [
      | true ↦ λ apart. cons_stand _ _ (other-stands log calls p bits offer apart (each 0 offer (omega arith))) rest
      | false ↦ λ apart. rest
    ] refl
  where
    cons_stand : (o : Offerer) (os : List Offerer) → OfferStands (added log calls (Offer p bits)) o → All (OfferStands (added log calls (Offer p bits))) os → All (OfferStands (added log calls (Offer p bits))) (o ∷ os)
    cons_stand o os one all zero d below = one
    cons_stand o os one all (suc k) d below = all k d (omega (arith, below))

-- the offer of a peer stands in the place of its older one
pub offers-renewed : (log : List Entry) (calls p place : ℕ) (bits : List Bool) (offers next : List Offerer) → place ≡ length log
    → next ≡ filter (λ (offer : Offerer). not (offer.peer == p)) offers ++ record { peer = p; place = place } ∷ []
    → OffersStand log offers → OffersStand (added log calls (Offer p bits)) next
offers-renewed log calls p place bits offers next at is stands =
    let last : Offerer = record { peer = p; place = place } in
    record {
      peers =
          ap (map (λ (offer : Offerer). offer.peer)) is
          ∙ map-append (λ (offer : Offerer). offer.peer) (filter (λ (offer : Offerer). not (offer.peer == p)) offers) (last ∷ [])
          ∙ ap (λ ks. ks ++ p ∷ []) (map-but p offers ∙ ap (but p) stands.peers)
          ∙ sym (ap offerers (events-added log calls (Offer p bits)) ∙ offerers-push (events log) p bits);
      each = subst (λ (os : List Offerer). All (OfferStands (added log calls (Offer p bits))) os) (sym is)
          (kept-stand log calls p bits offers stands.each last (own-stands log calls p bits last refl at));
    }

-- what is found is the place of the peer's newest offer
pub record IsPlace (log : List Entry) (p place : ℕ) : Type 0 where
  pub within : place < length log
  pub is : (d : Entry) → latest (offer_by p) (events log) ≡ Some (bits_in (slice_index_or log place d).event)

pub found-place : (log : List Entry) (offers : List Offerer) (p place : ℕ) → All (OfferStands log) offers → Some place ≡ option_map (λ (offer : Offerer). offer.place) (find (λ (offer : Offerer). offer.peer == p) offers) → IsPlace log p place
found-place log [] p place each found = absurd (cc)
found-place log (offer ∷ offers) p place each found =
    elim (offer.peer == p) as (λ (b : Bool). (offer.peer == p) ≡ b → Some place ≡ option_map (λ (offer : Offerer). offer.place) (cond b (Some offer) (find (λ (offer : Offerer). offer.peer == p) offers)) → IsPlace log p place) [
      | true ↦ λ own is.
          let here = each 0 offer (omega arith) in
          let at : place ≡ offer.place = cc in
          let same : offer.peer ≡ p = eqb-true offer.peer p own in
          record {
            within = omega (arith, at, here.within);
            is = λ d. subst (λ (q : ℕ). latest (offer_by q) (events log) ≡ Some (bits_in (slice_index_or log place d).event)) same (here.is d ∙ ap (λ (k : ℕ). Some (bits_in (slice_index_or log k d).event)) (sym at));
          }
      | false ↦ λ other is. found-place log offers p place (λ k d below. each (suc k) d (omega (arith, below))) is
    ] refl found

no-peer : (offers : List Offerer) (p : ℕ) → None ≡ option_map (λ (offer : Offerer). offer.place) (find (λ (offer : Offerer). offer.peer == p) offers) → list_any (nat_eq p) (map (λ (offer : Offerer). offer.peer) offers) ≡ false
no-peer [] p none = refl
no-peer (offer ∷ offers) p none =
    elim (offer.peer == p) as (λ (b : Bool). (offer.peer == p) ≡ b → None ≡ option_map (λ (offer : Offerer). offer.place) (cond b (Some offer) (find (λ (offer : Offerer). offer.peer == p) offers)) → (nat_eq p offer.peer || list_any (nat_eq p) (map (λ (offer : Offerer). offer.peer) offers)) ≡ false) [
      | true ↦ λ own is. absurd (cc)
      | false ↦ λ other is. let unlike : nat_eq p offer.peer ≡ false = grind (arith, nat_tests) in rw unlike (no-peer offers p is)
    ] refl none

or_none : (a b : Bool) → (a || b) ≡ false → (a ≡ false) × (b ≡ false)
or_none true b e = cc
or_none false b e = (refl, e)

unlike-any : (p q : ℕ) (peers : List ℕ) → list_any (nat_eq p) peers ≡ false → list_any (nat_eq q) peers ≡ true → (q == p) ≡ false
unlike-any p q peers none some =
    elim (cases_eq q p) [
      | inl same ↦ absurd (false≢true (sym (subst (λ (k : ℕ). list_any (nat_eq k) peers ≡ false) (sym same) none) ∙ some))
      | inr other ↦ grind (arith, nat_tests)
    ]

none-latest : (h : List Event) (p : ℕ) → list_any (nat_eq p) (offerers h) ≡ false → latest (offer_by p) h ≡ None
none-latest [] p none = refl
none-latest (Offer q bits ∷ h) p none =
    elim (list_any (nat_eq q) (offerers h)) as (λ (b : Bool). list_any (nat_eq q) (offerers h) ≡ b → list_any (nat_eq p) (if b then offerers h else q ∷ offerers h) ≡ false → option_or (latest (offer_by p) h) (then_some (q == p) bits) ≡ None) [
      | true ↦ λ some is. rw (none-latest h p is, unlike-any p q (offerers h) is some) refl
      | false ↦ λ new is.
          let both = or_none (nat_eq p q) (list_any (nat_eq p) (offerers h)) is in
          let unlike : (q == p) ≡ false = from_apart both.0 in
          rw (none-latest h p both.1, unlike) refl
    ] refl none
  where
    from_apart : nat_eq p q ≡ false → (q == p) ≡ false
    from_apart apart = grind (arith, nat_tests)
none-latest (Opened o ∷ h) p none = rw (none-latest h p none) refl
none-latest (Hashes o ∷ h) p none = rw (none-latest h p none) refl
none-latest (Reserve o r ∷ h) p none = rw (none-latest h p none) refl
none-latest (Write o r ∷ h) p none = rw (none-latest h p none) refl
none-latest (Release o ∷ h) p none = rw (none-latest h p none) refl
none-latest (Commit ∷ h) p none = rw (none-latest h p none) refl
none-latest (Verdict o d ∷ h) p none = rw (none-latest h p none) refl
none-latest (Recovered o d ∷ h) p none = rw (none-latest h p none) refl
none-latest (Dropped o ∷ h) p none = rw (none-latest h p none) refl

pub not-found : (log : List Entry) (offers : List Offerer) (p : ℕ) → OffersStand log offers → None ≡ option_map (λ (offer : Offerer). offer.place) (find (λ (offer : Offerer). offer.peer == p) offers) → latest (offer_by p) (events log) ≡ None
not-found log offers p stands none = none-latest (events log) p (sym (ap (list_any (nat_eq p)) stands.peers) ∙ no-peer offers p none)
