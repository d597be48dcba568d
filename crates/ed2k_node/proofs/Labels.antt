-- What is known of a `get` by the number that it ended with, by its log, or by its words: taken out of the one
-- word that its contract cites.
use Rattle.std.specs.List.{All}
use Rattle.ed2k_node.proofs.Whole.{began_new}
use Rattle.std.proofs.Common.{◌≡◌, ◌≢◌, ◌⊎◌, ◌↔◌, ◌∙◌, sym, ap, subst, inl, inr, ℕ, List, [], Option, Some, IfSome, IsTrue, arith}
use Rattle.ed2k_link.specs.Laws.{LinksHaveNoFault, TextsWriteOneLink}
use Rattle.ed2k_link.specs.declared.link.FileLink.{FileLink}
use Rattle.ed2k_outside.specs.Causes.{IfKnown, Rose}
use Rattle.ed2k_outside.specs.Nets.{Told}
use Rattle.ed2k_outside.specs.declared.halves.Sink as sinks
use Rattle.ed2k_outside.specs.declared.net.Net as nets
use Rattle.ed2k_outside.specs.declared.vault.Vault as vaults
use Rattle.part_hashset.specs.declared.aim.Aim.{Aim}
use Rattle.part_store.specs.Body.{BodyFits, body_of, log_of}
use Rattle.ed2k_outside.specs.WireMembers.{WireMembers}
use Rattle.reserve_core.specs.Events.{events}
use Rattle.reserve_core.specs.Legal.{IsLegal}
use Rattle.reserve_core.specs.Verdicts.{lacks_set}
use Rattle.ed2k_node.specs.Download.{IsDownload, TellsPeer, order_at}
use Rattle.ed2k_node.specs.Got.{Downloads, DownloadsOf, IsGet, LacksMemory, did_in}
use Rattle.ed2k_node.specs.Left.{IsDone, IsFileOf, IsSettled}
use Rattle.ed2k_node.specs.Link.{aim_of, opened_log}
use Rattle.ed2k_node.specs.Peers.{FailedOn, IsUnlinked, WithWire}
use Rattle.ed2k_node.specs.Report.{IsReported, findings}
use Rattle.ed2k_node.specs.Rounds.{IsShort, Rounds}
use Rattle.ed2k_node.specs.Run.{AreRefused, AsksFor, HasBadLink, IsPlaced, OfAsked, OfLink, PrintsBadLink, ReachesPeer}
use Rattle.ed2k_node.specs.Served.{FileServed, IsWholeOr}
use Rattle.ed2k_node.specs.Status.{HasWorn, IsEarly, IsPeerCode, code_of}
use Rattle.ed2k_node.specs.Words.{GetWords, get_of}
use Rattle.ed2k_node.specs.declared.hands.Ended.{Ended}
use Rattle.ed2k_node.specs.declared.hands.Hands.{Hands}
use Rattle.ed2k_node.specs.declared.status.Status.{Status}
use Rattle.ed2k_node.specs.declared.status.Status.TheVariants.{Complete, NoMemory}
use Rattle.ed2k_node.proofs.Codes.{complete_at_zero, download_status, net_at_nine, not_early, own_code, peer_from_code, set_at_thirteen, short_at_three, vault_at_four, worn_at_ten}
use Rattle.ed2k_node.proofs.Meeting.{whole_as}
use Rattle.ed2k_node.proofs.Wanted.{asked_is_read, file_served, is_not_bad, not_refused, one_file, one_link, same_aim, told_of, wants_of}

abbrev pub FailedBy : {W : Type 0} → WireMembers W → ℕ → ℕ → ℕ → ℕ → Option (Told W) → Option (Told W) → Type 0
FailedBy m vault vault_now net net_now old new = Rose vault vault_now ⊎ Rose net net_now ⊎ IfKnown (WithWire (FailedOn m)) old new

module _ {N W V B O C : Type 0} (m : WireMembers W) (n : nets.Ghosts N W) (v : vaults.Ghosts V) (o : sinks.Ghosts O)
    (words : List (List ℕ)) (get : GetWords) (hands : Hands N V B O C) (end : Ended N V B O C)
    (asks : get_of words ≡ Some get) (got : IsGet m n v o get hands end) where
  by_number : {P : Type 0} → end.status ≢ 2 → end.status ≢ 5 → end.status ≢ 6 → (DownloadsOf m n v o get hands end → P) → P
  by_number two five six then = elim got.came [
    | inl refused ↦ elim refused.bad_link.status [ inl is ↦ absurd (two is) | inr is ↦ absurd (six is) ]
    | inr other ↦ elim other [
      | inl lacks ↦ absurd (five lacks.refused)
      | inr did ↦ then did
    ]
  ]

  by_log : {P : Type 0} → end.log.items ≢ [] → (DownloadsOf m n v o get hands end → P) → P
  by_log made then = elim got.came [
    | inl refused ↦ absurd (made refused.uncalled.early.0)
    | inr other ↦ elim other [
      | inl lacks ↦ absurd (made lacks.uncalled.early.0)
      | inr did ↦ then did
    ]
  ]

  own : (did : DownloadsOf m n v o get hands end) → end.status ≢ 5 → end.status ≢ 6 → code_of did.downloads.ending ≡ end.status
  own did five six = own_code did.downloads.ending end.status did.downloads.status five six

  other-than-five : (did : DownloadsOf m n v o get hands end) → end.status ≢ 5 → did.downloads.ending ≢ NoMemory
  other-than-five did five = λ is. five (did.downloads.refused is)

  pub vault : end.status ≡ 4 → Rose (v.faults hands.vault) (v.faults end.hands.vault)
  vault four = by_number (λ e. omega (arith, four, e)) (λ e. omega (arith, four, e)) (λ e. omega (arith, four, e))
      (λ did. did.downloads.download.ends.vault (vault_at_four did.downloads.ending (own did (λ e. omega (arith, four, e)) (λ e. omega (arith, four, e)) ∙ four)))

  pub net : end.status ≡ 9 → Rose (n.net_faults hands.net) (n.net_faults end.hands.net) × (n.told end.hands.net ≡ n.told hands.net)
  net nine = by_number (λ e. omega (arith, nine, e)) (λ e. omega (arith, nine, e)) (λ e. omega (arith, nine, e))
      (λ did. did.downloads.download.ends.net (net_at_nine did.downloads.ending (own did (λ e. omega (arith, nine, e)) (λ e. omega (arith, nine, e)) ∙ nine)))

  pub set : end.status ≡ 13 → OfAsked words (λ aim. IsTrue (lacks_set aim.size (events end.log.items)))
  set last = by_number (λ e. omega (arith, last, e)) (λ e. omega (arith, last, e)) (λ e. omega (arith, last, e))
      (λ did. (
        aim_of did.link,
        wants_of words get did.link asks did.reads,
        did.downloads.download.ends.set (set_at_thirteen did.downloads.ending (own did (λ e. omega (arith, last, e)) (λ e. omega (arith, last, e)) ∙ last)),
      ))

  pub worn : end.status ≡ 10 → OfAsked words (λ aim. HasWorn aim end.log.items)
  worn ten = by_number (λ e. omega (arith, ten, e)) (λ e. omega (arith, ten, e)) (λ e. omega (arith, ten, e))
      (λ did. (
        aim_of did.link,
        wants_of words get did.link asks did.reads,
        worn_at_ten (aim_of did.link) end.log.items did.downloads.ending did.downloads.download.ends.worn
            (own did (λ e. omega (arith, ten, e)) (λ e. omega (arith, ten, e)) ∙ ten),
      ))

  pub settled : end.status ≢ 5 → end.log.items ≢ [] → OfAsked words (λ aim. IsSettled aim (events end.log.items)) ⊎ Rose (v.faults hands.vault) (v.faults end.hands.vault)
  settled five made = by_log made (λ did. elim (did.downloads.download.ends.settled (other-than-five did five)) [
    | inl is ↦ inl (aim_of did.link, wants_of words get did.link asks did.reads, is)
    | inr rose ↦ inr rose
  ])

  pub peer : end.log.items ≢ [] → OfLink words (λ link. (end.peers.items ≡ [])
      ⊎ ((ending : Status) × TellsPeer m (aim_of link) (opened_log (aim_of link) link.parts) (did_in m n v o hands end ending)))
  peer made = by_log made (λ did. (
    did.link,
    record { get = get; asks = asks; reads = did.reads },
    elim (did.downloads.download.peer made) [
      | inl untried ↦ inl untried.nobody
      | inr tells ↦ inr (did.downloads.ending, tells)
    ],
  ))

  pub placed : end.log.items ≢ [] → IsPlaced words (v.placed end.hands.vault)
  placed made = by_log made (λ did. record { get = get; asks = asks; told = did.downloads.download.placed made })

  pub kept : (v.placed end.hands.vault ≡ v.placed hands.vault) ⊎ IsPlaced words (v.placed end.hands.vault)
  kept = elim got.came [
    | inl refused ↦ inl (ap v.placed refused.uncalled.uncalled.1)
    | inr other ↦ elim other [
      | inl lacks ↦ inl (ap v.placed lacks.uncalled.uncalled.1)
      | inr did ↦ elim did.downloads.download.kept [
        | inl same ↦ inl same
        | inr told ↦ inr (record { get = get; asks = asks; told = told })
      ]
    ]
  ]

  pub log_file : log_of (v.files end.hands.vault) ≡ log_of (v.files hands.vault)
  log_file = elim got.came [
    | inl refused ↦ ap (λ (w : V). log_of (v.files w)) refused.uncalled.uncalled.1
    | inr other ↦ elim other [
      | inl lacks ↦ ap (λ (w : V). log_of (v.files w)) lacks.uncalled.uncalled.1
      | inr did ↦ did.downloads.download.ends.log_file
    ]
  ]

  pub unmade : end.log.items ≡ [] → IsEarly end.status ⊎ (end.status ≡ 4) ⊎ (end.status ≡ 5) ⊎ (end.status ≡ 6)
  unmade none = elim got.came [
    | inl refused ↦ elim refused.bad_link.status [ inl two ↦ inl (inr two) | inr six ↦ inr (inr (inr six)) ]
    | inr other ↦ elim other [
      | inl lacks ↦ inr (inr (inl lacks.refused))
      | inr did ↦ elim did.downloads.status [
        | inl is ↦ elim (did.downloads.download.unmade none).untried.ended [
          | inl vault ↦ inr (inl (is ∙ ap code_of vault))
          | inr refused ↦ inr (inr (inl (did.downloads.refused refused)))
        ]
        | inr other ↦ inr (inr other)
      ]
    ]
  ]

  not_at : (k : ℕ) → k ≢ 0 → k ≢ 3 → k ≢ 10 → k ≢ 13 → IsPeerCode end.status → end.status ≢ k
  not_at k a b c d is at = elim is [
    | inl e ↦ a (sym at ∙ e)
    | inr is ↦ elim is [
      | inl e ↦ b (sym at ∙ e)
      | inr is ↦ elim is [ inl e ↦ c (sym at ∙ e) | inr e ↦ d (sym at ∙ e) ]
    ]
  ]

  pub reached : IsPeerCode end.status → ReachesPeer words (n.told hands.net) (n.told end.hands.net)
  reached is =
      let five = not_at 5 (λ e. omega (arith, e)) (λ e. omega (arith, e)) (λ e. omega (arith, e)) (λ e. omega (arith, e)) is in
      let six = not_at 6 (λ e. omega (arith, e)) (λ e. omega (arith, e)) (λ e. omega (arith, e)) (λ e. omega (arith, e)) is in
      by_number (not_at 2 (λ e. omega (arith, e)) (λ e. omega (arith, e)) (λ e. omega (arith, e)) (λ e. omega (arith, e)) is) five six (λ did. record {
        get = get;
        asks = asks;
        goes = did.downloads.download.reached (peer_from_code did.downloads.ending (subst IsPeerCode (sym (own did five six)) is));
      })

  pub verified : TextsWriteOneLink → end.status ≢ 5 → end.status ≢ 6 → (end.status ≡ 0) ↔ OfAsked words (λ aim. IsDone aim end.log.items)
  verified law five six = (
    λ zero. by_number (λ e. omega (arith, zero, e)) five six (λ did. (
      aim_of did.link,
      wants_of words get did.link asks did.reads,
      (did.downloads.download.ends.verified (other-than-five did five)).0 (complete_at_zero did.downloads.ending (own did five six ∙ zero)),
    )),
    λ done. by_log done.2.0 (λ did. sym (own did five six) ∙ ap code_of ((did.downloads.download.ends.verified (other-than-five did five)).1
        (subst (λ (aim : Aim). IsDone aim end.log.items) (one_file law words done.0 get did.link done.1 asks did.reads) done.2))),
  )

  pub complete : end.status ≡ 0 → IfSome (v.files end.hands.vault) (λ files. OfAsked words (λ aim. IsFileOf aim files.body))
  complete zero = by_number (λ e. omega (arith, zero, e)) (λ e. omega (arith, zero, e)) (λ e. omega (arith, zero, e))
      (λ did.
      let is = complete_at_zero did.downloads.ending (own did (λ e. omega (arith, zero, e)) (λ e. omega (arith, zero, e)) ∙ zero) in
      let done = (did.downloads.download.ends.verified (other-than-five did (λ e. omega (arith, zero, e)))).0 is in
      let began = began_new (events end.log.items) (body_of (v.files hands.vault)) (did.downloads.download.opened done.0).begins in
      told_of words (aim_of did.link) (v.files end.hands.vault) (wants_of words get did.link asks did.reads) (did.downloads.complete is began))

  pub served : TextsWriteOneLink → LinksHaveNoFault → (link : FileLink) (bytes : List ℕ) → AsksFor words link
      → FileServed m (aim_of link) link.parts bytes (v.files hands.vault) (n.told hands.net)
      → IsWholeOr bytes (end.status ≡ 0) (end.status ≡ 5)
      (FailedBy m (v.faults hands.vault) (v.faults end.hands.vault) (n.net_faults hands.net) (n.net_faults end.hands.net) (n.told hands.net) (n.told end.hands.net)
      ⊎ Rose (o.write_faults hands.out) (o.write_faults end.hands.out))
      (v.files end.hands.vault)
  served law sound link bytes asked serves = elim got.came [
    | inl refused ↦ absurd (asked_is_read sound words get link refused.fault asked asks refused.bad)
    | inr other ↦ elim other [
      | inl lacks ↦ inr (inl lacks.refused)
      | inr did ↦
          let d = did.downloads in
          whole_as bytes (d.ending ≡ Complete) (end.status ≡ 0) (d.ending ≡ NoMemory) (end.status ≡ 5)
          (FailedBy m (v.faults hands.vault) (v.faults end.hands.vault) (n.net_faults hands.net) (n.net_faults end.hands.net) (n.told hands.net) (n.told end.hands.net))
          (FailedBy m (v.faults hands.vault) (v.faults end.hands.vault) (n.net_faults hands.net) (n.net_faults end.hands.net) (n.told hands.net) (n.told end.hands.net)
          ⊎ Rose (o.write_faults hands.out) (o.write_faults end.hands.out))
          (v.files end.hands.vault)
          (λ is. elim d.status [
            | inl mine ↦ inl (mine ∙ ap code_of is)
            | inr late ↦ elim late [ inl five ↦ inr (inl five) | inr six ↦ inr (inr (inr (d.output six))) ]
          ])
          d.refused (λ failed. inl failed)
          (d.download.served bytes (file_served m did.link link bytes (v.files hands.vault) (n.told hands.net)
          (one_link law words get did.link link asks did.reads asked) serves))
    ]
  ]

  pub link : LinksHaveNoFault → HasBadLink words → (end.status ≡ 2) ⊎ (end.status ≡ 5) ⊎ (end.status ≡ 6)
  link sound bad = elim got.came [
    | inl refused ↦ elim refused.bad_link.status [ inl two ↦ inl two | inr six ↦ inr (inr six) ]
    | inr other ↦ elim other [
      | inl lacks ↦ inr (inl lacks.refused)
      | inr did ↦ absurd (is_not_bad sound words get did.link asks did.reads bad)
    ]
  ]

  pub uncalled : LinksHaveNoFault → IsEarly end.status ⊎ AreRefused words → (end.hands.net ≡ hands.net) × (end.hands.vault ≡ hands.vault)
  uncalled sound early = elim got.came [
    | inl refused ↦ refused.uncalled.uncalled
    | inr other ↦ elim other [
      | inl lacks ↦ lacks.uncalled.uncalled
      | inr did ↦ absurd (elim early [
        | inl is ↦ not_early end.status (download_status did.downloads.ending end.status did.downloads.status) is
        | inr refused ↦ not_refused sound words get did.link asks did.reads refused
      ])
    ]
  ]

  pub bad_link : end.status ≡ 2 → PrintsBadLink words (o.sent hands.out) (o.sent end.hands.out)
  bad_link two = elim got.came [
    | inl refused ↦ record { get = get; fault = refused.fault; asks = asks; bad = refused.bad; sent = refused.bad_link.printed two }
    | inr other ↦ elim other [
      | inl lacks ↦ let both : 2 ≡ 5 = sym two ∙ lacks.refused in absurd (omega (arith, both))
      | inr did ↦ absurd (not_early end.status (download_status did.downloads.ending end.status did.downloads.status) (inr two))
    ]
  ]

  pub early : LinksHaveNoFault → IsEarly end.status ⊎ AreRefused words → (end.log.items ≡ []) × (end.peers.items ≡ [])
  early sound unready = elim got.came [
    | inl refused ↦ refused.uncalled.early
    | inr other ↦ elim other [
      | inl lacks ↦ lacks.uncalled.early
      | inr did ↦ absurd (elim unready [
        | inl is ↦ not_early end.status (download_status did.downloads.ending end.status did.downloads.status) is
        | inr refused ↦ not_refused sound words get did.link asks did.reads refused
      ])
    ]
  ]

  pub unlinked : end.status ≡ 9 → All IsUnlinked end.peers.items
  unlinked nine = by_number (λ e. omega (arith, nine, e)) (λ e. omega (arith, nine, e)) (λ e. omega (arith, nine, e))
      (λ did. did.downloads.download.ends.unlinked (net_at_nine did.downloads.ending (own did (λ e. omega (arith, nine, e)) (λ e. omega (arith, nine, e)) ∙ nine)))

  pub short : end.status ≡ 3 → OfAsked words (λ aim. IsShort aim end.log.items end.peers.items)
  short three = by_number (λ e. omega (arith, three, e)) (λ e. omega (arith, three, e)) (λ e. omega (arith, three, e))
      (λ did. (
        aim_of did.link,
        wants_of words get did.link asks did.reads,
        did.downloads.download.ends.short (short_at_three did.downloads.ending (own did (λ e. omega (arith, three, e)) (λ e. omega (arith, three, e)) ∙ three)),
      ))

  pub due : end.status ≢ 5 → end.log.items ≢ [] → OfAsked words (λ aim. Rounds aim end.log.items end.peers.items) ⊎ Rose (v.faults hands.vault) (v.faults end.hands.vault)
  due five made = by_log made (λ did. elim (did.downloads.download.ends.due (other-than-five did five) made) [
    | inl is ↦ inl (aim_of did.link, wants_of words get did.link asks did.reads, is)
    | inr rose ↦ inr rose
  ])

  pub legal : end.log.items ≢ [] → OfAsked words (λ aim. IsLegal aim end.log.items)
  legal made = by_log made (λ did. (aim_of did.link, wants_of words get did.link asks did.reads, did.downloads.download.ends.legal made))

  pub fits : end.log.items ≢ [] → OfAsked words (λ aim. BodyFits aim end.log.items (body_of (v.files hands.vault)) (v.files end.hands.vault))
  fits made = by_log made (λ did. (aim_of did.link, wants_of words get did.link asks did.reads, did.downloads.download.ends.fits made))

  pub given_back : (n.told end.hands.net ≡ n.told hands.net) ⊎ ReachesPeer words (n.told hands.net) (n.told end.hands.net)
  given_back = elim got.came [
    | inl refused ↦ inl (ap n.told refused.uncalled.uncalled.0)
    | inr other ↦ elim other [
      | inl lacks ↦ inl (ap n.told lacks.uncalled.uncalled.0)
      | inr did ↦ elim did.downloads.download.given_back [
        | inl same ↦ inl same
        | inr goes ↦ inr (record { get = get; asks = asks; goes = goes })
      ]
    ]
  ]

  pub silent : end.status ≡ 5 → end.log.items ≡ [] → end.hands.out ≡ hands.out
  silent five none = elim got.came [
    | inl refused ↦ elim refused.bad_link.status [
      | inl two ↦ absurd (omega (arith, five, two))
      | inr six ↦ absurd (omega (arith, five, six))
    ]
    | inr other ↦ elim other [ inl lacks ↦ lacks.silent | inr did ↦ did.downloads.silent five none ]
  ]

  pub output : end.status ≡ 6 → Rose (o.write_faults hands.out) (o.write_faults end.hands.out)
  output six = elim got.came [
    | inl refused ↦ refused.bad_link.output six
    | inr other ↦ elim other [ inl lacks ↦ absurd (let five = lacks.refused in omega (arith, five, six)) | inr did ↦ did.downloads.output six ]
  ]

  -- each link that the words ask for was downloaded, where there was memory to read it
  pub every : TextsWriteOneLink → LinksHaveNoFault → (link : FileLink) → AsksFor words link
      → LacksMemory hands end ⊎ Downloads m n v o link get hands end
  every law sound link asked = elim got.came [
    | inl refused ↦ absurd (asked_is_read sound words get link refused.fault asked asks refused.bad)
    | inr other ↦ elim other [
      | inl lacks ↦ inl lacks
      | inr did ↦
          let d = did.downloads in
          let same = one_link law words get did.link link asks did.reads asked in
          let aims : aim_of did.link ≡ aim_of link = sym (same_aim link.size did.link.size link.hash did.link.hash same.same_size same.same_hash) in
          let parts : did.link.parts ≡ link.parts = sym same.same_parts in
          inr (record {
            ending = d.ending;
            download = subst (λ (a : Aim). IsDownload m (order_at a link.parts get.place get.from) (did_in m n v o hands end d.ending)) aims
                (subst (λ (ps : List (List ℕ)). IsDownload m (order_at (aim_of did.link) ps get.place get.from) (did_in m n v o hands end d.ending)) parts d.download);
            complete = λ is began. subst (λ (a : Aim). IfSome (v.files end.hands.vault) (λ files. IsFileOf a files.body)) aims (d.complete is began);
            printed = subst (λ (a : Aim). IsReported (findings link.name a end.log.items end.peers.items) d.ending end.status (o.sent hands.out) (o.sent end.hands.out)) aims
                (subst (λ (x : List ℕ). IsReported (findings x (aim_of did.link) end.log.items end.peers.items) d.ending end.status (o.sent hands.out) (o.sent end.hands.out))
                (sym same.same_name) d.printed);
            status = d.status;
            refused = d.refused;
            output = d.output;
            untried = d.untried;
            silent = d.silent;
            beside = d.beside;
          })
    ]
  ]
