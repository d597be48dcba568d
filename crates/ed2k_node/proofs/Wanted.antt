-- Words ask for one file.
use Rattle.std.proofs.Common.{◌≡◌, ◌↔◌, ◌∙◌, refl, sym, subst, Bool, true, false, IsSome, IsTrue, ℕ, List, Option, Some, None, IfSome, inl, inr}
use Rattle.ed2k_link.specs.Grammar.{Link, fault_of}
use Rattle.ed2k_link.specs.Laws.{LinksHaveNoFault, TextsWriteOneLink}
use Rattle.ed2k_link.specs.Same.{IsSame}
use Rattle.ed2k_link.specs.declared.fault.LinkFault.{LinkFault}
use Rattle.ed2k_outside.specs.Files.{Files}
use Rattle.ed2k_link.specs.declared.link.FileLink.{FileLink}
use Rattle.part_hashset.specs.declared.aim.Aim.{Aim}
use Rattle.ed2k_outside.specs.Nets.{Told}
use Rattle.ed2k_outside.specs.WireMembers.{WireMembers}
use Rattle.ed2k_node.specs.Link.{aim_of}
use Rattle.ed2k_node.specs.Served.{FileServed}
use Rattle.ed2k_node.specs.Left.{IsFileOf}
use Rattle.ed2k_node.specs.Run.{AreRefused, AsksFor, HasBadLink, OfAsked, Wants}
use Rattle.ed2k_node.specs.Words.{GetWords, get_of}

one_get : (found : Option GetWords) (one other : GetWords) → found ≡ Some one → found ≡ Some other → one.link ≡ other.link
one_get found one other is also = let same : Some one ≡ Some other = sym is ∙ also in cc

not_both : (read : Option LinkFault) (fault : LinkFault) → read ≡ None → read ≡ Some fault → ⊥
not_both read fault none some = cc

pub same_aim : (size size2 : ℕ) (hash hash2 : List ℕ) → size ≡ size2 → hash ≡ hash2
    → (let aim : Aim = record { size = size; hash = hash; root = None } in aim) ≡ (let aim : Aim = record { size = size2; hash = hash2; root = None } in aim)
same_aim size size2 hash hash2 sizes hashes = cc

pub one_file : TextsWriteOneLink → (words : List (List ℕ)) (aim : Aim) (get : GetWords) (link : FileLink)
    → Wants words aim → get_of words ≡ Some get → Link get.link link → aim ≡ aim_of link
one_file law words aim get link wants asks reads =
    let text = one_get (get_of words) wants.get get wants.asks asks in
    let alike = law get.link wants.link link (subst (λ (t : List ℕ). Link t wants.link) text wants.reads) reads in
    wants.names ∙ same_aim wants.link.size link.size wants.link.hash link.hash alike.same_size alike.same_hash

pub is_not_bad : LinksHaveNoFault → (words : List (List ℕ)) (get : GetWords) (link : FileLink)
    → get_of words ≡ Some get → Link get.link link → HasBadLink words → ⊥
is_not_bad law words get link asks reads bad =
    let text = one_get (get_of words) bad.get get bad.asks asks in
    let none = law get.link link reads in
    let some = subst (λ (t : List ℕ). fault_of t ≡ Some bad.bad.0) text bad.bad.1 in
    not_both (fault_of get.link) bad.bad.0 none some

pub not_refused : LinksHaveNoFault → (words : List (List ℕ)) (get : GetWords) (link : FileLink)
    → get_of words ≡ Some get → Link get.link link → AreRefused words → ⊥
not_refused law words get link asks reads refused = elim refused [
  | inl none ↦ let both : None ≡ Some get = sym none ∙ asks in cc
  | inr bad ↦ is_not_bad law words get link asks reads bad
]

-- a link that is asked for has no fault
pub asked_is_read : LinksHaveNoFault → (words : List (List ℕ)) (get : GetWords) (link : FileLink) (fault : LinkFault)
    → AsksFor words link → get_of words ≡ Some get → fault_of get.link ≡ Some fault → ⊥
asked_is_read law words get link fault asked asks bad =
    not_refused law words asked.get link asked.asks asked.reads (inr (record { get = get; asks = asks; bad = (fault, bad) }))

-- words ask for one link
pub one_link : TextsWriteOneLink → (words : List (List ℕ)) (get : GetWords) (link other : FileLink)
    → get_of words ≡ Some get → Link get.link link → AsksFor words other → IsSame other link
one_link law words get link other asks reads asked =
    let text = one_get (get_of words) asked.get get asked.asks asks in
    law get.link other link (subst (λ (t : List ℕ). Link t other) text asked.reads) reads

-- what holds of a body where it is told holds of it for the file that the words ask for
pub told_of : (words : List (List ℕ)) (aim : Aim) (files : Option Files) → Wants words aim → IfSome files (λ files. IsFileOf aim files.body)
    → IfSome files (λ files. OfAsked words (λ aim. IsFileOf aim files.body))
told_of words aim None wants is = tt
told_of words aim (Some files) wants is = (aim, wants, is)

pub wants_of : (words : List (List ℕ)) (get : GetWords) (link : FileLink) → get_of words ≡ Some get → Link get.link link → Wants words (aim_of link)
wants_of words get link asks reads = record { get = get; link = link; asks = asks; reads = reads; names = refl }

pub asked_of : (words : List (List ℕ)) (get : GetWords) (link : FileLink) → get_of words ≡ Some get → Link get.link link → AsksFor words link
asked_of words get link asks reads = record { get = get; asks = asks; reads = reads }

-- a file that is served for a link is served for one like it
pub file_served : {W : Type 0} (m : WireMembers W) (link other : FileLink) (bytes : List ℕ) (files : Option Files) (net : Option (Told W))
    → IsSame other link → FileServed m (aim_of other) other.parts bytes files net → FileServed m (aim_of link) link.parts bytes files net
file_served {W} m link other bytes files net same serves =
    subst (λ (parts : List (List ℕ)). FileServed m (aim_of link) parts bytes files net) same.same_parts
    (subst (λ (aim : Aim). FileServed m aim other.parts bytes files net) (same_aim other.size link.size other.hash link.hash same.same_size same.same_hash) serves)

-- what holds of what is there
pub if_some : {T : Type 0} (found : Option T) (one : T) (says : T → Type 0) → found ≡ Some one → says one → IfSome found says
if_some None one says is holds = absurd (cc)
if_some {T} (Some other) one says is holds = subst says (let same : one ≡ other = cc in same) holds

-- and of what isn't there
pub if_none : {T : Type 0} (found : Option T) (says : T → Type 0) (is : Bool) → (IsTrue is ↔ IsSome found) → is ≡ false → IfSome found says
if_none None says is same not = tt
if_none (Some one) says is same not = let yes : is ≡ true = same.1 refl in let both : true ≡ false = sym yes ∙ not in absurd (cc)
