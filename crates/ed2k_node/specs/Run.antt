-- What the words of a `get` ask for, and what a run leaves of the net.
use Rattle.std.specs.Prelude.{◌≡◌, ℕ, ◌+◌, List, ◌++◌, [], ◌∷◌, None, Some, ◌⊎◌}
use Rattle.std.specs.declared.option.Option.{Option}
use Rattle.ed2k_link.specs.Grammar.{Link, fault_of}
use Rattle.ed2k_link.specs.declared.link.FileLink.{FileLink}
use Rattle.ed2k_link.specs.declared.fault.LinkFault.{LinkFault}
use Rattle.ed2k_outside.specs.declared.addr.Addr.{Addr}
use Rattle.ed2k_outside.specs.Causes.{IfKnown}
use Rattle.ed2k_outside.specs.Nets.{Told}
use Rattle.part_hashset.specs.declared.aim.Aim.{Aim}
use Rattle.ed2k_node.specs.Link.{aim_of, IsBad}
use Rattle.ed2k_node.specs.Sent.{IsSent}
use Rattle.ed2k_node.specs.Texts.{line, refusal}
use Rattle.ed2k_node.specs.Words.{GetWords, get_of}

-- the words are those of a `get`
abbrev pub Asks : List (List ℕ) → GetWords → Type 0
Asks words get = get_of words ≡ Some get

-- the link of a `get` is refused
pub record HasBadLink (words : List (List ℕ)) : Type 0 where
  pub get : GetWords
  pub asks : Asks words get
  pub bad : IsBad get.link

-- the words aren't those of a `get`, or its link is refused
abbrev pub AreRefused : List (List ℕ) → Type 0
AreRefused words = (get_of words ≡ None) ⊎ HasBadLink words

-- the words are those of a `get` of this link
pub record AsksFor (words : List (List ℕ)) (link : FileLink) : Type 0 where
  pub get : GetWords
  pub asks : Asks words get
  pub reads : Link get.link link

-- the fault for which the link of a `get` is refused was sent, and nothing else
pub record PrintsBadLink (words : List (List ℕ)) (old new : Option (List ℕ)) : Type 0 where
  pub get : GetWords
  pub fault : LinkFault
  pub asks : Asks words get
  pub bad : fault_of get.link ≡ Some fault
  pub sent : IsSent old new (line (refusal fault))

-- the vault was told the place of the words last
pub record IsPlaced (words : List (List ℕ)) (name : Option (List ℕ)) : Type 0 where
  pub get : GetWords
  pub asks : Asks words get
  pub told : name ≡ Some get.place

-- the words ask for the file
pub record Wants (words : List (List ℕ)) (aim : Aim) : Type 0 where
  pub get : GetWords
  pub link : FileLink
  pub asks : Asks words get
  pub reads : Link get.link link
  pub names : aim ≡ aim_of link

-- this holds of the file that the words ask for
abbrev pub OfAsked : List (List ℕ) → (Aim → Type 0) → Type 0
OfAsked words says = (aim : Aim) × Wants words aim × says aim

-- this holds of the link that the words ask for
abbrev pub OfLink : List (List ℕ) → (FileLink → Type 0) → Type 0
OfLink words says = (link : FileLink) × AsksFor words link × says link

-- one wire was connected to this address and given back
pub record ReachesOne {W : Type 0} (to : Addr) (old new : Told W) : Type 0 where
  pub handed : new.handed ≡ old.handed + 1
  pub reached : new.reached ≡ old.reached ++ to ∷ []
  pub given_back : (wire : W) × (new.closed ≡ old.closed ++ wire ∷ [])
  pub taken : (first : W × Addr) × (old.left ≡ first ∷ new.left)

-- the peer of the words was reached, where the net tells it
pub record ReachesPeer {W : Type 0} (words : List (List ℕ)) (old new : Option (Told W)) : Type 0 where
  pub get : GetWords
  pub asks : Asks words get
  pub goes : IfKnown (ReachesOne get.from) old new
