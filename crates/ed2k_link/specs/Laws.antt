-- What holds of every text and link.
use Rattle.std.specs.Prelude.{◌≡◌, ℕ, List, None}
use Rattle.ed2k_link.specs.Base32.{Spells}
use Rattle.ed2k_link.specs.Grammar.{Link, fault_of}
use Rattle.ed2k_link.specs.Same.{IsSame}
use Rattle.ed2k_link.specs.declared.link.FileLink.{FileLink}

abbrev pub LinksHaveNoFault : Type 0
LinksHaveNoFault = (text : List ℕ) (link : FileLink) → Link text link → fault_of text ≡ None

-- the other way round: a text without a fault writes a link
abbrev pub FaultlessTextsWriteALink : Type 0
FaultlessTextsWriteALink = (text : List ℕ) → fault_of text ≡ None → (link : FileLink) × Link text link

abbrev pub TextsWriteOneLink : Type 0
TextsWriteOneLink = (text : List ℕ) (one other : FileLink) → Link text one → Link text other → IsSame one other

abbrev pub SpellingIsOne : Type 0
SpellingIsOne = (text one other : List ℕ) → Spells text one → Spells text other → one ≡ other
