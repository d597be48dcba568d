-- What the calls that change an index answer, and the table that they leave.
use Rattle.std.specs.Prelude.{◌≡◌, ◌≢◌, ℕ, ◌+◌, min, Bool, ◌&&◌, not, nat_eq, nat_le, if◌then◌else◌, Option, Some, None, Result, Ok, Err, List, filter}
use Rattle.std.specs.BTreeMap.{insert_entry, is_at}
use Rattle.std.specs.Int.{from_le_bytes, w32}
use Rattle.std.specs.Map.{remove_entry}
use Rattle.std.specs.Ordering.{nat_cmp}
use Rattle.ed2k_outside.specs.declared.addr.Addr.{Addr}
use Rattle.search_expr.specs.declared.expr.FileRow.{FileRow}
use Rattle.server_index.specs.Live.{File}
use Rattle.server_index.specs.declared.offers.Owner.{Owner}
use Rattle.server_index.specs.declared.sessions.IndexFault.{IndexFault}
use Rattle.server_index.specs.declared.sessions.IndexFault.TheVariants.{Already, Many, NotIn, NoMemory}
use Rattle.server_index.specs.Offers.{offered}
use Rattle.server_index.specs.Tables.{Member, Table, member_at}

-- what a call answered and the table that it left are this outcome, unless memory was refused
abbrev pub Comes : {A : Type 0} → Result A IndexFault → Table → Result (A × Table) IndexFault → Type 0
Comes (Ok x) table outcome = outcome ≡ Ok (x, table)
Comes (Err fault) table outcome = fault ≢ NoMemory → outcome ≡ Err fault

-- ---- a login
-- the number of an address a.b.c.d: a + 256 b + 65,536 c + 16,777,216 d
abbrev pub address : Addr → ℕ
address addr = from_le_bytes w32 addr.ip

-- a session: its id is its address where it was reached, else its number plus 1
abbrev pub member_for : ℕ → List ℕ → Addr → ℕ → Bool → Member
member_for number user addr port high = record {
  user = user;
  id = if high then address addr else number + 1;
  port = port;
}

-- a number that no low id tells, of a session that wasn't reached
abbrev pub has_no_id : ℕ → Bool → Bool
has_no_id number high = not high && nat_le 16777214 number

abbrev pub unless_live : Option Member → Result (ℕ × Table) IndexFault → Result (ℕ × Table) IndexFault
unless_live (Some member) outcome = Err (Already member.id)
unless_live None outcome = outcome

abbrev pub with_member : ℕ → Member → Table → Table
with_member number member table = record {
  sessions = insert_entry nat_cmp table.sessions number member;
  files = table.files;
}

abbrev pub logged_in : ℕ → Member → Bool → Table → Result (ℕ × Table) IndexFault
logged_in number member high table =
    unless_live (member_at table.sessions number)
    (if has_no_id number high then Err (Many number)
    else Ok (member.id, with_member number member table))

-- ---- an offer
abbrev pub after_offer : Table → ℕ × List ((List ℕ × ℕ) × File) → Result (ℕ × Table) IndexFault
after_offer table out = Ok (min out.0 4294967295, record { sessions = table.sessions; files = out.1 })

abbrev pub owner : ℕ → Member → Owner
owner number member = record { number = number; id = member.id; port = member.port }

abbrev pub offered_by : ℕ → Option Member → List FileRow → Table → Result (ℕ × Table) IndexFault
offered_by number None rows table = Err NotIn
offered_by number (Some member) rows table = after_offer table (offered (owner number member) 0 table.files rows)

abbrev pub offered_to : ℕ → List FileRow → Table → Result (ℕ × Table) IndexFault
offered_to number rows table = offered_by number (member_at table.sessions number) rows table

-- ---- a logout
abbrev pub left : ℕ → Table → Table
left number table = record {
  sessions = remove_entry (is_at (nat_cmp number)) table.sessions;
  files = filter (λ x. not (nat_eq x.0.1 number)) table.files;
}
