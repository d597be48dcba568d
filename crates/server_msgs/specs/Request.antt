-- A client's message without where its expression lies in memory.
use Rattle.std.specs.Prelude.{ℕ, List}
use Rattle.ed2k_tags.specs.declared.tag.Tag.{Tag}
use Rattle.search_expr.specs.Query.{Query, query}
use Rattle.server_msgs.specs.declared.msg.FileItem.{FileItem}
use Rattle.server_msgs.specs.declared.msg.ClientMsg.{ClientMsg}
use Rattle.server_msgs.specs.declared.msg.ClientMsg.TheVariants as msgs

pub data Request : Type 0 where
  Login : List ℕ → ℕ → ℕ → List Tag → Request
  ListRequest : Request
  Offer : List FileItem → Request
  Search : Query → Request
  Disconnect : Request
  Sources : List ℕ → Request
  Callback : ℕ → Request
  More : Request
  Other : ℕ → ℕ → Request

abbrev pub request : ClientMsg → Request
request (msgs.Login user id port tags) = Login user id port tags
request msgs.ListRequest = ListRequest
request (msgs.Offer files) = Offer files
request (msgs.Search expr) = Search (query expr)
request msgs.Disconnect = Disconnect
request (msgs.Sources hash) = Sources hash
request (msgs.Callback id) = Callback id
request msgs.More = More
request (msgs.Other protocol opcode) = Other protocol opcode
