-- What this client says of itself.
use Rattle.std.specs.Prelude.{ℕ, List, [], ◌∷◌, codes}
use Rattle.ed2k_tags.specs.declared.tag.Tag.{Tag}
use Rattle.ed2k_tags.specs.declared.tag.Value.TheVariants.{Text, Number}
use Rattle.client_msgs.specs.declared.msg.Hello.{Hello}

-- its name, its version, the version of AICH that it knows, and no large files
abbrev pub own_tags : List Tag
own_tags =
    record { name = 0x01 ∷ []; value = Text (codes "ed2k_node") }
    ∷ record { name = 0x11 ∷ []; value = Number 60 }
    ∷ record { name = 0xFA ∷ []; value = Number 0x20000000 }
    ∷ record { name = 0xFE ∷ []; value = Number 0 }
    ∷ []

-- no id, no port and no server
abbrev pub own : Hello
own = record {
  user = codes "ed2k-node-user-1";
  id = 0;
  port = 0;
  tags = own_tags;
  server_ip = 0;
  server_port = 0;
}
