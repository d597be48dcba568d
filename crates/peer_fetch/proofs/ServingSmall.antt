-- The smallest stream that serves a file, and the talk over it, each computed: a file of three bytes, in one piece.
use Rattle.std.proofs.Common.{◌≡◌, ℕ, ◌+◌, ◌≤◌, true, false, List, [], ◌∷◌, ◌++◌, Some, None, Ok, Err, replicate, length, drop, Option, refl, ap, sym, ◌∙◌, arith, inl, inr}
use Rattle.std.specs.Io.KnownBytes.{prepend_known}
use Rattle.std.specs.List.{flat_map, list_all}
use Rattle.client_msgs.specs.Own.{own as own_hello}
use Rattle.client_msgs.specs.Reading.{file_status, message, name_answer, sending_part}
use Rattle.client_msgs.specs.Spelling.{payload_of}
use Rattle.client_msgs.specs.declared.msg.Hello.{Hello}
use Rattle.client_msgs.specs.declared.msg.PeerMsg.{PeerMsg}
use Rattle.client_msgs.specs.declared.msg.PeerMsg.TheVariants as messages
use Rattle.ed2k_frame.specs.Frame.{IsFrame, spell}
use Rattle.ed2k_frame.specs.declared.frame.Frame.{Frame}
use Rattle.ed2k_frame.specs.declared.frame.TheConstants.{FRAME_LIMIT}
use Rattle.md4_hash.specs.Md4.{after, after_block, after_blocks, md4, step}
use Rattle.part_hashset.specs.HashSet.{ed2k}
use Rattle.part_hashset.specs.declared.aim.Aim.{Aim}
use Rattle.part_sizes.specs.Span.{positions}
use Rattle.part_sizes.specs.declared.span.Span.{Span}
use Rattle.reserve_core.specs.Choice.{pick_of}
use Rattle.reserve_core.specs.Verdicts.{is_verified, parts}
use Rattle.reserve_core.specs.declared.desk.Answer.TheVariants as answers
use Rattle.reserve_core.specs.declared.desk.DeskAsk.TheVariants as asks
use Rattle.reserve_core.specs.declared.event.Event.{Event}
use Rattle.reserve_core.specs.declared.event.Event.TheVariants.{Commit, Offer, Opened, Reserve, Verdict, Write}
use Rattle.reserve_core.specs.declared.fault.DeskFault.TheVariants.{NoBlock}
use Rattle.reserve_core.specs.declared.verdict.Verdict.TheVariants.{Verified}
use Rattle.client_msgs.proofs.Again.{again}
use Rattle.peer_fetch.specs.Fetches.{Chained, EndsWith, LaysPieces}
use Rattle.peer_fetch.specs.Plan.{Begin, Paused}
use Rattle.peer_fetch.specs.Serves.{AreRead, Serves, nothing}
use Rattle.peer_fetch.specs.Talk.{Act, Asks, Begins, Comes, Reads, Run, Sends, Takes}
use Rattle.peer_fetch.specs.declared.cause.Cause.TheVariants as causes
use Rattle.peer_fetch.specs.declared.session.Place.TheVariants as place
use Rattle.peer_fetch.specs.declared.session.Session.{Session}

-- the MD4 of "abc"
abbrev hash : List ℕ
hash = 0xa4 ∷ 0x48 ∷ 0x01 ∷ 0x7a ∷ 0xaf ∷ 0x21 ∷ 0xd8 ∷ 0x52 ∷ 0x5f ∷ 0xc1 ∷ 0x0a ∷ 0xe8 ∷ 0x7a ∷ 0xa6 ∷ 0x72 ∷ 0x9d ∷ []

abbrev abc : List ℕ
abc = 0x61 ∷ 0x62 ∷ 0x63 ∷ []

abbrev small : Aim
small = record { size = 3; hash = hash; root = None }

abbrev peer : Hello
peer = record { user = hash; id = 0; port = 0; tags = []; server_ip = 0; server_port = 0 }

abbrev frame : ℕ → List ℕ → Frame
frame opcode payload = record { protocol = 0xE3; opcode = opcode; payload = payload }

abbrev zeros : ℕ → List ℕ
zeros n = replicate n 0

abbrev frames : List Frame
frames =
    frame 0x4C (hash ++ zeros 16)
    ∷ frame 0x59 (hash ++ 1 ∷ 0 ∷ 0x61 ∷ [])
    ∷ frame 0x50 (hash ++ zeros 2)
    ∷ frame 0x55 []
    ∷ frame 0x46 (hash ++ zeros 4 ++ 3 ∷ 0 ∷ 0 ∷ 0 ∷ abc)
    ∷ []

abbrev whole : Span
whole = record { s = 0; e = 3 }

abbrev piece : PeerMsg
piece = messages.SendingPart hash 0 3 abc

spelled_so : payload_of (messages.HelloAnswer peer) ≡ hash ++ zeros 16
unfolding payload_of
spelled_so = refl

greets : message (frame 0x4C (hash ++ zeros 16)) ≡ Ok (messages.HelloAnswer peer)
greets =
    ap (λ bytes. message (frame 0x4C bytes)) (sym spelled_so)
    ∙ again (messages.HelloAnswer peer) (record { user = refl; id = omega arith; port = omega arith; tags = tt; server_ip = omega arith; server_port = omega arith }) (omega arith) refl

tells_name : message (frame 0x59 (hash ++ 1 ∷ 0 ∷ 0x61 ∷ [])) ≡ Ok (messages.NameAnswer hash (0x61 ∷ []))
unfolding name_answer
tells_name = refl

has_all : message (frame 0x50 (hash ++ zeros 2)) ≡ Ok (messages.FileStatus hash 0 [])
unfolding file_status
has_all = refl

sends : message (frame 0x46 (hash ++ zeros 4 ++ 3 ∷ 0 ∷ 0 ∷ 0 ∷ abc)) ≡ Ok piece
unfolding sending_part
sends = refl

is_frame : (opcode : ℕ) (payload : List ℕ) → length payload + 1 ≤ FRAME_LIMIT → IsFrame (frame opcode payload)
is_frame opcode payload fits = record { protocol = inl refl; fits = fits }

chosen : pick_of 3 (Opened nothing ∷ Offer 0 (true ∷ []) ∷ []) 0 ≡ whole ∷ []
unfolding positions
chosen = refl

used_up : pick_of 3 (Opened nothing ∷ Offer 0 (true ∷ []) ∷ Reserve 0 (whole ∷ []) ∷ Write 0 whole ∷ []) 0 ≡ []
unfolding positions
used_up = refl

reads_so : AreRead frames (messages.HelloAnswer peer ∷ messages.NameAnswer hash (0x61 ∷ []) ∷ messages.FileStatus hash 0 [] ∷ messages.Accept ∷ piece ∷ [])
reads_so = (
  is_frame 0x4C (hash ++ zeros 16) (omega arith),
  greets,
  (
    is_frame 0x59 (hash ++ 1 ∷ 0 ∷ 0x61 ∷ []) (omega arith),
    tells_name,
    (
      is_frame 0x50 (hash ++ zeros 2) (omega arith),
      has_all,
      (
        is_frame 0x55 [] (omega arith),
        refl,
        (
          is_frame 0x46 (hash ++ zeros 4 ++ 3 ∷ 0 ∷ 0 ∷ 0 ∷ abc) (omega arith),
          sends,
          refl,
        ),
      ),
    ),
  ),
)

-- the stream serves the file
small_serves : Serves (flat_map spell frames) small abc false
unfolding positions
small_serves = record {
  frames = frames;
  hello = peer;
  name = 0x61 ∷ [];
  turns = (piece ∷ []) ∷ [];
  spelled = refl;
  read = reads_so;
  in_turn = (λ none. absurd (cc), (piece ∷ [], [], refl, (refl, refl, omega arith, omega arith, refl, refl), refl), used_up);
}

-- the talk over it ends with the whole file

abbrev session : Session
session = record { aim = small; place = place.Hello; offered = [] }

abbrev paused_at : Session
paused_at = record { aim = small; place = place.Pieces; offered = true ∷ [] }

abbrev acts : List Act
acts =
    Begins
    ∷ Sends (messages.Hello own_hello)
    ∷ Takes (messages.HelloAnswer peer)
    ∷ Sends (messages.NameRequest hash)
    ∷ Sends (messages.SetFile hash)
    ∷ Takes (messages.NameAnswer hash (0x61 ∷ []))
    ∷ Takes (messages.FileStatus hash 0 [])
    ∷ Asks (asks.Offer (true ∷ [])) (answers.Offer (Ok tt)) (Offer 0 (true ∷ []) ∷ [])
    ∷ Sends (messages.StartUpload hash)
    ∷ Takes messages.Accept
    ∷ Asks asks.Reserve (answers.Reserve (Ok (whole ∷ []))) (Reserve 0 (whole ∷ []) ∷ [])
    ∷ Sends (messages.RequestParts hash (whole ∷ []))
    ∷ Takes piece
    ∷ Asks (asks.Write 0 abc) (answers.Write (Ok (record { full = Some 0 }))) (Write 0 whole ∷ [])
    ∷ Asks asks.Commit (answers.Commit (Ok tt)) (Commit ∷ [])
    ∷ Asks (asks.Verify 0) (answers.Verify (Ok Verified)) (Verdict 0 hash ∷ [])
    ∷ Asks asks.Holds (answers.Holds false) []
    ∷ Asks asks.Reserve (answers.Reserve (Err NoBlock)) []
    ∷ Asks asks.Release answers.Release []
    ∷ Asks asks.Commit (answers.Commit (Ok tt)) []
    ∷ []

small_runs : Run (Begin session) acts (Paused paused_at)
small_runs = (tt, (refl, (tt, (refl, (refl, (tt, (tt, (refl, (refl, (tt, (refl, (refl, (tt, (refl, (refl, (refl, (refl, (refl, (refl, (refl, refl))))))))))))))))))))

abbrev behind : ℕ → Option (List ℕ)
behind k = Some (flat_map spell (drop k frames))

comes : (msg : PeerMsg) (front : Frame) (old new : Option (List ℕ)) → IsFrame front → message front ≡ Ok msg → old ≡ prepend_known (spell front) new → Comes msg old new
comes msg front old new is says first = record { frame = front; is_frame = is; says = says; first = first }

small_reads : Reads acts (behind 0) (Some [])
small_reads = (
  behind 1,
  comes (messages.HelloAnswer peer) (frame 0x4C (hash ++ zeros 16)) (behind 0) (behind 1) reads_so.0 greets refl,
  (
    behind 2,
    comes (messages.NameAnswer hash (0x61 ∷ [])) (frame 0x59 (hash ++ 1 ∷ 0 ∷ 0x61 ∷ [])) (behind 1) (behind 2) reads_so.2.0 tells_name refl,
    (
      behind 3,
      comes (messages.FileStatus hash 0 []) (frame 0x50 (hash ++ zeros 2)) (behind 2) (behind 3) reads_so.2.2.0 has_all refl,
      (
        behind 4,
        comes messages.Accept (frame 0x55 []) (behind 3) (behind 4) reads_so.2.2.2.0 refl refl,
        (
          behind 5,
          comes piece (frame 0x46 (hash ++ zeros 4 ++ 3 ∷ 0 ∷ 0 ∷ 0 ∷ abc)) (behind 4) (behind 5) reads_so.2.2.2.2.0 sends refl,
          refl,
        ),
      ),
    ),
  ),
)

abbrev last_log : List Event
last_log = Opened nothing ∷ Offer 0 (true ∷ []) ∷ Reserve 0 (whole ∷ []) ∷ Write 0 whole ∷ Commit ∷ Verdict 0 hash ∷ []

small_chained : Chained small 0 (Opened nothing ∷ []) acts last_log
unfolding positions
small_chained = ((refl, refl), (((refl, refl), refl), (((refl, refl), record { is = refl; exists = omega arith }), (refl, ((hash, (refl, refl), refl), ((refl, refl), (((inr refl, refl), tt), (inr refl, (refl, refl)))))))))

small_lays : LaysPieces (zeros 3) acts abc
unfolding step after_block after_blocks after md4
small_lays = (tt, zeros 3, refl, (tt, zeros 3, refl, (tt, abc, refl, (tt, abc, refl, ((refl, tt), abc, refl, (tt, abc, refl, (tt, abc, refl, (tt, abc, refl, (tt, abc, refl, refl)))))))))

small_ends : EndsWith (Paused paused_at) causes.NoBlock
small_ends = refl

small_is_whole : list_all (is_verified small last_log) (parts 3) ≡ true
small_is_whole = refl

-- the file has the link's hash
small_hash : ed2k abc ≡ hash
unfolding step after_block after_blocks after md4
small_hash = refl
