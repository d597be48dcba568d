-- A message that is written is read again.
use Rattle.std.proofs.Common.{◌≡◌, ℕ, suc, ◌^◌, ◌<◌, ◌≤◌, Bool, ◌&&◌, true, false, ltb, List, [], ◌∷◌, ◌++◌, length, Result, Ok, refl, sym, ap, ◌∙◌, append_assoc, arith}
use Rattle.std.specs.List.{flat_map, list_all, AllByRecursion}
use Rattle.std.proofs.lemmas.List.{append-nil}
use Rattle.std.proofs.lemmas.Bool.{le-ltb, ltb-true}
use Rattle.std.proofs.lemmas.List.Concat.{flat_map-cons}
use Rattle.byteorder.specs.Endian.{little_bytes}
use Rattle.ed2k_tags.specs.declared.tag.Tag.{Tag}
use Rattle.ed2k_tags.specs.declared.read.TheConstants.{TAG_LIMIT}
use Rattle.ed2k_tags.specs.Fields.{counted}
use Rattle.ed2k_tags.specs.FieldLaws.{number_again, bytes_again, bytes_whole, counted_whole, four_is, two_is}
use Rattle.ed2k_tags.specs.Laws.{IsTyped}
use Rattle.ed2k_tags.specs.TagLaws.{list_again}
use Rattle.ed2k_tags.specs.Written.{written_list}
use Rattle.ed2k_tags.specs.Spelling.{spell_tags, has_spelling}
use Rattle.search_expr.specs.Query.{Query}
use Rattle.search_expr.specs.Laws.{SpelledIsRead, WrittenIsSpelled}
use Rattle.search_expr.specs.Reading.{read_at}
use Rattle.search_expr.specs.Spelling as exprs
use Rattle.server_msgs.specs.declared.fault.MsgFault.{MsgFault}
use Rattle.server_msgs.specs.declared.msg.Endpoint.{Endpoint}
use Rattle.server_msgs.specs.declared.msg.FileItem.{FileItem}
use Rattle.server_msgs.specs.declared.msg.ServerMsg.TheVariants as msgs
use Rattle.server_msgs.specs.Lists.{each_from, file_at, files_at, endpoint_at, endpoints_at}
use Rattle.server_msgs.specs.Reading.{login, offer, search, sources, callback, server_list, results, status, callback_asked, text, id_change, found_sources}
use Rattle.server_msgs.specs.Request.{Login, ListRequest, Offer, Search, Disconnect, Sources, Callback, More, Other}
use Rattle.server_msgs.specs.Spelling.{spell_file, spell_files, fits_file, spell_endpoint, spell_endpoints, HasFewTags, AreFew, payload_of, answer_payload}
use Rattle.server_msgs.specs.Laws.{IsHash, IsTypedFile, IsTypedEndpoint, IsReadable, RequestIsRead, AnswerIsRead}

-- ---- lists

-- items that are each read again, whatever follows
each_again : {A : Type 0} (item : List ℕ → Result (A × List ℕ) MsgFault) (spell_item : A → List ℕ) (Is : A → Type 0)
    → ((x : A) (rest : List ℕ) → Is x → item (spell_item x ++ rest) ≡ Ok (x, rest))
    → (xs : List A) (rest : List ℕ) → AllByRecursion Is xs → each_from item (length xs) (flat_map spell_item xs ++ rest) ≡ Ok (xs, rest)
unfolding each_from
each_again item spell_item Is again [] rest each = refl
each_again item spell_item Is again (x ∷ xs) rest each =
    let whole : flat_map spell_item (x ∷ xs) ++ rest ≡ spell_item x ++ (flat_map spell_item xs ++ rest) = ap (λ (t : List ℕ). t ++ rest) (flat_map-cons spell_item x xs) ∙ append_assoc (spell_item x) (flat_map spell_item xs) rest in
    ap (each_from item (suc (length xs))) whole
    ∙ rw (again x (flat_map spell_item xs ++ rest) each.0, each_again item spell_item Is again xs rest each.1) refl

-- all that reading a file again takes
record IsWritten (file : FileItem) : Type 0 where
  typed : IsTypedFile file
  few : HasFewTags file
  fits : fits_file file ≡ true

both : (a b : Bool) → (a && b) ≡ true → (a ≡ true) × (b ≡ true)
both true b e = (refl, e)
both false b e = absurd cc

are_written : (files : List FileItem) → AllByRecursion IsTypedFile files → AllByRecursion HasFewTags files → list_all fits_file files ≡ true → AllByRecursion IsWritten files
are_written [] typed few fits = typed
are_written (file ∷ files) typed few fits =
    let parts = both (fits_file file) (list_all fits_file files) fits in
    (record { typed = typed.0; few = few.0; fits = parts.0 }, are_written files typed.1 few.1 parts.1)

file_again : (end : ℕ) (file : FileItem) (rest : List ℕ) → IsWritten file → file_at end (spell_file file ++ rest) ≡ Ok (file, rest)
unfolding file_at
file_again end file rest w =
    let regrouped : spell_file file ++ rest ≡ file.hash ++ (little_bytes 4 file.id ++ (little_bytes 2 file.port ++ (spell_tags file.tags ++ rest))) = simp append_assoc in
    ap (file_at end) regrouped
    ∙ rw (
      bytes_again 16 file.hash (little_bytes 4 file.id ++ (little_bytes 2 file.port ++ (spell_tags file.tags ++ rest))) w.typed.hash,
      number_again 4 file.id (little_bytes 2 file.port ++ (spell_tags file.tags ++ rest)) w.typed.id,
      number_again 2 file.port (spell_tags file.tags ++ rest) w.typed.port,
      list_again end file.tags (spell_tags file.tags) rest (written_list file.tags w.few w.typed.tags w.fits),
    ) refl

files_again : (files : List FileItem) → AllByRecursion IsTypedFile files → AreFew files → list_all fits_file files ≡ true → files_at (spell_files files) ≡ Ok files
unfolding files_at
files_again files typed few fits =
    let within : ltb 10000 (length files) ≡ false = le-ltb _ _ few.0 in
    let end : ℕ = length (spell_files files) in
    let nothing : flat_map spell_file files ≡ flat_map spell_file files ++ [] = sym (append-nil (flat_map spell_file files)) in
    let each : each_from (file_at end) (length files) (flat_map spell_file files) ≡ Ok (files, []) =
    ap (each_from (file_at end) (length files)) nothing ∙ each_again (file_at end) spell_file IsWritten (file_again end) files [] (are_written files typed few.1 fits) in
    rw (number_again 4 (length files) (flat_map spell_file files) (omega (arith, few.0)), within, each) refl

endpoint_again : (endpoint : Endpoint) (rest : List ℕ) → IsTypedEndpoint endpoint → endpoint_at (spell_endpoint endpoint ++ rest) ≡ Ok (endpoint, rest)
unfolding endpoint_at
endpoint_again endpoint rest typed =
    ap endpoint_at (append_assoc (little_bytes 4 endpoint.id) (little_bytes 2 endpoint.port) rest)
    ∙ rw (number_again 4 endpoint.id (little_bytes 2 endpoint.port ++ rest) typed.0, number_again 2 endpoint.port rest typed.1) refl

endpoints_again : (list : List Endpoint) → AllByRecursion IsTypedEndpoint list → length list < 256 → endpoints_at (spell_endpoints list) ≡ Ok list
unfolding endpoints_at
endpoints_again list typed few =
    let nothing : flat_map spell_endpoint list ≡ flat_map spell_endpoint list ++ [] = sym (append-nil (flat_map spell_endpoint list)) in
    let each : each_from endpoint_at (length list) (flat_map spell_endpoint list) ≡ Ok (list, []) =
    ap (each_from endpoint_at (length list)) nothing ∙ each_again endpoint_at spell_endpoint IsTypedEndpoint endpoint_again list [] typed in
    rw (number_again 1 (length list) (flat_map spell_endpoint list) few, each) refl

-- ---- from a client

login_again : (user : List ℕ) (id port : ℕ) (tags : List Tag) → IsHash user → id < 2 ^ 32 → port < 2 ^ 16 → AllByRecursion IsTyped tags → length tags ≤ TAG_LIMIT → list_all has_spelling tags ≡ true
    → login (user ++ little_bytes 4 id ++ little_bytes 2 port ++ spell_tags tags) ≡ Ok (Login user id port tags)
unfolding login
login_again user id port tags th ti tp tt few fits =
    let payload : List ℕ = user ++ little_bytes 4 id ++ little_bytes 2 port ++ spell_tags tags in
    let regrouped : user ++ little_bytes 4 id ++ little_bytes 2 port ++ spell_tags tags ≡ user ++ (little_bytes 4 id ++ (little_bytes 2 port ++ (spell_tags tags ++ []))) = simp (append_assoc, append-nil) in
    ap login regrouped
    ∙ rw (
      bytes_again 16 user (little_bytes 4 id ++ (little_bytes 2 port ++ (spell_tags tags ++ []))) th,
      number_again 4 id (little_bytes 2 port ++ (spell_tags tags ++ [])) ti,
      number_again 2 port (spell_tags tags ++ []) tp,
      list_again (length (user ++ (little_bytes 4 id ++ (little_bytes 2 port ++ (spell_tags tags ++ []))))) tags (spell_tags tags) [] (written_list tags few tt fits),
    ) refl

offer_again : (files : List FileItem) → AllByRecursion IsTypedFile files → AreFew files → list_all fits_file files ≡ true → offer (spell_files files) ≡ Ok (Offer files)
unfolding offer
offer_again files typed few fits = rw (files_again files typed few fits) refl

search_again : SpelledIsRead → WrittenIsSpelled → (expr : Query) → IsReadable expr → exprs.texts_fit expr ≡ true → search (exprs.spell expr) ≡ Ok (Search expr)
unfolding search
search_again spelled written expr readable fits =
    let found : read_at (exprs.spell expr) ≡ Ok (expr, length (exprs.spell expr)) = ap read_at (sym (append-nil (exprs.spell expr))) ∙ spelled expr (exprs.spell expr) [] (written expr readable.typed fits) readable.shallow readable.few in
    rw found refl

sources_again : (hash : List ℕ) → IsHash hash → sources hash ≡ Ok (Sources hash)
unfolding sources
sources_again hash th = rw (bytes_whole 16 hash th) refl

callback_again : (id : ℕ) → id < 2 ^ 32 → callback (little_bytes 4 id) ≡ Ok (Callback id)
unfolding callback
callback_again id lt = rw (four_is id lt) refl

pub request_again : SpelledIsRead → WrittenIsSpelled → RequestIsRead
unfolding payload_of
request_again spelled written (Login user id port tags) t form fits = login_again user id port tags t.0 t.1 t.2 t.3 form fits
request_again spelled written ListRequest t form fits = refl
request_again spelled written (Offer files) t form fits = offer_again files t form fits
request_again spelled written (Search expr) t form fits = search_again spelled written expr t fits
request_again spelled written Disconnect t form fits = refl
request_again spelled written (Sources hash) t form fits = sources_again hash t
request_again spelled written (Callback id) t form fits = callback_again id t
request_again spelled written More t form fits = refl
request_again spelled written (Other protocol opcode) t form fits = form.1

-- ---- from a server

list_read_again : (servers : List Endpoint) → AllByRecursion IsTypedEndpoint servers → length servers < 256 → server_list (spell_endpoints servers) ≡ Ok (msgs.List servers)
unfolding server_list
list_read_again servers typed few = rw (endpoints_again servers typed few) refl

results_again : (files : List FileItem) → AllByRecursion IsTypedFile files → AreFew files → list_all fits_file files ≡ true → results (spell_files files) ≡ Ok (msgs.Results files)
unfolding results
results_again files typed few fits = rw (files_again files typed few fits) refl

status_again : (users files : ℕ) → users < 2 ^ 32 → files < 2 ^ 32 → status (little_bytes 4 users ++ little_bytes 4 files) ≡ Ok (msgs.Status users files)
unfolding status
status_again users files tu tf = rw (four_is users tu, four_is files tf) refl

callback_asked_again : (ip port : ℕ) → ip < 2 ^ 32 → port < 2 ^ 16 → callback_asked (little_bytes 4 ip ++ little_bytes 2 port) ≡ Ok (msgs.CallbackAsked ip port)
unfolding callback_asked
callback_asked_again ip port ti tp = rw (four_is ip ti, two_is port tp) refl

text_again : (shown : List ℕ) → length shown < 2 ^ 16 → text (counted 2 shown) ≡ Ok (msgs.Text shown)
unfolding text
text_again shown lt = rw (counted_whole 2 shown lt) refl

id_change_again : (id : ℕ) → id < 2 ^ 32 → id_change (little_bytes 4 id ++ little_bytes 4 0) ≡ Ok (msgs.IdChange id)
unfolding id_change
id_change_again id lt = rw (four_is id lt) refl

found_sources_again : (hash : List ℕ) (list : List Endpoint) → IsHash hash → AllByRecursion IsTypedEndpoint list → length list < 256 → found_sources (hash ++ spell_endpoints list) ≡ Ok (msgs.FoundSources hash list)
unfolding found_sources
found_sources_again hash list th typed few = rw (bytes_again 16 hash (spell_endpoints list) th, endpoints_again list typed few) refl

pub answer_again : AnswerIsRead
unfolding answer_payload
answer_again (msgs.List servers) t form fits = list_read_again servers t (ltb-true _ _ fits)
answer_again (msgs.Results files) t form fits = results_again files t form fits
answer_again (msgs.Status users files) t form fits = status_again users files t.0 t.1
answer_again (msgs.CallbackAsked ip port) t form fits = callback_asked_again ip port t.0 t.1
answer_again msgs.CallbackFailed t form fits = refl
answer_again (msgs.Text shown) t form fits = text_again shown (ltb-true _ _ fits)
answer_again (msgs.IdChange id) t form fits = id_change_again id t
answer_again (msgs.FoundSources hash list) t form fits = found_sources_again hash list t.0 t.1 (ltb-true _ _ fits)
answer_again (msgs.Other protocol opcode) t form fits = form.1
