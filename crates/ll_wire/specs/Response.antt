-- The response with an answer, byte for byte (RFC 9112, section 4).
use Rattle.std.specs.Prelude.{ℕ, List, [], ◌∷◌, ◌++◌, Bool, true, false, ◌==◌, if◌then◌else◌, codes, decimal, length, unwrap_or}
use Rattle.std.specs.List.{starts_with}
use Rattle.http.specs.StatusCode.{code_digits, reason_phrase}
use Rattle.ll_page.specs.Page.{page_text}
use Rattle.ll_directive.specs.Targets.{fault_name}
use Rattle.ll_directive.specs.Targets as target
use Rattle.ll_verdict.specs.Names.{ask_fault_name, reply_name, reply_status}
use Rattle.ll_verdict.specs.declared.reply.Reply.{Reply}
use Rattle.ll_verdict.specs.declared.reply.Reply.TheVariants.{Text, Media}
use Rattle.ll_wire.specs.declared.fault.HeadFault.{HeadFault}
use Rattle.ll_wire.specs.declared.fault.HeadFault.TheVariants.{BadHead, HeadTooLarge, BadHost, BadMethod, BadBody}
use Rattle.ll_wire.specs.declared.answer.Answer.{Answer}
use Rattle.ll_wire.specs.declared.answer.Answer.TheVariants as answer

-- ---- refusals

abbrev pub head_status : HeadFault → ℕ
head_status BadMethod = 405
head_status HeadTooLarge = 431
head_status other = 400

abbrev pub head_fault_name : HeadFault → List ℕ
head_fault_name BadHead = codes "BadHead"
head_fault_name HeadTooLarge = codes "HeadTooLarge"
head_fault_name BadHost = codes "BadHost"
head_fault_name BadMethod = codes "BadMethod"
head_fault_name BadBody = codes "BadBody"

-- ---- what an answer is made of

abbrev pub status_of : Answer → ℕ
status_of (answer.Reply reply) = reply_status reply
status_of (answer.Unavailable reason) = 503
status_of (answer.Target fault) = target.status_of fault
status_of (answer.Head fault) = head_status fault

-- the body of a refusal: its name and LF
abbrev pub named : List ℕ → List ℕ
named name = name ++ 10 ∷ []

abbrev pub reply_body : Reply → List ℕ
reply_body (Text page) = page_text page
reply_body (Media piece) = piece.bytes
reply_body other = named (reply_name other)

-- the body of an answer: the playlist or the media, or the name of the refusal and LF
abbrev pub body_of : Answer → List ℕ
body_of (answer.Reply reply) = reply_body reply
body_of (answer.Unavailable reason) = named (ask_fault_name reason)
body_of (answer.Target fault) = named (fault_name fault)
body_of (answer.Head fault) = named (head_fault_name fault)

-- ---- the lines of a response

-- the reason phrase of a status, empty if it has none
unfoldable pub reason : ℕ → List ℕ
reason status = unwrap_or (reason_phrase status) []

-- a status, a space and its reason phrase
abbrev pub status_words : ℕ → List ℕ
status_words status = code_digits status ++ (codes " " ++ reason status)

abbrev pub content_type : ℕ → List ℕ
content_type status = if status == 200 then codes "application/vnd.apple.mpegurl" else codes "text/plain"

-- the methods that are allowed, if one was refused
abbrev pub allow_line : ℕ → List ℕ
allow_line status = if status == 405 then codes "Allow: GET\r\n" else []

abbrev pub kept_word : Bool → List ℕ
kept_word true = codes "keep-alive"
kept_word false = codes "close"

-- the status line, Content-Type and Content-Length, each line ended by CR LF
unfoldable pub first_lines : List ℕ → List ℕ → ℕ → List ℕ
first_lines words kind length =
    codes "HTTP/1.1 " ++ (words ++ (codes "\r\nContent-Type: " ++ (kind ++ (codes "\r\nContent-Length: " ++ (decimal length ++ codes "\r\n")))))

-- Cache-Control, Allow if there is one, Connection, and the empty line
unfoldable pub last_lines : List ℕ → List ℕ → List ℕ → List ℕ
last_lines caching allow kept = codes "Cache-Control: " ++ (caching ++ (codes "\r\n" ++ (allow ++ (codes "Connection: " ++ (kept ++ codes "\r\n\r\n")))))

-- ---- a response without media, which caches have to validate before each reuse

-- all lines before a body of `length` bytes
abbrev pub lines : ℕ → ℕ → Bool → List ℕ
lines status length keep = first_lines (status_words status) (content_type status) length ++ last_lines (codes "no-cache") (allow_line status) (kept_word keep)

-- the response with a status and a body
abbrev pub message : ℕ → List ℕ → Bool → List ℕ
message status body keep = lines status (length body) keep ++ body

-- ---- a response with media, which caches may reuse for 60 seconds

-- all lines before `length` bytes of media
abbrev pub media_lines : ℕ → Bool → List ℕ
media_lines length keep = first_lines (status_words 200) (codes "video/mp4") length ++ last_lines (codes "max-age=60") [] (kept_word keep)

-- the response with media
abbrev pub media_message : List ℕ → Bool → List ℕ
media_message bytes keep = media_lines (length bytes) keep ++ bytes

-- a response is one with media if its first two lines say so
unfoldable pub is_media_response : List ℕ → Bool
is_media_response bytes = starts_with (λ a b. a == b) bytes (codes "HTTP/1.1 200 OK\r\nContent-Type: video/mp4\r\n")

-- ---- any response

abbrev pub reply_bytes : Reply → Bool → List ℕ
reply_bytes (Media piece) keep = media_message piece.bytes keep
reply_bytes reply keep = message (reply_status reply) (reply_body reply) keep

-- the bytes of the response with an answer
abbrev pub response_bytes : Answer → Bool → List ℕ
response_bytes (answer.Reply reply) keep = reply_bytes reply keep
response_bytes other keep = message (status_of other) (body_of other) keep
