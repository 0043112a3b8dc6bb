-- The lines that answer the lines of a script, except those of publishers, which are answered as in `ll_publish`.
use Rattle.std.specs.Prelude.{ℕ, List, [], ◌∷◌, ◌++◌, Bool, true, false, codes, decimal, length}
use Rattle.hex.specs.Hex.{encode_lower}
use Rattle.ll_directive.specs.Targets.{status_of, fault_name}
use Rattle.ll_directive.specs.declared.fault.TargetFault.{TargetFault}
use Rattle.ll_page.specs.Page.{page_text}
use Rattle.ll_publish.specs.Refusals.{refusal_line}
use Rattle.ll_verdict.specs.declared.reply.Reply.{Reply}
use Rattle.ll_verdict.specs.declared.reply.Reply.TheVariants as reply
use Rattle.ll_verdict.specs.Names.{ask_fault_name, clock_fault_code, clock_fault_name, reply_name, reply_status}
use Rattle.ll_verdict.specs.declared.fault.AskFault.{AskFault}
use Rattle.ll_wire.specs.Response.{is_media_response}
use Rattle.ll_verdict.specs.declared.fault.ClockFault.{ClockFault}

-- ---- the clock

-- a reading of the clock is refused
abbrev pub clock_line : ClockFault → List ℕ
clock_line fault = refusal_line (clock_fault_code fault) (clock_fault_name fault)

-- ---- requests

-- a request gets a playlist or media of `length` bytes, as spelled by `text`
unfoldable pub text_reply : ℕ → ℕ → List ℕ → List ℕ
text_reply id length text = codes "reply " ++ (decimal id ++ (codes " 200 " ++ (decimal length ++ (codes "\n" ++ text))))

-- media as a text: two hexadecimal digits for each byte, and LF
abbrev pub media_text : List ℕ → List ℕ
media_text bytes = encode_lower bytes ++ 10 ∷ []

-- a request gets a status and a name only, which say why it gets nothing else
unfoldable pub named_reply : ℕ → ℕ → List ℕ → List ℕ
named_reply id status name = codes "reply " ++ (decimal id ++ (codes " " ++ (decimal status ++ (codes " " ++ (name ++ codes "\n")))))

-- a request gets the reply of its channel
abbrev pub reply_lines : ℕ → Reply → List ℕ
reply_lines id (reply.Text page) = text_reply id (length (page_text page)) (page_text page)
reply_lines id (reply.Media piece) = text_reply id (length piece.bytes) (media_text piece.bytes)
reply_lines id other = named_reply id (reply_status other) (reply_name other)

-- the target of a request is refused
abbrev pub fault_line : ℕ → TargetFault → List ℕ
fault_line id f = named_reply id (status_of f) (fault_name f)

-- a channel can't take a request now, so it is no event
abbrev pub unasked_line : ℕ → AskFault → List ℕ
unasked_line id fault = named_reply id 503 (ask_fault_name fault)

-- ---- connections

abbrev pub ended_by : Bool → List ℕ → List ℕ
ended_by true bytes = bytes ++ 10 ∷ []
ended_by false bytes = bytes

-- a response, and LF after media; all other responses end in LF
abbrev pub ended : List ℕ → List ℕ
ended bytes = ended_by (is_media_response bytes) bytes

-- an answer of connection `number`, after its length in bytes
unfoldable pub sent_line : ℕ → List ℕ → List ℕ
sent_line number bytes = codes "sent " ++ (decimal number ++ (codes " " ++ (decimal (length bytes) ++ (codes "\n" ++ ended bytes))))

-- connection `number` has shut by itself
unfoldable pub shut_line : ℕ → List ℕ
shut_line number = codes "shut " ++ (decimal number ++ codes "\n")
