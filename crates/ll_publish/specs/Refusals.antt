-- Why a publisher's line is refused, and the lines that answer a publisher.
use Rattle.std.specs.Prelude.{ℕ, Bool, true, false, List, [], ◌++◌, Result, Ok, Err, codes, decimal}
use Rattle.ll_item.specs.declared.item.ItemFault.{ItemFault}
use Rattle.ll_item.specs.declared.item.ItemFault.TheVariants as item
use Rattle.ll_rendition.specs.declared.fault.PublishFault.{PublishFault}
use Rattle.ll_rendition.specs.declared.fault.PublishFault.TheVariants as fault
use Rattle.ll_publish.specs.declared.refusal.Refusal.{Refusal}
use Rattle.ll_publish.specs.declared.refusal.Refusal.TheVariants.{Rule, BadLine, UnknownChannel, LineTooLong, MediaTooLong, NotAllowed}
use Rattle.ll_publish.specs.declared.success.Success.{Success}
use Rattle.ll_publish.specs.declared.success.Success.TheVariants.{Accepted, NotKept, Standing, Opened}
use Rattle.ll_verdict.specs.declared.standing.Standing as verdict

abbrev pub out_of_memory : Refusal
out_of_memory = Rule fault.Memory

-- the refusal of a line that doesn't parse as an item
abbrev pub item_refusal : ItemFault → Refusal
item_refusal item.BadLine = BadLine
item_refusal item.NoRendition = Rule fault.NoRendition
item_refusal item.BadAttribute = Rule fault.BadAttribute
item_refusal item.Memory = Rule fault.Memory

abbrev pub rule_code : PublishFault → ℕ
rule_code fault.NoRendition = 1
rule_code fault.Ended = 2
rule_code fault.BadDuration = 3
rule_code fault.TooLong = 4
rule_code fault.OpenSegment = 5
rule_code fault.CountEnd = 6
rule_code fault.TimeEnd = 7
rule_code fault.IdTaken = 8
rule_code fault.BadAttribute = 9
rule_code fault.IdUnknown = 10
rule_code fault.RecordFull = 11
rule_code fault.Memory = 12
rule_code fault.NoSegment = 17
rule_code fault.TimeBack = 18

abbrev pub refusal_code : Refusal → ℕ
refusal_code (Rule fault) = rule_code fault
refusal_code BadLine = 13
refusal_code UnknownChannel = 14
refusal_code LineTooLong = 15
refusal_code MediaTooLong = 16
refusal_code NotAllowed = 19

abbrev pub rule_name : PublishFault → List ℕ
rule_name fault.NoRendition = codes "NoRendition"
rule_name fault.Ended = codes "Ended"
rule_name fault.BadDuration = codes "BadDuration"
rule_name fault.TooLong = codes "TooLong"
rule_name fault.OpenSegment = codes "OpenSegment"
rule_name fault.CountEnd = codes "CountEnd"
rule_name fault.TimeEnd = codes "TimeEnd"
rule_name fault.IdTaken = codes "IdTaken"
rule_name fault.BadAttribute = codes "BadAttribute"
rule_name fault.IdUnknown = codes "IdUnknown"
rule_name fault.RecordFull = codes "RecordFull"
rule_name fault.Memory = codes "Memory"
rule_name fault.NoSegment = codes "NoSegment"
rule_name fault.TimeBack = codes "TimeBack"

abbrev pub refusal_name : Refusal → List ℕ
refusal_name (Rule fault) = rule_name fault
refusal_name BadLine = codes "BadLine"
refusal_name UnknownChannel = codes "UnknownChannel"
refusal_name LineTooLong = codes "LineTooLong"
refusal_name MediaTooLong = codes "MediaTooLong"
refusal_name NotAllowed = codes "NotAllowed"

-- the line that refuses, with a code and a name
unfoldable pub refusal_line : ℕ → List ℕ → List ℕ
refusal_line code name = codes "no " ++ (decimal code ++ (codes " " ++ (name ++ codes "\n")))

-- the line that accepts an item, with which its channel has `count` items
unfoldable pub ok_line : ℕ → List ℕ
ok_line count = codes "ok " ++ (decimal count ++ codes "\n")

-- the line that answers an item which the channel has accepted, but which isn't in the spool
abbrev pub not_kept_line : List ℕ
not_kept_line = refusal_line 20 (codes "NotKept")

-- the line that refuses a publisher's line
abbrev pub no_line : Refusal → List ℕ
no_line r = refusal_line (refusal_code r) (refusal_name r)

-- the last word of the line below, if the rendition has ended
abbrev pub ended_word : Bool → List ℕ
ended_word false = []
ended_word true = codes " ended"

-- the line that says where a rendition stands: the channel's count of items; the segment number and the index of the next part; how long all
-- parts last, in microseconds; and when the next part begins, in milliseconds
unfoldable pub at_line : verdict.Standing → List ℕ
at_line s =
    codes "at " ++ (decimal s.count ++ (codes " " ++ (decimal s.number ++ (codes " " ++ (decimal s.index
    ++ (codes " " ++ (decimal s.end_time ++ (codes " " ++ (decimal s.time ++ (ended_word s.ended ++ codes "\n"))))))))))

-- the line that answers a publisher's line
abbrev pub reply_line : Result Success Refusal → List ℕ
reply_line (Ok (Accepted count)) = ok_line count
reply_line (Ok (NotKept count)) = not_kept_line
reply_line (Ok (Standing standing)) = at_line standing
reply_line (Ok Opened) = ok_line 0
reply_line (Err reason) = no_line reason
