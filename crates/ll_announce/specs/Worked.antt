-- A worked example: a rendition that stands amid a segment, with 1.5 seconds of parts; then a movie that begins at 9 s, whose
-- initialization section has two bytes, one of which is LF, with two parts, a gap, and another movie, which begins before the time that
-- the gap has led to.
use Rattle.std.specs.Prelude.{◌≡◌, ℕ, List, [], ◌∷◌, ◌++◌, true, false, Some, None, codes, map}
use Rattle.ll_mp4.specs.declared.fault.StreamFault.TheVariants as fault
use Rattle.ll_parts.specs.declared.pieces.Piece.{Piece}
use Rattle.ll_parts.specs.declared.pieces.Piece.TheVariants.{Begin, Init, Media, Finish, Break}
use Rattle.ll_announce.specs.Courses.{course_of, messages}
use Rattle.ll_announce.specs.Messages.{MessageValue, Names}
use Rattle.ll_announce.specs.declared.course.Course.{Course}

abbrev pub names : Names
names = record { channel = codes "cam"; rendition = codes "hi" }

abbrev pub pieces : List Piece
pieces =
    Begin (7 ∷ 10 ∷ []) ∷ Media (record { bytes = 8 ∷ []; duration = 500000; independent = true; finishes = false })
    ∷ Media (record { bytes = []; duration = 33333; independent = false; finishes = true }) ∷ Break (Some 600000) ∷ Init [] ∷ Begin [] ∷ Finish ∷ Break None ∷ []

abbrev pub start : Course
start = course_of (record { count = 3; place = record { number = 4; index = 2; end = 1500000; ended = false }; time = 5000 })

-- a rendition without parts, whose time is `time` milliseconds
abbrev pub fresh : ℕ → Course
fresh time = course_of (record { count = 0; place = record { number = 0; index = 0; end = 0; ended = false }; time = time })

abbrev pub lines : List (List ℕ)
lines =
    codes "cam finish hi\n" ∷ codes "cam break hi 9000\n" ∷ (codes "cam init hi 2\n" ++ (7 ∷ 10 ∷ 10 ∷ [])) ∷ (codes "cam part hi 500000 i 1\n" ++ (8 ∷ 10 ∷ []))
    ∷ codes "cam part hi 33333 f 0\n\n" ∷ codes "cam break hi 9600\n" ∷ codes "cam init hi 0\n\n" ∷ codes "cam break hi\n" ∷ codes "cam init hi 0\n\n"
    ∷ codes "cam finish hi\n" ∷ codes "cam break hi\n" ∷ []

abbrev pub texts_of : List MessageValue → List (List ℕ)
texts_of messages = map (λ (m : MessageValue). m.bytes) messages

-- with the rendition's end, without it, and with a fault; then a rendition that is a part behind the clock, more than that, or ahead of it
abbrev pub WorkedMessages : Type 0
WorkedMessages =
    (texts_of (messages names 500000 true start (9000 ∷ 9500 ∷ []) (record { pieces = pieces; fault = None })) ≡ lines ++ codes "cam end hi\n" ∷ [])
    × (texts_of (messages names 500000 false start (9000 ∷ 9500 ∷ []) (record { pieces = pieces; fault = None })) ≡ lines)
    × (texts_of (messages names 500000 true start (9000 ∷ 9500 ∷ []) (record { pieces = pieces; fault = Some fault.Cut })) ≡ lines)
    × (texts_of (messages names 500000 false (fresh 2000) (2500 ∷ []) (record { pieces = Begin [] ∷ []; fault = None })) ≡ codes "cam init hi 0\n\n" ∷ [])
    × (texts_of (messages names 500000 false (fresh 2000) (2501 ∷ []) (record { pieces = Begin [] ∷ []; fault = None })) ≡ codes "cam break hi 2501\n" ∷ codes "cam init hi 0\n\n" ∷ [])
    × (texts_of (messages names 500000 false (fresh 2000) (1000 ∷ []) (record { pieces = Begin [] ∷ []; fault = None })) ≡ codes "cam init hi 0\n\n" ∷ [])
