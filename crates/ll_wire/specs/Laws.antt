-- The laws of heads and of responses.
use Rattle.std.specs.Prelude.{◌≡◌, ℕ, ◌<◌, ◌≤◌, ◌⊎◌, List, ◌++◌, Bool, true, false, length, take}
use Rattle.httparse.specs.Grammar.{RequestHead, ReadsRequest, HasNoRequest, NeverHasRequest, MayBecomeRequest, EndsInTarget}
use Rattle.ll_wire.specs.declared.fault.HeadFault.TheVariants.{BadHead}
use Rattle.ll_wire.specs.Response.{is_media_response, media_message, message}
use Rattle.ll_wire.specs.Heads.{RequestValue, Unfinished, Whole, Fault, most_bytes, unfinished, judged, head_of}

-- bytes that follow change what stands at the front only if that is unfinished
abbrev pub HeadStays : Type 0
HeadStays = (bytes more : List ℕ) → (head_of bytes ≡ Unfinished) ⊎ (head_of (bytes ++ more) ≡ head_of bytes)

-- a whole head isn't empty, and lies in the bytes
abbrev pub WholeWithin : Type 0
WholeWithin = (bytes : List ℕ) (r : RequestValue) → head_of bytes ≡ Whole r → (0 < r.len) × (r.len ≤ length bytes)

-- the bytes that decide
abbrev pub first_bytes : List ℕ → List ℕ
first_bytes bytes = take most_bytes bytes

-- These three give the value of any bytes by the grammar alone. If the first bytes begin with a head, it is judged
abbrev pub HeadsAreJudged : Type 0
HeadsAreJudged = (bytes : List ℕ) (h : RequestHead) (rest : List ℕ) → ReadsRequest (first_bytes bytes) h rest → head_of bytes ≡ judged h

-- if they hold no whole head, but more bytes can make one or they end in a target, they are unfinished
abbrev pub PartsAreUnfinished : Type 0
PartsAreUnfinished = (bytes : List ℕ) → HasNoRequest (first_bytes bytes) → MayBecomeRequest (first_bytes bytes) → head_of bytes ≡ unfinished bytes

-- otherwise they are BadHead
abbrev pub OthersAreBad : Type 0
OthersAreBad = (bytes : List ℕ) → NeverHasRequest (first_bytes bytes) → ¬ (EndsInTarget (first_bytes bytes)) → head_of bytes ≡ Fault BadHead

-- the first bytes of a response show whether it is one with media
abbrev pub MediaIsTold : Type 0
MediaIsTold = (bytes : List ℕ) (keep : Bool) → is_media_response (media_message bytes keep) ≡ true

abbrev pub OthersAreTold : Type 0
OthersAreTold = (status : ℕ) (body : List ℕ) (keep : Bool) → is_media_response (message status body keep) ≡ false
