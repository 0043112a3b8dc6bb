-- Every response has a byte, and its first bytes show whether it is one with media.
use Rattle.std.proofs.Common.{◌≡◌, ◌≢◌, ℕ, ◌<◌, ◌+◌, ◌/◌, ◌%◌, ◌==◌, ◌&&◌, List, [], ◌∷◌, ◌++◌, Bool, true, false, arith, codes, if◌then◌else◌, length, length-append, refl, subst, sym}
use borrow.Author.Tests.{eqb-true, false-eqb}
use Rattle.http.specs.StatusCode.{IsStatusCode}
use Rattle.ll_directive.specs.Targets as target
use Rattle.ll_directive.specs.declared.fault.TargetFault.{TargetFault}
use Rattle.ll_directive.specs.declared.fault.TargetFault.TheVariants as target_fault
use Rattle.ll_verdict.specs.Names.{reply_status}
use Rattle.ll_verdict.specs.declared.reply.Reply.{Reply}
use Rattle.ll_verdict.specs.declared.reply.Reply.TheVariants as now
use Rattle.ll_wire.specs.Response.{allow_line, body_of, content_type, first_lines, is_media_response, kept_word, last_lines, message, reason, reply_body, reply_bytes, response_bytes, status_of, status_words}
use Rattle.ll_wire.specs.Laws.{MediaIsTold, OthersAreTold}
use Rattle.ll_wire.specs.declared.answer.Answer.{Answer}
use Rattle.ll_wire.specs.declared.answer.Answer.TheVariants as answer

starts : (words kind : List ℕ) (n : ℕ) → 0 < length (first_lines words kind n)
unfolding first_lines
starts words kind n = omega arith

longer : (xs ys : List ℕ) → 0 < length xs → 0 < length (xs ++ ys)
longer xs ys some = omega (arith, length-append xs ys, some)

begins : (words kind : List ℕ) (n : ℕ) (last body : List ℕ) → 0 < length ((first_lines words kind n ++ last) ++ body)
begins words kind n last body = longer (first_lines words kind n ++ last) body (longer (first_lines words kind n) last (starts words kind n))

of_message : (status : ℕ) (body : List ℕ) (keep : Bool) → 0 < length (message status body keep)
of_message status body keep =
    begins (status_words status) (content_type status) (length body) (last_lines (codes "no-cache") (allow_line status) (kept_word keep)) body

of_reply : (reply : Reply) (keep : Bool) → 0 < length (reply_bytes reply keep)
of_reply (now.Media piece) keep =
    begins (status_words 200) (codes "video/mp4") (length piece.bytes) (last_lines (codes "max-age=60") [] (kept_word keep)) piece.bytes
of_reply (now.Text page) keep = of_message 200 (reply_body (now.Text page)) keep
of_reply now.NotFound keep = of_message 404 (reply_body now.NotFound) keep
of_reply now.TooFar keep = of_message 400 (reply_body now.TooFar) keep
of_reply now.Busy keep = of_message 503 (reply_body now.Busy) keep
of_reply now.Timeout keep = of_message 503 (reply_body now.Timeout) keep

pub responds : (a : Answer) (keep : Bool) → 0 < length (response_bytes a keep)
responds (answer.Reply reply) keep = of_reply reply keep
responds (answer.Unavailable reason) keep = of_message 503 (body_of (answer.Unavailable reason)) keep
responds (answer.Target fault) keep = of_message (status_of (answer.Target fault)) (body_of (answer.Target fault)) keep
responds (answer.Head fault) keep = of_message (status_of (answer.Head fault)) (body_of (answer.Head fault)) keep

-- ---- statuses

-- the status of each answer has three digits
pub reply-code : (reply : Reply) → IsStatusCode (reply_status reply)
reply-code (now.Text page) = (omega arith, omega arith)
reply-code (now.Media piece) = (omega arith, omega arith)
reply-code now.NotFound = (omega arith, omega arith)
reply-code now.TooFar = (omega arith, omega arith)
reply-code now.Busy = (omega arith, omega arith)
reply-code now.Timeout = (omega arith, omega arith)

pub target-code : (fault : TargetFault) → IsStatusCode (target.status_of fault)
target-code target_fault.NotFound = (omega arith, omega arith)
target-code target_fault.Memory = (omega arith, omega arith)
target-code other = (omega arith, omega arith)

-- ---- media

pub media-is-told : MediaIsTold
unfolding first_lines is_media_response reason
media-is-told bytes keep = refl

-- a playlist's type isn't that of media, whatever follows
playlist-told : (n : ℕ) (last body : List ℕ) → is_media_response ((first_lines (status_words 200) (codes "application/vnd.apple.mpegurl") n ++ last) ++ body) ≡ false
unfolding first_lines is_media_response reason
playlist-told n last body = refl

-- other digits aren't those of 200, whatever follows
digits-told : (a b c : ℕ) (words kind : List ℕ) (n : ℕ) (last body : List ℕ) (x y z : Bool) → (50 == a) ≡ x → (48 == b) ≡ y → (48 == c) ≡ z → (x && y && z) ≡ false
    → is_media_response ((first_lines (a ∷ b ∷ c ∷ words) kind n ++ last) ++ body) ≡ false
unfolding first_lines is_media_response
digits-told a b c words kind n last body false y z e f g none = rw e refl
digits-told a b c words kind n last body true false z e f g none = rw (e, f) refl
digits-told a b c words kind n last body true true false e f g none = rw (e, f, g) refl
digits-told a b c words kind n last body true true true e f g none = absurd (cc)

-- another status has other digits
other-digits : (status : ℕ) → status ≢ 200 → (x y z : Bool) → (50 == 48 + status / 100) ≡ x → (48 == 48 + status / 10 % 10) ≡ y → (48 == 48 + status % 10) ≡ z
    → (x && y && z) ≡ false
other-digits status other false y z e f g = refl
other-digits status other true false z e f g = refl
other-digits status other true true false e f g = refl
other-digits status other true true true e f g =
    let hundreds = eqb-true 50 (48 + status / 100) e in
    let tens = eqb-true 48 (48 + status / 10 % 10) f in
    let ones = eqb-true 48 (48 + status % 10) g in
    absurd (other (omega (arith, hundreds, tens, ones)))

told_by : (ok : Bool) (status n : ℕ) (last body : List ℕ) → (status == 200) ≡ ok
    → is_media_response
    ((first_lines (status_words status) (if ok then codes "application/vnd.apple.mpegurl" else codes "text/plain") n ++ last) ++ body) ≡ false
told_by true status n last body e =
    subst
    (λ s. is_media_response ((first_lines (status_words s) (codes "application/vnd.apple.mpegurl") n ++ last) ++ body) ≡ false)
    (sym (eqb-true status 200 e)) (playlist-told n last body)
told_by false status n last body e =
    let other = other-digits status (false-eqb status 200 (sym e)) _ _ _ refl refl refl in
    digits-told (48 + status / 100) (48 + status / 10 % 10) (48 + status % 10) (32 ∷ reason status) (codes "text/plain") n last body _ _ _ refl refl refl other

pub others-are-told : OthersAreTold
others-are-told status body keep =
    told_by (status == 200) status (length body) (last_lines (codes "no-cache") (allow_line status) (kept_word keep)) body refl
