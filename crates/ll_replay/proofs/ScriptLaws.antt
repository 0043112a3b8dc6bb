-- What every line does to a script: an ended one stays as it is, text is only added, an act ends nothing, and a line that is too
-- long does.
use Rattle.std.proofs.Common.{◌≡◌, ℕ, ◌+◌, ◌<◌, ◌≤◌, List, ◌++◌, [], ◌∷◌, Bool, true, false, Option, Some, None, length, refl, sym, ap, ◌∙◌, append-nil, append_assoc, nat_lt, arith}
use Rattle.std.specs.Prelude.{flat_map, fold}
use Rattle.std.proofs.lemmas.Bool.Decides.{nat_tests}
use Rattle.ll_connection.specs.Turn as connection
use Rattle.ll_connection.specs.Visit.{Luck}
use Rattle.ll_script_rooms.specs.declared.owner.Owner.{Owner}
use Rattle.ll_script_rooms.specs.declared.owner.Owner.TheVariants.{Get, Connection}
use Rattle.ll_publish.specs.Refusals.{no_line}
use Rattle.ll_script.specs.Answers.{clock_line, fault_line}
use Rattle.ll_script.specs.Lines.{acts}
use Rattle.ll_script.specs.declared.act.Act.{Act}
use Rattle.ll_script.specs.declared.act.Act.TheVariants.{Declare, Offer, At, Refuse, Ask, Answer, Close, Clock, RefuseClock, Bytes, Drop}
use Rattle.ll_verdict.specs.declared.fault.ClockFault.TheVariants as refused
use Rattle.ll_verdict.specs.declared.reply.Reply.{Reply}
use Rattle.ll_script_rooms.specs.World as rooms
use Rattle.ll_script_rooms.specs.declared.answer.ActAnswer as answer
use Rattle.ll_script_rooms.specs.declared.answer.ActAnswer.TheVariants as said
use Rattle.ll_replay.specs.Kept.{met}
use Rattle.ll_replay.specs.Script.{Script, Ending, LineTooLong, Lot, Marked, act, acted, counted, done, heard, line, line_by, makes_due, passed_on, passed_to, read_by, rest, rest_at, so_many, spelled, standing_text, next_reply, turned, with_lots}

-- a world that says more and ends as the first
abbrev pub Follows : Script → Script → Type 0
Follows w v = (more : List ℕ) × (v.text ≡ w.text ++ more) × (v.ending ≡ w.ending)

pub follows_itself : (w v : Script) → v.text ≡ w.text → v.ending ≡ w.ending → Follows w v
follows_itself w v t e = ([], t ∙ sym (append-nil w.text), e)

pub follows_both : (u v w : Script) → Follows u v → Follows v w → Follows u w
follows_both u v w a b = (a.0 ++ b.0, b.1 ∙ ap (λ t. t ++ b.0) a.1 ∙ append_assoc u.text a.0 b.0, b.2 ∙ a.2)

-- what the rooms answered is written
heard-follows : (w : Script) (v : rooms.World) → Follows w (heard w v)
heard-follows w v = (flat_map spelled v.answers, refl, refl)

-- what is sent on a connection is written
turned-follows : (w : Script) (t : connection.Turn) → Follows w (turned w t)
turned-follows w t = (t.text, refl, refl)

pub act-follows : (lucks : List Luck) (w : Script) (a : Act) → Follows w (act lucks w a)
act-follows lucks w (Declare settings) = heard-follows w (rooms.declare settings w.rooms)
act-follows lucks w (Offer place item) = heard-follows w (rooms.offer place item w.rooms)
act-follows lucks w (At place rendition) = (standing_text (rooms.standing place rendition w.rooms), refl, refl)
act-follows lucks w (Refuse reason) = (no_line reason, refl, refl)
act-follows lucks w (Ask id place want) = (flat_map spelled (rooms.ask (Get id) place want w.rooms).answers, refl, refl)
act-follows lucks w (Answer id reason) = (fault_line id reason, refl, refl)
act-follows lucks w (Close id) = heard-follows w (rooms.close (Get id) w.rooms)
act-follows lucks w (Clock place ms) = heard-follows w (rooms.clock place ms w.rooms)
act-follows lucks w RefuseClock = (clock_line refused.ClockRange, refl, refl)
act-follows lucks w (Bytes n piece) = turned-follows w (connection.bytes lucks n piece w.connections w.rooms)
act-follows lucks w (Drop n) = turned-follows w (connection.end n w.connections w.rooms)

passed_to-follows : (lucks : List Luck) (w : Script) (o : Owner) (r : Reply) → Follows w (passed_to lucks o r w)
passed_to-follows lucks w (Get id) r = follows_itself w w refl refl
passed_to-follows lucks w (Connection n) r = turned-follows w (connection.reply lucks n r w.connections w.rooms)

passed_on-follows : (lucks : List Luck) (w : Script) (a : answer.ActAnswer) → Follows w (passed_on lucks w a)
passed_on-follows lucks w (said.Accepted count) = follows_itself w w refl refl
passed_on-follows lucks w (said.Refused reason) = follows_itself w w refl refl
passed_on-follows lucks w (said.ClockRefused reason) = follows_itself w w refl refl
passed_on-follows lucks w (said.Replied o r) = passed_to-follows lucks w o r
passed_on-follows lucks w (said.Unavailable o) = follows_itself w w refl refl

all_passed_on-follow : (lucks : List Luck) (w : Script) (answers : List answer.ActAnswer) → Follows w (fold (passed_on lucks) w answers)
all_passed_on-follow lucks w [] = follows_itself w w refl refl
all_passed_on-follow lucks w (a ∷ answers) =
    follows_both w (passed_on lucks w a) (fold (passed_on lucks) (passed_on lucks w a) answers) (passed_on-follows lucks w a) (all_passed_on-follow lucks (passed_on lucks w a) answers)

pub next_reply-follows : (place : ℕ) (w : Script) (lucks : List Luck) → Follows w (next_reply place w lucks)
next_reply-follows place w lucks =
    let v = rooms.next_reply place w.rooms in
    follows_both w (heard w v) (next_reply place w lucks) (heard-follows w v) (all_passed_on-follow lucks (heard w v) v.answers)

pub ticks-follow : (place : ℕ) (w : Script) (list : List (List Luck)) → Follows w (fold (next_reply place) w list)
ticks-follow place w [] = follows_itself w w refl refl
ticks-follow place w (lucks ∷ list) =
    follows_both w (next_reply place w lucks) (fold (next_reply place) (next_reply place w lucks) list) (next_reply-follows place w lucks) (ticks-follow place (next_reply place w lucks) list)

pub rest_at-follows : (replies : List (List Luck)) (place : ℕ) (w : Script) → Follows w (rest_at replies place w)
rest_at-follows replies place w = ticks-follow place w (so_many (length w.rooms.waits) replies)

pub rest-follows : (replies : List (List Luck)) (w : Script) (place : Option ℕ) → Follows w (rest replies place w)
rest-follows replies w None = follows_itself w w refl refl
rest-follows replies w (Some place) = rest_at-follows replies place w

pub done-follows : (w : Script) (lot : Lot) (a : Act) → Follows w (done w (lot, a))
done-follows w lot a =
    let first = act lot.requests w (met lot a) in
    follows_both w first (done w (lot, a)) (act-follows lot.requests w (met lot a)) (rest-follows lot.replies first (makes_due (met lot a)))

pub all_done-follow : (w : Script) (list : List (Lot × Act)) → Follows w (fold done w list)
all_done-follow w [] = follows_itself w w refl refl
all_done-follow w (a ∷ list) = follows_both w (done w a) (fold done (done w a) list) (done-follows w a.0 a.1) (all_done-follow (done w a) list)

pub acted-follows : (lots : List Lot) (w : Script) (list : List Act) → Follows w (acted lots w (Some list))
acted-follows lots w list = all_done-follow w (with_lots lots list)

abbrev Adds : Script → Script → Type 0
Adds w v = (more : List ℕ) × (v.text ≡ w.text ++ more)

acted-text : (lots : List Lot) (w : Script) (o : Option (List Act)) → Adds w (acted lots w o)
acted-text lots w None = ([], sym (append-nil w.text))
acted-text lots w (Some list) = let f = acted-follows lots w list in (f.0, f.1)

read_by-text : (b : Bool) (w : Script) (l : Marked) → Adds w (read_by b w l)
read_by-text true w l = ([], sym (append-nil w.text))
read_by-text false w l = acted-text l.lots (counted w) (acts (rooms.all_settings w.rooms) w.last_id l.text)

line_by-text : (o : Option Ending) (w : Script) (l : Marked) → Adds w (line_by o w l)
line_by-text (Some e) w l = ([], sym (append-nil w.text))
line_by-text None w l = read_by-text (nat_lt 65536 (length l.text)) w l

pub line-text : (w : Script) (l : Marked) → (more : List ℕ) × ((line w l).text ≡ w.text ++ more)
unfolding line
line-text w l = line_by-text w.ending w l

pub line-ended : (w : Script) (l : Marked) (e : Ending) → w.ending ≡ Some e → line w l ≡ w
unfolding line
line-ended w l e h = ap (λ o. line_by o w l) h

line-read : (w : Script) (l : Marked) (b : Bool) → w.ending ≡ None → nat_lt 65536 (length l.text) ≡ b → line w l ≡ read_by b w l
unfolding line
line-read w l b h e = ap (λ o. line_by o w l) h ∙ ap (λ t. read_by t w l) e

-- a line that isn't too long, by what it means
pub line-means : (w : Script) (l : Marked) (o : Option (List Act)) → w.ending ≡ None → length l.text ≤ 65536
    → acts (rooms.all_settings w.rooms) w.last_id l.text ≡ o → line w l ≡ acted l.lots (counted w) o
line-means w l o goes_on short means =
    let fits : nat_lt 65536 (length l.text) ≡ false = at_most 65536 (length l.text) short in
    line-read w l false goes_on fits ∙ ap (acted l.lots (counted w)) means
  where
    at_most : (m n : ℕ) → n ≤ m → nat_lt m n ≡ false
    at_most m n h = grind (arith, nat_tests)

is_above : (a b : ℕ) → a < b → nat_lt a b ≡ true
is_above a b h = grind (arith, nat_tests)

pub line-too-long : (w : Script) (l : Marked) → w.ending ≡ None → 65536 < length l.text
    → ((line w l).ending ≡ Some (LineTooLong (w.lines + 1))) × ((line w l).text ≡ w.text)
line-too-long w l h long =
    let e = line-read w l true h (is_above 65536 (length l.text) long) in
    (ap (λ (v : Script). v.ending) e, ap (λ (v : Script). v.text) e)
