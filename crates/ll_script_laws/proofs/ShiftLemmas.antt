-- The text so far, and the number of lines so far, change nothing of what happens to channels and connections.
use Rattle.std.proofs.Common.{◌≡◌, ℕ, ◌+◌, List, [], ◌∷◌, ◌++◌, Bool, true, false, Option, Some, None, refl, ap, ◌∙◌, append_assoc, arith, fold, length, nat_lt, option_map, if◌then◌else◌}
use Rattle.std.specs.Prelude.{flat_map}
use Rattle.ll_connection.specs.Turn as connection
use Rattle.ll_connection.specs.Turn.{Turn}
use Rattle.ll_connection.specs.Visit.{Luck}
use Rattle.ll_replay.specs.Script.{BadLine, Ending, LineTooLong, Lot, Marked, Script, act, acted, counted, done, done_as, heard, line, line_by, makes_due, next_reply, passed_on, read_by, rest, says, so_many, spelled, standing_text, turned, with_lots}
use Rattle.ll_script_rooms.specs.World as rooms
use Rattle.ll_script_rooms.specs.World.{all_settings}
use Rattle.ll_script_rooms.specs.declared.answer.ActAnswer as answer
use Rattle.ll_script_rooms.specs.declared.answer.ActAnswer.TheVariants as said
use Rattle.ll_script_rooms.specs.declared.owner.Owner.TheVariants.{Get, Connection}
use Rattle.ll_script.specs.Lines.{acts, starved}
use Rattle.ll_script.specs.declared.act.Act.{Act}
use Rattle.ll_script.specs.declared.act.Act.TheVariants.{Declare, Offer, At, Refuse, Ask, Answer, Close, Clock, RefuseClock, Bytes, Drop}
use Rattle.ll_script.specs.Answers.{clock_line, fault_line}
use Rattle.ll_publish.specs.Refusals.{no_line}
use Rattle.ll_verdict.specs.declared.fault.ClockFault.TheVariants as late

abbrev pub later_by : ℕ → Ending → Ending
later_by d (BadLine n) = BadLine (n + d)
later_by d (LineTooLong n) = LineTooLong (n + d)

module _ (d : ℕ) (t : List ℕ) where
  -- `d` more lines were read, and `t` was written before the rest
  abbrev pub shifted : Script → Script
  shifted w = record w { lines = w.lines + d; text = t ++ w.text; ending = option_map (later_by d) w.ending }

  says-shifted : (w : Script) (more : List ℕ) → says (shifted w) more ≡ shifted (says w more)
  says-shifted w more = ap (λ x. record (shifted w) { text = x }) (append_assoc t w.text more)

  heard-shifted : (w : Script) (v : rooms.World) → heard (shifted w) v ≡ shifted (heard w v)
  heard-shifted w v = ap (λ x. record (shifted (heard w v)) { text = x }) (append_assoc t w.text (flat_map spelled v.answers))

  turned-shifted : (w : Script) (u : Turn) → turned (shifted w) u ≡ shifted (turned w u)
  turned-shifted w u = ap (λ x. record (shifted (turned w u)) { text = x }) (append_assoc t w.text u.text)

  act-shifted : (lucks : List Luck) (w : Script) (a : Act) → act lucks (shifted w) a ≡ shifted (act lucks w a)
  act-shifted lucks w (Declare settings) = heard-shifted w (rooms.declare settings w.rooms)
  act-shifted lucks w (Offer place item) = heard-shifted w (rooms.offer place item w.rooms)
  act-shifted lucks w (At place rendition) = says-shifted w (standing_text (rooms.standing place rendition w.rooms))
  act-shifted lucks w (Refuse reason) = says-shifted w (no_line reason)
  act-shifted lucks w (Ask id place want) = ap (λ (v : Script). record v { last_id = Some id }) (heard-shifted w (rooms.ask (Get id) place want w.rooms))
  act-shifted lucks w (Answer id reason) =
      ap (λ x. record (shifted (act lucks w (Answer id reason))) { text = x }) (append_assoc t w.text (fault_line id reason))
  act-shifted lucks w (Close id) = heard-shifted w (rooms.close (Get id) w.rooms)
  act-shifted lucks w (Clock place ms) = heard-shifted w (rooms.clock place ms w.rooms)
  act-shifted lucks w RefuseClock = says-shifted w (clock_line late.ClockRange)
  act-shifted lucks w (Bytes n piece) = turned-shifted w (connection.bytes lucks n piece w.connections w.rooms)
  act-shifted lucks w (Drop n) = turned-shifted w (connection.end n w.connections w.rooms)

  passed_on-shifted : (lucks : List Luck) (w : Script) (a : answer.ActAnswer) → passed_on lucks (shifted w) a ≡ shifted (passed_on lucks w a)
  passed_on-shifted lucks w (said.Accepted count) = refl
  passed_on-shifted lucks w (said.Refused reason) = refl
  passed_on-shifted lucks w (said.ClockRefused reason) = refl
  passed_on-shifted lucks w (said.Replied (Get id) r) = refl
  passed_on-shifted lucks w (said.Replied (Connection n) r) = turned-shifted w (connection.reply lucks n r w.connections w.rooms)
  passed_on-shifted lucks w (said.Unavailable owner) = refl

  all-shifted : (lucks : List Luck) (w : Script) (answers : List answer.ActAnswer)
      → fold (passed_on lucks) (shifted w) answers ≡ shifted (fold (passed_on lucks) w answers)
  all-shifted lucks w [] = refl
  all-shifted lucks w (a ∷ answers) =
      ap (λ v. fold (passed_on lucks) v answers) (passed_on-shifted lucks w a) ∙ all-shifted lucks (passed_on lucks w a) answers

  next_reply-shifted : (place : ℕ) (w : Script) (lucks : List Luck) → next_reply place (shifted w) lucks ≡ shifted (next_reply place w lucks)
  next_reply-shifted place w lucks =
      let u = rooms.next_reply place w.rooms in
      ap (λ v. fold (passed_on lucks) v u.answers) (heard-shifted w u) ∙ all-shifted lucks (heard w u) u.answers

  ticks-shifted : (place : ℕ) (replies : List (List Luck)) (w : Script) → fold (next_reply place) (shifted w) replies ≡ shifted (fold (next_reply place) w replies)
  ticks-shifted place [] w = refl
  ticks-shifted place (lucks ∷ replies) w =
      ap (λ v. fold (next_reply place) v replies) (next_reply-shifted place w lucks) ∙ ticks-shifted place replies (next_reply place w lucks)

  rest-shifted : (replies : List (List Luck)) (place : Option ℕ) (w : Script) → rest replies place (shifted w) ≡ shifted (rest replies place w)
  rest-shifted replies None w = refl
  rest-shifted replies (Some place) w = ticks-shifted place (so_many (length w.rooms.waits) replies) w

  as-shifted : (lot : Lot) (w : Script) (a : Act) → done_as lot (shifted w) a ≡ shifted (done_as lot w a)
  as-shifted lot w a =
      ap (rest lot.replies (makes_due a)) (act-shifted lot.requests w a) ∙ rest-shifted lot.replies (makes_due a) (act lot.requests w a)

  done-shifted : (w : Script) (a : Lot × Act) → done (shifted w) a ≡ shifted (done w a)
  done-shifted w a = as-shifted a.0 w (if a.0.refused then starved a.1 else a.1)

  fold-shifted : (w : Script) (list : List (Lot × Act)) → fold done (shifted w) list ≡ shifted (fold done w list)
  fold-shifted w [] = refl
  fold-shifted w (a ∷ list) = ap (λ v. fold done v list) (done-shifted w a) ∙ fold-shifted (done w a) list

  acted-shifted : (lots : List Lot) (w : Script) (o : Option (List Act)) → acted lots (shifted w) o ≡ shifted (acted lots w o)
  acted-shifted lots w None = refl
  acted-shifted lots w (Some list) = fold-shifted w (with_lots lots list)

  one_more : (n : ℕ) → n + d + 1 ≡ n + 1 + d
  one_more n = omega arith

  counted-shifted : (w : Script) → counted (shifted w) ≡ shifted (counted w)
  counted-shifted w = ap (λ n. record (shifted w) { lines = n }) (one_more w.lines)

  read_by-shifted : (long : Bool) (w : Script) (l : Marked) → read_by long (shifted w) l ≡ shifted (read_by long w l)
  read_by-shifted true w l = ap (λ n. record (shifted w) { lines = n; ending = Some (LineTooLong n) }) (one_more w.lines)
  read_by-shifted false w l =
      let means = acts (all_settings w.rooms) w.last_id l.text in
      ap (λ v. acted l.lots v means) (counted-shifted w) ∙ acted-shifted l.lots (counted w) means

  line_by-shifted : (o : Option Ending) (w : Script) (l : Marked) → line_by (option_map (later_by d) o) (shifted w) l ≡ shifted (line_by o w l)
  line_by-shifted None w l = read_by-shifted (nat_lt 65536 (length l.text)) w l
  line_by-shifted (Some e) w l = refl

  line-shifted : (w : Script) (l : Marked) → line (shifted w) l ≡ shifted (line w l)
  unfolding line
  line-shifted w l = line_by-shifted w.ending w l

  pub lines-shifted : (w : Script) (ls : List Marked) → fold line (shifted w) ls ≡ shifted (fold line w ls)
  lines-shifted w [] = refl
  lines-shifted w (l ∷ ls) = ap (λ v. fold line v ls) (line-shifted w l) ∙ lines-shifted (line w l) ls
