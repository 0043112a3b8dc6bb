-- Two scripts, of which one has in one line the bytes that the other has in two.
use Rattle.std.proofs.Common.{◌≡◌, ℕ, ◌+◌, ◌≤◌, List, [], ◌∷◌, ◌++◌, Bool, true, false, Option, Some, None, refl, ap, ap₂, sym, ◌∙◌, append_assoc, arith, fold, length, nat_lt, slice_get, option_map, if◌then◌else◌}
use Rattle.std.proofs.lemmas.List.Sums.{fold-append}
use Rattle.ll_connection.specs.Laws.{both}
use Rattle.ll_connection.specs.Turn.{Turn, bytes}
use Rattle.ll_connection.specs.Visit.{Luck}
use Rattle.ll_connection.proofs.CutLemmas.{turns}
use Rattle.ll_connection.proofs.RoomsLaws as laws
use Rattle.ll_script_rooms.specs.Waits.{wait_of}
use Rattle.ll_script_rooms.specs.declared.owner.Owner.{Owner}
use Rattle.ll_script_rooms.specs.declared.owner.Owner.TheVariants.{Get, Connection}
use Rattle.ll_script_rooms.specs.declared.wait.Wait.{Wait}
use Rattle.ll_script.specs.Lines.{acts, starved}
use Rattle.ll_script.specs.declared.act.Act.{Act}
use Rattle.ll_script.specs.declared.act.Act.TheVariants.{Declare, Offer, At, Refuse, Ask, Answer, Close, Clock, RefuseClock, Bytes, Drop}
use Rattle.ll_script_rooms.specs.World as rooms
use Rattle.ll_script_rooms.specs.World.{all_settings, silent}
use Rattle.ll_script_rooms.specs.declared.answer.ActAnswer as answer
use Rattle.ll_script_rooms.specs.declared.answer.ActAnswer.TheVariants as said
use Rattle.ll_replay.specs.Stream.{come_to}
use Rattle.ll_replay.specs.Script.{Ending, Lot, Marked, Script, act, acted, counted, done, done_as, heard, line, line_by, makes_due, passed_on, read_by, rest, so_many, start, next_reply, turned, unmarked, with_lots}
use Rattle.ll_replay.proofs.ScriptLaws.{line-ended, line-means}
use Rattle.ll_script_laws.proofs.ShiftLemmas.{later_by, lines-shifted, shifted}
use Rattle.ll_script_laws.specs.Laws.{Brings}

-- ---- answers are taken

abbrev IsQuiet : Script → Type 0
IsQuiet w = w.rooms.answers ≡ []

act-quiet : (lucks : List Luck) (w : Script) (a : Act) → IsQuiet w → IsQuiet (act lucks w a)
act-quiet lucks w (Declare settings) q = refl
act-quiet lucks w (Offer place item) q = refl
act-quiet lucks w (At place rendition) q = q
act-quiet lucks w (Refuse reason) q = q
act-quiet lucks w (Ask id place want) q = refl
act-quiet lucks w (Answer id reason) q = q
act-quiet lucks w (Close id) q = refl
act-quiet lucks w (Clock place ms) q = refl
act-quiet lucks w RefuseClock q = q
act-quiet lucks w (Bytes n piece) q = refl
act-quiet lucks w (Drop n) q = refl

passed_on-quiet : (lucks : List Luck) (w : Script) (a : answer.ActAnswer) → IsQuiet w → IsQuiet (passed_on lucks w a)
passed_on-quiet lucks w (said.Accepted count) q = q
passed_on-quiet lucks w (said.Refused reason) q = q
passed_on-quiet lucks w (said.ClockRefused reason) q = q
passed_on-quiet lucks w (said.Replied (Get id) r) q = q
passed_on-quiet lucks w (said.Replied (Connection n) r) q = refl
passed_on-quiet lucks w (said.Unavailable owner) q = q

all-quiet : (lucks : List Luck) (w : Script) (answers : List answer.ActAnswer) → IsQuiet w → IsQuiet (fold (passed_on lucks) w answers)
all-quiet lucks w [] q = q
all-quiet lucks w (a ∷ answers) q = all-quiet lucks (passed_on lucks w a) answers (passed_on-quiet lucks w a q)

ticks-quiet : (place : ℕ) (replies : List (List Luck)) (w : Script) → IsQuiet w → IsQuiet (fold (next_reply place) w replies)
ticks-quiet place [] w q = q
ticks-quiet place (lucks ∷ replies) w q =
    let u = rooms.next_reply place w.rooms in
    ticks-quiet place replies (next_reply place w lucks) (all-quiet lucks (heard w u) u.answers refl)

rest-quiet : (replies : List (List Luck)) (place : Option ℕ) (w : Script) → IsQuiet w → IsQuiet (rest replies place w)
rest-quiet replies None w q = q
rest-quiet replies (Some place) w q = ticks-quiet place (so_many (length w.rooms.waits) replies) w q

as-quiet : (lot : Lot) (w : Script) (a : Act) → IsQuiet w → IsQuiet (done_as lot w a)
as-quiet lot w a q = rest-quiet lot.replies (makes_due a) (act lot.requests w a) (act-quiet lot.requests w a q)

acted-quiet : (list : List (Lot × Act)) (w : Script) → IsQuiet w → IsQuiet (fold done w list)
acted-quiet [] w q = q
acted-quiet (a ∷ list) w q = acted-quiet list (done w a) (as-quiet a.0 w (if a.0.refused then starved a.1 else a.1) q)

acted_by-quiet : (lots : List Lot) (o : Option (List Act)) (w : Script) → IsQuiet w → IsQuiet (acted lots w o)
acted_by-quiet lots None w q = q
acted_by-quiet lots (Some list) w q = acted-quiet (with_lots lots list) w q

read_by-quiet : (long : Bool) (w : Script) (l : Marked) → IsQuiet w → IsQuiet (read_by long w l)
read_by-quiet true w l q = q
read_by-quiet false w l q = acted_by-quiet l.lots (acts (all_settings w.rooms) w.last_id l.text) (counted w) q

line_by-quiet : (o : Option Ending) (w : Script) (l : Marked) → IsQuiet w → IsQuiet (line_by o w l)
line_by-quiet (Some ending) w l q = q
line_by-quiet None w l q = read_by-quiet (nat_lt 65536 (length l.text)) w l q

line-quiet : (w : Script) (l : Marked) → IsQuiet w → IsQuiet (line w l)
unfolding line
line-quiet w l q = line_by-quiet w.ending w l q

lines-quiet : (ls : List Marked) (w : Script) → IsQuiet w → IsQuiet (fold line w ls)
lines-quiet [] w q = q
lines-quiet (l ∷ ls) w q = lines-quiet ls (line w l) (line-quiet w l q)

close-quiet : (w : rooms.World) (owner : Owner) → w.answers ≡ [] → (rooms.close owner w).answers ≡ []
close-quiet w owner q = by (wait_of owner w.waits)
  where
    at : (x : Wait) (c : Option rooms.Channel) → (rooms.close_at w x c).answers ≡ []
    at x None = q
    at x (Some c) = q

    by : (o : Option Wait) → (rooms.close_of w o).answers ≡ []
    by None = q
    by (Some x) = at x (slice_get w.channels x.place)

bytes-quiet : (n : ℕ) (piece : List ℕ) (w : Script) → IsQuiet w → silent (bytes [] n piece w.connections w.rooms).rooms ≡ (bytes [] n piece w.connections w.rooms).rooms
bytes-quiet n piece w q =
    let t = (bytes [] n piece w.connections w.rooms).rooms in
    ap (λ list. record t { answers = list })
    (sym (laws.bytes-keeps (λ v. v.answers ≡ []) (λ v o place want h. refl) (λ v o h. close-quiet v o h) [] n piece w.connections w.rooms q))

-- ---- one line, and two

module _ (n : ℕ) (a b first second whole : List ℕ) (is_first : Brings n a first) (is_second : Brings n b second) (is_whole : Brings n (a ++ b) whole)
    (fits_first : length first ≤ 65536) (fits_second : length second ≤ 65536) (fits_whole : length whole ≤ 65536) where
  -- the lines, with memory for everything
  abbrev all_of : Marked
  all_of = unmarked whole

  abbrev one : Marked
  one = unmarked first

  abbrev two : Marked
  two = unmarked second

  -- how such a line changes a script that goes on
  brings : (piece text : List ℕ) → Brings n piece text → length text ≤ 65536 → (w : Script) → w.ending ≡ None
      → line w (unmarked text) ≡ turned (counted w) (bytes [] n piece w.connections w.rooms)
  brings piece text is fits w goes_on = line-means w (unmarked text) (Some (Bytes n piece ∷ [])) goes_on fits (is (all_settings w.rooms) w.last_id)

  same_end : (w : Script) → w.ending ≡ None → w.ending ≡ option_map (later_by 1) w.ending
  same_end w goes_on = goes_on ∙ sym (ap (option_map (later_by 1)) goes_on)

  two_turns : (w : Script) (t u : Turn) → w.ending ≡ None → turned (counted (turned (counted w) t)) u ≡ shifted 1 [] (turned (counted w) (both t u))
  two_turns w t u goes_on =
      ap₂ (λ r text. record (turned (counted (turned (counted w) t)) u) { replies = r; text = text }) (plus w.replies t.replies u.replies) (append_assoc w.text t.text u.text)
      ∙ ap (λ o. record (turned (counted w) (both t u)) { lines = w.lines + 1 + 1; ending = o }) (same_end w goes_on)
    where
      plus : (x y z : ℕ) → x + y + z ≡ x + (y + z)
      plus x y z = omega arith

  going_on : (w : Script) → IsQuiet w → w.ending ≡ None → line (line w one) two ≡ shifted 1 [] (line w all_of)
  going_on w quiet goes_on =
      let t = bytes [] n a w.connections w.rooms in
      ap (λ v. line v two) (brings a first is_first fits_first w goes_on)
      ∙ brings b second is_second fits_second (turned (counted w) t) goes_on
      ∙ ap (λ r. turned (counted (turned (counted w) t)) (bytes [] n b t.connections r)) (bytes-quiet n a w quiet)
      ∙ two_turns w t (bytes [] n b t.connections t.rooms) goes_on
      ∙ ap (λ u. shifted 1 [] (turned (counted w) u)) (turns n w.connections w.rooms a b)
      ∙ ap (shifted 1 []) (sym (brings (a ++ b) whole is_whole fits_whole w goes_on))

  by_ending : (w : Script) (later : List Marked) (o : Option Ending) → w.ending ≡ o → IsQuiet w
      → (fold line (line w all_of) later).text ≡ (fold line (line (line w one) two) later).text
  by_ending w later None e quiet =
      sym (ap (λ (v : Script). v.text) (ap (λ v. fold line v later) (going_on w quiet e) ∙ lines-shifted 1 [] (line w all_of) later))
  by_ending w later (Some ending) e quiet =
      ap (λ v. (fold line v later).text)
      (line-ended w all_of ending e ∙ sym (ap (λ v. line v two) (line-ended w one ending e) ∙ line-ended w two ending e))

  pub pieces_same : (before later : List Marked) → (come_to (before ++ all_of ∷ later)).text ≡ (come_to (before ++ one ∷ two ∷ later)).text
  pieces_same before later =
      let w = come_to before in
      ap (λ (v : Script). v.text) (fold-append line start before (all_of ∷ later))
      ∙ by_ending w later w.ending refl (lines-quiet before start refl)
      ∙ sym (ap (λ (v : Script). v.text) (fold-append line start before (one ∷ two ∷ later)))
