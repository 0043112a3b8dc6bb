-- What each act and each reply that is passed on preserve holds after the lines of every script, with any lots.
use Rattle.std.proofs.Common.{ℕ, ◌+◌, ◌||◌, List, [], ◌∷◌, ◌++◌, Bool, true, false, Option, Some, None, is_some, sym, subst, fold, length, nat_lt, append-nil, append_assoc, if◌then◌else◌}
use Rattle.ll_connection.specs.Visit.{Luck}
use Rattle.ll_script.specs.Lines.{acts, starved}
use Rattle.ll_script.specs.declared.act.Act.{Act}
use Rattle.ll_script_rooms.specs.World.{all_settings}
use Rattle.ll_replay.specs.Script.{BadLine, Ending, LineTooLong, Lot, Marked, Script, act, acted, counted, done, done_as, line, line_by, makes_due, plain, read_by, rest, so_many, next_reply, with_lots}
use Rattle.ll_script_laws.specs.Talks.{acts_in, acts_of, listed}

-- `P` can be about all acts so far. An act that is out of memory is among them: what it becomes then preserves `P` too.
module _ (P : List Act → Script → Type 0)
    (act-keeps : (list : List Act) (lucks : List Luck) (w : Script) (a : Act) → P list w → P (list ++ a ∷ []) (act lucks w a))
    (next_reply-keeps : (list : List Act) (place : ℕ) (w : Script) (lucks : List Luck) → P list w → P list (next_reply place w lucks))
    (starves : (list : List Act) (w : Script) (a : Act) → P (list ++ starved a ∷ []) w → P (list ++ a ∷ []) w) where
  pub ticks-keep : (list : List Act) (place : ℕ) (replies : List (List Luck)) (w : Script) → P list w → P list (fold (next_reply place) w replies)
  ticks-keep list place [] w h = h
  ticks-keep list place (lucks ∷ replies) w h = ticks-keep list place replies (next_reply place w lucks) (next_reply-keeps list place w lucks h)

  rest-keeps : (list : List Act) (replies : List (List Luck)) (place : Option ℕ) (w : Script) → P list w → P list (rest replies place w)
  rest-keeps list replies None w h = h
  rest-keeps list replies (Some place) w h = ticks-keep list place (so_many (length w.rooms.waits) replies) w h

  as-keeps : (list : List Act) (lot : Lot) (w : Script) (a : Act) → P list w → P (list ++ a ∷ []) (done_as lot w a)
  as-keeps list lot w a h = rest-keeps (list ++ a ∷ []) lot.replies (makes_due a) (act lot.requests w a) (act-keeps list lot.requests w a h)

  if-keeps : (list : List Act) (refused : Bool) (lot : Lot) (w : Script) (a : Act) → P list w → P (list ++ a ∷ []) (done_as lot w (if refused then starved a else a))
  if-keeps list true lot w a h = starves list (done_as lot w (starved a)) a (as-keeps list lot w (starved a) h)
  if-keeps list false lot w a h = as-keeps list lot w a h

  pub done-keeps : (list : List Act) (w : Script) (a : Lot × Act) → P list w → P (list ++ a.1 ∷ []) (done w a)
  done-keeps list w a h = if-keeps list a.0.refused a.0 w a.1 h

module _ (P : List Act → Script → Type 0)
    (done-keeps : (list : List Act) (w : Script) (a : Lot × Act) → P list w → P (list ++ a.1 ∷ []) (done w a))
    (same : (list : List Act) (w : Script) (lines : ℕ) (ending : Option Ending) → P list w → P list (record w { lines = lines; ending = ending })) where
  no_more : (list : List Act) (w : Script) → P list w → P (list ++ []) w
  no_more list w h = subst (λ all. P all w) (sym (append-nil list)) h

  acts-keep : (list more : List Act) (lots : List Lot) (w : Script) → P list w → P (list ++ more) (fold done w (with_lots lots more))
  acts-keep list [] lots w h = no_more list w h
  acts-keep list (a ∷ more) [] w h =
      subst (λ all. P all (fold done (done w (plain, a)) (with_lots [] more))) (append_assoc list (a ∷ []) more)
      (acts-keep (list ++ a ∷ []) more [] (done w (plain, a)) (done-keeps list w (plain, a) h))
  acts-keep list (a ∷ more) (lot ∷ lots) w h =
      subst (λ all. P all (fold done (done w (lot, a)) (with_lots lots more))) (append_assoc list (a ∷ []) more)
      (acts-keep (list ++ a ∷ []) more lots (done w (lot, a)) (done-keeps list w (lot, a) h))

  acted-keeps : (list : List Act) (lots : List Lot) (w : Script) (o : Option (List Act)) → P list w → P (list ++ listed o) (acted lots w o)
  acted-keeps list lots w None h = no_more list (acted lots w None) (same list w w.lines (Some (BadLine w.lines)) h)
  acted-keeps list lots w (Some more) h = acts-keep list more lots w h

  read_by-keeps : (list : List Act) (w : Script) (l : Marked) (long : Bool) → P list w
      → P (list ++ (if long then [] else listed (acts (all_settings w.rooms) w.last_id l.text))) (read_by long w l)
  read_by-keeps list w l true h = no_more list (read_by true w l) (same list w (w.lines + 1) (Some (LineTooLong (w.lines + 1))) h)
  read_by-keeps list w l false h = acted-keeps list l.lots (counted w) (acts (all_settings w.rooms) w.last_id l.text) (same list w (w.lines + 1) w.ending h)

  line_by-keeps : (list : List Act) (w : Script) (l : Marked) (o : Option Ending) → P list w
      → P (list ++ (if is_some o || nat_lt 65536 (length l.text) then [] else listed (acts (all_settings w.rooms) w.last_id l.text))) (line_by o w l)
  line_by-keeps list w l (Some ending) h = no_more list w h
  line_by-keeps list w l None h = read_by-keeps list w l (nat_lt 65536 (length l.text)) h

  line-keeps : (list : List Act) (w : Script) (l : Marked) → P list w → P (list ++ acts_in w l) (line w l)
  unfolding line
  line-keeps list w l h = line_by-keeps list w l w.ending h

  pub lines-keep : (list : List Act) (w : Script) (ls : List Marked) → P list w → P (list ++ acts_of w ls) (fold line w ls)
  lines-keep list w [] h = no_more list w h
  lines-keep list w (l ∷ ls) h =
      subst (λ all. P all (fold line (line w l) ls)) (append_assoc list (acts_in w l) (acts_of (line w l) ls))
      (lines-keep (list ++ acts_in w l) (line w l) ls (line-keeps list w l h))
