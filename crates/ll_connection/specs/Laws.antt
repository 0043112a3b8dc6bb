-- Laws of a script's connections and rooms: bytes have the same effect in two pieces as in one.
use Rattle.std.specs.Prelude.{◌≡◌, ℕ, ◌+◌, List, [], ◌++◌}
use Rattle.ll_script_rooms.specs.World.{World}
use Rattle.ll_connection.specs.Turn.{Connections, Turn, bytes}
use Rattle.ll_connection.specs.Visit.{Visit, arrived}

-- bytes that come in two pieces have the same effect as in one, if there is memory for all steps
abbrev pub PiecesLaw : Type 0
PiecesLaw = (n : ℕ) (v : Visit) (first second : List ℕ) → arrived [] n second (arrived [] n first v) ≡ arrived [] n (first ++ second) v

-- the second of two turns, with what both have written, one after the other
abbrev pub both : Turn → Turn → Turn
both t u = record u { text = t.text ++ u.text; replies = t.replies + u.replies }

-- the same of all connections, with what is written and the number of answers
abbrev pub TurnsLaw : Type 0
TurnsLaw = (n : ℕ) (all : Connections) (w : World) (first second : List ℕ)
    → both (bytes [] n first all w) (bytes [] n second (bytes [] n first all w).connections (bytes [] n first all w).rooms) ≡ bytes [] n (first ++ second) all w
