-- What a checker keeps of the chains of a record.
use Rattle.std.specs.Prelude.{◌≡◌, ℕ, Bool, true, false, Option, Some, None}
use Rattle.ll_entry.specs.Chain.{Between, Chain, Inside, Position}
use Rattle.ll_entry.specs.declared.version.Version.{Version}
use Rattle.ll_room.specs.RoomValue.{RoomValue, Stands}

pub record ChainValue : Type 0 where
  -- what is kept of its channel
  pub room : RoomValue
  -- the format of its last chunk
  pub version : Version
  -- the number of entries of the chains before it
  pub earlier : ℕ
  -- whether the last line of its last chunk is still to come
  pub inside : Bool

-- it is what is kept of a chain
pub record IsOf (k : ChainValue) (ch : Chain) : Type 0 where
  pub chain : ch ≡ record { settings = k.room.settings; version = k.version; earlier = k.earlier; events = ch.events }
  pub stands : Stands k.room ch.events

-- it is what is kept of the chains so far
abbrev pub AreKept : Option ChainValue → Option Chain → Type 0
AreKept None None = Unit
AreKept (Some k) (Some ch) = IsOf k ch
AreKept kept before = ⊥

-- whether it is kept inside of a chunk
abbrev pub is_inside : Option ChainValue → Bool
is_inside None = false
is_inside (Some k) = k.inside

-- the chains so far
abbrev pub so_far : Position → Option Chain
so_far (Between before) = before
so_far (Inside ch) = Some ch

-- whether a position is inside of a chunk
abbrev pub stands_inside : Position → Bool
stands_inside (Between before) = false
stands_inside (Inside ch) = true

-- it is what is kept at a position
pub record IsAt (kept : Option ChainValue) (p : Position) : Type 0 where
  pub chains : AreKept kept (so_far p)
  pub inside : is_inside kept ≡ stands_inside p
