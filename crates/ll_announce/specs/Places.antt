-- The place of a rendition's next part, and how an item moves it.
use Rattle.std.specs.Prelude.{ℕ, ◌+◌, ◌-◌, ◌^◌, true, false, min}
use Rattle.ll_announce.specs.declared.place.Place.{Place}
use Rattle.ll_announce.specs.declared.said.Said.{Said}
use Rattle.ll_announce.specs.declared.said.Said.TheVariants.{Init, Part, Finish, Break, End}

-- a sum, at most 2^64 - 1
abbrev pub up : ℕ → ℕ → ℕ
up a b = min (a + b) (2 ^ 64 - 1)

-- the place after an item that was accepted; the end finishes an open segment
abbrev pub led : Place → Said → Place
led p Init = p
led p (Part duration false) = record p { index = up p.index 1; end = up p.end duration }
led p (Part duration true) = record p { number = up p.number 1; index = 0; end = up p.end duration }
led p Finish = record p { number = up p.number 1; index = 0 }
led p (Break time) = p
led p End = record p { number = up p.number (min p.index 1); index = 0; ended = true }
