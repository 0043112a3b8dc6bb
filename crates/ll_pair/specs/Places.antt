-- Which of several places is furthest on.
use Rattle.std.specs.Prelude.{◌==◌, Bool, List, Option, Some, None, fold, if◌then◌else◌, nat_lt}
use Rattle.ll_announce.specs.declared.place.Place.{Place}
use Rattle.ll_announce.specs.declared.standing.Standing.{Standing}

-- a place is beyond another by its number, then its index, then the end of all parts
abbrev pub is_beyond : Place → Place → Bool
is_beyond place other =
    if place.number == other.number then if place.index == other.index then nat_lt other.end place.end else nat_lt other.index place.index
    else nat_lt other.number place.number

-- the one of two standings that is further on, and the first of two of which none is
abbrev pub further_of : Option Standing → Option Standing → Option Standing
further_of (Some one) (Some two) = if is_beyond two.place one.place then Some two else Some one
further_of (Some one) None = Some one
further_of None other = other

-- the one that is furthest on of those that are known, and the first of several such
abbrev pub furthest : List (Option Standing) → Option Standing
furthest standings = fold further_of None standings
