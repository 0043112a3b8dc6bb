-- The number in `NotRecent`.
use Rattle.std.specs.Prelude.{◌≡◌, ℕ, ◌+◌, ◌≤◌, ◌<◌, Some, Err, true, false}
use Rattle.ll_line.specs.Playlist.{Playlist, Skip}
use Rattle.ll_apply.specs.Applied.{applied, has}
use Rattle.ll_apply.specs.declared.fault.ApplyFault.TheVariants.{NotRecent}

-- `number` is the smallest of `count` numbers, from `from` on, of which a playlist has no finished segment
pub record IsLeastMissing (p : Playlist) (from count number : ℕ) : Type 0 where
  pub low : from ≤ number
  pub high : number < from + count
  pub lacked : has p number ≡ false
  pub others : (other : ℕ) → from ≤ other → other < number → has p other ≡ true

-- `NotRecent` has the smallest number that the update skips and the playlist lacks (section 6.2.5.1)
abbrev pub NotRecentLaw : Type 0
NotRecentLaw = (base delta : Playlist) (skip : Skip) (number : ℕ) → delta.skipped ≡ Some skip → applied base delta ≡ Err (NotRecent number)
    → IsLeastMissing base delta.sequence skip.count number
