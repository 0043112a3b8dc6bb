-- Four fields of at most four bytes each.
use Rattle.std.proofs.Common.{arith, ◌≡◌, ℕ, ◌+◌, ◌≤◌, refl}
use Rattle.ll_mp4.specs.Numbers.{room}
use Rattle.ll_mp4.specs.Samples.{width}
use Rattle.ll_mp4.proofs.runs.width.Goals as goal

few : (a b c d : ℕ) → a ≤ 4 → b ≤ 4 → c ≤ 4 → d ≤ 4 → a + b + c + d ≤ 16
few a b c d e f g h = omega arith

same : (flags a b c d : ℕ) → a ≡ room flags 0x000100 4 → b ≡ room flags 0x000200 4 → c ≡ room flags 0x000400 4 → d ≡ room flags 0x000800 4
    → a + b + c + d ≡ width flags
same flags a b c d e f g h = rw (e, f, g, h) refl

pub returns-clause-told : goal.returns-clause-told
returns-clause-told c =
    same c.args.flags _ _ _ _ c.room.ensures.told c.room-2.ensures.told c.room-3.ensures.told c.room-4.ensures.told

pub returns-clause-few : goal.returns-clause-few
returns-clause-few c = few _ _ _ _ c.room.ensures.few c.room-2.ensures.few c.room-3.ensures.few c.room-4.ensures.few
