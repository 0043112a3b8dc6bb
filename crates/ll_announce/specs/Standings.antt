-- The answer of an origin that says where a rendition stands, without its end.
use Rattle.std.specs.Prelude.{ℕ, ◌-◌, ◌^◌, Bool, List, codes}
use Rattle.ll_format.specs.Format.{Format, Word, after_key, beside, flag, mapped_word, up_to, whole}
use Rattle.ll_format.specs.Words.{number}
use Rattle.ll_announce.specs.declared.standing.Standing.{Standing}

-- a number up to a space or the end
abbrev pub number_format : Format ℕ
number_format = up_to 32 (number (2 ^ 64 - 1))

-- one after a space
abbrev pub next_format : Format ℕ
next_format = after_key (codes " ") number_format

-- the Media Sequence Number and the Part Index of the next part, and how many microseconds all parts last
abbrev pub place_format : Format (ℕ × (ℕ × ℕ))
place_format = beside number_format (beside next_format next_format)

-- the number of items that the channel has accepted; the place; when the next part begins, in milliseconds; whether the rendition has ended
abbrev pub Numbers : Type 0
Numbers = ℕ × ((ℕ × (ℕ × ℕ)) × (ℕ × Bool))

abbrev pub standing_of : Numbers → Standing
standing_of n = record {
  count = n.0;
  place = record { number = n.1.0.0; index = n.1.0.1.0; end = n.1.0.1.1; ended = n.1.1.1 };
  time = n.1.1.0;
}

abbrev pub numbers_of : Standing → Numbers
numbers_of s = (s.count, ((s.place.number, (s.place.index, s.place.end)), (s.time, s.place.ended)))

-- `at COUNT NUMBER INDEX END TIME`, then ` ended` if the rendition has ended
abbrev pub numbers_format : Format Numbers
numbers_format =
    after_key (codes "at ") (beside number_format (beside (after_key (codes " ") place_format) (beside next_format (flag (codes " ended")))))

abbrev pub standing : Word Standing
standing = mapped_word standing_of numbers_of (whole numbers_format)
