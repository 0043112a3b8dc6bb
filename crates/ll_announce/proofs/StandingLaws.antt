-- A standing that is spelled is read again, and what is read is spelled so, on one line.
use Rattle.std.proofs.Common.{◌≡◌, ℕ, ◌-◌, ◌^◌, true, false, [], refl, arith, codes}
use Rattle.ll_announce.specs.Standings.{Numbers, next_format, number_format, numbers_format, numbers_of, place_format, standing, standing_of}
use Rattle.ll_format.proofs.FormatLaws.{FormatLaws, WordLaws, after_key-laws, beside-laws, flag-laws, mapped_word-laws, up_to-laws, whole-laws}
use Rattle.ll_format.proofs.WordLaws.{number-lacks, number-laws}

number-format-laws : FormatLaws number_format
number-format-laws = up_to-laws 32 (number-laws (2 ^ 64 - 1) (omega arith)) (λ n h. number-lacks 32 (2 ^ 64 - 1) n refl (omega arith) h)

next-laws : FormatLaws next_format
next-laws = after_key-laws (codes " ") refl number-format-laws

place-laws : FormatLaws place_format
place-laws = beside-laws number-format-laws (beside-laws next-laws next-laws)

numbers-laws : FormatLaws numbers_format
numbers-laws =
    after_key-laws (codes "at ") refl
    (beside-laws number-format-laws (beside-laws (after_key-laws (codes " ") refl place-laws) (beside-laws next-laws (flag-laws (codes " ended") refl))))

numbers-end : (n : Numbers) → numbers_format.ends n [] ≡ true
numbers-end (count, (place, (time, true))) = refl
numbers-end (count, (place, (time, false))) = refl

pub standing-laws : WordLaws standing
standing-laws = mapped_word-laws standing_of numbers_of (λ n. refl) (λ s. refl) (whole-laws numbers-laws numbers-end)
