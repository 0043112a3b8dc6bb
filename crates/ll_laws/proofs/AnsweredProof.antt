-- Each answer of an origin is read by `llhls push` as what it says.
use Rattle.std.proofs.Common.{◌≡◌, ℕ, ◌<◌, ◌≤◌, ◌^◌, ◌&&◌, ◌||◌, not, Bool, true, false, List, [], ◌∷◌, ◌++◌, Some, refl, ap, ap₂, sym, ◌∙◌, append_assoc, arith, codes, decimal, is_some, length, length-append, nat_le}
use Rattle.std.proofs.lemmas.Bool.{and_from, and_parts, leb-true}
use Rattle.std.proofs.lemmas.Fmt.{length-decimal-le}
use Rattle.std.specs.Fmt.{digits}
use Rattle.ll_attr.specs.Numbers.{number_in}
use Rattle.ll_entry.proofs.Numbers.{number-back, number-word}
use Rattle.ll_format.proofs.FormatLaws.{key_again, lacks}
use Rattle.ll_publish.specs.Refusals.{at_line, ended_word, ok_line, refusal_code, refusal_line, refusal_name}
use Rattle.ll_publish.specs.declared.refusal.Refusal.{Refusal}
use Rattle.ll_publish.specs.declared.refusal.Refusal.TheVariants.{Rule, BadLine, UnknownChannel, LineTooLong, MediaTooLong, NotAllowed}
use Rattle.ll_announce.specs.Standings.{standing}
use Rattle.ll_announce.proofs.StandingLaws.{standing-laws}
use Rattle.ll_format.specs.Format.{flag_text}
use Rattle.ll_verdict.specs.declared.standing.Standing.{Standing as Told}
use Rattle.ll_push.specs.Answers.{counts, ended, gives, gives_reason, halves, is_code_and_name, is_not_kept, is_ok, is_word}
use Rattle.ll_rendition.specs.declared.fault.PublishFault.TheVariants as fault
use Rattle.ll_laws.specs.Pushed.{AcceptedLaw, IsAnswer, IsCounted, NotKeptLaw, RefusedLaw, StandingLaw, told_of}
use Rattle.ll_laws.proofs.SentLines.{after-at, any-at, before-at}

or-true : (a b : Bool) → a ≡ true → (a || b) ≡ true
or-true a b h = ap (λ c. c || b) h

pub accepted : AcceptedLaw
unfolding ok_line
accepted count small = (
  record {
    line = codes "ok " ++ decimal count;
    is = refl;
    short =
        let few = length-decimal-le 20 count (omega arith) (omega (arith, small)) small in
        let sum = length-append (decimal count) (codes "\n") in
        omega (arith, few, sum);
    accepts =
        or-true (is_ok (codes "ok " ++ decimal count)) _ (ap counts (key_again (codes "ok ") (decimal count)) ∙ ap is_some (number-back count small));
    refuses = refl;
  },
  refl,
)

pub not_kept : NotKeptLaw
unfolding digits refusal_line
not_kept count = (record { line = codes "no 20 NotKept"; is = refl; short = leb-true 14 128 refl; accepts = refl; refuses = refl }, refl)

-- the line of a number and a name
abbrev spoken : ℕ → List ℕ → List ℕ
spoken code name = codes "no " ++ (decimal code ++ 32 ∷ name)

-- the words of a refusal: its number has two digits at most, its name is up to 30 letters, and they aren't those of an item that isn't kept
abbrev AreWords : Refusal → Type 0
AreWords reason =
    (is_word (refusal_name reason) ≡ true) × ((nat_le (refusal_code reason) 99 && nat_le (length (refusal_name reason)) 30) ≡ true)
    × (is_not_kept (spoken (refusal_code reason) (refusal_name reason)) ≡ false)

words : (reason : Refusal) → AreWords reason
unfolding digits
words (Rule fault.NoRendition) = (refl, refl, refl)
words (Rule fault.Ended) = (refl, refl, refl)
words (Rule fault.BadDuration) = (refl, refl, refl)
words (Rule fault.TooLong) = (refl, refl, refl)
words (Rule fault.OpenSegment) = (refl, refl, refl)
words (Rule fault.CountEnd) = (refl, refl, refl)
words (Rule fault.TimeEnd) = (refl, refl, refl)
words (Rule fault.IdTaken) = (refl, refl, refl)
words (Rule fault.BadAttribute) = (refl, refl, refl)
words (Rule fault.IdUnknown) = (refl, refl, refl)
words (Rule fault.RecordFull) = (refl, refl, refl)
words (Rule fault.Memory) = (refl, refl, refl)
words (Rule fault.NoSegment) = (refl, refl, refl)
words (Rule fault.TimeBack) = (refl, refl, refl)
words BadLine = (refl, refl, refl)
words UnknownChannel = (refl, refl, refl)
words LineTooLong = (refl, refl, refl)
words MediaTooLong = (refl, refl, refl)
words NotAllowed = (refl, refl, refl)

halves-are : (front back : List ℕ) → lacks 32 front ≡ true → halves (front ++ 32 ∷ back) ≡ Some (front, back)
halves-are front back spaceless =
    rw (any-at 32 front back) (ap₂ (λ a b. Some (a, b)) (before-at 32 front back spaceless) (after-at 32 front back spaceless))

-- a line of a number and a name refuses
said : (code : ℕ) (name : List ℕ) → code < 2 ^ 64 → is_word name ≡ true → length name ≤ 30 → is_not_kept (spoken code name) ≡ false
    → IsAnswer (refusal_line code name) false true
unfolding refusal_line
said code name small word few other = record {
  line = spoken code name;
  is = ap (λ l. codes "no " ++ l) (sym (append_assoc (decimal code) (32 ∷ name) (codes "\n")));
  short =
      let digits = length-decimal-le 20 code (omega arith) (omega (arith, small)) small in
      let all = length-append (decimal code) (codes " " ++ (name ++ codes "\n")) in
      let rest = length-append name (codes "\n") in
      omega (arith, digits, all, rest, few);
  accepts = other;
  refuses =
      and_from (gives_reason (spoken code name)) (not (is_not_kept (spoken code name)))
      (ap gives (key_again (codes "no ") (decimal code ++ 32 ∷ name)) ∙ ap is_code_and_name (halves-are (decimal code) name (number-word code small).spaceless)
      ∙ and_from (is_some (number_in 20 (decimal code))) (is_word name) (ap is_some (number-back code small)) word)
      (ap not other);
}

pub refused : RefusedLaw
refused reason =
    let three = words reason in
    let few = and_parts (nat_le (refusal_code reason) 99) (nat_le (length (refusal_name reason)) 30) three.1 in
    let small = leb-true (refusal_code reason) 99 few.0 in
    said (refusal_code reason) (refusal_name reason) (omega (arith, small)) three.0 (leb-true (length (refusal_name reason)) 30 few.1) three.2

-- ---- where a rendition stands

-- numbers with a space between two of them, a flag and an end
nested : (dc dn di de dt flag end : List ℕ)
    → (dc ++ ((32 ∷ (dn ++ (32 ∷ (di ++ (32 ∷ de))))) ++ (32 ∷ (dt ++ flag)))) ++ end ≡ dc ++ (32 ∷ (dn ++ (32 ∷ (di ++ (32 ∷ (de ++ (32 ∷ (dt ++ (flag ++ end)))))))))
nested dc dn di de dt flag end =
    let place = 32 ∷ (dn ++ (32 ∷ (di ++ (32 ∷ de)))) in
    let rest = 32 ∷ (dt ++ (flag ++ end)) in
    append_assoc dc (place ++ (32 ∷ (dt ++ flag))) end
    ∙ ap (λ l. dc ++ l)
    (append_assoc place (32 ∷ (dt ++ flag)) end ∙ ap (λ l. place ++ (32 ∷ l)) (append_assoc dt flag end)
    ∙ ap (λ l. 32 ∷ l) (append_assoc dn (32 ∷ (di ++ (32 ∷ de))) rest ∙ ap (λ l. dn ++ (32 ∷ l)) (append_assoc di (32 ∷ de) rest)))

ended-flag : (ended : Bool) → ended_word ended ≡ flag_text (codes " ended") ended
ended-flag true = refl
ended-flag false = refl

few-flag : (ended : Bool) → length (flag_text (codes " ended") ended) ≤ 6
few-flag true = omega arith
few-flag false = omega arith

module _ (s : Told) (counted : IsCounted s) where
  abbrev flag : List ℕ
  flag = flag_text (codes " ended") s.ended

  abbrev spelled : List ℕ
  spelled = standing.print (told_of s)

  is-spelled : at_line s ≡ ended spelled
  unfolding at_line
  is-spelled =
      ap (λ l. codes "at " ++ (decimal s.count ++ (32 ∷ (decimal s.number ++ (32 ∷ (decimal s.index ++ (32 ∷ (decimal s.end_time ++ (32 ∷ (decimal s.time ++ (l ++ 10 ∷ [])))))))))))
      (ended-flag s.ended)
      ∙ ap (λ l. codes "at " ++ l) (sym (nested (decimal s.count) (decimal s.number) (decimal s.index) (decimal s.end_time) (decimal s.time) flag (10 ∷ [])))

  short-digits : (n : ℕ) → n < 2 ^ 64 → length (decimal n) ≤ 20
  short-digits n small = length-decimal-le 20 n (omega arith) (omega (arith, small)) small

  is-short : length (at_line s) ≤ 128
  unfolding at_line
  is-short =
      let count = short-digits s.count counted.count in
      let number = short-digits s.number counted.number in
      let index = short-digits s.index counted.index in
      let end = short-digits s.end_time counted.end_time in
      let time = short-digits s.time counted.time in
      let few = few-flag s.ended in
      let word = ap (λ (l : List ℕ). length l) (ended-flag s.ended) in
      let last = length-append (ended_word s.ended) (codes "\n") in
      let five = length-append (decimal s.time) (ended_word s.ended ++ codes "\n") in
      let four = length-append (decimal s.end_time) (codes " " ++ (decimal s.time ++ (ended_word s.ended ++ codes "\n"))) in
      let three = length-append (decimal s.index) (codes " " ++ (decimal s.end_time ++ (codes " " ++ (decimal s.time ++ (ended_word s.ended ++ codes "\n"))))) in
      let two = length-append (decimal s.number) (codes " " ++ (decimal s.index ++ (codes " " ++ (decimal s.end_time ++ (codes " " ++ (decimal s.time ++ (ended_word s.ended ++ codes "\n"))))))) in
      let one = length-append (decimal s.count) (codes " " ++ (decimal s.number ++ (codes " " ++ (decimal s.index ++ (codes " " ++ (decimal s.end_time ++ (codes " " ++ (decimal s.time ++ (ended_word s.ended ++ codes "\n"))))))))) in
      omega (arith, count, number, index, end, time, few, word, last, five, four, three, two, one)

  stands : (a : IsAnswer (at_line s) false false) × (standing.read a.line ≡ Some (told_of s))
  stands = (
    record { line = spelled; is = is-spelled; short = is-short; accepts = refl; refuses = refl },
    standing-laws.again (told_of s)
        (omega (arith, counted.count), (((omega (arith, counted.number), (omega (arith, counted.index), omega (arith, counted.end_time)))), (omega (arith, counted.time), tt))),
  )

pub standing_read : StandingLaw
standing_read s counted = stands s counted
