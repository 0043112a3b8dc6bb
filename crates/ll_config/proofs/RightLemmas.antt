-- The lines up to a number are right: what is read from later lines finds no wrong line among them.
use Rattle.std.proofs.Common.{ℕ, ◌+◌, ◌<◌, ◌==◌, List, [], ◌∷◌, Bool, true, false, cond, Option, Some, None, Result, Ok, Err, codes, length, arith}
use Rattle.std.specs.Str.{is_utf8}
use Rattle.ll_config.specs.Config.{Hosted, Left, and_then, begins, files_from, hosted_from, hosted_then, next, next_if, next_path, next_text, path_line, text_of, told, with_line}
use Rattle.ll_config.specs.Faults.{IsRightPast, IsRightTo, LeadsPast}
use Rattle.ll_config.specs.declared.config.Files.{Files}

-- ---- one reading after another

pub right_then : {A B : Type 0} (n : ℕ) (r : Result (A × Left) ℕ) (f : A × Left → Result B ℕ) → IsRightPast n r
    → ((x : A × Left) → n < x.1.number → IsRightTo n (f x)) → IsRightTo n (and_then r f)
right_then n (Ok x) f past on = on x past
right_then n (Err bad) f past on = past

past-then : {A B : Type 0} (n : ℕ) (r : Result (A × Left) ℕ) (f : A × Left → Result (B × Left) ℕ) → IsRightPast n r
    → ((x : A × Left) → n < x.1.number → IsRightPast n (f x)) → IsRightPast n (and_then r f)
past-then n (Ok x) f past on = on x past
past-then n (Err bad) f past on = past

leads-past : {A : Type 0} (n : ℕ) (r : Result (A × Left) ℕ) → LeadsPast n r → IsRightPast n r
leads-past n (Ok x) past = past
leads-past n (Err bad) past = absurd past

pub right_value : {A B : Type 0} (n : ℕ) (r : Result A ℕ) (f : A → B) → IsRightTo n r → IsRightTo n (and_then r (λ x. Ok (f x)))
right_value n (Ok x) f right = tt
right_value n (Err bad) f right = right

-- ---- a line

told-past : {A : Type 0} (n number : ℕ) (o : Option A) (left : Left) → n < number → n < left.number → IsRightPast n (told number o left)
told-past n number None left here there = here
told-past n number (Some value) left here there = there

text-past : (n : ℕ) (line : List ℕ) (rest : List (List ℕ)) (number : ℕ) (b : Bool) → n < number
    → IsRightPast n (cond b (Ok (line, record { lines = rest; number = number + 1 })) (Err number))
text-past n line rest number true here = omega (arith, here)
text-past n line rest number false here = here

next-text-past : (n : ℕ) (lines : List (List ℕ)) (number : ℕ) → n < number → IsRightPast n (text_of lines number)
next-text-past n [] number here = here
next-text-past n (line ∷ rest) number here = text-past n line rest number (is_utf8 line) here

next-past : {A : Type 0} (n : ℕ) (read : List ℕ → Option A) (left : Left) → n < left.number → IsRightPast n (next read left)
next-past n read left here =
    past-then n (next_text left) (λ t. told left.number (read t.0) t.1) (next-text-past n left.lines left.number here)
    (λ t there. told-past n left.number (read t.0) t.1 here there)

if-past : {A : Type 0} (n : ℕ) (b : Bool) (r : Result (Option A × Left) ℕ) (left : Left) → IsRightPast n r → n < left.number
    → IsRightPast n (cond b r (Ok (None, left)))
if-past n true r left past here = past
if-past n false r left past here = here

pub next_if_past : {A : Type 0} (n : ℕ) (key : List ℕ) (read : List ℕ → Option A) (left : Left) → n < left.number → IsRightPast n (next_if key read left)
next_if_past n key read left here =
    if-past n (begins key left.lines) (and_then (next read left) (λ t. Ok (Some t.0, t.1))) left
    (past-then n (next read left) (λ t. Ok (Some t.0, t.1)) (next-past n read left here) (λ x there. there)) here

-- ---- the paths of files

path-past : (n : ℕ) (key : List ℕ) (left : Left) → n < left.number → IsRightPast n (next_path key left)
path-past n key left here = next_if_past n key (path_line key) left here

abbrev pub with_spool : Option (List ℕ) → Option (List ℕ) → Left → Result (Files × Left) ℕ
with_spool r l left = and_then (next_path (codes "spool ") left) (λ s. Ok (record { records = r; log = l; spool = s.0 }, s.1))

abbrev pub with_log : Option (List ℕ) → Left → Result (Files × Left) ℕ
with_log r left = and_then (next_path (codes "log ") left) (λ l. with_spool r l.0 l.1)

spool-past : (n : ℕ) (r l : Option (List ℕ)) (left : Left) → n < left.number → IsRightPast n (with_spool r l left)
spool-past n r l left here =
    past-then n (next_path (codes "spool ") left) (λ s. Ok (record { records = r; log = l; spool = s.0 }, s.1)) (path-past n (codes "spool ") left here) (λ x there. there)

log-past : (n : ℕ) (r : Option (List ℕ)) (left : Left) → n < left.number → IsRightPast n (with_log r left)
log-past n r left here =
    past-then n (next_path (codes "log ") left) (λ l. with_spool r l.0 l.1) (path-past n (codes "log ") left here) (λ x there. spool-past n r x.0 x.1 there)

-- out of memory for a path
pub records_right : (n : ℕ) (left : Left) → LeadsPast n (next_path (codes "record ") left) → IsRightPast n (files_from left)
records_right n left past =
    let read = next_path (codes "record ") left in
    past-then n read (λ r. with_log r.0 r.1) (leads-past n read past) (λ x there. log-past n x.0 x.1 there)

pub log_right : (n : ℕ) (r : Option (List ℕ)) (left : Left) → LeadsPast n (next_path (codes "log ") left) → IsRightPast n (with_log r left)
log_right n r left past =
    let read = next_path (codes "log ") left in
    past-then n read (λ l. with_spool r l.0 l.1) (leads-past n read past) (λ x there. spool-past n r x.0 x.1 there)

pub spool_right : (n : ℕ) (r l : Option (List ℕ)) (left : Left) → LeadsPast n (next_path (codes "spool ") left) → IsRightPast n (with_spool r l left)
spool_right n r l left past =
    let read = next_path (codes "spool ") left in
    past-then n read (λ s. Ok (record { records = r; log = l; spool = s.0 }, s.1)) (leads-past n read past) (λ x there. there)

-- ---- channels

none-right : (n number : ℕ) (before : Hosted) (b : Bool) → n < number → IsRightTo n (cond b (Err number) (Ok before))
none-right n number before true here = here
none-right n number before false here = tt

then-right : (n number : ℕ) (o : Option Hosted) (more : Hosted → Result Hosted ℕ) → n < number → ((h : Hosted) → IsRightTo n (more h))
    → IsRightTo n (hosted_then number o more)
then-right n number None more here on = here
then-right n number (Some h) more here on = on h

pub hosted_right : (n : ℕ) (before : Hosted) (lines : List (List ℕ)) (number : ℕ) → n < number → IsRightTo n (hosted_from before lines number)
hosted_right n before [] number here = none-right n number before (length before.channels == 0) here
hosted_right n before (line ∷ rest) number here =
    then-right n number (cond (is_utf8 line) (with_line before line) None) (λ h. hosted_from h rest (number + 1)) here
    (λ h. hosted_right n h rest (number + 1) (omega (arith, here)))
