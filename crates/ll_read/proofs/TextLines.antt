-- The lines of a text in UTF-8 are in UTF-8, with LF at their ends.
use Rattle.std.proofs.Common.{◌≡◌, ℕ, ◌+◌, ◌-◌, ◌<◌, ◌==◌, Bool, true, false, List, [], ◌∷◌, ◌++◌, length, length-append, take, refl, sym, subst, arith, if◌then◌else◌, get_or, slice_index}
use Rattle.std.proofs.lemmas.Bool.Decides.{nat_tests}
use Rattle.std.proofs.lemmas.List.Splits.{join_with_byte-slice_split}
use Rattle.std.proofs.lemmas.Str.{IsCharBoundary-after_ascii, IsCharBoundary-before_ascii, IsUtf8-append, IsUtf8-drop, IsUtf8-from_is_utf8, IsUtf8-take, is_utf8-from_IsUtf8}
use Rattle.std.proofs.Math.Seq.{drop-append-add, get_or-append_seam, take-append_seam}
use Rattle.std.specs.List.{join_with_byte}
use Rattle.std.specs.Str.{IsUtf8, is_utf8}
use Rattle.std.specs.Str.Lines.{strip_carriage_return}
use Rattle.ll_attr.specs.Words.{pieces_at}
use Rattle.ll_read.specs.Reading.{line_feeds_of, with_line_feeds}
use Rattle.ll_read.proofs.Ends.{ends_so}

-- what stands before an ASCII byte and what stands after it
apart : (xs : List ℕ) (c : ℕ) (ys : List ℕ) → c < 128 → IsUtf8 (xs ++ (c ∷ ys)) → IsUtf8 xs × IsUtf8 ys
apart xs c ys low u =
    let all = xs ++ (c ∷ ys) in
    let within : length xs < length all = omega (arith, length-append xs (c ∷ ys)) in
    let ascii : get_or all (length xs) 0 < 128 = omega (arith, get_or-append_seam xs c ys 0, low) in
    let end = IsUtf8-drop all (length xs + 1) u (IsCharBoundary-after_ascii all (length xs) u within ascii) in (
      subst IsUtf8 (take-append_seam xs (c ∷ ys)) (IsUtf8-take all (length xs) u (IsCharBoundary-before_ascii all (length xs) within ascii)),
      subst IsUtf8 (drop-append-add xs (c ∷ ys) 1) end,
    )

stripped_by : (x : Bool) (b : ℕ) (bs : List ℕ) → (slice_index (b ∷ bs) (length (b ∷ bs) - 1) == 13) ≡ x → IsUtf8 (b ∷ bs)
    → IsUtf8 (if x then take (length (b ∷ bs) - 1) (b ∷ bs) else b ∷ bs)
stripped_by false b bs e u = u
stripped_by true b bs e u = (apart (take (length (b ∷ bs) - 1) (b ∷ bs)) 13 [] (omega arith) (subst IsUtf8 (ends_so b bs (grind (arith, nat_tests))) u)).0

stripped : (line : List ℕ) → IsUtf8 line → IsUtf8 (strip_carriage_return line)
stripped [] u = u
stripped (b ∷ bs) u = stripped_by (slice_index (b ∷ bs) (length (b ∷ bs) - 1) == 13) b bs refl u

each_line : (parts : List (List ℕ)) → IsUtf8 (join_with_byte 10 parts) → IsUtf8 (line_feeds_of parts)
unfolding lib.Utf8.encode
each_line [] u = u
each_line (rest ∷ []) u = u
each_line (line ∷ below ∷ more) u =
    let both = apart line 10 (join_with_byte 10 (below ∷ more)) (omega arith) u in
    IsUtf8-append (strip_carriage_return line) (10 ∷ line_feeds_of (below ∷ more)) (stripped line both.0)
    (IsUtf8-append (10 ∷ []) (line_feeds_of (below ∷ more)) (10 ∷ [], (refl, refl)) (each_line (below ∷ more) both.1))

pub utf8-lines : (text : List ℕ) → is_utf8 text ≡ true → is_utf8 (with_line_feeds text) ≡ true
utf8-lines text h =
    is_utf8-from_IsUtf8 (with_line_feeds text) (each_line (pieces_at 10 text) (subst IsUtf8 (sym (join_with_byte-slice_split 10 text)) (IsUtf8-from_is_utf8 text h)))
