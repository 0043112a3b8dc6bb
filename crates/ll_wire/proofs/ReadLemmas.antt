-- A head at the front is what is read there.
use Rattle.std.proofs.Common.{◌≡◌, ℕ, zero, suc, ◌==◌, ◌<◌, ◌≤◌, List, [], ◌∷◌, ◌++◌, Bool, true, false, refl, ap, ◌∙◌, sym, arith, append_assoc, append-nil, length, fold, flat_map, ◌&&◌}
use Rattle.std.specs.Prelude.{nat_lt, All, IsTrue}
use Rattle.std.specs.Str.{is_utf8, IsUtf8}
use Rattle.std.proofs.lemmas.Str.{is_utf8-from_IsUtf8}
use Rattle.std.proofs.lemmas.Bool.Decides.{nat_tests}
use Rattle.std.proofs.lemmas.List.Elements.{All-head, All-tail}
use Rattle.httparse.specs.Grammar.{is_token_byte, is_uri_byte, is_value_byte, AllPass, LineEnd, crlf, lf, print_end, print_blank, print_version, print_field, Field, IsField, RequestHead, IsRequestHead, ReadsRequest, print_request}
use Rattle.httparse.proofs.GrammarLemmas.{print_request-append}
use Rattle.ll_wire.specs.Reading.{Reading, Blank, Method, Target, Version, LineStop, Lines, Name, Value, Whole, nothing_yet, start, step, read, blank_by, method_by, target_by, target_done, lines_by, name_by, value_by, version_front}
use Rattle.ll_wire.proofs.SpelledLemmas.{fold-more, whole_stays}

cr_is_none : is_token_byte 13 ≡ false
unfolding is_token_byte
cr_is_none = refl

lf_is_none : is_token_byte 10 ≡ false
unfolding is_token_byte
lf_is_none = refl

space_is_none : is_token_byte 32 ≡ false
unfolding is_token_byte
space_is_none = refl

colon_is_none : is_token_byte 58 ≡ false
unfolding is_token_byte
colon_is_none = refl

then_read : (s t u : Reading) (a b : List ℕ) → fold step s a ≡ t → fold step t b ≡ u → fold step s (a ++ b) ≡ u
then_read s t u a b p q = fold-more step s a b ∙ ap (λ x. fold step x b) p ∙ q

blank_read : (es : List LineEnd) (h : RequestHead) → fold step (Blank h) (print_blank es) ≡ Blank (record h { blank = h.blank ++ es })
blank_read [] h = ap (λ l. Blank (record h { blank = l })) (sym (append-nil h.blank))
blank_read (crlf ∷ es) h =
    ap (λ t. fold step (step (blank_by t true false h 13) 10) (print_blank es)) cr_is_none
    ∙ blank_read es (record h { blank = h.blank ++ crlf ∷ [] })
    ∙ ap (λ l. Blank (record h { blank = l })) (append_assoc h.blank (crlf ∷ []) es)
blank_read (lf ∷ es) h =
    ap (λ t. fold step (blank_by t false true h 10) (print_blank es)) lf_is_none
    ∙ blank_read es (record h { blank = h.blank ++ lf ∷ [] })
    ∙ ap (λ l. Blank (record h { blank = l })) (append_assoc h.blank (lf ∷ []) es)

-- bytes of one kind, one after another
runs : (S : List ℕ → Reading) (test : ℕ → Bool) → ((acc : List ℕ) (b : ℕ) → test b ≡ true → step (S acc) b ≡ S (acc ++ b ∷ []))
    → (m acc : List ℕ) → AllPass test m → fold step (S acc) m ≡ S (acc ++ m)
runs S test go [] acc all = ap S (sym (append-nil acc))
runs S test go (b ∷ m) acc all =
    ap (λ s. fold step s m) (go acc b (All-head (λ v. IsTrue (test v)) b m all))
    ∙ runs S test go m (acc ++ b ∷ []) (All-tail (λ v. IsTrue (test v)) b m all) ∙ ap S (append_assoc acc (b ∷ []) m)

method_read : (h : RequestHead) (m : List ℕ) → 0 < length m → AllPass is_token_byte m → fold step (Blank h) m ≡ Method (record h { method = m })
method_read h [] some all = absurd (omega arith)
method_read h (b ∷ m) some all =
    ap (λ t. fold step (blank_by t (b == 13) (b == 10) h b) m) (All-head (λ v. IsTrue (is_token_byte v)) b m all)
    ∙ runs (λ acc. Method (record h { method = acc })) is_token_byte (λ acc c e. ap (λ t. method_by t (c == 32) (record h { method = acc }) c) e) m (b ∷ [])
    (All-tail (λ v. IsTrue (is_token_byte v)) b m all)

space_read : (h : RequestHead) → step (Method h) 32 ≡ Target (record h { target = [] })
space_read h = ap (λ t. method_by t true h 32) space_is_none

target_read : (h : RequestHead) (t : List ℕ) → AllPass is_uri_byte t → fold step (Target (record h { target = [] })) t ≡ Target (record h { target = t })
target_read h t all =
    runs (λ acc. Target (record h { target = acc })) is_uri_byte (λ acc c e. ap (λ u. target_by u (c == 32) (record h { target = acc }) c) e) t [] all

target_end : (h : RequestHead) → 0 < length h.target → IsUtf8 h.target → step (Target h) 32 ≡ Version h version_front
target_end h some text =
    let a : nat_lt 0 (length h.target) ≡ true = grind (arith, nat_tests) in
    let b = is_utf8-from_IsUtf8 h.target text in
    ap (λ t. target_done (t && is_utf8 h.target) h) a ∙ ap (λ t. target_done t h) b

version_read : (h : RequestHead) (minor : ℕ) → minor ≤ 1 → fold step (Version h version_front) (print_version minor) ≡ LineStop (record h { minor = minor })
version_read h zero le = refl
version_read h (suc zero) le = refl
version_read h (suc (suc n)) le = absurd (omega arith)

end_read : (h : RequestHead) (e : LineEnd) → fold step (LineStop h) (print_end e) ≡ Lines (record h { line_end = e; fields = [] })
end_read h crlf = refl
end_read h lf = refl

last_read : (h : RequestHead) (e : LineEnd) → fold step (Lines h) (print_end e) ≡ Whole (record h { last = e })
last_read h crlf = ap (λ t. step (lines_by t true false h 13) 10) cr_is_none
last_read h lf = ap (λ t. lines_by t false true h 10) lf_is_none

name_read : (h : RequestHead) (n : List ℕ) → 0 < length n → AllPass is_token_byte n → fold step (Lines h) n ≡ Name h n
name_read h [] some all = absurd (omega arith)
name_read h (b ∷ n) some all =
    ap (λ t. fold step (lines_by t (b == 13) (b == 10) h b) n) (All-head (λ v. IsTrue (is_token_byte v)) b n all)
    ∙ runs (Name h) is_token_byte (λ acc c e. ap (λ t. name_by t (c == 58) h acc c) e) n (b ∷ []) (All-tail (λ v. IsTrue (is_token_byte v)) b n all)

value_read : (h : RequestHead) (n raw : List ℕ) → AllPass is_value_byte raw → fold step (Value h n []) raw ≡ Value h n raw
value_read h n raw all = runs (Value h n) is_value_byte (λ acc c e. ap (λ t. value_by t (c == 13) (c == 10) h n acc c) e) raw [] all

value_end : (h : RequestHead) (n raw : List ℕ) (e : LineEnd)
    → fold step (Value h n raw) (print_end e) ≡ Lines (record h { fields = h.fields ++ (record { name = n; raw = raw; end = e }) ∷ [] })
value_end h n raw crlf = refl
value_end h n raw lf = refl

field_read : (h : RequestHead) (f : Field) → IsField f → fold step (Lines h) (print_field f) ≡ Lines (record h { fields = h.fields ++ f ∷ [] })
field_read h f is =
    then_read (Lines h) (Value h f.name f.raw) (Lines (record h { fields = h.fields ++ f ∷ [] })) (f.name ++ 58 ∷ f.raw) (print_end f.end)
    (then_read (Lines h) (Name h f.name) (Value h f.name f.raw) f.name (58 ∷ f.raw) (name_read h f.name is.name.0 is.name.1)
    (ap (λ t. fold step (name_by t true h f.name 58) f.raw) colon_is_none ∙ value_read h f.name f.raw is.raw))
    (value_end h f.name f.raw f.end)

fields_read : (fs : List Field) (h : RequestHead) → All IsField fs → fold step (Lines h) (flat_map print_field fs) ≡ Lines (record h { fields = h.fields ++ fs })
fields_read [] h all = ap (λ l. Lines (record h { fields = l })) (sym (append-nil h.fields))
fields_read (f ∷ fs) h all =
    then_read (Lines h) (Lines (record h { fields = h.fields ++ f ∷ [] })) (Lines (record h { fields = h.fields ++ (f ∷ fs) })) (print_field f) (flat_map print_field fs)
    (field_read h f (All-head IsField f fs all))
    (fields_read fs (record h { fields = h.fields ++ f ∷ [] }) (All-tail IsField f fs all) ∙ ap (λ l. Lines (record h { fields = l })) (append_assoc h.fields (f ∷ []) fs))

abbrev of_blank : RequestHead → RequestHead
of_blank h = record nothing_yet { blank = h.blank }

abbrev of_method : RequestHead → RequestHead
of_method h = record nothing_yet { blank = h.blank; method = h.method }

abbrev of_target : RequestHead → RequestHead
of_target h = record nothing_yet { blank = h.blank; method = h.method; target = h.target }

abbrev of_version : RequestHead → RequestHead
of_version h = record nothing_yet { blank = h.blank; method = h.method; target = h.target; minor = h.minor }

abbrev of_line : RequestHead → RequestHead
of_line h = record h { fields = []; last = lf }

abbrev of_fields : RequestHead → RequestHead
of_fields h = record h { last = lf }

module _ (h : RequestHead) (is : IsRequestHead h) (rest : List ℕ) where
  from_lines : fold step (Lines (of_line h)) ((flat_map print_field h.fields ++ print_end h.last) ++ rest) ≡ Whole h
  from_lines =
      then_read (Lines (of_line h)) (Whole h) (Whole h) (flat_map print_field h.fields ++ print_end h.last) rest
      (then_read (Lines (of_line h)) (Lines (of_fields h)) (Whole h) (flat_map print_field h.fields) (print_end h.last)
      (fields_read h.fields (of_line h) is.fields) (last_read (of_fields h) h.last))
      (whole_stays h rest)

  abbrev lines_left : List ℕ
  lines_left = (flat_map print_field h.fields ++ print_end h.last) ++ rest

  from_version : fold step (Version (of_target h) version_front) (print_version h.minor ++ (print_end h.line_end ++ lines_left)) ≡ Whole h
  from_version =
      then_read (Version (of_target h) version_front) (LineStop (of_version h)) (Whole h) (print_version h.minor) (print_end h.line_end ++ lines_left)
      (version_read (of_target h) h.minor is.minor)
      (then_read (LineStop (of_version h)) (Lines (of_line h)) (Whole h) (print_end h.line_end) lines_left (end_read (of_version h) h.line_end) from_lines)

  abbrev version_left : List ℕ
  version_left = print_version h.minor ++ (print_end h.line_end ++ lines_left)

  from_target : fold step (Target (of_method h)) (h.target ++ 32 ∷ version_left) ≡ Whole h
  from_target =
      then_read (Target (of_method h)) (Target (of_target h)) (Whole h) h.target (32 ∷ version_left) (target_read (of_method h) h.target is.target.1)
      (ap (λ s. fold step s version_left) (target_end (of_target h) is.target.0 is.target_text) ∙ from_version)

  from_blank : fold step (Blank (of_blank h)) (h.method ++ 32 ∷ (h.target ++ 32 ∷ version_left)) ≡ Whole h
  from_blank =
      then_read (Blank (of_blank h)) (Method (of_method h)) (Whole h) h.method (32 ∷ (h.target ++ 32 ∷ version_left))
      (method_read (of_blank h) h.method is.method.0 is.method.1)
      (ap (λ s. fold step s (h.target ++ 32 ∷ version_left)) (space_read (of_method h)) ∙ from_target)

  from_start : fold step start (print_request h ++ rest) ≡ Whole h
  from_start =
      ap (fold step start) (print_request-append h rest)
      ∙ then_read start (Blank (of_blank h)) (Whole h) (print_blank h.blank) (h.method ++ 32 ∷ (h.target ++ 32 ∷ version_left))
      (blank_read h.blank nothing_yet) from_blank

-- a head at the front is read
pub head_read : (bytes : List ℕ) (h : RequestHead) (rest : List ℕ) → ReadsRequest bytes h rest → read bytes ≡ Whole h
unfolding read
head_read bytes h rest r = ap (fold step start) r.1 ∙ from_start h r.0 rest

-- so is a target that is not at its end
pub target_part : (blank : List LineEnd) (m t : List ℕ) → 0 < length m → AllPass is_token_byte m → AllPass is_uri_byte t
    → read (print_blank blank ++ m ++ 32 ∷ t) ≡ Target (record nothing_yet { blank = blank; method = m; target = t })
unfolding read
target_part blank m t some token uri =
    ap (fold step start) (append_assoc (print_blank blank) m (32 ∷ t))
    ∙ then_read start (Blank (record nothing_yet { blank = blank })) (Target (record nothing_yet { blank = blank; method = m; target = t })) (print_blank blank) (m ++ 32 ∷ t)
    (blank_read blank nothing_yet)
    (then_read (Blank (record nothing_yet { blank = blank })) (Method (record nothing_yet { blank = blank; method = m }))
    (Target (record nothing_yet { blank = blank; method = m; target = t })) m (32 ∷ t) (method_read (record nothing_yet { blank = blank }) m some token)
    (ap (λ s. fold step s t) (space_read (record nothing_yet { blank = blank; method = m })) ∙ target_read (record nothing_yet { blank = blank; method = m }) t uri))
