-- What was read is what the reading spells.
use Rattle.std.proofs.Common.{◌≡◌, ℕ, ◌==◌, ◌<◌, List, [], ◌∷◌, ◌++◌, Bool, true, false, refl, ap, ◌∙◌, sym, subst, arith, append_assoc, append-nil, length, length-append, fold, flat_map, ◌&&◌}
use Rattle.std.specs.Prelude.{⊤, nat_lt}
use Rattle.std.specs.Str.{is_utf8}
use Rattle.std.proofs.lemmas.Bool.Decides.{nat_tests}
use Rattle.std.proofs.lemmas.Grind.{flat_map-append}
use Rattle.httparse.specs.Grammar.{is_token_byte, is_uri_byte, is_value_byte, LineEnd, crlf, lf, print_end, print_blank, print_version, print_field, RequestHead, print_request}
use Rattle.ll_wire.specs.Reading.{Reading, Blank, BlankReturn, Method, Target, Version, LineStop, LineReturn, Lines, LinesReturn, Name, Value, ValueReturn, Whole, Wrong, start, step, read, blank_by, blank_return_by, method_by, target_by, target_done, version_by, digit_by, line_by, line_return_by, lines_by, lines_return_by, name_by, value_by, value_return_by, version_front}

-- ---- more bytes

pub fold-more : {A B : Type 0} (f : B → A → B) (z : B) (xs ys : List A) → fold f z (xs ++ ys) ≡ fold f (fold f z xs) ys
fold-more f z [] ys = refl
fold-more f z (x ∷ xs) ys = fold-more f (f z x) xs ys

pub whole_stays : (h : RequestHead) (more : List ℕ) → fold step (Whole h) more ≡ Whole h
whole_stays h [] = refl
whole_stays h (b ∷ more) = whole_stays h more

pub wrong_stays : (more : List ℕ) → fold step Wrong more ≡ Wrong
wrong_stays [] = refl
wrong_stays (b ∷ more) = wrong_stays more

-- ---- the bytes so far

abbrev pub blank_text : RequestHead → List ℕ
blank_text h = print_blank h.blank

abbrev pub method_text : RequestHead → List ℕ
method_text h = blank_text h ++ h.method

abbrev pub target_text : RequestHead → List ℕ
target_text h = (method_text h ++ 32 ∷ []) ++ h.target

abbrev pub line_front : RequestHead → List ℕ
line_front h = target_text h ++ 32 ∷ []

abbrev pub line_text : RequestHead → List ℕ
line_text h = line_front h ++ print_version h.minor

abbrev pub lines_text : RequestHead → List ℕ
lines_text h = (line_text h ++ print_end h.line_end) ++ flat_map print_field h.fields

abbrev pub value_text : RequestHead → List ℕ → List ℕ → List ℕ
value_text h name raw = lines_text h ++ (name ++ 58 ∷ raw)

-- the reading stands for the bytes
abbrev pub Spells : Reading → List ℕ → Type 0
Spells (Blank h) text = text ≡ blank_text h
Spells (BlankReturn h) text = text ≡ blank_text h ++ 13 ∷ []
Spells (Method h) text = text ≡ method_text h
Spells (Target h) text = text ≡ target_text h
Spells (Version h left) text = (begun : List ℕ) × (begun ++ left ≡ version_front) × (text ≡ line_front h ++ begun)
Spells (LineStop h) text = text ≡ line_text h
Spells (LineReturn h) text = text ≡ line_text h ++ 13 ∷ []
Spells (Lines h) text = text ≡ lines_text h
Spells (LinesReturn h) text = text ≡ lines_text h ++ 13 ∷ []
Spells (Name h name) text = text ≡ lines_text h ++ name
Spells (Value h name raw) text = text ≡ value_text h name raw
Spells (ValueReturn h name raw) text = text ≡ value_text h name raw ++ 13 ∷ []
Spells (Whole h) text = (rest : List ℕ) × (text ≡ print_request h ++ rest)
Spells Wrong text = ⊤

-- a whole head is its lines and the empty line
pub whole_text : (h : RequestHead) → print_request h ≡ lines_text h ++ print_end h.last
unfolding print_request
whole_text h =
    regroup (print_blank h.blank) h.method h.target (print_version h.minor) (print_end h.line_end) (flat_map print_field h.fields) (print_end h.last)
  where
    regroup : (a b c d e f g : List ℕ)
        → a ++ b ++ 32 ∷ c ++ 32 ∷ d ++ e ++ (f ++ g) ≡ (((((((a ++ b) ++ 32 ∷ []) ++ c) ++ 32 ∷ []) ++ d) ++ e) ++ f) ++ g
    regroup a b c d e f g = simp append_assoc

module _ (text : List ℕ) (b : ℕ) (h : RequestHead) where
  is_byte : (c : ℕ) → (b == c) ≡ true → b ≡ c
  is_byte c e = grind (arith, nat_tests)

  blank_spells : (token cr is_lf : Bool) → (b == 13) ≡ cr → (b == 10) ≡ is_lf → text ≡ blank_text h → Spells (blank_by token cr is_lf h b) (text ++ b ∷ [])
  blank_spells true cr is_lf ec el sp = ap (λ t. t ++ b ∷ []) sp
  blank_spells false true is_lf ec el sp = rw (sp, is_byte 13 ec)
  blank_spells false false true ec el sp = rw (sp, is_byte 10 el, flat_map-append)
  blank_spells false false false ec el sp = tt

  blank_return_spells : (is_lf : Bool) → (b == 10) ≡ is_lf → text ≡ blank_text h ++ 13 ∷ [] → Spells (blank_return_by is_lf h) (text ++ b ∷ [])
  blank_return_spells true el sp = rw (sp, is_byte 10 el, flat_map-append) (append_assoc (blank_text h) (13 ∷ []) (10 ∷ []))
  blank_return_spells false el sp = tt

  method_spells : (token stops : Bool) → (b == 32) ≡ stops → text ≡ method_text h → Spells (method_by token stops h b) (text ++ b ∷ [])
  method_spells true stops e sp = rw sp (append_assoc (blank_text h) h.method (b ∷ []))
  method_spells false true e sp = rw (sp, is_byte 32 e) (sym (append-nil (method_text h ++ 32 ∷ [])))
  method_spells false false e sp = tt

  done_spells : (fits : Bool) → text ≡ line_front h → Spells (target_done fits h) text
  done_spells true sp = ([], refl, sp ∙ sym (append-nil (line_front h)))
  done_spells false sp = tt

  line_spells : (cr is_lf : Bool) → (b == 13) ≡ cr → (b == 10) ≡ is_lf → text ≡ line_text h → Spells (line_by cr is_lf h) (text ++ b ∷ [])
  line_spells true is_lf ec el sp = rw (sp, is_byte 13 ec)
  line_spells false true ec el sp = rw (sp, is_byte 10 el) (sym (append-nil (line_text h ++ 10 ∷ [])))
  line_spells false false ec el sp = tt

  line_return_spells : (is_lf : Bool) → (b == 10) ≡ is_lf → text ≡ line_text h ++ 13 ∷ [] → Spells (line_return_by is_lf h) (text ++ b ∷ [])
  line_return_spells true el sp =
      rw (sp, is_byte 10 el) (append_assoc (line_text h) (13 ∷ []) (10 ∷ []) ∙ sym (append-nil (line_text h ++ 13 ∷ 10 ∷ [])))
  line_return_spells false el sp = tt

  lines_spells : (token cr is_lf : Bool) → (b == 13) ≡ cr → (b == 10) ≡ is_lf → text ≡ lines_text h → Spells (lines_by token cr is_lf h b) (text ++ b ∷ [])
  lines_spells true cr is_lf ec el sp = ap (λ t. t ++ b ∷ []) sp
  lines_spells false true is_lf ec el sp = rw (sp, is_byte 13 ec)
  lines_spells false false true ec el sp =
      ([], rw (sp, is_byte 10 el) (sym (append-nil (print_request (record h { last = lf })) ∙ whole_text (record h { last = lf }))))
  lines_spells false false false ec el sp = tt

  lines_return_spells : (is_lf : Bool) → (b == 10) ≡ is_lf → text ≡ lines_text h ++ 13 ∷ [] → Spells (lines_return_by is_lf h) (text ++ b ∷ [])
  lines_return_spells true el sp = (
    [],
    rw (sp, is_byte 10 el) (append_assoc (lines_text h) (13 ∷ []) (10 ∷ [])
        ∙ sym (append-nil (print_request (record h { last = crlf })) ∙ whole_text (record h { last = crlf }))),
  )
  lines_return_spells false el sp = tt

  name_spells : (token stops : Bool) (name : List ℕ) → (b == 58) ≡ stops → text ≡ lines_text h ++ name → Spells (name_by token stops h name b) (text ++ b ∷ [])
  name_spells true stops name e sp = rw sp (append_assoc (lines_text h) name (b ∷ []))
  name_spells false true name e sp = rw (sp, is_byte 58 e) (append_assoc (lines_text h) name (58 ∷ []))
  name_spells false false name e sp = tt

  value_spells : (value cr is_lf : Bool) (name raw : List ℕ) → (b == 13) ≡ cr → (b == 10) ≡ is_lf → text ≡ value_text h name raw
      → Spells (value_by value cr is_lf h name raw b) (text ++ b ∷ [])
  value_spells true cr is_lf name raw ec el sp = rw sp (simp append_assoc)
  value_spells false true is_lf name raw ec el sp = rw (sp, is_byte 13 ec)
  value_spells false false true name raw ec el sp = rw (sp, is_byte 10 el, flat_map-append) (simp (append_assoc, append-nil))
  value_spells false false false name raw ec el sp = tt

  value_return_spells : (is_lf : Bool) (name raw : List ℕ) → (b == 10) ≡ is_lf → text ≡ value_text h name raw ++ 13 ∷ []
      → Spells (value_return_by is_lf h name raw) (text ++ b ∷ [])
  value_return_spells true name raw el sp = rw (sp, is_byte 10 el, flat_map-append) (simp (append_assoc, append-nil))
  value_return_spells false name raw el sp = tt

  digit_spells : (zero_digit one_digit : Bool) → (b == 48) ≡ zero_digit → (b == 49) ≡ one_digit → text ≡ line_front h ++ version_front
      → Spells (digit_by zero_digit one_digit h) (text ++ b ∷ [])
  digit_spells true is_one ez eo sp = rw (sp, is_byte 48 ez) (append_assoc (line_front h) version_front (48 ∷ []))
  digit_spells false true ez eo sp = rw (sp, is_byte 49 eo) (append_assoc (line_front h) version_front (49 ∷ []))
  digit_spells false false ez eo sp = tt

  version_spells : (same : Bool) (c : ℕ) (left begun : List ℕ) → (b == c) ≡ same → begun ++ c ∷ left ≡ version_front → text ≡ line_front h ++ begun
      → Spells (version_by same h left) (text ++ b ∷ [])
  version_spells true c left begun e v sp =
      (begun ++ c ∷ [], append_assoc begun (c ∷ []) left ∙ v, rw (sp, is_byte c e) (append_assoc (line_front h) begun (c ∷ [])))
  version_spells false c left begun e v sp = tt

target_spells : (text : List ℕ) (b : ℕ) (h : RequestHead) (uri stops : Bool) → (b == 32) ≡ stops → text ≡ target_text h → Spells (target_by uri stops h b) (text ++ b ∷ [])
target_spells text b h false true e sp =
    done_spells (text ++ b ∷ []) b h (nat_lt 0 (length h.target) && is_utf8 h.target) (rw (sp, is_byte text b h 32 e))
target_spells text b h true stops e sp = rw sp (append_assoc (method_text h ++ 32 ∷ []) h.target (b ∷ []))
target_spells text b h false false e sp = tt

-- one more byte
pub Spells-step : (s : Reading) (text : List ℕ) (b : ℕ) → Spells s text → Spells (step s b) (text ++ b ∷ [])
Spells-step (Blank h) text b sp = blank_spells text b h (is_token_byte b) (b == 13) (b == 10) refl refl sp
Spells-step (BlankReturn h) text b sp = blank_return_spells text b h (b == 10) refl sp
Spells-step (Method h) text b sp = method_spells text b h (is_token_byte b) (b == 32) refl sp
Spells-step (Target h) text b sp = target_spells text b h (is_uri_byte b) (b == 32) refl sp
Spells-step (Version h (c ∷ left)) text b sp = version_spells text b h (b == c) c left sp.0 refl sp.1 sp.2
Spells-step (Version h []) text b sp =
    digit_spells text b h (b == 48) (b == 49) refl refl (sp.2 ∙ ap (λ t. line_front h ++ t) (sym (append-nil sp.0) ∙ sp.1))
Spells-step (LineStop h) text b sp = line_spells text b h (b == 13) (b == 10) refl refl sp
Spells-step (LineReturn h) text b sp = line_return_spells text b h (b == 10) refl sp
Spells-step (Lines h) text b sp = lines_spells text b h (is_token_byte b) (b == 13) (b == 10) refl refl sp
Spells-step (LinesReturn h) text b sp = lines_return_spells text b h (b == 10) refl sp
Spells-step (Name h name) text b sp = name_spells text b h (is_token_byte b) (b == 58) name refl sp
Spells-step (Value h name raw) text b sp = value_spells text b h (is_value_byte b) (b == 13) (b == 10) name raw refl refl sp
Spells-step (ValueReturn h name raw) text b sp = value_return_spells text b h (b == 10) name raw refl sp
Spells-step (Whole h) text b sp = (sp.0 ++ b ∷ [], rw sp.1 (append_assoc (print_request h) sp.0 (b ∷ [])))
Spells-step Wrong text b sp = tt

Spells-more : (s : Reading) (text more : List ℕ) → Spells s text → Spells (fold step s more) (text ++ more)
Spells-more s text [] sp = subst (Spells s) (sym (append-nil text)) sp
Spells-more s text (b ∷ more) sp =
    subst (Spells (fold step (step s b) more)) (append_assoc text (b ∷ []) more)
    (Spells-more (step s b) (text ++ b ∷ []) more (Spells-step s text b sp))

pub Spells-read : (bytes : List ℕ) → Spells (read bytes) bytes
unfolding read
Spells-read bytes = Spells-more start [] bytes refl

-- a head has a byte
pub head_positive : (h : RequestHead) → 0 < length (print_request h)
head_positive h = rw whole_text (omega (arith, length-append (lines_text h) (print_end h.last), end_positive h.last))
  where
    end_positive : (e : LineEnd) → 0 < length (print_end e)
    end_positive crlf = omega arith
    end_positive lf = omega arith
