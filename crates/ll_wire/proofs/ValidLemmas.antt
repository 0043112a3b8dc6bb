-- The parts of what was read are of their classes, and what is unfinished can be finished.
use Rattle.std.proofs.Common.{◌≡◌, ℕ, ◌*◌, ◌==◌, inl, inr, flat_map, ◌<◌, ◌≤◌, List, [], ◌∷◌, ◌++◌, Bool, true, false, refl, ap, ◌∙◌, subst, arith, append_assoc, length, length-append, fold, codes, ◌&&◌}
use Rattle.std.specs.Prelude.{⊤, nat_lt, All}
use Rattle.std.specs.Str.{is_utf8, IsUtf8}
use Rattle.std.proofs.lemmas.Str.{IsUtf8-from_is_utf8, is_utf8-from_IsUtf8, IsUtf8-from_ascii}
use Rattle.std.proofs.lemmas.Str.Ascii.{IsAscii-cons, IsAscii-nil}
use Rattle.std.proofs.lemmas.Bool.Decides.{nat_tests}
use Rattle.std.proofs.lemmas.List.{length_push}
use Rattle.std.proofs.lemmas.List.Elements.{All-nil, All-push, All-head, All-tail}
use Rattle.httparse.specs.Grammar.{is_token_byte, is_uri_byte, is_value_byte, AllPass, IsToken, LineEnd, crlf, lf, Field, IsField, RequestHead, IsRequestHead, ReadsRequest, HasNoRequest, NeverHasRequest, MayBecomeRequest, EndsInTarget, print_field, print_end, print_request}
use Rattle.httparse.specs.Spans.{RequestExceeds}
use Rattle.httparse.proofs.GrammarLemmas.{ReadsRequest-append}
use Rattle.ll_wire.specs.Reading.{Reading, Blank, BlankReturn, Method, Target, Version, LineStop, LineReturn, Lines, LinesReturn, Name, Value, ValueReturn, Whole, Wrong, start, step, read, blank_by, blank_return_by, method_by, target_by, target_done, version_by, digit_by, line_by, line_return_by, lines_by, lines_return_by, name_by, value_by, value_return_by, line_end_is, field_more}
use Rattle.ll_wire.specs.Heads.{Outcome, Going, Done, Lost, outcome, is_in_target}
use Rattle.ll_wire.proofs.SpelledLemmas.{fold-more, wrong_stays, Spells, Spells-read, whole_text, lines_text, line_text}
use Rattle.ll_wire.proofs.ReadLemmas.{head_read, target_part}

pub record Begun (h : RequestHead) : Type 0 where
  pub method : IsToken h.method
  pub target : (0 < length h.target) × AllPass is_uri_byte h.target
  pub target_text : IsUtf8 h.target

abbrev pub Valid : Reading → Type 0
Valid (Blank h) = ⊤
Valid (BlankReturn h) = ⊤
Valid (Method h) = IsToken h.method
Valid (Target h) = IsToken h.method × AllPass is_uri_byte h.target
Valid (Version h left) = Begun h
Valid (LineStop h) = Begun h × (h.minor ≤ 1)
Valid (LineReturn h) = Begun h × (h.minor ≤ 1)
Valid (Lines h) = IsRequestHead h
Valid (LinesReturn h) = IsRequestHead h
Valid (Name h name) = IsRequestHead h × IsToken name
Valid (Value h name raw) = IsRequestHead h × IsToken name × AllPass is_value_byte raw
Valid (ValueReturn h name raw) = IsRequestHead h × IsToken name × AllPass is_value_byte raw
Valid (Whole h) = IsRequestHead h
Valid Wrong = ⊤

push : (test : ℕ → Bool) (bytes : List ℕ) (b : ℕ) → AllPass test bytes → test b ≡ true → AllPass test (bytes ++ b ∷ [])
push test bytes b all is = All-push (λ v. test v ≡ true) bytes b all is

token_push : (bytes : List ℕ) (b : ℕ) → AllPass is_token_byte bytes → is_token_byte b ≡ true → IsToken (bytes ++ b ∷ [])
token_push bytes b all is = (omega (arith, length_push bytes b), push is_token_byte bytes b all is)

and_first : (a b : Bool) → (a && b) ≡ true → a ≡ true
and_first true b e = refl
and_first false b e = e

and_second : (a b : Bool) → (a && b) ≡ true → b ≡ true
and_second true b e = e
and_second false b e = cc

lines_valid : (h : RequestHead) (e : LineEnd) → Begun h → h.minor ≤ 1 → Valid (line_end_is h e)
lines_valid h e v le = record { method = v.method; target = v.target; target_text = v.target_text; minor = le; fields = All-nil IsField }

field_valid : (h : RequestHead) (name raw : List ℕ) (e : LineEnd) → IsRequestHead h → IsToken name → AllPass is_value_byte raw → Valid (field_more h name raw e)
field_valid h name raw e v n r = record {
  method = v.method;
  target = v.target;
  target_text = v.target_text;
  minor = v.minor;
  fields = All-push IsField h.fields (record { name = name; raw = raw; end = e }) v.fields (record { name = n; raw = r });
}

again : (h : RequestHead) (e : LineEnd) → IsRequestHead h → IsRequestHead (record h { last = e })
again h e v = record { method = v.method; target = v.target; target_text = v.target_text; minor = v.minor; fields = v.fields }

done_valid : (h : RequestHead) (fits : Bool) → (nat_lt 0 (length h.target) && is_utf8 h.target) ≡ fits → IsToken h.method → AllPass is_uri_byte h.target → Valid (target_done fits h)
done_valid h true e m t =
    let a = and_first (nat_lt 0 (length h.target)) (is_utf8 h.target) e in
    let some : 0 < length h.target = grind (arith, nat_tests) in
    record { method = m; target = (some, t); target_text = IsUtf8-from_is_utf8 h.target (and_second (nat_lt 0 (length h.target)) (is_utf8 h.target) e) }
done_valid h false e m t = tt

module _ (b : ℕ) (h : RequestHead) where
  blank_valid : (t c l : Bool) → is_token_byte b ≡ t → Valid (blank_by t c l h b)
  blank_valid true c l e = token_push [] b (All-nil _) e
  blank_valid false true l e = tt
  blank_valid false false true e = tt
  blank_valid false false false e = tt

  blank_return_valid : (l : Bool) → Valid (blank_return_by l h)
  blank_return_valid true = tt
  blank_return_valid false = tt

  method_valid : (t s : Bool) → is_token_byte b ≡ t → IsToken h.method → Valid (method_by t s h b)
  method_valid true s e v = token_push h.method b v.1 e
  method_valid false true e v = (v, All-nil _)
  method_valid false false e v = tt

  target_valid : (u s : Bool) → is_uri_byte b ≡ u → IsToken h.method → AllPass is_uri_byte h.target → Valid (target_by u s h b)
  target_valid true s e m t = (m, push is_uri_byte h.target b t e)
  target_valid false true e m t = done_valid h (nat_lt 0 (length h.target) && is_utf8 h.target) refl m t
  target_valid false false e m t = tt

  version_valid : (s : Bool) (left : List ℕ) → Begun h → Valid (version_by s h left)
  version_valid true left v = v
  version_valid false left v = tt

  digit_valid : (z o : Bool) → Begun h → Valid (digit_by z o h)
  digit_valid true o v = (record { method = v.method; target = v.target; target_text = v.target_text }, omega arith)
  digit_valid false true v = (record { method = v.method; target = v.target; target_text = v.target_text }, omega arith)
  digit_valid false false v = tt

  line_valid : (c l : Bool) → Begun h → h.minor ≤ 1 → Valid (line_by c l h)
  line_valid true l v le = (v, le)
  line_valid false true v le = lines_valid h lf v le
  line_valid false false v le = tt

  line_return_valid : (l : Bool) → Begun h → h.minor ≤ 1 → Valid (line_return_by l h)
  line_return_valid true v le = lines_valid h crlf v le
  line_return_valid false v le = tt

  next_valid : (t c l : Bool) → is_token_byte b ≡ t → IsRequestHead h → Valid (lines_by t c l h b)
  next_valid true c l e v = (v, token_push [] b (All-nil _) e)
  next_valid false true l e v = v
  next_valid false false true e v = again h lf v
  next_valid false false false e v = tt

  lines_return_valid : (l : Bool) → IsRequestHead h → Valid (lines_return_by l h)
  lines_return_valid true v = again h crlf v
  lines_return_valid false v = tt

  name_valid : (t s : Bool) (name : List ℕ) → is_token_byte b ≡ t → IsRequestHead h → IsToken name → Valid (name_by t s h name b)
  name_valid true s name e v n = (v, token_push name b n.1 e)
  name_valid false true name e v n = (v, n, All-nil _)
  name_valid false false name e v n = tt

  value_valid : (t c l : Bool) (name raw : List ℕ) → is_value_byte b ≡ t → IsRequestHead h → IsToken name → AllPass is_value_byte raw → Valid (value_by t c l h name raw b)
  value_valid true c l name raw e v n r = (v, n, push is_value_byte raw b r e)
  value_valid false true l name raw e v n r = (v, n, r)
  value_valid false false true name raw e v n r = field_valid h name raw lf v n r
  value_valid false false false name raw e v n r = tt

  value_return_valid : (l : Bool) (name raw : List ℕ) → IsRequestHead h → IsToken name → AllPass is_value_byte raw → Valid (value_return_by l h name raw)
  value_return_valid true name raw v n r = field_valid h name raw crlf v n r
  value_return_valid false name raw v n r = tt

Valid-step : (s : Reading) (b : ℕ) → Valid s → Valid (step s b)
Valid-step (Blank h) b v = blank_valid b h (is_token_byte b) (b == 13) (b == 10) refl
Valid-step (BlankReturn h) b v = blank_return_valid b h (b == 10)
Valid-step (Method h) b v = method_valid b h (is_token_byte b) (b == 32) refl v
Valid-step (Target h) b v = target_valid b h (is_uri_byte b) (b == 32) refl v.0 v.1
Valid-step (Version h (c ∷ left)) b v = version_valid b h (b == c) left v
Valid-step (Version h []) b v = digit_valid b h (b == 48) (b == 49) v
Valid-step (LineStop h) b v = line_valid b h (b == 13) (b == 10) v.0 v.1
Valid-step (LineReturn h) b v = line_return_valid b h (b == 10) v.0 v.1
Valid-step (Lines h) b v = next_valid b h (is_token_byte b) (b == 13) (b == 10) refl v
Valid-step (LinesReturn h) b v = lines_return_valid b h (b == 10) v
Valid-step (Name h name) b v = name_valid b h (is_token_byte b) (b == 58) name refl v.0 v.1
Valid-step (Value h name raw) b v = value_valid b h (is_value_byte b) (b == 13) (b == 10) name raw refl v.0 v.1 v.2
Valid-step (ValueReturn h name raw) b v = value_return_valid b h (b == 10) name raw v.0 v.1 v.2
Valid-step (Whole h) b v = v
Valid-step Wrong b v = tt

Valid-more : (s : Reading) (more : List ℕ) → Valid s → Valid (fold step s more)
Valid-more s [] v = v
Valid-more s (b ∷ more) v = Valid-more (step s b) more (Valid-step s b v)

pub Valid-read : (bytes : List ℕ) → Valid (read bytes)
unfolding read
Valid-read bytes = Valid-more start bytes tt

-- ---- what follows can make it whole

abbrev pub Finishes : Reading → Type 0
Finishes s = (more : List ℕ) × (h : RequestHead) × (fold step s more ≡ Whole h)

slash_is_text : is_utf8 (47 ∷ []) ≡ true
slash_is_text = is_utf8-from_IsUtf8 (47 ∷ []) (IsUtf8-from_ascii (47 ∷ []) (IsAscii-cons 47 [] (omega arith) IsAscii-nil))

from_method : (h : RequestHead) → Finishes (Method h)
unfolding is_token_byte
from_method h = (codes " / HTTP/1.0\n\n", _, ap (λ t. fold step (target_done t (record h { target = 47 ∷ [] })) (codes "HTTP/1.0\n\n")) slash_is_text)

from_blank : (h : RequestHead) → Finishes (Blank h)
unfolding is_token_byte
from_blank h = let rest = from_method (record h { method = 65 ∷ [] }) in (65 ∷ rest.0, rest.1, rest.2)

from_blank_return : (h : RequestHead) → Finishes (BlankReturn h)
from_blank_return h = let rest = from_blank (record h { blank = h.blank ++ crlf ∷ [] }) in (10 ∷ rest.0, rest.1, rest.2)

from_line : (h : RequestHead) → Finishes (LineStop h)
unfolding is_token_byte
from_line h = (codes "\n\n", _, refl)

from_line_return : (h : RequestHead) → Finishes (LineReturn h)
unfolding is_token_byte
from_line_return h = (codes "\n\n", _, refl)

from_lines : (h : RequestHead) → Finishes (Lines h)
unfolding is_token_byte
from_lines h = (codes "\n", _, refl)

from_lines_return : (h : RequestHead) → Finishes (LinesReturn h)
from_lines_return h = (codes "\n", _, refl)

from_name : (h : RequestHead) (name : List ℕ) → Finishes (Name h name)
unfolding is_token_byte
from_name h name = (codes ":\n\n", _, refl)

from_value : (h : RequestHead) (name raw : List ℕ) → Finishes (Value h name raw)
unfolding is_token_byte
from_value h name raw = (codes "\n\n", _, refl)

from_value_return : (h : RequestHead) (name raw : List ℕ) → Finishes (ValueReturn h name raw)
unfolding is_token_byte
from_value_return h name raw = (codes "\n\n", _, refl)

from_digit : (h : RequestHead) → Finishes (Version h [])
unfolding is_token_byte
from_digit h = (codes "0\n\n", _, refl)

same_byte : (c : ℕ) → (c == c) ≡ true
same_byte c = grind (arith, nat_tests)

from_version : (h : RequestHead) (left : List ℕ) → Finishes (Version h left)
from_version h [] = from_digit h
from_version h (c ∷ left) =
    let rest = from_version h left in
    (c ∷ rest.0, rest.1, ap (λ t. fold step (version_by t h left) rest.0) (same_byte c) ∙ rest.2)

-- a reading that goes on, but in a target, can be finished
pub can_finish : (s : Reading) → outcome s ≡ Going → is_in_target s ≡ false → Finishes s
can_finish (Blank h) e f = from_blank h
can_finish (BlankReturn h) e f = from_blank_return h
can_finish (Method h) e f = from_method h
can_finish (Target h) e f = cc
can_finish (Version h left) e f = from_version h left
can_finish (LineStop h) e f = from_line h
can_finish (LineReturn h) e f = from_line_return h
can_finish (Lines h) e f = from_lines h
can_finish (LinesReturn h) e f = from_lines_return h
can_finish (Name h name) e f = from_name h name
can_finish (Value h name raw) e f = from_value h name raw
can_finish (ValueReturn h name raw) e f = from_value_return h name raw
can_finish (Whole h) e f = cc
can_finish Wrong e f = cc

-- a reading that is done has read a head
whole_reads : (bytes : List ℕ) (h : RequestHead) (s : Reading) → Spells s bytes → Valid s → s ≡ Whole h → (rest : List ℕ) × ReadsRequest bytes h rest
whole_reads bytes h s sp v e =
    let spelled : Spells (Whole h) bytes = subst (λ (r : Reading). Spells r bytes) e sp in
    let valid : Valid (Whole h) = subst Valid e v in
    (spelled.0, (valid, spelled.1))

pub read_reads : (bytes : List ℕ) (h : RequestHead) → read bytes ≡ Whole h → (rest : List ℕ) × ReadsRequest bytes h rest
read_reads bytes h e = whole_reads bytes h (read bytes) (Spells-read bytes) (Valid-read bytes) e

pub done_is_whole : (s : Reading) (h : RequestHead) → outcome s ≡ Done h → s ≡ Whole h
done_is_whole (Whole k) h e = let same : k ≡ h = cc in ap Whole same
done_is_whole _ h e = cc

read-append : (bytes more : List ℕ) → read (bytes ++ more) ≡ fold step (read bytes) more
unfolding read
read-append bytes more = fold-more step start bytes more

-- if no head can follow, and no target is unfinished, the reading is lost
never_by : (bytes : List ℕ) (o : Outcome) → outcome (read bytes) ≡ o → NeverHasRequest bytes → is_in_target (read bytes) ≡ false → o ≡ Lost
never_by bytes Lost e never f = refl
never_by bytes (Done h) e never f =
    let found = read_reads bytes h (done_is_whole (read bytes) h e) in
    absurd (never [] h (found.0 ++ []) (ReadsRequest-append bytes h found.0 [] found.1))
never_by bytes Going e never f =
    let more = can_finish (read bytes) e f in
    let found = read_reads (bytes ++ more.0) more.1 (read-append bytes more.0 ∙ more.2) in
    absurd (never more.0 more.1 found.0 found.1)

pub never-lost : (bytes : List ℕ) → NeverHasRequest bytes → is_in_target (read bytes) ≡ false → outcome (read bytes) ≡ Lost
never-lost bytes never f = never_by bytes (outcome (read bytes)) refl never f

in_target_goes : (s : Reading) → is_in_target s ≡ true → outcome s ≡ Going
in_target_goes (Target h) e = refl
in_target_goes (Blank h) e = refl
in_target_goes (BlankReturn h) e = refl
in_target_goes (Method h) e = refl
in_target_goes (Version h left) e = refl
in_target_goes (LineStop h) e = refl
in_target_goes (LineReturn h) e = refl
in_target_goes (Lines h) e = refl
in_target_goes (LinesReturn h) e = refl
in_target_goes (Name h name) e = refl
in_target_goes (Value h name raw) e = refl
in_target_goes (ValueReturn h name raw) e = refl
in_target_goes (Whole h) e = cc
in_target_goes Wrong e = cc

pub target-goes : (bytes : List ℕ) → is_in_target (read bytes) ≡ true → outcome (read bytes) ≡ Going
target-goes bytes e = in_target_goes (read bytes) e

target_ends : (bytes : List ℕ) (s : Reading) → Spells s bytes → Valid s → is_in_target s ≡ true → EndsInTarget bytes
target_ends bytes (Target h) sp v e = (h.blank, h.method, h.target, v.0, v.1, sp ∙ simp append_assoc)
target_ends bytes _ sp v e = cc

-- bytes that don't end in a target are not read as such
pub no-target : (bytes : List ℕ) → ¬ (EndsInTarget bytes) → is_in_target (read bytes) ≡ false
no-target bytes never = by (is_in_target (read bytes)) refl
  where
    by : (b : Bool) → is_in_target (read bytes) ≡ b → b ≡ false
    by true e = absurd (never (target_ends bytes (read bytes) (Spells-read bytes) (Valid-read bytes) e))
    by false e = refl

lost_is_wrong : (s : Reading) → outcome s ≡ Lost → s ≡ Wrong
lost_is_wrong Wrong e = refl
lost_is_wrong _ e = cc

-- if there is no head yet and one may come, the reading goes on
may_by : (bytes : List ℕ) (o : Outcome) → outcome (read bytes) ≡ o → HasNoRequest bytes → MayBecomeRequest bytes → o ≡ Going
may_by bytes Going e none may = refl
may_by bytes (Done h) e none may =
    let found = read_reads bytes h (done_is_whole (read bytes) h e) in absurd (none h found.0 found.1)
may_by bytes Lost e none (inl may) =
    let whole = head_read (bytes ++ may.0) may.1 [] may.2 in
    let wrong = read-append bytes may.0 ∙ ap (λ s. fold step s may.0) (lost_is_wrong (read bytes) e) ∙ wrong_stays may.0 in
    cc
may_by bytes Lost e none (inr part) =
    let there = target_part part.0 part.1 part.2 part.3.0 part.3.1 part.4 in
    let same : outcome (read bytes) ≡ Going = ap (λ t. outcome (read t)) part.5 ∙ ap outcome there in
    cc

pub may-goes : (bytes : List ℕ) → HasNoRequest bytes → MayBecomeRequest bytes → outcome (read bytes) ≡ Going
may-goes bytes none may = may_by bytes (outcome (read bytes)) refl none may

-- ---- room for every field

fields_long : (fs : List Field) → All IsField fs → 3 * length fs ≤ length (flat_map print_field fs)
fields_long [] all = omega arith
fields_long (f ∷ fs) all =
    let rest = fields_long fs (All-tail IsField f fs all) in
    let name = (All-head IsField f fs all).name.0 in
    let end = end_long f.end in
    omega (
      arith,
      rest,
      name,
      end,
      length-append (print_field f) (flat_map print_field fs),
      length-append (f.name ++ 58 ∷ f.raw) (print_end f.end),
      length-append f.name (58 ∷ f.raw),
    )
  where
    end_long : (e : LineEnd) → 1 ≤ length (print_end e)
    end_long crlf = omega arith
    end_long lf = omega arith

-- bytes have no more than a third as many fields
pub few_fields : (room : ℕ) (bytes : List ℕ) → length bytes < 3 * room → RequestExceeds room bytes → ⊥
few_fields room bytes short x =
    let h = x.3 in
    let long = fields_long h.fields x.4.0.fields in
    let text = ap length x.4.1 in
    let whole = ap length (whole_text h) in
    omega (
      arith,
      long,
      text,
      whole,
      x.5,
      ap length x.2,
      length-append x.0 x.1,
      length-append x.0 (10 ∷ []),
      length-append (print_request h) [],
      length-append (lines_text h) (print_end h.last),
      length-append (line_text h ++ print_end h.line_end) (flat_map print_field h.fields),
    )
