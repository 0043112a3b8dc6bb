-- The laws of an entry's words.
use Rattle.std.proofs.Common.{◌≡◌, ℕ, ◌<◌, ◌≤◌, ◌^◌, ◌++◌, ◌&&◌, List, [], ◌∷◌, Bool, true, false, Option, Some, None, length, nat_le, refl, ap, sym, ◌∙◌, subst, arith, codes, decimal, bytes_eq, if◌then◌else◌}
use Rattle.std.proofs.lemmas.Bool.{and_parts}
use Rattle.std.proofs.lemmas.Slice.Eq.{bytes_eq-Decides}
use Rattle.std.specs.List.{list_all}
use Rattle.ll_attr.specs.Words.{after}
use Rattle.ll_format.specs.Format.{Format, ◌>>=◌, Word}
use Rattle.ll_format.specs.Words.{is_line_byte}
use Rattle.ll_format.proofs.FormatLaws.{FormatLaws, WordLaws, after_key-laws, beside-laws, bind_some, some_is, lacks, inside_both, key_takes, key_again, one_of-laws, to_end-laws, up_to-laws, whole-laws}
use Rattle.ll_format.proofs.WordLaws.{number-laws, number-lacks, text_if-laws, lacks_from, inside_from}
use Rattle.ll_settings.specs.Names.{is_name, is_name_byte}
use Rattle.ll_verdict.specs.declared.reply.Outcome.{Outcome}
use Rattle.ll_verdict.specs.declared.reply.Outcome.TheVariants.{Text, Media, NotFound, TooFar, Busy, Timeout}
use Rattle.ll_item.specs.declared.skip_kind.SkipKind.{SkipKind}
use Rattle.ll_item.specs.declared.skip_kind.SkipKind.TheVariants.{Yes, V2}
use Rattle.ll_entry.specs.Replies.{most, count, count_alone, counts, name, no_word, with_key, or_dash, or_dash_text, WithinDash, kind, kind_name, update, playlist, spaced, outcome, outcome_text, OutcomeWithin, or_held, or_held_text, HeldWithin}
use Rattle.ll_entry.specs.declared.version.Version.{Version}
use Rattle.ll_entry.specs.declared.version.Version.TheVariants.{One, Two}

in_word : most < 2 ^ 64
in_word = omega arith

-- a test that did not pass, or one that did
tested_by : {A : Type 0} (P : A → Type 0) (b : Bool) (first : A) (other : Option A) (x : A) → (b ≡ true → P first)
    → (b ≡ false → other ≡ Some x → P x) → (if b then Some first else other) ≡ Some x → P x
tested_by P true first other x is more e = subst P (some_is first x e) (is refl)
tested_by P false first other x is more e = more refl e

-- ---- numbers and names

pub count-laws : WordLaws count
count-laws = number-laws most in_word

pub count-lacks : (n : ℕ) → n ≤ most → lacks 32 (decimal n) ≡ true
count-lacks n small = number-lacks 32 most n refl in_word small

name_bytes : (text : List ℕ) → is_name text ≡ true → list_all is_name_byte text ≡ true
name_bytes text h = (and_parts (nat_le 1 (length text) && nat_le (length text) 32) (list_all is_name_byte text) h).1

pub name-laws : WordLaws name
name-laws = text_if-laws is_name (λ text h. inside_from is_name_byte text refl refl (name_bytes text h))

pub name-lacks : (text : List ℕ) → is_name text ≡ true → lacks 32 text ≡ true
name-lacks text h = lacks_from is_name_byte 32 text refl (name_bytes text h)

-- ---- a word or a dash

dash_by : (text : List ℕ) (b : Bool) → bytes_eq text (codes "-") ≡ b → lacks 45 text ≡ true → b ≡ false
dash_by text false is h = refl
dash_by text true is h = absurd (let e : lacks 45 (codes "-") ≡ true = subst (λ t. lacks 45 t ≡ true) ((bytes_eq-Decides text (codes "-")).0 is) h in cc)

-- a text without a dash is none
no_dash : (text : List ℕ) → lacks 45 text ≡ true → bytes_eq text (codes "-") ≡ false
no_dash text h = dash_by text (bytes_eq text (codes "-")) refl h

-- a number of a record, or none, is allowed where a dash is none
pub count-within : (n : ℕ) → n ≤ most → WithinDash count (Some n)
count-within n small = (small, no_dash (decimal n) (number-lacks 45 most n refl in_word small))

dash_takes : {A : Type 0} {w : Word A} → WordLaws w → (text : List ℕ) (x : Option A) → bytes_eq text (codes "-") ≡ false
    → (w.read text >>= λ x. Some (Some x)) ≡ Some x → (text ≡ or_dash_text w x) × WithinDash w x
dash_takes {A} {w} l text x none e =
    let a = bind_some (w.read text) (λ x. Some (Some x)) x e in
    let t = l.takes text a.0 a.1 in
    subst (λ x. (text ≡ or_dash_text w x) × WithinDash w x) (some_is (Some a.0) x a.2)
    (t.0, (t.1, ap (λ t. bytes_eq t (codes "-")) (sym t.0) ∙ none))

dash_again : {A : Type 0} {w : Word A} → WordLaws w → (x : Option A) → WithinDash w x → (or_dash w).read (or_dash_text w x) ≡ Some x
dash_again {A} {w} l None h = refl
dash_again {A} {w} l (Some x) h =
    ap (λ b. if b then Some None else (w.read (w.print x) >>= λ x. Some (Some x))) h.1
    ∙ ap (λ r. r >>= λ x. Some (Some x)) (l.again x h.0)

dash_inside : {A : Type 0} {w : Word A} → WordLaws w → (x : Option A) → WithinDash w x → list_all is_line_byte (or_dash_text w x) ≡ true
dash_inside l None h = refl
dash_inside l (Some x) h = l.inside x h.0

pub or_dash-laws : {A : Type 0} {w : Word A} → WordLaws w → WordLaws (or_dash w)
or_dash-laws {A} {w} l = record {
  takes = λ text x e.
      tested_by (λ x. (text ≡ or_dash_text w x) × WithinDash w x) (bytes_eq text (codes "-")) None (w.read text >>= λ x. Some (Some x)) x
      (λ is. ((bytes_eq-Decides text (codes "-")).0 is, tt)) (λ none rest. dash_takes l text x none rest) e;
  again = λ x h. dash_again l x h;
  inside = λ x h. dash_inside l x h;
}

pub or_dash-lacks : (x : Option ℕ) → WithinDash count x → lacks 32 (or_dash_text count x) ≡ true
or_dash-lacks None h = refl
or_dash-lacks (Some n) h = count-lacks n h.0

-- ---- delta updates

kind_found : (k : SkipKind) → kind.read (kind_name k) ≡ Some k
kind_found Yes = refl
kind_found V2 = refl

kind_inside : (k : SkipKind) → list_all is_line_byte (kind_name k) ≡ true
kind_inside Yes = refl
kind_inside V2 = refl

pub update-laws : WordLaws update
update-laws = or_dash-laws (one_of-laws kind_name (Yes ∷ V2 ∷ []) kind_found kind_inside)

pub update-lacks : (u : Option SkipKind) → lacks 32 (update.print u) ≡ true
update-lacks None = refl
update-lacks (Some Yes) = refl
update-lacks (Some V2) = refl

pub update-within : (u : Option SkipKind) → WithinDash kind u
update-within None = tt
update-within (Some Yes) = (tt, refl)
update-within (Some V2) = (tt, refl)

-- ---- playlists

pub spaced-laws : {A B : Type 0} {f : Format A} {g : Format B} → FormatLaws f → FormatLaws g → FormatLaws (spaced f g)
spaced-laws l m = beside-laws l (after_key-laws (codes " ") refl m)

count_alone-laws : WordLaws count_alone
count_alone-laws = record {
  takes = λ text p e.
      let a = bind_some (count.read text) (λ n. Some (n, None)) p e in
      let t = count-laws.takes text a.0 a.1 in
      subst (λ (p : ℕ × Option SkipKind). (text ≡ count.print p.0) × (count.Within p.0 × (p.1 ≡ None))) (some_is (a.0, None) p a.2) (t.0, (t.1, refl));
  again = λ p h.
      ap (λ r. r >>= λ n. Some (n, None)) (count-laws.again p.0 h.0) ∙ ap (λ u. Some (p.0, u)) (sym h.1);
  inside = λ p h. count-laws.inside p.0 h.0;
}

playlist-laws : (v : Version) → WordLaws (playlist v)
playlist-laws One = count_alone-laws
playlist-laws Two = whole-laws (spaced-laws (up_to-laws 32 count-laws count-lacks) (to_end-laws update-laws)) (λ p. refl)

-- ---- media

no_word-laws : {A : Type 0} → WordLaws {A = A} no_word
no_word-laws = record { takes = λ text x e. absurd cc; again = λ x h. absurd h; inside = λ x h. absurd h }

counts-laws : (v : Version) → WordLaws (counts v)
counts-laws One = no_word-laws
counts-laws Two = whole-laws (spaced-laws (up_to-laws 32 count-laws count-lacks) (to_end-laws count-laws)) (λ p. refl)

-- ---- the outcome of a reply

abbrev IsTold : Version → List ℕ → Outcome → Type 0
IsTold v text o = (text ≡ outcome_text v o) × OutcomeWithin v o

is_told : (v : Version) (text key : List ℕ) (first : Outcome) (other : Option Outcome) (o : Outcome) → key ≡ outcome_text v first → OutcomeWithin v first
    → (other ≡ Some o → IsTold v text o) → (if bytes_eq text key then Some first else other) ≡ Some o → IsTold v text o
is_told v text key first other o is within more e =
    tested_by (IsTold v text) (bytes_eq text key) first other o (λ same. ((bytes_eq-Decides text key).0 same ∙ is, within)) (λ none rest. more rest) e

text_told : (v : Version) (text rest : List ℕ) (o : Outcome) → after (codes "text ") text ≡ Some rest
    → ((playlist v).read rest >>= λ p. Some (Text p.0 p.1)) ≡ Some o → IsTold v text o
text_told v text rest o is e =
    let b = bind_some ((playlist v).read rest) (λ p. Some (Text p.0 p.1)) o e in
    let t = (playlist-laws v).takes rest b.0 b.1 in
    subst (IsTold v text) (some_is (Text b.0.0 b.0.1) o b.2) (key_takes (codes "text ") text rest is ∙ ap (λ t. codes "text " ++ t) t.0, t.1)

media_told : (v : Version) (text rest : List ℕ) (o : Outcome) → after (codes "media ") text ≡ Some rest
    → ((counts v).read rest >>= λ p. Some (Media p.0 p.1)) ≡ Some o → IsTold v text o
media_told v text rest o is e =
    let b = bind_some ((counts v).read rest) (λ p. Some (Media p.0 p.1)) o e in
    let t = (counts-laws v).takes rest b.0 b.1 in
    subst (IsTold v text) (some_is (Media b.0.0 b.0.1) o b.2) (key_takes (codes "media ") text rest is ∙ ap (λ t. codes "media " ++ t) t.0, t.1)

counted_by : (v : Version) (text : List ℕ) (first second : Option (List ℕ)) (o : Outcome) → after (codes "text ") text ≡ first
    → after (codes "media ") text ≡ second
    → with_key first (λ rest. (playlist v).read rest >>= λ p. Some (Text p.0 p.1))
    (with_key second (λ rest. (counts v).read rest >>= λ p. Some (Media p.0 p.1)) None) ≡ Some o
    → IsTold v text o
counted_by v text (Some rest) second o is other e = text_told v text rest o is e
counted_by v text None (Some rest) o none is e = media_told v text rest o is e
counted_by v text None None o none other e = absurd cc

outcome_again : (v : Version) (o : Outcome) → OutcomeWithin v o → (outcome v).read (outcome_text v o) ≡ Some o
outcome_again v (Text n u) h =
    ap (λ r. with_key r (λ rest. (playlist v).read rest >>= λ p. Some (Text p.0 p.1)) None) (key_again (codes "text ") ((playlist v).print (n, u)))
    ∙ ap (λ r. r >>= λ p. Some (Text p.0 p.1)) ((playlist-laws v).again (n, u) h)
outcome_again v (Media n size) h =
    ap (λ r. with_key r (λ rest. (counts v).read rest >>= λ p. Some (Media p.0 p.1)) None) (key_again (codes "media ") ((counts v).print (n, size)))
    ∙ ap (λ r. r >>= λ p. Some (Media p.0 p.1)) ((counts-laws v).again (n, size) h)
outcome_again v NotFound h = refl
outcome_again v TooFar h = refl
outcome_again v Busy h = refl
outcome_again v Timeout h = refl

outcome_inside : (v : Version) (o : Outcome) → OutcomeWithin v o → list_all is_line_byte (outcome_text v o) ≡ true
outcome_inside v (Text n u) h = inside_both (codes "text ") ((playlist v).print (n, u)) refl ((playlist-laws v).inside (n, u) h)
outcome_inside v (Media n size) h = inside_both (codes "media ") ((counts v).print (n, size)) refl ((counts-laws v).inside (n, size) h)
outcome_inside v NotFound h = refl
outcome_inside v TooFar h = refl
outcome_inside v Busy h = refl
outcome_inside v Timeout h = refl

pub outcome-laws : (v : Version) → WordLaws (outcome v)
outcome-laws v = record {
  takes = λ text o e.
      is_told v text (codes "notfound") NotFound _ o refl tt
      (is_told v text (codes "bad TooFar") TooFar _ o refl tt
      (is_told v text (codes "busy") Busy _ o refl tt
      (is_told v text (codes "timeout") Timeout _ o refl tt (counted_by v text (after (codes "text ") text) (after (codes "media ") text) o refl refl)))) e;
  again = λ o h. outcome_again v o h;
  inside = λ o h. outcome_inside v o h;
}

-- ---- the outcome of a request at once

not_held : (v : Version) (o : Outcome) → bytes_eq (outcome_text v o) (codes "held") ≡ false
not_held v (Text n u) = refl
not_held v (Media n size) = refl
not_held v NotFound = refl
not_held v TooFar = refl
not_held v Busy = refl
not_held v Timeout = refl

held_takes : (v : Version) (text : List ℕ) (x : Option Outcome) → ((outcome v).read text >>= λ o. Some (Some o)) ≡ Some x
    → (text ≡ or_held_text v x) × HeldWithin v x
held_takes v text x e =
    let a = bind_some ((outcome v).read text) (λ o. Some (Some o)) x e in
    subst (λ x. (text ≡ or_held_text v x) × HeldWithin v x) (some_is (Some a.0) x a.2) ((outcome-laws v).takes text a.0 a.1)

held_again : (v : Version) (x : Option Outcome) → HeldWithin v x → (or_held v).read (or_held_text v x) ≡ Some x
held_again v None h = refl
held_again v (Some o) h =
    ap (λ b. if b then Some None else ((outcome v).read (outcome_text v o) >>= λ o. Some (Some o))) (not_held v o)
    ∙ ap (λ r. r >>= λ o. Some (Some o)) (outcome_again v o h)

held_inside : (v : Version) (x : Option Outcome) → HeldWithin v x → list_all is_line_byte (or_held_text v x) ≡ true
held_inside v None h = refl
held_inside v (Some o) h = outcome_inside v o h

pub or_held-laws : (v : Version) → WordLaws (or_held v)
or_held-laws v = record {
  takes = λ text x e.
      tested_by (λ x. (text ≡ or_held_text v x) × HeldWithin v x) (bytes_eq text (codes "held")) None ((outcome v).read text >>= λ o. Some (Some o)) x
      (λ is. ((bytes_eq-Decides text (codes "held")).0 is, tt)) (λ none rest. held_takes v text x rest) e;
  again = λ x h. held_again v x h;
  inside = λ x h. held_inside v x h;
}
