-- What is read is spelled so, and what is spelled is read: both hold of a format if they hold of its pieces.
use Rattle.std.proofs.Common.{◌≡◌, ℕ, List, [], ◌∷◌, ◌++◌, Bool, true, false, Option, Some, None, is_none, ◌==◌, not, refl, ap, sym, ◌∙◌, subst, append_assoc, codes, nat_eq, drop, length, bytes_eq, if◌then◌else◌}
use Rattle.std.proofs.lemmas.Bool.{and_from, and_parts}
use Rattle.std.proofs.lemmas.Bool.Decides.{Decides-eqb}
use Rattle.std.proofs.lemmas.List.{append-nil}
use Rattle.std.proofs.Math.Seq.{drop-append_seam}
use Rattle.std.proofs.lemmas.List.Folds.{list_all-append}
use Rattle.std.proofs.lemmas.Slice.Eq.{starts_is, bytes_eq-Decides}
use Rattle.std.specs.List.{list_all, starts_with}
use Rattle.ll_attr.specs.Words.{after}
use Rattle.ll_format.specs.Format.{◌>>=◌, Word, Format, with_rest, until_by, until, stops_at, up_to, beside, after_key, before_key, quoted, flag_text, flag_by, flag_ends, flag, optional_text, optional_by, optional_ends, optional, Where, mapped, alone, whole, mapped_word, named, by_name, to_end, tested, one_of, Either, Left, Right, either_text, either_by, EitherWithin, choice}
use Rattle.ll_format.specs.Words.{is_line_byte}

pub record WordLaws {A : Type 0} (w : Word A) : Type 0 where
  -- what is read is spelled so
  pub takes : (text : List ℕ) (x : A) → w.read text ≡ Some x → (text ≡ w.print x) × w.Within x
  -- what is spelled is read
  pub again : (x : A) → w.Within x → w.read (w.print x) ≡ Some x
  -- what is spelled is on one line
  pub inside : (x : A) → w.Within x → list_all is_line_byte (w.print x) ≡ true

pub record FormatLaws {A : Type 0} (f : Format A) : Type 0 where
  pub takes : (text : List ℕ) (x : A) (rest : List ℕ) → f.read text ≡ Some (x, rest) → (text ≡ f.print x ++ rest) × f.Within x × (f.ends x rest ≡ true)
  pub again : (x : A) (rest : List ℕ) → f.Within x → f.ends x rest ≡ true → f.read (f.print x ++ rest) ≡ Some (x, rest)
  pub inside : (x : A) → f.Within x → list_all is_line_byte (f.print x) ≡ true

-- a step that did not fail
pub bind_some : {A B : Type 0} (r : Option A) (f : A → Option B) (y : B) → (r >>= f) ≡ Some y → (x : A) × (r ≡ Some x) × (f x ≡ Some y)
bind_some (Some x) f y e = (x, refl, e)
bind_some None f y e = absurd cc

pub some_is : {A : Type 0} (x y : A) → Some x ≡ Some y → x ≡ y
some_is x y e = cc

pub guarded : {A : Type 0} (b : Bool) (o : Option A) (y : A) → (if b then o else None) ≡ Some y → (b ≡ true) × (o ≡ Some y)
guarded true o y e = (refl, e)
guarded false o y e = absurd cc

both : (a b : Bool) → (if a then b else false) ≡ true → (a ≡ true) × (b ≡ true)
both true b h = (refl, h)
both false b h = absurd cc

both_from : (a b : Bool) → a ≡ true → b ≡ true → (if a then b else false) ≡ true
both_from true b h k = k
both_from false b h k = absurd cc

pub inside_both : (prefix rest : List ℕ) → list_all is_line_byte prefix ≡ true → list_all is_line_byte rest ≡ true → list_all is_line_byte (prefix ++ rest) ≡ true
inside_both prefix rest h k = list_all-append is_line_byte prefix rest ∙ and_from (list_all is_line_byte prefix) (list_all is_line_byte rest) h k

-- keys
pub key_takes : (k text rest : List ℕ) → after k text ≡ Some rest → text ≡ k ++ rest
key_takes k text rest e =
    let p = guarded (starts_with nat_eq text k) (Some (drop (length k) text)) rest e in
    (starts_is Decides-eqb text k _ refl).0 p.0 ∙ ap (λ t. k ++ t) (some_is (drop (length k) text) rest p.1)

pub key_again : (k rest : List ℕ) → after k (k ++ rest) ≡ Some rest
key_again k rest =
    ap (λ b. if b then Some (drop (length k) (k ++ rest)) else None) ((starts_is Decides-eqb (k ++ rest) k _ refl).1 rest refl)
    ∙ ap Some (drop-append_seam k rest)

-- the next byte of a kind
abbrev pub lacks : ℕ → List ℕ → Bool
lacks c text = list_all (λ b. not (b == c)) text

until_whole_by : (b : Bool) (first : ℕ) (bs : List ℕ) (more : List ℕ × List ℕ) → bs ≡ more.0 ++ more.1
    → first ∷ bs ≡ (until_by b first bs more).0 ++ (until_by b first bs more).1
until_whole_by true first bs more h = refl
until_whole_by false first bs more h = ap (λ t. first ∷ t) h

pub until_whole : (c : ℕ) (text : List ℕ) → text ≡ (until c text).0 ++ (until c text).1
until_whole c [] = refl
until_whole c (b ∷ bs) = until_whole_by (b == c) b bs (until c bs) (until_whole c bs)

stops_by : (b : Bool) (c first : ℕ) (bs : List ℕ) (more : List ℕ × List ℕ) → (first == c) ≡ b → stops_at c more.1 ≡ true
    → stops_at c (until_by b first bs more).1 ≡ true
stops_by true c first bs more is h = is
stops_by false c first bs more is h = h

pub until_stops : (c : ℕ) (text : List ℕ) → stops_at c (until c text).1 ≡ true
until_stops c [] = refl
until_stops c (b ∷ bs) = stops_by (b == c) c b bs (until c bs) refl (until_stops c bs)

differs : (b : Bool) → not b ≡ true → b ≡ false
differs false h = refl
differs true h = absurd cc

pub until_again : (c : ℕ) (x rest : List ℕ) → lacks c x ≡ true → stops_at c rest ≡ true → until c (x ++ rest) ≡ (x, rest)
until_again c [] [] h s = refl
until_again c [] (b ∷ bs) h s = ap (λ t. until_by t b bs (until c bs)) s
until_again c (b ∷ bs) rest h s =
    let p = and_parts (not (b == c)) (lacks c bs) h in
    ap (λ t. until_by t b (bs ++ rest) (until c (bs ++ rest))) (differs (b == c) p.0)
    ∙ ap (λ (m : List ℕ × List ℕ). (b ∷ m.0, m.1)) (until_again c bs rest p.1 s)

pub up_to-laws : {A : Type 0} {w : Word A} → (c : ℕ) → WordLaws w → ((x : A) → w.Within x → lacks c (w.print x) ≡ true) → FormatLaws (up_to c w)
up_to-laws {A} {w} c l apart = record {
  takes = λ text x rest e.
      let a = bind_some (w.read (until c text).0) (with_rest (until c text).1) (x, rest) e in
      let t = l.takes (until c text).0 a.0 a.1 in
      subst (λ (p : A × List ℕ). (text ≡ w.print p.0 ++ p.1) × w.Within p.0 × (stops_at c p.1 ≡ true)) (some_is (a.0, (until c text).1) (x, rest) a.2)
      (until_whole c text ∙ ap (λ prefix. prefix ++ (until c text).1) t.0, t.1, until_stops c text);
  again = λ x rest h e.
      ap (λ (m : List ℕ × List ℕ). w.read m.0 >>= with_rest m.1) (until_again c (w.print x) rest (apart x h) e)
      ∙ ap (λ r. r >>= with_rest rest) (l.again x h);
  inside = l.inside;
}

nothing : {A : Type 0} (x : A) (rest : List ℕ) (r : Option A) → (r >>= with_rest []) ≡ Some (x, rest) → (r ≡ Some x) × (rest ≡ [])
nothing {A} x rest (Some y) e =
    let p = some_is (y, []) (x, rest) e in
    (ap (λ (a : A × List ℕ). Some a.0) p, sym (ap (λ (a : A × List ℕ). a.1) p))
nothing x rest None e = absurd cc

pub to_end-laws : {A : Type 0} {w : Word A} → WordLaws w → FormatLaws (to_end w)
to_end-laws {A} {w} l = record {
  takes = λ text x rest e.
      let p = nothing x rest (w.read text) e in
      let t = l.takes text x p.0 in
      (t.0 ∙ sym (append-nil (w.print x)) ∙ ap (λ r. w.print x ++ r) (sym p.1), t.1, (bytes_eq-Decides rest []).1 p.1);
  again = λ x rest h e.
      let none = (bytes_eq-Decides rest []).0 e in
      ap (λ t. w.read t >>= with_rest []) (ap (λ r. w.print x ++ r) none ∙ append-nil (w.print x))
      ∙ ap (λ r. r >>= with_rest []) (l.again x h)
      ∙ ap (λ r. Some (x, r)) (sym none);
  inside = l.inside;
}

pub beside-laws : {A B : Type 0} {f : Format A} {g : Format B} → FormatLaws f → FormatLaws g → FormatLaws (beside f g)
beside-laws {A} {B} {f} {g} l m = record {
  takes = λ text p rest e.
      let a = bind_some (f.read text) (λ a. g.read a.1 >>= λ b. Some ((a.0, b.0), b.1)) (p, rest) e in
      let b = bind_some (g.read a.0.1) (λ b. Some ((a.0.0, b.0), b.1)) (p, rest) a.2 in
      let s = l.takes text a.0.0 a.0.1 a.1 in
      let t = m.takes a.0.1 b.0.0 b.0.1 b.1 in
      let whole = s.0 ∙ ap (λ t. f.print a.0.0 ++ t) t.0 ∙ sym (append_assoc (f.print a.0.0) (g.print b.0.0) b.0.1) in
      subst (λ (x : (A × B) × List ℕ). (text ≡ (f.print x.0.0 ++ g.print x.0.1) ++ x.1) × (f.Within x.0.0 × g.Within x.0.1)
      × ((if f.ends x.0.0 (g.print x.0.1 ++ x.1) then g.ends x.0.1 x.1 else false) ≡ true)) (some_is ((a.0.0, b.0.0), b.0.1) (p, rest) b.2)
      (whole, (s.1, t.1), both_from (f.ends a.0.0 (g.print b.0.0 ++ b.0.1)) (g.ends b.0.0 b.0.1) (ap (f.ends a.0.0) (sym t.0) ∙ s.2) t.2);
  again = λ p rest h e.
      let ends = both (f.ends p.0 (g.print p.1 ++ rest)) (g.ends p.1 rest) e in
      ap (λ t. f.read t >>= λ a. g.read a.1 >>= λ b. Some ((a.0, b.0), b.1)) (append_assoc (f.print p.0) (g.print p.1) rest)
      ∙ ap (λ r. r >>= λ a. g.read a.1 >>= λ b. Some ((a.0, b.0), b.1)) (l.again p.0 (g.print p.1 ++ rest) h.0 ends.0)
      ∙ ap (λ r. r >>= λ b. Some ((p.0, b.0), b.1)) (m.again p.1 rest h.1 ends.1);
  inside = λ p h. inside_both (f.print p.0) (g.print p.1) (l.inside p.0 h.0) (m.inside p.1 h.1);
}

pub after_key-laws : {A : Type 0} {f : Format A} → (k : List ℕ) → list_all is_line_byte k ≡ true → FormatLaws f → FormatLaws (after_key k f)
after_key-laws {A} {f} k on l = record {
  takes = λ text x rest e.
      let a = bind_some (after k text) f.read (x, rest) e in
      let t = l.takes a.0 x rest a.2 in
      (key_takes k text a.0 a.1 ∙ ap (λ t. k ++ t) t.0 ∙ sym (append_assoc k (f.print x) rest), t.1, t.2);
  again = λ x rest h e.
      ap (λ t. after k t >>= f.read) (append_assoc k (f.print x) rest)
      ∙ ap (λ r. r >>= f.read) (key_again k (f.print x ++ rest))
      ∙ l.again x rest h e;
  inside = λ x h. inside_both k (f.print x) on (l.inside x h);
}

pub before_key-laws : {A : Type 0} {f : Format A} → (k : List ℕ) → list_all is_line_byte k ≡ true → FormatLaws f → FormatLaws (before_key f k)
before_key-laws {A} {f} k on l = record {
  takes = λ text x rest e.
      let a = bind_some (f.read text) (λ a. after k a.1 >>= λ rest. Some (a.0, rest)) (x, rest) e in
      let b = bind_some (after k a.0.1) (λ rest. Some (a.0.0, rest)) (x, rest) a.2 in
      let t = l.takes text a.0.0 a.0.1 a.1 in
      let key = key_takes k a.0.1 b.0 b.1 in
      subst (λ (p : A × List ℕ). (text ≡ (f.print p.0 ++ k) ++ p.1) × f.Within p.0 × (f.ends p.0 (k ++ p.1) ≡ true)) (some_is (a.0.0, b.0) (x, rest) b.2)
      (t.0 ∙ ap (λ r. f.print a.0.0 ++ r) key ∙ sym (append_assoc (f.print a.0.0) k b.0), t.1, ap (f.ends a.0.0) (sym key) ∙ t.2);
  again = λ x rest h e.
      ap (λ t. f.read t >>= λ a. after k a.1 >>= λ rest. Some (a.0, rest)) (append_assoc (f.print x) k rest)
      ∙ ap (λ r. r >>= λ a. after k a.1 >>= λ rest. Some (a.0, rest)) (l.again x (k ++ rest) h e)
      ∙ ap (λ r. r >>= λ rest. Some (x, rest)) (key_again k rest);
  inside = λ x h. inside_both (f.print x) k (l.inside x h) on;
}

pub quoted-laws : {A : Type 0} {w : Word A} → WordLaws w → ((x : A) → w.Within x → lacks 34 (w.print x) ≡ true) → FormatLaws (quoted w)
quoted-laws l apart = before_key-laws (codes "\"") refl (up_to-laws 34 l apart)

flag_takes_by : (k text : List ℕ) (o : Option (List ℕ)) (x : Bool) (rest : List ℕ) → after k text ≡ o → flag_by text o ≡ Some (x, rest)
    → (text ≡ flag_text k x ++ rest) × Unit {0} × (flag_ends k x rest ≡ true)
flag_takes_by k text (Some r) x rest is e =
    subst (λ (p : Bool × List ℕ). (text ≡ flag_text k p.0 ++ p.1) × Unit {0} × (flag_ends k p.0 p.1 ≡ true)) (some_is (true, r) (x, rest) e)
    (key_takes k text r is, tt, refl)
flag_takes_by k text None x rest is e =
    subst (λ (p : Bool × List ℕ). (text ≡ flag_text k p.0 ++ p.1) × Unit {0} × (flag_ends k p.0 p.1 ≡ true)) (some_is (false, text) (x, rest) e)
    (refl, tt, ap is_none is)

none_is : {A : Type 0} (o : Option A) → is_none o ≡ true → o ≡ None
none_is None h = refl
none_is (Some x) h = absurd cc

flag_again_by : (k : List ℕ) (x : Bool) (rest : List ℕ) → flag_ends k x rest ≡ true → flag_by (flag_text k x ++ rest) (after k (flag_text k x ++ rest)) ≡ Some (x, rest)
flag_again_by k true rest e = ap (flag_by (k ++ rest)) (key_again k rest)
flag_again_by k false rest e = ap (flag_by rest) (none_is (after k rest) e)

flag_inside_by : (k : List ℕ) (x : Bool) → list_all is_line_byte k ≡ true → list_all is_line_byte (flag_text k x) ≡ true
flag_inside_by k true on = on
flag_inside_by k false on = refl

pub flag-laws : (k : List ℕ) → list_all is_line_byte k ≡ true → FormatLaws (flag k)
flag-laws k on = record {
  takes = λ text x rest e. flag_takes_by k text (after k text) x rest refl e;
  again = λ x rest h e. flag_again_by k x rest e;
  inside = λ x h. flag_inside_by k x on;
}

optional_takes_by : {A : Type 0} {f : Format A} → (k text : List ℕ) (o : Option (List ℕ)) (x : Option A) (rest : List ℕ) → FormatLaws f → after k text ≡ o
    → optional_by f text o ≡ Some (x, rest) → (text ≡ optional_text k f x ++ rest) × Where f.Within x × (optional_ends k f x rest ≡ true)
optional_takes_by {A} {f} k text (Some r) x rest l is e =
    let a = bind_some (f.read r) (λ a. Some (Some a.0, a.1)) (x, rest) e in
    let t = l.takes r a.0.0 a.0.1 a.1 in
    subst (λ (p : Option A × List ℕ). (text ≡ optional_text k f p.0 ++ p.1) × Where f.Within p.0 × (optional_ends k f p.0 p.1 ≡ true))
    (some_is (Some a.0.0, a.0.1) (x, rest) a.2)
    (key_takes k text r is ∙ ap (λ t. k ++ t) t.0 ∙ sym (append_assoc k (f.print a.0.0) a.0.1), t.1, t.2)
optional_takes_by {A} {f} k text None x rest l is e =
    subst (λ (p : Option A × List ℕ). (text ≡ optional_text k f p.0 ++ p.1) × Where f.Within p.0 × (optional_ends k f p.0 p.1 ≡ true))
    (some_is (None, text) (x, rest) e) (refl, tt, ap is_none is)

optional_again_by : {A : Type 0} {f : Format A} → (k : List ℕ) (x : Option A) (rest : List ℕ) → FormatLaws f → Where f.Within x → optional_ends k f x rest ≡ true
    → optional_by f (optional_text k f x ++ rest) (after k (optional_text k f x ++ rest)) ≡ Some (x, rest)
optional_again_by {A} {f} k (Some x) rest l h e =
    ap (optional_by f ((k ++ f.print x) ++ rest)) (ap (after k) (append_assoc k (f.print x) rest) ∙ key_again k (f.print x ++ rest))
    ∙ ap (λ r. r >>= λ (a : A × List ℕ). Some (Some a.0, a.1)) (l.again x rest h e)
optional_again_by {A} {f} k None rest l h e = ap (optional_by f rest) (none_is (after k rest) e)

optional_inside_by : {A : Type 0} {f : Format A} → (k : List ℕ) (x : Option A) → FormatLaws f → list_all is_line_byte k ≡ true → Where f.Within x
    → list_all is_line_byte (optional_text k f x) ≡ true
optional_inside_by {A} {f} k (Some x) l on h = inside_both k (f.print x) on (l.inside x h)
optional_inside_by k None l on h = refl

pub optional-laws : {A : Type 0} {f : Format A} → (k : List ℕ) → list_all is_line_byte k ≡ true → FormatLaws f → FormatLaws (optional k f)
optional-laws k on l = record {
  takes = λ text x rest e. optional_takes_by k text (after k text) x rest l refl e;
  again = λ x rest h e. optional_again_by k x rest l h e;
  inside = λ x h. optional_inside_by k x l on h;
}

pub mapped-laws : {A B : Type 0} {f : Format A} → (to : A → B) (from : B → A) → ((x : A) → f.Within x → from (to x) ≡ x) → ((y : B) → to (from y) ≡ y) → FormatLaws f → FormatLaws (mapped to from f)
mapped-laws {A} {B} {f} to from there back l = record {
  takes = λ text y rest e.
      let a = bind_some (f.read text) (λ (a : A × List ℕ). Some (to a.0, a.1)) (y, rest) e in
      let t = l.takes text a.0.0 a.0.1 a.1 in
      subst (λ (p : B × List ℕ). (text ≡ f.print (from p.0) ++ p.1) × f.Within (from p.0) × (f.ends (from p.0) p.1 ≡ true)) (some_is (to a.0.0, a.0.1) (y, rest) a.2)
      (subst (λ x. (text ≡ f.print x ++ a.0.1) × f.Within x × (f.ends x a.0.1 ≡ true)) (sym (there a.0.0 t.1)) t);
  again = λ y rest h e.
      ap (λ r. r >>= λ (a : A × List ℕ). Some (to a.0, a.1)) (l.again (from y) rest h e)
      ∙ ap (λ x. Some (x, rest)) (back y);
  inside = λ y h. l.inside (from y) h;
}

alone_some : {A : Type 0} (p : A × List ℕ) (x : A) → alone p ≡ Some x → p ≡ (x, [])
alone_some p x e =
    let g = guarded (bytes_eq p.1 []) (Some p.0) x e in
    ap (λ z. (z, p.1)) (some_is p.0 x g.1) ∙ ap (λ r. (x, r)) ((bytes_eq-Decides p.1 []).0 g.0)

pub whole-laws : {A : Type 0} {f : Format A} → FormatLaws f → ((x : A) → f.ends x [] ≡ true) → WordLaws (whole f)
whole-laws {A} {f} l ends = record {
  takes = λ text x e.
      let a = bind_some (f.read text) alone x e in
      let t = l.takes text x [] (a.1 ∙ ap Some (alone_some a.0 x a.2)) in
      (t.0 ∙ append-nil (f.print x), t.1);
  again = λ x h.
      ap (λ r. r >>= alone) (ap f.read (sym (append-nil (f.print x))) ∙ l.again x [] h (ends x));
  inside = l.inside;
}

pub mapped_word-laws : {A B : Type 0} {w : Word A} → (to : A → B) (from : B → A) → ((x : A) → from (to x) ≡ x) → ((y : B) → to (from y) ≡ y) → WordLaws w → WordLaws (mapped_word to from w)
mapped_word-laws {A} {B} {w} to from there back l = record {
  takes = λ text y e.
      let a = bind_some (w.read text) (λ x. Some (to x)) y e in
      subst (λ z. (text ≡ w.print (from z)) × w.Within (from z)) (some_is (to a.0) y a.2)
      (subst (λ x. (text ≡ w.print x) × w.Within x) (sym (there a.0)) (l.takes text a.0 a.1));
  again = λ y h. ap (λ r. r >>= λ x. Some (to x)) (l.again (from y) h) ∙ ap Some (back y);
  inside = λ y h. l.inside (from y) h;
}

pub tested-laws : {A : Type 0} {w : Word A} → (test : List ℕ → Bool) → WordLaws w → WordLaws (tested test w)
tested-laws {A} {w} test l = record {
  takes = λ text x e.
      let p = guarded (test text) (w.read text) x e in
      let t = l.takes text x p.1 in
      (t.0, (t.1, ap test (sym t.0) ∙ p.0));
  again = λ x h. ap (λ b. if b then w.read (w.print x) else None) h.1 ∙ l.again x h.0;
  inside = λ x h. l.inside x h.0;
}

either_takes : {A B : Type 0} {v : Word A} {w : Word B} → (b : Bool) (text : List ℕ) (x : Either A B) → WordLaws v → WordLaws w
    → either_by b (v.read text) (w.read text) ≡ Some x → (text ≡ either_text v w x) × EitherWithin v w x
either_takes {A} {B} {v} {w} true text x l m e =
    let a = bind_some (v.read text) (λ x. Some (Left x)) x e in
    subst (λ x. (text ≡ either_text v w x) × EitherWithin v w x) (some_is (Left a.0) x a.2) (l.takes text a.0 a.1)
either_takes {A} {B} {v} {w} false text x l m e =
    let a = bind_some (w.read text) (λ y. Some (Right y)) x e in
    subst (λ x. (text ≡ either_text v w x) × EitherWithin v w x) (some_is (Right a.0) x a.2) (m.takes text a.0 a.1)

either_again : {A B : Type 0} {v : Word A} {w : Word B} → (test : List ℕ → Bool) (x : Either A B) → WordLaws v → WordLaws w
    → ((x : A) → v.Within x → test (v.print x) ≡ true) → ((y : B) → w.Within y → test (w.print y) ≡ false)
    → EitherWithin v w x → (choice test v w).read (either_text v w x) ≡ Some x
either_again {A} {B} {v} {w} test (Left x) l m passes fails h =
    ap (λ b. either_by b (v.read (v.print x)) (w.read (v.print x))) (passes x h)
    ∙ ap (λ r. r >>= λ x. Some (Left x)) (l.again x h)
either_again {A} {B} {v} {w} test (Right y) l m passes fails h =
    ap (λ b. either_by b (v.read (w.print y)) (w.read (w.print y))) (fails y h)
    ∙ ap (λ r. r >>= λ y. Some (Right y)) (m.again y h)

either_inside : {A B : Type 0} {v : Word A} {w : Word B} → (x : Either A B) → WordLaws v → WordLaws w
    → EitherWithin v w x → list_all is_line_byte (either_text v w x) ≡ true
either_inside (Left x) l m h = l.inside x h
either_inside (Right y) l m h = m.inside y h

pub choice-laws : {A B : Type 0} {v : Word A} {w : Word B} → (test : List ℕ → Bool) → ((x : A) → v.Within x → test (v.print x) ≡ true)
    → ((y : B) → w.Within y → test (w.print y) ≡ false) → WordLaws v → WordLaws w → WordLaws (choice test v w)
choice-laws test passes fails l m = record {
  takes = λ text x e. either_takes (test text) text x l m e;
  again = λ x h. either_again test x l m passes fails h;
  inside = λ x h. either_inside x l m h;
}

named_by : {T : Type 0} (name : T → List ℕ) (text : List ℕ) (b : Bool) (first t : T) (o : Option T) → (b ≡ true → name first ≡ text) → (o ≡ Some t → name t ≡ text)
    → (if b then Some first else o) ≡ Some t → name t ≡ text
named_by name text true first t o is more e = ap name (sym (some_is first t e)) ∙ is refl
named_by name text false first t o is more e = more e

pub named_is : {T : Type 0} (name : T → List ℕ) (all : List T) (text : List ℕ) (t : T) → named name all text ≡ Some t → name t ≡ text
named_is name [] text t e = absurd cc
named_is name (first ∷ more) text t e =
    named_by name text (bytes_eq text (name first)) first t (named name more text) (λ b. sym ((bytes_eq-Decides text (name first)).0 b)) (named_is name more text t) e

pub one_of-laws : {T : Type 0} (name : T → List ℕ) (all : List T) → ((t : T) → named name all (name t) ≡ Some t)
    → ((t : T) → list_all is_line_byte (name t) ≡ true) → WordLaws (one_of name all)
one_of-laws name all found inside = record {
  takes = λ text t e. (sym (named_is name all text t e), tt);
  again = λ t h. found t;
  inside = λ t h. inside t;
}

-- its name finds the tag, has no colon and is on one line
abbrev pub IsNamed : {T : Type 0} → (T → List ℕ) → List T → T → Type 0
IsNamed name all t = (named name all (name t) ≡ Some t) × (lacks 58 (name t) ≡ true) × (list_all is_line_byte (name t) ≡ true)

pub by_name-laws : {T : Type 0} {Said : T → Type 0} {word : (t : T) → Word (Said t)} → (name : T → List ℕ) (all : List T) → ((t : T) → IsNamed name all t)
    → ((t : T) → WordLaws (word t)) → WordLaws (by_name name all word)
by_name-laws {T} {Said} {word} name all n l = record {
  takes = λ text p e.
      let cut = until 58 text in
      let a = bind_some (after (codes ":") cut.1) (λ said. named name all cut.0 >>= λ t. (word t).read said >>= λ x. Some (t, x)) p e in
      let b = bind_some (named name all cut.0) (λ t. (word t).read a.0 >>= λ x. Some (t, x)) p a.2 in
      let d = bind_some ((word b.0).read a.0) (λ x. Some (b.0, x)) p b.2 in
      let t = (l b.0).takes a.0 d.0 d.1 in
      subst (λ (q : (t : T) × Said t). (text ≡ name q.0 ++ (58 ∷ (word q.0).print q.1)) × (word q.0).Within q.1) (some_is (b.0, d.0) p d.2) (
        until_whole 58 text ∙ ap (λ prefix. prefix ++ cut.1) (sym (named_is name all cut.0 b.0 b.1))
            ∙ ap (λ rest. name b.0 ++ rest) (key_takes (codes ":") cut.1 a.0 a.1 ∙ ap (λ said. 58 ∷ said) t.0),
        t.1,
      );
  again = λ p h.
      let said = (word p.0).print p.1 in
      ap (λ (cut : List ℕ × List ℕ). after (codes ":") cut.1 >>= λ said. named name all cut.0 >>= λ t. (word t).read said >>= λ x. Some (t, x))
      (until_again 58 (name p.0) (58 ∷ said) (n p.0).1 refl)
      ∙ ap (λ r. r >>= λ said. named name all (name p.0) >>= λ t. (word t).read said >>= λ x. Some (t, x)) (key_again (codes ":") said)
      ∙ ap (λ r. r >>= λ t. (word t).read said >>= λ x. Some (t, x)) (n p.0).0
      ∙ ap (λ r. r >>= λ x. Some (p.0, x)) ((l p.0).again p.1 h);
  inside = λ p h. inside_both (name p.0) (58 ∷ (word p.0).print p.1) (n p.0).2 ((l p.0).inside p.1 h);
}
