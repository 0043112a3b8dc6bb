-- Formats. A format states once how values are spelled and how they are read: a `Word` as a whole text, a `Format` as the
-- prefix of a text. Their laws: what is read is spelled so, and what is spelled is read again (proofs/FormatLaws).
use Rattle.std.specs.Prelude.{◌≡◌, ℕ, List, [], ◌∷◌, ◌++◌, Bool, true, false, Option, Some, None, is_none, ◌==◌, bytes_eq, codes, if◌then◌else◌}
use Rattle.ll_attr.specs.Words.{after}

-- values that are a whole text each
pub record Word (A : Type 0) : Type 1 where
  pub print : A → List ℕ
  pub read : List ℕ → Option A
  -- the values that are read again from their spelling
  pub Within : A → Type 0

-- values that are the prefix of a text
pub record Format (A : Type 0) : Type 1 where
  pub print : A → List ℕ
  -- the value, and the rest of the text after it
  pub read : List ℕ → Option (A × List ℕ)
  pub Within : A → Type 0
  -- whether the value is read up to where `rest` begins
  pub ends : A → List ℕ → Bool

-- one value or the other
pub data Either (A B : Type 0) : Type 0 where
  Left : A → Either A B
  Right : B → Either A B

infixl 10 ◌>>=◌
abbrev pub ◌>>=◌ : {A B : Type 0} → Option A → (A → Option B) → Option B
(Some x) >>= f = f x
None >>= f = None

abbrev pub with_rest : {A : Type 0} → List ℕ → A → Option (A × List ℕ)
with_rest rest x = Some (x, rest)

abbrev pub until_by : Bool → ℕ → List ℕ → List ℕ × List ℕ → List ℕ × List ℕ
until_by true b bs more = ([], b ∷ bs)
until_by false b bs more = (b ∷ more.0, more.1)

-- what is before the first byte c, or everything, and the rest from that byte on
abbrev pub until : ℕ → List ℕ → List ℕ × List ℕ
until c [] = ([], [])
until c (b ∷ bs) = until_by (b == c) b bs (until c bs)

abbrev pub stops_at : ℕ → List ℕ → Bool
stops_at c [] = true
stops_at c (b ∷ bs) = b == c

-- a word up to the next byte c, or up to the end
abbrev pub up_to : {A : Type 0} → ℕ → Word A → Format A
up_to c w = record {
  print = w.print;
  read = λ text. w.read (until c text).0 >>= with_rest (until c text).1;
  Within = w.Within;
  ends = λ x rest. stops_at c rest;
}

-- a word up to the end
abbrev pub to_end : {A : Type 0} → Word A → Format A
to_end w = record {
  print = w.print;
  read = λ text. w.read text >>= with_rest [];
  Within = w.Within;
  ends = λ x rest. bytes_eq rest [];
}

-- one format after the other
abbrev pub beside : {A B : Type 0} → Format A → Format B → Format (A × B)
beside f g = record {
  print = λ p. f.print p.0 ++ g.print p.1;
  read = λ text. f.read text >>= λ a. g.read a.1 >>= λ b. Some ((a.0, b.0), b.1);
  Within = λ p. f.Within p.0 × g.Within p.1;
  ends = λ p rest. if f.ends p.0 (g.print p.1 ++ rest) then g.ends p.1 rest else false;
}

-- a format after a key
abbrev pub after_key : {A : Type 0} → List ℕ → Format A → Format A
after_key k f = record {
  print = λ x. k ++ f.print x;
  read = λ text. after k text >>= f.read;
  Within = f.Within;
  ends = f.ends;
}

-- a format before a key
abbrev pub before_key : {A : Type 0} → Format A → List ℕ → Format A
before_key f k = record {
  print = λ x. f.print x ++ k;
  read = λ text. f.read text >>= λ a. after k a.1 >>= λ rest. Some (a.0, rest);
  Within = f.Within;
  ends = λ x rest. f.ends x (k ++ rest);
}

-- a word in quotation marks; the opening one belongs to the key before it
abbrev pub quoted : {A : Type 0} → Word A → Format A
quoted w = before_key (up_to 34 w) (codes "\"")

abbrev pub flag_text : List ℕ → Bool → List ℕ
flag_text k true = k
flag_text k false = []

abbrev pub flag_by : List ℕ → Option (List ℕ) → Option (Bool × List ℕ)
flag_by text (Some rest) = Some (true, rest)
flag_by text None = Some (false, text)

abbrev pub flag_ends : List ℕ → Bool → List ℕ → Bool
flag_ends k true rest = true
flag_ends k false rest = is_none (after k rest)

abbrev pub Always : {A : Type 0} → A → Type 0
Always x = Unit {0}

-- whether a key is there
abbrev pub flag : List ℕ → Format Bool
flag k = record {
  print = flag_text k;
  read = λ text. flag_by text (after k text);
  Within = Always;
  ends = flag_ends k;
}

abbrev pub optional_text : {A : Type 0} → List ℕ → Format A → Option A → List ℕ
optional_text k f (Some x) = k ++ f.print x
optional_text k f None = []

abbrev pub optional_by : {A : Type 0} → Format A → List ℕ → Option (List ℕ) → Option (Option A × List ℕ)
optional_by f text (Some rest) = f.read rest >>= λ a. Some (Some a.0, a.1)
optional_by f text None = Some (None, text)

abbrev pub optional_ends : {A : Type 0} → List ℕ → Format A → Option A → List ℕ → Bool
optional_ends k f (Some x) rest = f.ends x rest
optional_ends k f None rest = is_none (after k rest)

-- P holds of the value, if there is one
abbrev pub Where : {A : Type 0} → (A → Type 0) → Option A → Type 0
Where P (Some x) = P x
Where P None = Unit {0}

-- a key with a format after it, or neither
abbrev pub optional : {A : Type 0} → List ℕ → Format A → Format (Option A)
optional k f = record {
  print = optional_text k f;
  read = λ text. optional_by f text (after k text);
  Within = Where f.Within;
  ends = optional_ends k f;
}

-- the same texts for other values
abbrev pub mapped : {A B : Type 0} → (A → B) → (B → A) → Format A → Format B
mapped to from f = record {
  print = λ y. f.print (from y);
  read = λ text. f.read text >>= λ a. Some (to a.0, a.1);
  Within = λ y. f.Within (from y);
  ends = λ y rest. f.ends (from y) rest;
}

abbrev pub alone : {A : Type 0} → A × List ℕ → Option A
alone p = if bytes_eq p.1 [] then Some p.0 else None

-- a format with nothing after it
abbrev pub whole : {A : Type 0} → Format A → Word A
whole f = record {
  print = f.print;
  read = λ text. f.read text >>= alone;
  Within = f.Within;
}

abbrev pub mapped_word : {A B : Type 0} → (A → B) → (B → A) → Word A → Word B
mapped_word to from w = record {
  print = λ y. w.print (from y);
  read = λ text. w.read text >>= λ x. Some (to x);
  Within = λ y. w.Within (from y);
}

-- a word whose whole text passes a test
abbrev pub tested : {A : Type 0} → (List ℕ → Bool) → Word A → Word A
tested test w = record {
  print = w.print;
  read = λ text. if test text then w.read text else None;
  Within = λ x. w.Within x × (test (w.print x) ≡ true);
}

-- the first element of the list that has this name
abbrev pub named : {T : Type 0} → (T → List ℕ) → List T → List ℕ → Option T
named name [] text = None
named name (t ∷ more) text = if bytes_eq text (name t) then Some t else named name more text

-- a name alone
abbrev pub one_of : {T : Type 0} → (T → List ℕ) → List T → Word T
one_of name all = record {
  print = name;
  read = named name all;
  Within = Always;
}

-- a name, a colon, and the value that belongs to this name
abbrev pub by_name : {T : Type 0} → {Said : T → Type 0} → (T → List ℕ) → List T → ((t : T) → Word (Said t)) → Word ((t : T) × Said t)
by_name name all word = record {
  print = λ p. name p.0 ++ (58 ∷ (word p.0).print p.1);
  read = λ text. after (codes ":") (until 58 text).1 >>= λ said. named name all (until 58 text).0 >>= λ t. (word t).read said >>= λ x. Some (t, x);
  Within = λ p. (word p.0).Within p.1;
}

abbrev pub either_text : {A B : Type 0} → Word A → Word B → Either A B → List ℕ
either_text v w (Left x) = v.print x
either_text v w (Right y) = w.print y

abbrev pub either_by : {A B : Type 0} → Bool → Option A → Option B → Option (Either A B)
either_by true x y = x >>= λ x. Some (Left x)
either_by false x y = y >>= λ y. Some (Right y)

abbrev pub EitherWithin : {A B : Type 0} → Word A → Word B → Either A B → Type 0
EitherWithin v w (Left x) = v.Within x
EitherWithin v w (Right y) = w.Within y

-- the first word if the text passes the test, else the second
abbrev pub choice : {A B : Type 0} → (List ℕ → Bool) → Word A → Word B → Word (Either A B)
choice test v w = record {
  print = either_text v w;
  read = λ text. either_by (test text) (v.read text) (w.read text);
  Within = EitherWithin v w;
}
