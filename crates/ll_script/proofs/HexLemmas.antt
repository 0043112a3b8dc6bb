-- Bytes in hexadecimal digits: when a text spells some, and how they are read two digits at a time.
use Rattle.std.proofs.Common.{◌≡◌, ℕ, ◌+◌, ◌*◌, ◌/◌, ◌%◌, ◌<◌, List, [], ◌∷◌, ◌++◌, Bool, true, false, ◌&&◌, Option, Some, None, is_some, refl, ap, sym, subst, ◌∙◌, length, arith, nat_eq, slice_index_or, append-nil, append_assoc}
use Rattle.std.proofs.lemmas.Bool.Decides.{nat_tests}
use Rattle.std.proofs.lemmas.Option.{none-some, same_Some}
use Rattle.std.specs.Prelude.{IsSome, option_map}
use Rattle.std.specs.List.{list_all}
use Rattle.std.specs.Option.{unwrap_or}
use Rattle.ll_script.specs.Hex.{byte_before, bytes_in_hex, hex_digit}

moved : (x y e q : Bool) → (x && (y && (e && q))) ≡ (e && (x && (y && q)))
moved true true true q = refl
moved true true false q = refl
moved true false true q = refl
moved true false false q = refl
moved false y true q = refl
moved false y false q = refl

some-byte : (high low : Option ℕ) (bytes : Option (List ℕ)) → is_some (byte_before high low bytes) ≡ (is_some high && (is_some low && is_some bytes))
some-byte (Some high) (Some low) (Some bytes) = refl
some-byte (Some high) (Some low) None = refl
some-byte (Some high) None bytes = refl
some-byte None low bytes = refl

-- a text spells bytes if it is an even number of digits
some-in-hex : (text : List ℕ) → is_some (bytes_in_hex text) ≡ (nat_eq (length text % 2) 0 && list_all (λ b. is_some (hex_digit b)) text)
some-in-hex [] = refl
some-in-hex (a ∷ []) = refl
some-in-hex (a ∷ b ∷ more) =
    let even : length more % 2 ≡ length (a ∷ b ∷ more) % 2 = omega arith in
    some-byte (hex_digit a) (hex_digit b) (bytes_in_hex more)
    ∙ ap (λ m. is_some (hex_digit a) && (is_some (hex_digit b) && m)) (some-in-hex more)
    ∙ moved (is_some (hex_digit a)) (is_some (hex_digit b)) (nat_eq (length more % 2) 0) (list_all (λ c. is_some (hex_digit c)) more)
    ∙ ap (λ n. nat_eq n 0 && list_all (λ c. is_some (hex_digit c)) (a ∷ b ∷ more)) even

pub even-some : (text : List ℕ) → length text % 2 ≡ 0 → is_some (bytes_in_hex text) ≡ list_all (λ b. is_some (hex_digit b)) text
even-some text even = some-in-hex text ∙ ap (λ n. nat_eq n 0 && list_all (λ b. is_some (hex_digit b)) text) even

pub odd-some : (text : List ℕ) → (length text % 2 ≡ 0 → ⊥) → nat_eq (length text % 2) 0 ≡ is_some (bytes_in_hex text)
odd-some text odd = by_rest (length text % 2) odd ∙ sym (some-in-hex text)
  where
    by_rest : (n : ℕ) → (n ≡ 0 → ⊥) → nat_eq n 0 ≡ (nat_eq n 0 && list_all (λ b. is_some (hex_digit b)) text)
    by_rest n f = let odd : nat_eq n 0 ≡ false = grind (arith, nat_tests, f) in rw odd refl

-- these bytes of a text are read, and these digits are left
abbrev pub IsReadTo : (text rest items : List ℕ) → Type 0
IsReadTo text rest items = IsSome (bytes_in_hex rest) × (bytes_in_hex text ≡ option_map (λ more. items ++ more) (bytes_in_hex rest))

-- nothing is read yet
pub read-none : (text : List ℕ) → IsSome (bytes_in_hex text) → IsReadTo text text []
read-none text some = (some, same (bytes_in_hex text))
  where
    same : (o : Option (List ℕ)) → o ≡ option_map (λ more. [] ++ more) o
    same None = refl
    same (Some bytes) = refl

read-byte : (high low : Option ℕ) (bytes whole : Option (List ℕ)) (items : List ℕ) → IsSome (byte_before high low bytes)
    → whole ≡ option_map (λ more. items ++ more) (byte_before high low bytes)
    → IsSome bytes × (whole ≡ option_map (λ more. items ++ (16 * unwrap_or high 0 + unwrap_or low 0) ∷ [] ++ more) bytes)
read-byte (Some high) (Some low) (Some bytes) whole items some e = (refl, e ∙ ap Some (sym (append_assoc items ((16 * high + low) ∷ []) bytes)))
read-byte (Some high) (Some low) None whole items some e = absurd (cc)
read-byte (Some high) None bytes whole items some e = absurd (cc)
read-byte None low bytes whole items some e = absurd (cc)

-- one more byte is read
pub read-next : (text rest pair later items : List ℕ) → rest ≡ pair ++ later → length pair ≡ 2 → IsReadTo text rest items
    → IsReadTo text later (items ++ (16 * unwrap_or (hex_digit (slice_index_or pair 0 0)) 0 + unwrap_or (hex_digit (slice_index_or pair 1 0)) 0) ∷ [])
read-next text rest [] later items cut two h = absurd (omega (arith, two))
read-next text rest (a ∷ []) later items cut two h = absurd (omega (arith, two))
read-next text rest (a ∷ b ∷ []) later items cut two h =
    let g = subst (λ r. IsReadTo text r items) cut h in
    read-byte (hex_digit a) (hex_digit b) (bytes_in_hex later) (bytes_in_hex text) items g.0 g.1
read-next text rest (a ∷ b ∷ c ∷ more) later items cut two h = absurd (omega (arith, two))

-- everything is read
pub read-all : (text rest items : List ℕ) → length rest < 2 → IsReadTo text rest items → bytes_in_hex text ≡ Some items
read-all text [] items short h = h.1 ∙ ap Some (append-nil items)
read-all text (a ∷ []) items short h = absurd (let none = h.0 in cc)
read-all text (a ∷ b ∷ more) items short h = absurd (omega (arith, short))

two-digits : (high low : Option ℕ) (later : Option (List ℕ)) (more bytes : List ℕ) → ((rest : List ℕ) → later ≡ Some rest → length more ≡ 2 * length rest)
    → byte_before high low later ≡ Some bytes → 2 + length more ≡ 2 * length bytes
two-digits (Some high) (Some low) (Some rest) more bytes all e =
    let n = ap length (same_Some ((16 * high + low) ∷ rest) bytes e) in
    omega (arith, all rest refl, n)
two-digits (Some high) (Some low) None more bytes all e = absurd (none-some bytes e)
two-digits (Some high) None later more bytes all e = absurd (none-some bytes e)
two-digits None low later more bytes all e = absurd (none-some bytes e)

digits-spelled : (text bytes : List ℕ) → bytes_in_hex text ≡ Some bytes → length text ≡ 2 * length bytes
digits-spelled [] bytes e = let n = ap length (same_Some [] bytes e) in omega (arith, n)
digits-spelled (a ∷ []) bytes e = absurd (none-some bytes e)
digits-spelled (a ∷ b ∷ more) bytes e =
    let n = two-digits (hex_digit a) (hex_digit b) (bytes_in_hex more) more bytes (digits-spelled more) e in omega (arith, n)

-- a text spells half as many bytes as it has digits
pub half-spelled : (text bytes : List ℕ) → bytes_in_hex text ≡ Some bytes → length text / 2 ≡ length bytes
half-spelled text bytes e = omega (arith, digits-spelled text bytes e)
