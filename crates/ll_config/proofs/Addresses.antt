-- What `parse` gives is the address in the text.
use Rattle.std.proofs.Common.{◌≡◌, ℕ, ◌==◌, List, [], ◌∷◌, append-nil, Bool, true, false, cond, Option, Some, None, Result, Ok, Err, refl, ap, sym, subst, ◌∙◌, length, option_map, arith}
use Rattle.std.proofs.lemmas.Bool.Decides.{nat_tests}
use Rattle.std.proofs.NetLemmas.Sockets.{read_socket_v4_complete, read_socket_v4_sound, read_socket_v6_complete, read_socket_v6_sound}
use Rattle.std.specs.Net.Grammar.{IsSocketV4Text, IsSocketV6Text, Parses}
use Rattle.std.specs.Net.Reader.{read_socket_v4, read_socket_v6, whole_value}
use Rattle.std.specs.Result.{result_ok}
use Rattle.std.specs.declared.net.socket_addr.SocketAddrV4.{SocketAddrV4}
use Rattle.std.specs.declared.net.socket_addr.SocketAddrV6.{SocketAddrV6}
use Rattle.ll_config.specs.Config.{v4_in, v4_of, v6_in, v6_of}

is-zero : (n : ℕ) → (n == 0) ≡ true → n ≡ 0
is-zero n h = grind (arith, nat_tests)

nil-of : (rest : List ℕ) → (length rest == 0) ≡ true → rest ≡ []
nil-of [] h = refl
nil-of (b ∷ bs) h =
    let none : length (b ∷ bs) ≡ 0 = is-zero (length (b ∷ bs)) h in absurd (omega (arith, none))

-- no text is left where a value is read, unless the text spells none
none-read : {A B : Type 0} (Spells : A → Type 0) (of : B → A) (r : Option (B × List ℕ)) → ((a : A) → ¬ (Spells a))
    → ((parts : B) → r ≡ Some (parts, []) → Spells (of parts)) → None ≡ option_map of (whole_value r)
none-read Spells of None none sound = refl
none-read Spells of (Some (parts, rest)) none sound = by-end (length rest == 0) refl
  where
    by-end : (b : Bool) → (length rest == 0) ≡ b → None ≡ option_map of (cond b (Some parts) None)
    by-end true e = absurd (none (of parts) (sound parts (ap (λ l. Some (parts, l)) (nil-of rest e))))
    by-end false e = refl

v4-sound : (text : List ℕ) (parts : List ℕ × ℕ) → read_socket_v4 text ≡ Some (parts, []) → IsSocketV4Text text (v4_of parts)
v4-sound text parts is =
    let h = read_socket_v4_sound text [] (v4_of parts) is in subst (λ t. IsSocketV4Text t (v4_of parts)) (sym (h.1 ∙ append-nil h.0)) h.2

v6-sound : (text : List ℕ) (parts : List ℕ × ℕ × ℕ × ℕ) → read_socket_v6 text ≡ Some (parts, []) → IsSocketV6Text text (v6_of parts)
v6-sound text parts is =
    let h = read_socket_v6_sound text [] (v6_of parts) is in subst (λ t. IsSocketV6Text t (v6_of parts)) (sym (h.1 ∙ append-nil h.0)) h.2

pub v4_parsed : {E : Type 0} (text : List ℕ) (r : Result SocketAddrV4 E) → Parses IsSocketV4Text text r → result_ok r ≡ v4_in text
v4_parsed text (Ok a) h = sym (ap (λ r. option_map v4_of (whole_value r)) (read_socket_v4_complete text a h))
v4_parsed text (Err e) h = none-read (IsSocketV4Text text) v4_of (read_socket_v4 text) h (v4-sound text)

pub v6_parsed : {E : Type 0} (text : List ℕ) (r : Result SocketAddrV6 E) → Parses IsSocketV6Text text r → result_ok r ≡ v6_in text
v6_parsed text (Ok a) h = sym (ap (λ r. option_map v6_of (whole_value r)) (read_socket_v6_complete text a h))
v6_parsed text (Err e) h = none-read (IsSocketV6Text text) v6_of (read_socket_v6 text) h (v6-sound text)
