-- Answers that are sent piece by piece.
use Rattle.std.proofs.Common.{◌≡◌, ◌∙◌, ℕ, ◌≤◌, List, [], ◌∷◌, ◌++◌, Option, ap, drop, length, refl, sym, subst, take, append_assoc, ◌+◌, arith, length-append}
use Rattle.std.proofs.KnownBytes.{Appends-kept, Appends-nil}
use Rattle.std.proofs.lemmas.List.{take-append-le}
use Rattle.std.specs.Io.KnownBytes.{Appends, Keeps}
use Rattle.std.specs.List.{concat}
use Rattle.ll_player.specs.Sending.{HasSent, IsFront, More, Unsent}
use Rattle.ll_session.specs.Talk.{SessionValue, sent}

-- nothing was sent
pub sent-none : (base : Option (List ℕ)) (s : SessionValue) → HasSent base s base s
sent-none base s = Unsent base s (Appends-nil base) refl

-- the first bytes of the first answer are those of all
first-bytes : (s : SessionValue) (first : List ℕ) (n : ℕ) → s.answers ≡ first ∷ drop 1 s.answers → n ≤ length first → take n first ≡ take n (concat s.answers)
first-bytes s first n is most = sym (ap (λ xs. take n (concat xs)) is ∙ take-append-le n first (concat (drop 1 s.answers)) most)

-- `n` bytes more of the first answer that is left were sent
pub sent-more : (base mid after : Option (List ℕ)) (old now new : SessionValue) (first : List ℕ) (n : ℕ) → HasSent base old mid now
    → now.answers ≡ first ∷ drop 1 now.answers → n ≤ length first → Appends mid after (take n first) → new ≡ sent now n → HasSent base old after new
sent-more base mid after old now new first n s is most w e = More mid after now new n s (subst (Appends mid after) (first-bytes now first n is most) w) e

-- and then a write failed
pub sent_kept : (base mid after : Option (List ℕ)) (old now : SessionValue) → HasSent base old mid now → Keeps mid after → HasSent base old after now
sent_kept base mid after old now (Unsent written new none same) k = Unsent after now (Appends-kept base mid after [] none k) same
sent_kept base mid after old now (More first written early new m s wrote lost) k =
    More first after early now m s (Appends-kept first mid after (take m (concat early.answers)) wrote k) lost

-- what is written of the front of a text is written of the text
pub front_within : (front text : List ℕ) (n : ℕ) → IsFront front text → n ≤ length front → n ≤ length text
front_within front text n f most =
    let len : length text ≡ length front + length f.rest = ap length f.whole ∙ length-append front f.rest in
    omega (arith, len, most)

pub front_take : (front text : List ℕ) (n : ℕ) → IsFront front text → n ≤ length front → take n front ≡ take n text
front_take front text n f most = sym (ap (take n) f.whole ∙ take-append-le n front f.rest most)

no_head : (head body : List ℕ) → head ++ body ≡ [] → head ≡ []
no_head [] body none = refl
no_head (b ∷ head) body none = absurd (cc)

-- a head and a body are the front of an answer whose head isn't empty
pub front_head : (head body rest text : List ℕ) → head ++ (body ++ rest) ≡ text → (head ≡ [] → ⊥) → IsFront (head ++ body) text
front_head head body rest text e some = record {
  rest = rest;
  whole = sym e ∙ sym (append_assoc head body rest);
  some = λ none. absurd (some (no_head head body none));
}
