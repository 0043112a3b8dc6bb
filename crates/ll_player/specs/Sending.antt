-- What was sent of a session's answers.
use Rattle.std.specs.Prelude.{◌≡◌, ℕ, List, [], ◌++◌, Option, take}
use Rattle.std.specs.Io.KnownBytes.{Appends}
use Rattle.std.specs.List.{concat}
use Rattle.ll_session.specs.Talk.{SessionValue, sent}

-- After `base` some writes were made, and nothing else was written: each took the first bytes of the answers that the session had left, and the session
-- has lost just these.
pub data HasSent (base : Option (List ℕ)) (old : SessionValue) : Option (List ℕ) → SessionValue → Type 0 where
  Unsent : (written : Option (List ℕ)) (new : SessionValue) → Appends base written [] → new ≡ old → HasSent base old written new
  More : (mid written : Option (List ℕ)) (now new : SessionValue) (count : ℕ) → HasSent base old mid now → Appends mid written (take count (concat now.answers))
      → new ≡ sent now count → HasSent base old written new

-- these are the first bytes of a text, some of them unless it is empty
pub record IsFront (front text : List ℕ) : Type 0 where
  pub rest : List ℕ
  pub whole : text ≡ front ++ rest
  pub some : front ≡ [] → text ≡ []
