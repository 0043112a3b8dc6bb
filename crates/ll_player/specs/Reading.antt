-- How the bytes of a player's connection reach its session.
use Rattle.std.specs.Prelude.{◌≡◌, ◌<◌, ℕ, Bool, true, false, List, [], None, length}
use Rattle.ll_device.specs.Inward.{Inward, looked_at}
use Rattle.ll_session.specs.Requests.{requests}
use Rattle.ll_session.specs.Talk.{SessionValue, fed}

-- it was read once, `count` bytes came, and these were fed to the session: no bytes at its end
pub record IsFed (count : ℕ) (before after : Inward) (old new : SessionValue) : Type 0 where
  pub came : List ℕ
  pub many : length came ≡ count
  pub read : 0 < count → after ≡ looked_at 1 0 came before
  pub taken : new ≡ fed old came

-- it was not read, as while its request waits; unless it stays, its other end was found to have ended it (rule 30)
abbrev pub stays_or_ends : Bool → Inward → Inward
stays_or_ends true before = before
stays_or_ends false before = looked_at 0 1 [] before

-- it was read once: some bytes came, which were fed to the session; or its other end had ended it, and nothing was fed
pub data HasCome (came : Bool) (before after : Inward) (old new : SessionValue) : Type 0 where
  Came : (bytes : List ℕ) → came ≡ true → after ≡ looked_at 1 0 bytes before → new ≡ fed old bytes → HasCome came before after old new
  Ended : came ≡ false → after ≡ looked_at 1 1 [] before → new ≡ old → HasCome came before after old new

-- if no request is out, all that the session has put out was sent, and it has no whole request left, unless it has shut
pub record IsDrained (s : SessionValue) : Type 0 where
  pub sent : s.out ≡ None → s.answers ≡ []
  pub none : s.shut ≡ false → s.out ≡ None → requests s.unread ≡ []
