-- Messages that wait.
use Rattle.std.proofs.Common.{◌≡◌, ◌<◌, List, [], ◌∷◌, ap, sym, length, slice_index_or, arith}
use Rattle.ll_announce.specs.Messages.{MessageValue}
use Rattle.ll_pair.specs.Coming.{IsFirstOf}

-- the first of some messages
pub first_of : (messages : List MessageValue) (message : MessageValue) → 0 < length messages → message ≡ slice_index_or messages 0 message → IsFirstOf messages message
first_of [] message some is = absurd (omega (arith, some))
first_of (first ∷ later) message some is = (later, ap (λ m. m ∷ later) (sym is))
