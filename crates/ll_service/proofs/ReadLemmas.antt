-- How a connection was read, read by read.
use Rattle.std.proofs.Common.{◌≡◌, ◌∙◌, ℕ, ◌+◌, ◌≤◌, List, [], ◌++◌, append-nil, ap, arith}
use Rattle.ll_device.proofs.InwardLemmas.{looked_at-on}
use Rattle.ll_device.specs.Inward.{Inward, looked_at}
use Rattle.ll_service.specs.Reads.{HasEnded, IsReadThrough, IsReadWithin}

-- `n` reads that gave bytes, and then `more` reads, which showed `ends` ends
pub read-then : (before mid after : Inward) (n more ends : ℕ) (came later : List ℕ)
    → mid ≡ looked_at n 0 came before → after ≡ looked_at more ends later mid → after ≡ looked_at (n + more) ends (came ++ later) before
read-then before mid after n more ends came later p q =
    let first : 0 + ends ≡ ends = omega arith in
    looked_at-on before mid after n 0 more ends came later p q ∙ ap (λ e. looked_at (n + more) e (came ++ later) before) first

-- the same if the later reads gave no bytes
pub read-no_more : (before mid after : Inward) (n more ends : ℕ) (came : List ℕ)
    → mid ≡ looked_at n 0 came before → after ≡ looked_at more ends [] mid → after ≡ looked_at (n + more) ends came before
read-no_more before mid after n more ends came p q =
    read-then before mid after n more ends came [] p q ∙ ap (λ bytes. looked_at (n + more) ends bytes before) (append-nil came)

pub IsReadWithin-then : (before mid after : Inward) (n more ends most : ℕ) (later : List ℕ)
    → IsReadThrough before mid n → after ≡ looked_at more ends later mid → n + more ≤ most → IsReadWithin before after most
IsReadWithin-then before mid after n more ends most later p q h =
    (n + more, ends, p.0 ++ later, h, read-then before mid after n more ends p.0 later p.1 q)

pub IsReadThrough-then : (before mid after : Inward) (n more : ℕ) → IsReadThrough before mid n → IsReadThrough mid after more → IsReadThrough before after (n + more)
IsReadThrough-then before mid after n more p q = (p.0 ++ q.0, read-then before mid after n more 0 p.0 q.0 p.1 q.1)

pub HasEnded-then : (before mid after : Inward) (n : ℕ) → IsReadThrough before mid n → HasEnded mid after → HasEnded before after
HasEnded-then before mid after n p q = (n + q.0, p.0 ++ q.1, read-then before mid after n q.0 1 p.0 q.1 p.1 q.2)
