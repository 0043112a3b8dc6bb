-- One more element between two fragments.
use Rattle.std.proofs.Common.{◌≡◌, ◌+◌, List, [], ◌∷◌, ◌++◌, length, length-append, arith}
use Rattle.ll_parts.specs.Others.{bytes_of}
use Rattle.ll_parts.specs.declared.others.Other.{Other}

pub one_more : (others : List Other) (other : Other) → length (bytes_of (others ++ other ∷ [])) ≡ length (bytes_of others) + length other.bytes
one_more [] other = let e = length-append other.bytes [] in omega (arith, e)
one_more (first ∷ others) other =
    let e = one_more others other in
    let f = length-append first.bytes (bytes_of (others ++ other ∷ [])) in
    let g = length-append first.bytes (bytes_of others) in omega (arith, e, f, g)
