-- The bytes so far are those of the digits that were read, two at a time.
use Rattle.std.proofs.Common.{◌≡◌, ◌+◌, ◌*◌, ◌≤◌, length}
use Rattle.std.specs.Prelude.{vec_capacity, vec_len}
use Rattle.std.specs.Slice.Iter.{chunks_exact_rest, chunks_exact_size}
use Rattle.ll_script.proofs.HexLemmas.{IsReadTo}
use Rattle.ll_script.proofs.hexadecimal.read_hex.Given as goal

-- there is room for the bytes of the digits that are left
abbrev pub invariant-loop-pair : goal.invariant-loop-pair
invariant-loop-pair l =
    (chunks_exact_size l.pair-iterator ≡ 2)
    × IsReadTo l.fn.text (chunks_exact_rest l.pair-iterator) l.bytes.items
    × (2 * vec_len l.bytes + length (chunks_exact_rest l.pair-iterator) ≤ 2 * vec_capacity l.bytes + 1)
