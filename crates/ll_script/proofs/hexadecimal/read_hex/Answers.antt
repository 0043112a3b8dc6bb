-- Two digits are read at a time.
use Rattle.std.proofs.Common.{◌+◌, ◌*◌, ◌<◌, ◌≤◌, ◌++◌, ◌∷◌, [], ap, ap₂, arith, length, length-append, subst, sym, ◌∙◌}
use Rattle.std.specs.Option.{unwrap_or}
use Rattle.std.specs.Prelude.{vec_capacity, vec_len}
use Rattle.std.specs.Slice.Iter.{chunks_exact_rest, chunks_exact_size}
use Rattle.ll_script.proofs.HexLemmas.{IsReadTo, read-all, read-next, read-none}
use Rattle.ll_script.proofs.hexadecimal.read_hex.Goals as goal

pub loop-pair-init : goal.loop-pair-init
loop-pair-init c =
    let text = c.args.text.now in
    let gives = c.into_iter-pair-iterator.ensures.into_iter_gives in
    let size = ap chunks_exact_size gives ∙ c.chunks_exact-pair-items.ensures.size in
    let rest = ap chunks_exact_rest gives ∙ c.chunks_exact-pair-items.ensures.rest ∙ c.as_bytes.ensures.value in
    let none = subst (IsReadTo text text) (sym c.in_ok-bytes.ensures.items) (read-none text c.requires) in
    let room : 2 * vec_len c.in_ok-bytes.bytes + length (chunks_exact_rest c.into_iter-pair-iterator.result) ≤ 2 * vec_capacity c.in_ok-bytes.bytes + 1 =
    omega (arith, ap length rest, c.in_ok-bytes.ensures.len, c.in_ok-bytes.ensures.capacity) in
    (size, subst (λ r. IsReadTo text r c.in_ok-bytes.bytes.items) (sym rest) none, room)

pub push_reserved-requires : goal.push_reserved-requires
push_reserved-requires c =
    let cut = c.in-Some.ensures.steps.1 in
    let count = ap length cut.0 ∙ length-append c.in-Some.pair.now (chunks_exact_rest c.next.new.self) in
    omega (arith, count, cut.1, c.loop-pair.invariant.0, c.loop-pair.invariant.2)

pub loop-pair-preserved : goal.loop-pair-preserved
loop-pair-preserved c =
    let before = c.loop-pair.invariant in
    let items = c.loop-pair.bytes.items in
    let pair = c.in-Some.pair.now in
    let later = chunks_exact_rest c.next.new.self in
    let cut = c.in-Some.ensures.steps.1 in
    let count = ap length cut.0 ∙ length-append pair later in
    let high = c.unwrap_or-high.ensures ∙ ap (λ d. unwrap_or d 0) c.digit.ensures in
    let low = c.unwrap_or-low.ensures ∙ ap (λ d. unwrap_or d 0) c.digit-in-loop-pair.ensures in
    let is = c.push_reserved.ensures.items ∙ ap₂ (λ h l. items ++ (16 * h + l) ∷ []) high low in
    let next = read-next c.args.text.now (chunks_exact_rest c.loop-pair.pair-iterator) pair later items cut.0 (cut.1 ∙ before.0) before.1 in
    let room : 2 * vec_len c.push_reserved.new.self + length later ≤ 2 * vec_capacity c.push_reserved.new.self + 1 =
    omega (arith, count, cut.1, before.0, before.2, c.push_reserved.ensures.len, c.push_reserved.ensures.capacity) in
    (c.in-Some.ensures.steps.0 ∙ before.0, subst (IsReadTo c.args.text.now later) (sym is) next, room)

pub returns : goal.returns
returns c =
    let before = c.loop-pair.invariant in
    let short : length (chunks_exact_rest c.loop-pair.pair-iterator) < 2 = omega (arith, c.in-None.ensures.steps.1, before.0) in
    read-all c.args.text.now (chunks_exact_rest c.loop-pair.pair-iterator) c.loop-pair.bytes.items short before.1
