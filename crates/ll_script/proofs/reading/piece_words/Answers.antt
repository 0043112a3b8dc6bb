-- A connection's line has two words, so one in whose second part a space was found is none.
use Rattle.std.proofs.Common.{ap, sym, ◌∙◌}
use Rattle.ll_attr.specs.Numbers.{number_in}
use Rattle.ll_script.specs.Hex.{bytes_in_hex}
use Rattle.ll_script.specs.Lines as spec
use Rattle.ll_script.proofs.ReadingLemmas.{bytes_by-none, bytes_of-more, bytes_of-one}
use Rattle.ll_script.proofs.reading.piece_words.Goals as goal

pub returns-then-is_some : goal.returns-then-is_some
returns-then-is_some c =
    let n = c.in_ok-number in
    ap spec.bytes_of n.ensures.parts ∙ bytes_of-more n.number.now n.hex.now c.cut-2.result c.cut-2.ensures.parts (sym c.if-is_some.ensures)

pub returns-in_err-number-2 : goal.returns-in_err-number-2
returns-in_err-number-2 c =
    let n = c.in_ok-number in
    let one = ap spec.bytes_of n.ensures.parts ∙ bytes_of-one n.number.now n.hex.now c.cut-2.result c.cut-2.ensures.parts c.if-is_some.ensures c.if-is_empty.ensures in
    let none = sym c.parse_number.ensures ∙ c.in_err-number-2.was in
    rw c.from_residual-in_err-number-2.ensures (one ∙ ap (λ m. spec.bytes_by m (bytes_in_hex n.hex.now)) none)

pub returns-then-is_hex : goal.returns-then-is_hex
returns-then-is_hex c =
    let n = c.in_ok-number in
    let one = ap spec.bytes_of n.ensures.parts ∙ bytes_of-one n.number.now n.hex.now c.cut-2.result c.cut-2.ensures.parts c.if-is_some.ensures c.if-is_empty.ensures in
    let some = sym c.parse_number.ensures ∙ c.in_ok-number-2.was in
    (sym c.if-is_hex.ensures, one ∙ ap (λ m. spec.bytes_by m (bytes_in_hex n.hex.now)) some)

pub returns-else-is_hex : goal.returns-else-is_hex
returns-else-is_hex c =
    let n = c.in_ok-number in
    let one = ap spec.bytes_of n.ensures.parts ∙ bytes_of-one n.number.now n.hex.now c.cut-2.result c.cut-2.ensures.parts c.if-is_some.ensures c.if-is_empty.ensures in
    one ∙ bytes_by-none (number_in 9 n.number.now) (bytes_in_hex n.hex.now) c.if-is_hex.ensures
