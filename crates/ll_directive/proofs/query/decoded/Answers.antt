-- Each byte is plain, and the iterator gives what the escapes decode to.
use Rattle.std.proofs.Common.{◌≡◌, ◌∙◌, ◌++◌, false, ◌&&◌, sym, ap, append-nil, length, arith}
use Rattle.std.specs.Prelude.{nat_lt}
use Rattle.std.proofs.lemmas.Bool.Decides.{nat_tests}
use Rattle.percent_encoding.specs.Iter.{decoded_bytes}
use Rattle.ll_directive.proofs.Decoded.{decoded-cut, decoded-plain}
use Rattle.ll_directive.specs.Told.{is_plain}
use Rattle.ll_directive.proofs.query.decoded.Goals as goal
use Rattle.ll_directive.proofs.query.decoded.Goals.{then-is_full-via-then-is_full, then-is_full-via-else-is_full+then-not-is_plain}

pub returns-then-is_full : goal.returns-then-is_full
returns-then-is_full c =
    let text = c.loop-byte.text.bytes in
    let b = c.in-Some.byte in
    let stops : (nat_lt (length text) 20 && is_plain b) ≡ false =
    (elim c.then-is_full.branch [
      | then-is_full-via-then-is_full w ↦ grind (arith, nat_tests)
      | then-is_full-via-else-is_full+then-not-is_plain w ↦ grind (arith, nat_tests)
    ])
    in decoded-cut c.args.raw.now text (decoded_bytes c.next.new.self) b (ap (λ xs. text ++ xs) (sym c.in-Some.ensures.steps) ∙ c.loop-byte.invariant.0) stops

pub returns : goal.returns
returns c =
    decoded-plain c.args.raw.now c.loop-byte.text.bytes (sym (append-nil _) ∙ ap (λ xs. c.loop-byte.text.bytes ++ xs) (sym c.in-None.ensures.steps.0) ∙ c.loop-byte.invariant.0) c.loop-byte.invariant.1
