-- Which segments are there follows from how many are finished.
use Rattle.std.proofs.Common.{◌≡◌, ◌&&◌, ap, ◌∙◌, sym, true, nat_lt, arith}
use Rattle.std.proofs.lemmas.Bool.Decides.{nat_tests}
use Rattle.ll_window.proofs.WantLemmas.{segment_told}
use Rattle.ll_window.proofs.window.Window.holds_segment.Goals as goal

pub returns-then-first-next : goal.returns-then-first-next
returns-then-first-next c items reached =
    let k = c.args.self.now in
    let some : nat_lt k.settings.first k.next_number ≡ true =
    grind (arith, nat_tests, c.if-first-next.true, c.first.ensures.value, ap (λ s. s.first) c.settings.ensures, c.next_number-next.ensures) in
    ap (nat_lt c.args.msn) c.next_number-next.ensures
    ∙ sym (ap (λ b. b && nat_lt c.args.msn k.next_number) some)
    ∙ segment_told k items c.args.msn reached
