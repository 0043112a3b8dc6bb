-- A text spells bytes if it is an even number of digits.
use Rattle.std.proofs.Common.{sym, ◌∙◌}
use Rattle.ll_script.proofs.HexLemmas.{even-some, odd-some}
use Rattle.ll_script.proofs.hexadecimal.is_hex.Goals as goal

pub returns-then-text-eq0 : goal.returns-then-text-eq0
returns-then-text-eq0 c = c.all_digits.ensures ∙ sym (even-some c.args.text.now c.if-text-eq0.true)

pub returns-else-text-eq0 : goal.returns-else-text-eq0
returns-else-text-eq0 c = odd-some c.args.text.now c.if-text-eq0.false
