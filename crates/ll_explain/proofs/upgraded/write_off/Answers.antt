-- Each write takes the first of what is left.
use Rattle.std.proofs.Common.{List, ℕ, subst, take, ◌∙◌}
use Rattle.std.specs.Io.KnownBytes.{Appends}
use Rattle.ll_explain.proofs.UpgradedLemmas.{written-off}
use Rattle.ll_explain.proofs.upgraded.write_off.Goals as goal

pub left-preserved : goal.left-preserved
left-preserved g c =
    let first = g.W.Writer.written c.args.out.now in
    let mid = g.W.Writer.written c.left.out in
    let new = g.W.Writer.written c.write.new.self in
    let n = c.in_ok-count.count in
    let wrote : Appends mid new (take n c.left.text.items) =
    subst (λ (t : List ℕ). Appends mid new (take n t)) c.deref.ensures.value c.in_ok-count.ensures.bytes in
    record {
      written = written-off first mid new c.args.text.now.items c.left.text.items c.drop_front.new.bytes.items n c.left.invariant.written wrote c.drop_front.ensures;
      steady = c.in_ok-count.ensures.steady ∙ c.left.invariant.steady;
    }
