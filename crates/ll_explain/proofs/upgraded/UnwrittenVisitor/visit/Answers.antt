-- The next lines are still to be written, or some of them are written.
use Rattle.std.proofs.Common.{◌≡◌, ◌++◌, ◌∙◌, ap, inl, inr, subst, sym, take}
use Rattle.ll_explain.proofs.UpgradedLemmas.{failed-more, ok-of, written-more, written-told}
use Rattle.ll_explain.specs.Upgrade.{AreWritten, told_text}
use Rattle.ll_settings.specs.Settings.{Configuration}
use Rattle.ll_explain.proofs.upgraded.UnwrittenVisitor.visit.Goals as goal

pub returns-then-is_err-clause-ended : goal.returns-then-is_err-clause-ended
returns-then-is_err-clause-ended g c = λ first p next lines mid rest held by few off.
    let same : c.truncate.new.self.items ≡ c.args.self.now.text.items =
    c.truncate.ensures.items ∙ ap (λ n. take n c.push_told.new.text.items) (c.len-before.ensures ∙ c.args.self.now.text.ok.0) ∙ c.push_told.ensures.front in
    inl (subst (λ text. AreWritten (g.W.Writer.written first) (g.W.Writer.written c.args.out.now) text p lines mid) (sym same) held.0, held.1)

pub returns-then-len-lt-PIECE-clause-on : goal.returns-then-len-lt-PIECE-clause-on
returns-then-len-lt-PIECE-clause-on g c = λ first p next lines mid rest held by few on.
    let added : (s : Configuration) → c.push_told.new.text.items ≡ c.args.self.now.text.items ++ told_text s c.args.told.now = λ s.
    ok-of c.push_told.result _ (sym c.is_err.ensures.value ∙ c.if-is_err.false) (c.push_told.ensures.lines s) in (
      written-told (g.W.Writer.written first) (g.W.Writer.written c.args.out.now) c.args.self.now.text.items c.push_told.new.text.items p next c.args.told.now lines mid rest
          held.0 by added,
      held.1,
    )

pub returns-clause-on : goal.returns-clause-on
returns-clause-on g c = λ first p next lines mid rest held by few on.
    let added : (s : Configuration) → c.push_told.new.text.items ≡ c.args.self.now.text.items ++ told_text s c.args.told.now = λ s.
    ok-of c.push_told.result _ (sym c.is_err.ensures.value ∙ c.if-is_err.false) (c.push_told.ensures.lines s) in
    let w = written-told (g.W.Writer.written first) (g.W.Writer.written c.args.out.now) c.args.self.now.text.items c.push_told.new.text.items p next c.args.told.now lines
    mid rest held.0 by added in (
      written-more (g.W.Writer.written first) (g.W.Writer.written c.args.out.now) (g.W.Writer.written c.write.new.out) c.push_told.new.text.items c.write.new.self.text.items
          next lines rest w c.write.ensures.written,
      failed-more _ _ _ _ _ held.1 c.write.ensures.failed,
    )

pub returns-clause-ended : goal.returns-clause-ended
returns-clause-ended g c = λ first p next lines mid rest held by few off.
    let added : (s : Configuration) → c.push_told.new.text.items ≡ c.args.self.now.text.items ++ told_text s c.args.told.now = λ s.
    ok-of c.push_told.result _ (sym c.is_err.ensures.value ∙ c.if-is_err.false) (c.push_told.ensures.lines s) in
    let w = written-told (g.W.Writer.written first) (g.W.Writer.written c.args.out.now) c.args.self.now.text.items c.push_told.new.text.items p next c.args.told.now lines
    mid rest held.0 by added in
    inr (
      written-more (g.W.Writer.written first) (g.W.Writer.written c.args.out.now) (g.W.Writer.written c.write.new.out) c.push_told.new.text.items
          c.write.new.self.text.items next lines rest w c.write.ensures.written,
      failed-more _ _ _ _ _ held.1 c.write.ensures.failed,
    )
