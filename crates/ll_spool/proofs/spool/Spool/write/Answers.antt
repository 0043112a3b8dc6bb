-- The line leaves the files of bytes as they are; if it isn't written whole, a prefix of it is.
use Rattle.std.proofs.Common.{◌≡◌, rules, subst, sym}
use Rattle.ll_spool.proofs.LineLemmas.{recut}
use Rattle.ll_spool.specs.Files.{AreHeld}
use Rattle.ll_spool.specs.Spooled.{spooled_line}
use Rattle.ll_spool.proofs.spool.Spool.write.Goals as goal

pub returns-clause-held : goal.returns-clause-held
returns-clause-held g c = λ of held is.
    subst (AreHeld of c.keep_at.new.layouts.items) (sym c.append_line.ensures.files) (c.in_ok-keep_at.ensures.held of held is)

pub returns-in_err-append_line-clause-cut : goal.returns-in_err-append_line-clause-cut
returns-in_err-append_line-clause-cut g c =
    let line : c.as_bytes.result.now ≡ spooled_line c.args.self.now.settings c.args.count c.args.item.now = search rules in
    recut c.from_residual-in_err-append_line.result _ _ _ _ _ c.keep_at.ensures.text line c.in_err-append_line.ensures.cut
