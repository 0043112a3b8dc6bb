-- What was written of a rendition is of this moment, and of that rendition.
use Rattle.std.proofs.Common.{ap, subst, sym, position, ◌∙◌}
use Rattle.std.proofs.lemmas.Result.{IfOk-weaker}
use Rattle.ll_page_cache.specs.Written.{AreAt, AreWritten, WrittenOf, is_of}
use Rattle.ll_page_cache.proofs.WrittenLemmas.{page-at, written-more}
use Rattle.ll_page_cache.proofs.written.Written.page.Goals as goal

pub returns-in-Some-clause-page : goal.returns-in-Some-clause-page
returns-in-Some-clause-page c =
    IfOk-weaker c.page.result _ _ (λ p is. is
    ∙ page-at c.args.shown.now c.self.inside.pages.items c.args.rendition c.in-Some.place c.index_mut.result.now c.args.form
    (subst (λ (w : WrittenOf). AreAt c.args.shown.now w.pages) (sym c.self.view_is) c.requires.current.here)
    (sym c.in-Some.is ∙ c.place_of-found.ensures ∙ ap (position (is_of c.args.rendition)) c.deref.ensures.value) c.index_mut.ensures.value) c.page.ensures.page

pub returns-clause-current : goal.returns-clause-current
returns-clause-current c =
    subst (AreWritten c.args.shown.now) (sym c.push.ensures.items)
    (written-more c.args.shown.now c.self.inside.pages.items _ c.args.rendition _
    (subst (λ (w : WrittenOf). AreWritten c.args.shown.now w.pages) (sym c.self.view_is) c.requires.current)
    c.in_ok-pages.ensures.pages
    (sym c.in_default.is ∙ c.place_of-found.ensures ∙ ap (position (is_of c.args.rendition)) c.deref.ensures.value))
