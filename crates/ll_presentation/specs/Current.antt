-- For private contracts: the invariant of a presentation.
use Rattle.std.specs.Prelude.{◌≡◌, length}
use Rattle.ll_page_cache.specs.Stored.{AreFew}
use Rattle.ll_page_cache.specs.Written.{AreWritten, WrittenOf}
use Rattle.ll_presentation.specs.PresentationValue.{PresentationValue, moment}

pub record IsCurrent (p : PresentationValue) (w : WrittenOf) : Type 0 where
  pub pages : AreWritten (moment p) w.pages
  pub pieces : AreFew w.pieces p.renditions
  pub each : length p.renditions ≡ length p.settings.renditions
