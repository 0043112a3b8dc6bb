-- What was written of a channel.
use Rattle.std.specs.Prelude.{◌≡◌, ℕ, ◌==◌, List, [], ◌∷◌, Bool, false}
use Rattle.std.specs.List.{All, list_any}
use Rattle.ll_page.specs.Page.{Moment}
use Rattle.ll_pieces.specs.Pieces.{PiecesOf}
use Rattle.ll_page_cache.specs.Pages.{PagesOf}

-- the pages of each rendition that was asked for, and what was rendered of the segments of each rendition
pub record WrittenOf : Type 0 where
  pub pages : List PagesOf
  pub pieces : List PiecesOf

-- all pages are of the moment `now`
abbrev pub AreAt : Moment → List PagesOf → Type 0
AreAt now pages = All (λ (p : PagesOf). p.moment ≡ now) pages

-- whether the pages are of rendition `r`
abbrev pub is_of : ℕ → PagesOf → Bool
is_of r p = p.rendition == r

-- no two of them are of the same rendition
abbrev pub AreApart : List PagesOf → Type 0
AreApart [] = Unit
AreApart (p ∷ ps) = (list_any (is_of p.rendition) ps ≡ false) × AreApart ps

-- all pages are of the moment `now`, and each rendition has at most one set of them, with one page for each form
pub record AreWritten (now : Moment) (pages : List PagesOf) : Type 0 where
  pub here : AreAt now pages
  pub apart : AreApart pages
