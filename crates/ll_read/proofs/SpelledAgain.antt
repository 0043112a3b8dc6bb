-- What was read is written again, is readable, and has the outline of its lines: the lines of the text are those of the playlist that they make up.
use Rattle.std.proofs.Common.{◌≡◌, ℕ, List, ap, sym, subst, ◌∙◌, Ok, codes, bytes_eq}
use Rattle.std.proofs.lemmas.Bool.{and_parts}
use Rattle.std.specs.Str.{is_utf8}
use Rattle.ll_attr.specs.Words.{pieces_at}
use Rattle.ll_line.specs.Formats as format
use Rattle.ll_line.specs.Text.{text_of}
use Rattle.ll_line.specs.Playlist.{Playlist}
use Rattle.ll_line.specs.Spelling.{lines_of, spelling}
use Rattle.ll_read.specs.Draft.{blank, plain}
use Rattle.ll_read.specs.Outline.{outline_of}
use Rattle.ll_read.specs.Outlined.{outline_from}
use Rattle.ll_read.specs.Readable.{Each, ReadIsReadableLaw, SpelledAgainLaw}
use Rattle.ll_read.specs.Reading.{first_line, playlist_in, start, with_line_feeds}
use Rattle.ll_read.specs.declared.shape.Stage.TheVariants.{AtStart}
use Rattle.ll_read.proofs.Begins.{spelled}
use Rattle.ll_read.proofs.SoFar.{IsWhole}
use Rattle.ll_read.proofs.TextLines.{utf8-lines}
use Rattle.ll_read.proofs.Told.{told}
use Rattle.ll_read.proofs.Walk.{walk}

-- a text's lines are those of the playlist that it spells
abbrev HasLines : List ℕ → Playlist → Type 0
HasLines text p =
    (spelling p ≡ with_line_feeds text) × Each format.line.Within (lines_of p) × IsWhole p × (outline_from (outline_of blank) (pieces_at 10 text) ≡ outline_of p)

has_lines : (text : List ℕ) (p : Playlist) → playlist_in text ≡ Ok p → HasLines text p
has_lines text p h =
    let t = told 1 start (pieces_at 10 text) p (spelled text p h).1 in
    let lines = t.2 in
    let w = walk AtStart (plain blank) t.0 p tt t.1 in
    (ap text_of (sym w.0) ∙ lines.0, subst (Each format.line.Within) w.0 lines.1, w.1, lines.2 (outline_of blank) ∙ w.2)

pub spelled-again : SpelledAgainLaw
spelled-again text p h = (has_lines text p h).0

pub outlined : (text : List ℕ) (p : Playlist) → playlist_in text ≡ Ok p → outline_from (outline_of blank) (pieces_at 10 text) ≡ outline_of p
outlined text p h = (has_lines text p h).3

pub is-readable : ReadIsReadableLaw
is-readable text p h =
    let all = has_lines text p h in
    let sound = all.2.0 in
    let utf8 = (and_parts (is_utf8 text) (bytes_eq (first_line (pieces_at 10 text)) (codes "#EXTM3U")) (spelled text p h).0).0 in
    record {
      lines = all.1;
      version = sound.0;
      distinct = sound.1;
      skipped = sound.2;
      maps = sound.3;
      open_block = all.2.2;
      own_segment = all.2.1;
      utf8 = ap is_utf8 all.0 ∙ utf8-lines text utf8;
    }
