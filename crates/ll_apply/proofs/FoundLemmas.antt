-- What was read of a text determines whether it skips, and its numbers are those that were read.
use Rattle.std.proofs.Common.{◌≡◌, ◌≤◌, ℕ, List, [], ◌∷◌, ◌++◌, map, true, Option, Some, None, is_some, IfSome, Result, Ok, Err, refl, ap, sym, subst, ◌∙◌}
use Rattle.std.specs.List.{flat_map}
use Rattle.std.specs.Option.{option_map}
use Rattle.ll_line.specs.Playlist.{Skip, Playlist}
use Rattle.ll_line.specs.Formats.{largest_number, line}
use Rattle.ll_line.specs.Line.{DateRange, Line}
use Rattle.ll_line.specs.Spelling.{segment_lines, skip_lines, tail_lines}
use Rattle.ll_read.specs.Outline.{outline_of}
use Rattle.ll_read.specs.Readable.{Each, IsReadable}
use Rattle.ll_read.specs.Reading.{playlist_in}
use Rattle.ll_read.specs.declared.fault.ReadFault.{ReadFault}
use Rattle.ll_read.specs.declared.outline.Outline.{Outline}
use Rattle.ll_read.proofs.SpelledAgain.{is-readable}
use Rattle.ll_apply.specs.Found.{AreRead, IsFound}
use Rattle.ll_apply.specs.Texts.{base_of, unless_skipping}
use Rattle.ll_apply.specs.declared.fault.ApplyFault.TheVariants.{BadBase}
use Rattle.ll_apply.specs.declared.found.Found.{Found}

skips_by : (s : Option Skip) (p : Playlist) → is_some (option_map (λ (s : Skip). s.count) s) ≡ true → unless_skipping s p ≡ Err BadBase
skips_by None p e = absurd (cc)
skips_by (Some skip) p e = refl

-- a playlist that skips is no earlier one
pub base-skips : (r : Result Playlist ReadFault) (f : Found) → IsFound f r → is_some f.outline.skipped ≡ true → base_of r ≡ Err BadBase
base-skips (Err fault) f found e = absurd found
base-skips (Ok p) f found e = skips_by p.skipped p (ap (λ (o : Outline). is_some o.skipped) (sym found.0) ∙ e)

lines_after : (xs ys : List Line) → Each line.Within (xs ++ ys) → Each line.Within ys
lines_after [] ys h = h
lines_after (x ∷ xs) ys h = lines_after xs ys h.1

counted : (s : Option Skip) (more : List Line) → Each line.Within (skip_lines s ++ more) → IfSome (option_map (λ (s : Skip). s.count) s) (λ n. n ≤ largest_number)
counted None more h = tt
counted (Some skip) more h = h.0.0

within : (o : Outline) (p : Playlist) → o ≡ outline_of p → IsReadable p → AreRead o
within o p e can =
    let counts = can.lines.1.1.1.1.1 in
    let after = flat_map segment_lines p.segments ++ tail_lines p in
    subst (λ u. AreRead u) (sym e) (counts.0, counted p.skipped after (lines_after (map DateRange p.ranges) (skip_lines p.skipped ++ after) counts.1.1))

read_by : (text : List ℕ) (r : Result Playlist ReadFault) (f : Found) → playlist_in text ≡ r → IsFound f r → AreRead f.outline
read_by text (Err fault) f is found = absurd found
read_by text (Ok p) f is found = within f.outline p found.0 (is-readable text p is)

pub numbers-read : (text : List ℕ) (f : Found) → IsFound f (playlist_in text) → AreRead f.outline
numbers-read text f found = read_by text (playlist_in text) f refl found
