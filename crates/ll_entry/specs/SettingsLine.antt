-- How settings are spelled on a line.
use Rattle.std.specs.Prelude.{ℕ, List, ◌++◌, codes, decimal}
use Rattle.std.specs.List.{join_with_byte}
use Rattle.ll_settings.specs.Settings.{Configuration}

-- names of renditions, joined by commas
abbrev pub names_text : List (List ℕ) → List ℕ
names_text names = join_with_byte 44 names

-- `channel NAME target=N part=N skip=N window=N renditions=NAMES first=N start=N`
unfoldable pub settings_line : Configuration → List ℕ
settings_line c =
    codes "channel " ++ (c.channel ++ (codes " target=" ++ (decimal c.target ++ (codes " part=" ++ (decimal c.part_target
    ++ (codes " skip=" ++ (decimal c.skip ++ (codes " window=" ++ (decimal c.window ++ (codes " renditions=" ++ (names_text c.renditions
    ++ (codes " first=" ++ (decimal c.first ++ (codes " start=" ++ decimal c.start))))))))))))))
